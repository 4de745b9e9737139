-- From PREPARE to COMMIT: what entering changes, and where nothing is entered. `Passes` stands on it.
use Rattle.std.proofs.Common.{◌≡◌, ◌≤◌, max, Bool, true, false, not, ◌&&◌, nat_lt, List, [], ◌∷◌, ◌++◌, Option, Some, None, if◌then◌else◌, filter, flat_map, option_to_list, is_none, refl, sym, ◌∙◌, ap, subst, inl, inr, ◌⊎◌}
use Rattle.std.proofs.lemmas.Bool.{or_parts, and_parts, not-true, not-false}
use Rattle.scp_types.specs.declared.ballot.Ballot.{Ballot}
use Rattle.scp_types.specs.declared.statement.Statement.{Statement}
use Rattle.scp_spec.proofs.Balloting.Tests.{takes_prepare, backs_commit, takes_commit}
use Rattle.scp_types.specs.declared.kind.Kind.{Kind}
use Rattle.scp_spec.specs.Views.{Seen, accepted, confirmed}
use Rattle.scp_types.specs.declared.state.Votes.{Votes}
use Rattle.scp_spec.specs.States.{below, counter_of, ballot_with, position}
use Rattle.scp_spec.specs.Candidates.{greatest, committed_by, commits, lowest}
use Rattle.scp_spec.specs.Balloting.{is_confirmed, commit_accepted, is_aborted, accept_commit, enter_commit, first_committed, accepted_from}
use Rattle.scp_types.specs.declared.state.Phase.TheVariants.{Preparing, Committing}
use Rattle.scp_spec.proofs.Ballots.Order.{one_value, not_below-counter}
use Rattle.scp_spec.proofs.Ballots.Above.{Under, under-trans, greatest-of, lowest-low}
use Rattle.scp_spec.proofs.Balloting.PreparedStays.{Sound}
use Rattle.scp_spec.proofs.Equality.Sameness.{same_value-true}
use Rattle.scp_types.specs.Votes.{same_value}
use Rattle.scp_spec.proofs.Balloting.GreatestOfOne.{greatest-one, one-from, under-counters}
use Rattle.std.proofs.lemmas.Option.{same_Some}
use Rattle.scp_spec.proofs.Sets.Numbers.{through}
use Rattle.std.proofs.Math.Nat.{le-max_left}

-- not aborted: not below a p of another value
same-value : (w : Votes) (t r : Ballot) → is_aborted w t ≡ false → greatest w.prepared (t ∷ []) ≡ Some r
    → r.value ≡ t.value
unfolding is_aborted greatest
same-value w t r a e = go w.prepared refl
  where
    at : (p : Ballot) (c d : Bool) → below p t ≡ c → below t p ≡ d
        → (below t p && not (same_value p.value t.value)) ≡ false → (if below p t then t else p) ≡ r → r.value ≡ t.value
    at p true d h k n q = let z : t ≡ r = rw h at q in ap (λ (x : Ballot). x.value) (sym z)
    at p false true h k n q =
        let z : p ≡ r = rw h at q in let m : not (same_value p.value t.value) ≡ false = rw k at n in
        ap (λ (x : Ballot). x.value) (sym z)
        ∙ same_value-true p.value t.value (not-false (same_value p.value t.value) m)
    at p false false h k n q = let z : p ≡ r = rw h at q in ap (λ (x : Ballot). x.value) (sym z) ∙ one_value p t h k

    go : (o : Option Ballot) → w.prepared ≡ o → r.value ≡ t.value
    go None k = let z : Some t ≡ Some r = rw k at e in let y : t ≡ r = cc in ap (λ (x : Ballot). x.value) (sym y)
    go (Some p) k = at p (below p t) (below t p) refl refl (or_parts _ _ (rw k at a)).0 (same_Some _ r (rw k at e))

-- from PREPARE to COMMIT
pub record Entered (s : Seen) (b : Ballot) (w : Votes) : Type 0 where
  pub u : Votes
  pub is : accept_commit Preparing s b w ≡ u
  pub phase : u.phase ≡ Committing
  pub n : Ballot
  pub ballot : u.ballot ≡ Some n
  pub grows : b.counter ≤ n.counter
  pub sound : Sound u
  pub voted : u.voted ≡ w.voted
  pub accepts : u.accepts ≡ w.accepts
  pub confirms : u.confirms ≡ w.confirms
  pub stays : is_none u.confirmed_prepared ≡ false

under-both : (h p : Option Ballot) (t a c : Ballot) → Under h p → greatest h (t ∷ []) ≡ Some a
    → greatest p (t ∷ []) ≡ Some c → Under (Some a) (Some c)
under-both h p t a c u i j =
    let r = greatest-one p t in
    let z : r.0 ≡ c = same_Some r.0 c (sym r.1 ∙ j) in
    elim (one-from h t a i) [
      | inl k ↦ let q : Under (Some a) p = rw k at u in
          subst (λ x. below x a ≡ false) z (under-trans (Some a) p (Some r.0) q r.3)
      | inr k ↦ subst (λ x. below x a ≡ false) z (subst (λ x. below r.0 x ≡ false) (sym k) r.2)
    ]

-- the ballots whose commit is accepted in PREPARE, for a position
abbrev pub entering : Seen → Option Statement → Votes → List Ballot
entering s o w =
    filter (λ t. accepted s Kind.Ballot o (backs_commit t.value t.counter t.counter)
    (takes_commit t.value t.counter t.counter) && confirmed s Kind.Ballot o (takes_prepare t) && not (is_aborted w t))
    (filter (λ b. nat_lt 0 b.counter) (flat_map committed_by (s.rows Kind.Ballot ++ option_to_list o)))

pub enter_not : (s : Seen) (b : Ballot) (w : Votes) → greatest None (entering s (position w) w) ≡ None
    → accept_commit Preparing s b w ≡ w
unfolding accept_commit enter_commit first_committed accepted_from commits
enter_not s b w e = rw e refl

pub enters : (s : Seen) (b : Ballot) (w : Votes) → Sound w
    → (greatest None (entering s (position w) w) ≡ None) ⊎ Entered s b w
unfolding accept_commit enter_commit first_committed accepted_from commits
enters s b w sound = go (greatest None (filter test (commits s w))) refl
  where
    test : Ballot → Bool
    test = λ t. commit_accepted s w t.value t.counter t.counter && is_confirmed s w t && not (is_aborted w t)

    go : (o : Option Ballot) → greatest None (filter test (commits s w)) ≡ o
        → (greatest None (entering s (position w) w) ≡ None) ⊎ Entered s b w
    go None e = inl e
    go (Some t) e =
        let ok : test t ≡ true = (greatest-of test (commits s w) t e).1 in
        let free : is_aborted w t ≡ false =
        not-true _
        (and_parts (commit_accepted s w t.value t.counter t.counter && is_confirmed s w t)
        (not (is_aborted w t)) ok).1 in
        let p = greatest-one w.prepared t in
        let h = greatest-one w.confirmed_prepared t in
        let low = lowest (λ low. commit_accepted s w t.value low t.counter) t.value t.counter (commits s w) in
        let n = ballot_with (max b.counter t.counter) t.value in
        inr (record {
          u = record w {
            phase = Committing;
            ballot = Some n;
            prepared = greatest w.prepared (t ∷ []);
            confirmed_prepared = greatest w.confirmed_prepared (t ∷ []);
            high = t.counter;
            low = low;
          };
          is = rw e refl;
          phase = refl;
          n = n;
          ballot = refl;
          grows = le-max_left b.counter t.counter;
          sound = record {
            aborted =
                subst (λ o. w.aborted ≤ counter_of o) (sym p.1)
                (through w.aborted (counter_of w.prepared) p.0.counter sound.aborted
                (under-counters w.prepared p.0 p.3));
            confirmed_prepared = subst (λ o. Under o (greatest w.prepared (t ∷ []))) (sym h.1)
                (subst (λ o. Under (Some h.0) o) (sym p.1)
                (under-both w.confirmed_prepared w.prepared t h.0 p.0 sound.confirmed_prepared h.1 p.1));
            committing = λ c. record {
              b = n;
              p = p.0;
              ballot = refl;
              prepared = p.1;
              value = same-value w t p.0 free p.1;
              high = not_below-counter p.0 t p.2;
              low = lowest-low (λ low. commit_accepted s w t.value low t.counter) t.value t.counter (commits s w);
            };
          };
          voted = refl;
          accepts = refl;
          confirms = refl;
          stays = rw h.1 refl;
        })
