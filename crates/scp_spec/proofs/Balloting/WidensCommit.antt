-- In COMMIT: what a greater interval changes. `CommittedStays` stands on it.
use Rattle.std.proofs.Common.{◌≡◌, ℕ, ◌≤◌, max, Bool, true, false, ◌&&◌, nat_lt, nat_le, [], ◌∷◌, Option, Some, None, filter, refl, sym, ◌∙◌, ap, subst, inl, inr, ◌⊎◌, arith}
use Rattle.std.proofs.lemmas.Bool.{cases_Bool, and_parts, and_from, true≢false}
use Rattle.std.proofs.lemmas.Bool.Decides.{nat_tests}
use Rattle.scp_types.specs.declared.ballot.Ballot.{Ballot}
use Rattle.scp_spec.specs.Views.{Seen}
use Rattle.scp_types.specs.declared.state.Votes.{Votes}
use Rattle.scp_spec.specs.States.{below, ballot_with}
use Rattle.scp_spec.specs.Candidates.{greatest, commits, lowest}
use Rattle.scp_spec.specs.Balloting.{commit_accepted, accept_commit, accepted_from, widen_commit, next_committed}
use Rattle.scp_types.specs.declared.state.Phase.TheVariants.{Committing}
use Rattle.scp_spec.specs.Extremes.{IsIn}
use Rattle.scp_spec.proofs.Ballots.Order.{below-self, not_below-counter}
use Rattle.scp_spec.proofs.Ballots.Above.{above, Under, greatest-above, greatest-of, in-filter, lowest-low}
use Rattle.scp_spec.proofs.Equality.Sameness.{same_value-true}
use Rattle.scp_types.specs.Votes.{same_value}
use Rattle.scp_spec.proofs.Balloting.GreatestOfOne.{greatest-one, one-from}
use Rattle.std.proofs.lemmas.Option.{same_Some}
use Rattle.scp_spec.proofs.Sets.Numbers.{not_both}
use Rattle.std.proofs.Math.Nat.{le-max_left}

-- a greater interval
pub record NewInterval (s : Seen) (b p : Ballot) (w : Votes) : Type 0 where
  pub u : Votes
  pub is : accept_commit Committing s b w ≡ u
  pub phase : u.phase ≡ w.phase
  pub n : Ballot
  pub q : Ballot
  pub ballot : u.ballot ≡ Some n
  pub prepared : u.prepared ≡ Some q
  pub value : q.value ≡ n.value
  pub kept : n.value ≡ b.value
  pub high : u.high ≤ q.counter
  pub low : u.low ≤ u.high
  pub hi_grows : w.high ≤ u.high
  pub grows : b.counter ≤ n.counter
  pub new_under : (n ≡ b) ⊎ (below q n ≡ false)
  pub over : below q p ≡ false
  pub aborted : u.aborted ≡ w.aborted
  pub confirmed_prepared : u.confirmed_prepared ≡ w.confirmed_prepared
  pub voted : u.voted ≡ w.voted
  pub accepts : u.accepts ≡ w.accepts
  pub confirms : u.confirms ≡ w.confirms
  pub greatest_hi : (t : Ballot) → IsIn t (commits s w) → (same_value t.value b.value) ≡ true
      → nat_lt u.high t.counter ≡ true → commit_accepted s w t.value t.counter t.counter ≡ true → ⊥

pub widens : (s : Seen) (b p : Ballot) (w : Votes) → w.ballot ≡ Some b → w.prepared ≡ Some p → p.value ≡ b.value
    → w.high ≤ p.counter → w.low ≤ w.high → NewInterval s b p w
unfolding accept_commit widen_commit next_committed accepted_from
widens s b p w ballot prepared value high low = go (greatest None (filter test (commits s w))) refl
  where
    test : Ballot → Bool
    test = λ t. (same_value t.value b.value) && nat_lt w.high t.counter
        && commit_accepted s w t.value t.counter t.counter

    under_top : (g t : Ballot) → below g t ≡ false → nat_lt g.counter t.counter ≡ true → ⊥
    under_top g t h k = not_both g.counter t.counter (not_below-counter g t h) k

    go : (o : Option Ballot) → greatest None (filter test (commits s w)) ≡ o → NewInterval s b p w
    go None e = record {
      u = w;
      is = rw e refl;
      phase = refl;
      n = b;
      q = p;
      ballot = ballot;
      prepared = prepared;
      value = value;
      kept = refl;
      high = high;
      low = low;
      hi_grows = omega arith;
      grows = omega arith;
      new_under = inl refl;
      over = below-self p;
      aborted = refl;
      confirmed_prepared = refl;
      voted = refl;
      accepts = refl;
      confirms = refl;
      greatest_hi = λ t i v c a. let k : above None t ≡ false =
          subst (λ o. above o t ≡ false) e
          (greatest-above None (filter test (commits s w)) t
          (in-filter test t (commits s w) i
          (and_from ((same_value t.value b.value) && nat_lt w.high t.counter)
          (commit_accepted s w t.value t.counter t.counter)
          (and_from (same_value t.value b.value) (nat_lt w.high t.counter) v c) a))) in true≢false k;
    }
    go (Some t) e =
        let ok : test t ≡ true = (greatest-of test (commits s w) t e).1 in
        let parts =
        and_parts (same_value t.value b.value) (nat_lt w.high t.counter)
        (and_parts ((same_value t.value b.value) && nat_lt w.high t.counter)
        (commit_accepted s w t.value t.counter t.counter) ok).0 in
        let v : t.value ≡ b.value = same_value-true t.value b.value parts.0 in
        let r = greatest-one w.prepared t in
        let n = ballot_with (max b.counter t.counter) t.value in
        let up : w.high ≤ t.counter = less w.high t.counter parts.1 in
        record {
          u = record w {
            ballot = Some n;
            prepared = greatest w.prepared (t ∷ []);
            high = t.counter;
            low = lowest (λ low. commit_accepted s w t.value low t.counter) t.value t.counter (commits s w);
          };
          is = rw e refl;
          phase = refl;
          n = n;
          q = r.0;
          ballot = refl;
          prepared = r.1;
          value = elim (one-from w.prepared t r.0 r.1) [
            | inl k ↦ let z : r.0 ≡ p = same_Some r.0 p (sym k ∙ prepared) in ap (λ (x : Ballot). x.value) z
                ∙ (value ∙ sym v)
            | inr k ↦ ap (λ (x : Ballot). x.value) k
          ];
          kept = v;
          high = not_below-counter r.0 t r.2;
          low = lowest-low (λ low. commit_accepted s w t.value low t.counter) t.value t.counter (commits s w);
          hi_grows = up;
          grows = le-max_left b.counter t.counter;
          new_under = newer b t r.0 v r.2;
          over = let z : Under (Some p) (Some r.0) = subst (λ o. Under o (Some r.0)) prepared r.3 in z;
          aborted = refl;
          confirmed_prepared = refl;
          voted = refl;
          accepts = refl;
          confirms = refl;
          greatest_hi =
              λ x i y c a. let k : above (Some t) x ≡ false =
              subst (λ o. above o x ≡ false) e
              (greatest-above None (filter test (commits s w)) x
              (in-filter test x (commits s w) i
              (and_from ((same_value x.value b.value) && nat_lt w.high x.counter)
              (commit_accepted s w x.value x.counter x.counter)
              (and_from (same_value x.value b.value) (nat_lt w.high x.counter) y
              (less_less w.high t.counter x.counter up c)) a))) in
              under_top t x k c;
        }
      where
        less : (a c : ℕ) → nat_lt a c ≡ true → a ≤ c
        less a c h = grind (arith, nat_tests)

        less_less : (a c d : ℕ) → a ≤ c → nat_lt c d ≡ true → nat_lt a d ≡ true
        less_less a c d h k = grind (arith, nat_tests)

        newer : (b t q : Ballot) → t.value ≡ b.value → below q t ≡ false
            → (ballot_with (max b.counter t.counter) t.value ≡ b)
            ⊎ (below q (ballot_with (max b.counter t.counter) t.value) ≡ false)
        newer b t q v h = elim (cases_Bool (nat_le t.counter b.counter)) [
          | inl k ↦ let m : max b.counter t.counter ≡ b.counter = left b.counter t.counter k in
              inl (λ i. record { counter = m i; value = v i })
          | inr k ↦ let m : max b.counter t.counter ≡ t.counter = right b.counter t.counter k in
              inr (subst (λ c. below q (ballot_with c t.value) ≡ false) (sym m) h)
        ]
          where
            left : (a c : ℕ) → nat_le c a ≡ true → max a c ≡ a
            left a c k = grind (arith, nat_tests)

            right : (a c : ℕ) → nat_le c a ≡ false → max a c ≡ c
            right a c k = grind (arith, nat_tests)
