-- In COMMIT: once p and the interval were set with one position, they stay as they are. `Passes` stands on it.
use Rattle.std.proofs.Common.{◌≡◌, ℕ, ◌≤◌, Bool, true, false, ◌&&◌, nat_lt, nat_le, List, [], ◌∷◌, ◌++◌, Option, Some, None, filter, flat_map, option_to_list, refl, sym, ◌∙◌, ap, subst, inl, inr, ◌⊎◌, arith}
use Rattle.std.proofs.lemmas.Bool.{cases_Bool, or_left, and_parts, and_from, true≢false}
use Rattle.std.proofs.lemmas.Bool.Decides.{nat_tests}
use Rattle.scp_types.specs.declared.ballot.Ballot.{Ballot}
use Rattle.scp_types.specs.declared.statement.Statement.{Statement}
use Rattle.scp_spec.proofs.Balloting.Tests.{backs_prepare, takes_prepare, backs_commit, takes_commit, Fair}
use Rattle.scp_types.specs.declared.statement.Statement.TheVariants.{Commit}
use Rattle.scp_types.specs.declared.kind.Kind.{Kind}
use Rattle.scp_spec.specs.Views.{Seen, passes, accepted}
use Rattle.scp_types.specs.declared.state.Phase.{Phase}
use Rattle.scp_types.specs.declared.state.Votes.{Votes}
use Rattle.scp_spec.specs.States.{below, counter_of, ballot_with, position}
use Rattle.scp_spec.specs.Candidates.{greatest, committed_by, commits}
use Rattle.scp_spec.specs.Balloting.{aborted_by, is_accepted, commit_accepted, may_be_prepared, accept_prepared, accept_commit, widen_commit, next_committed, accepted_from}
use Rattle.scp_types.specs.declared.state.Phase.TheVariants.{Committing}
use Rattle.scp_spec.specs.Extremes.{IsIn}
use Rattle.scp_spec.proofs.Ballots.Above.{above, Under, under-trans, aborted-by, greatest-of}
use Rattle.scp_spec.proofs.Balloting.Named.{own_named, own_commits, named-parts, named-row, named-own, commits-parts, commits-row}
use Rattle.scp_spec.proofs.Balloting.OwnPosition.{position-committing, accepted-from}
use Rattle.scp_spec.proofs.Balloting.Moves.{accept_prepared-still, accept_prepared-moves}
use Rattle.scp_spec.proofs.Balloting.PreparedStays.{Sound}
use Rattle.scp_spec.proofs.Balloting.WidensCommit.{widens}
use Rattle.scp_spec.proofs.Ballots.Order.{not_above-value, not_below-counter}
use Rattle.scp_spec.proofs.Equality.Sameness.{same_value-true, same_value-refl}
use Rattle.scp_types.specs.Votes.{same_value}
use Rattle.std.proofs.lemmas.Option.{same_Some}
use Rattle.scp_spec.proofs.Sets.Numbers.{through, up_to, not_both}

-- the ballots that widen the interval, for a position
abbrev pub widening : Seen → Option Statement → Ballot → ℕ → List Ballot
widening s o b high =
    filter (λ t. (same_value t.value b.value) && nat_lt high t.counter
    && accepted s Kind.Ballot o (backs_commit t.value t.counter t.counter) (takes_commit t.value t.counter t.counter))
    (filter (λ b. nat_lt 0 b.counter) (flat_map committed_by (s.rows Kind.Ballot ++ option_to_list o)))

pub widen_not : (s : Seen) (b : Ballot) (w : Votes) → greatest None (widening s (position w) b w.high) ≡ None
    → accept_commit Committing s b w ≡ w
unfolding accept_commit widen_commit next_committed accepted_from commits
widen_not s b w e = rw e refl

none-widens : (s : Seen) (b : Ballot) (w : Votes)
    → ((t : Ballot) → IsIn t (commits s w) → (same_value t.value b.value) ≡ true → nat_lt w.high t.counter ≡ true
    → commit_accepted s w t.value t.counter t.counter ≡ true → ⊥)
    → greatest None (widening s (position w) b w.high) ≡ None
unfolding commits
none-widens s b w f = go (greatest None (filter test (commits s w))) refl
  where
    test : Ballot → Bool
    test = λ t. (same_value t.value b.value) && nat_lt w.high t.counter
        && commit_accepted s w t.value t.counter t.counter

    go : (o : Option Ballot) → greatest None (filter test (commits s w)) ≡ o
        → greatest None (widening s (position w) b w.high) ≡ None
    go None e = e
    go (Some t) e =
        let r = greatest-of test (commits s w) t e in
        let ok = and_parts ((same_value t.value b.value) && nat_lt w.high t.counter)
        (commit_accepted s w t.value t.counter t.counter) r.1 in
        let parts = and_parts (same_value t.value b.value) (nat_lt w.high t.counter) ok.0 in
        absurd (f t r.0 parts.0 parts.1 ok.1)

own-in : (w : Votes) (b t : Ballot) → w.phase ≡ Committing → w.ballot ≡ Some b → IsIn t (own_named w)
    → (t ≡ b) ⊎ ((t ≡ ballot_with (counter_of w.prepared) b.value) ⊎ (t ≡ ballot_with w.high b.value))
own-in w b t p e i = go (rw (position-committing w b p e) at i)
  where
    go : IsIn t ((b ∷ ballot_with (counter_of w.prepared) b.value ∷ ballot_with w.high b.value ∷ []) ++ [])
        → (t ≡ b) ⊎ ((t ≡ ballot_with (counter_of w.prepared) b.value) ⊎ (t ≡ ballot_with w.high b.value))
    go (inl q) = inl q
    go (inr (inl q)) = inr (inl q)
    go (inr (inr (inl q))) = inr (inr q)
    go (inr (inr (inr q))) = absurd q

own-has : (w : Votes) (b : Ballot) → w.phase ≡ Committing → w.ballot ≡ Some b → IsIn b (own_named w)
own-has w b p e = rw (position-committing w b p e) (inl refl)

own-counters : (w : Votes) (b t : Ballot) → w.phase ≡ Committing → w.ballot ≡ Some b → w.low ≤ w.high
    → IsIn t (own_commits w) → t.counter ≤ w.high
own-counters w b t p e l i = go (rw (position-committing w b p e) at i)
  where
    go : IsIn t ((ballot_with w.low b.value ∷ ballot_with w.high b.value ∷ []) ++ []) → t.counter ≤ w.high
    go (inl q) = subst (λ (x : Ballot). x.counter ≤ w.high) (sym q) l
    go (inr (inl q)) = let k : w.high ≤ w.high = omega arith in subst (λ (x : Ballot). x.counter ≤ w.high) (sym q) k
    go (inr (inr q)) = absurd q

pub record Steady (s : Seen) (b : Ballot) (w : Votes) : Type 0 where
  pub u : Votes
  pub is : accept_commit Committing s b (accept_prepared s b w) ≡ u
  pub n : Ballot
  pub ballot : u.ballot ≡ Some n
  pub phase : u.phase ≡ Committing
  pub grows : b.counter ≤ n.counter
  pub sound : Sound u
  pub voted : u.voted ≡ w.voted
  pub accepts : u.accepts ≡ w.accepts
  pub confirms : u.confirms ≡ w.confirms
  pub confirmed_prepared : u.confirmed_prepared ≡ w.confirmed_prepared
  pub still_p : accept_prepared s n u ≡ u
  pub still_c : greatest None (widening s (position u) n u.high) ≡ None

-- p2, the new p in COMMIT
new_p : (b p : Ballot) (o : Option Ballot) → p.value ≡ b.value → Under (Some p) o
    → ((t : Ballot) → o ≡ Some t → (t ≡ p) ⊎ (t.value ≡ b.value))
    → (q : Ballot) × (o ≡ Some q) × (q.value ≡ b.value) × (below q p ≡ false)
new_p b p None v u f = absurd (true≢false u)
new_p b p (Some q) v u f = elim (f q refl) [
  | inl e ↦ (q, refl, ap (λ (x : Ballot). x.value) e ∙ v, u)
  | inr e ↦ (q, refl, e, u)
]

module _ (s : Seen) (f : Fair s) (w : Votes) (b p : Ballot) (phase : w.phase ≡ Committing) (ballot : w.ballot ≡ Some b)
    (prepared : w.prepared ≡ Some p) (value : p.value ≡ b.value) (high : w.high ≤ p.counter) (low : w.low ≤ w.high)
    (sound : Sound w) where
  pub steady : Steady s b w
  steady =
      let N = accept_prepared-moves s b w in
      let A = aborted_by w.prepared N.p w.aborted in
      let w2 : Votes = record w { prepared = N.p; aborted = A } in
      let p2 = new_p b p N.p value (subst (λ o. Under o N.p) prepared N.grows) (λ t e. elim (N.from t e) [
        | inl k ↦ inl (same_Some t p (sym k ∙ prepared))
        | inr k ↦ inr (same_value-true t.value b.value (valued w.phase b.value t phase k))
      ]) in
      let I = widens s b p2.0 w2 ballot p2.1 p2.2
      (through w.high p.counter p2.0.counter high (not_below-counter p2.0 p p2.3)) low in
      let u = I.u in
      let phase' : u.phase ≡ Committing = I.phase ∙ phase in
      let low2 : A ≤ counter_of N.p = aborted-by w.prepared N.p w.aborted sound.aborted N.grows in
      let over : Under N.p (Some I.q) = subst (λ o. Under o (Some I.q)) (sym p2.1) I.over in
      let at_u : position u ≡ Some (Commit I.n (counter_of u.prepared) u.high u.low) =
      position-committing u I.n phase' I.ballot in
      let at_q : position u ≡ Some (Commit I.n I.q.counter u.high u.low) =
      subst (λ o. position u ≡ Some (Commit I.n (counter_of o) u.high u.low)) I.prepared at_u in
      let at_w : position w ≡ Some (Commit b (counter_of w.prepared) w.high w.low) =
      position-committing w b phase ballot in
      let at_2 : position w2 ≡ Some (Commit b (counter_of N.p) w.high w.low) = position-committing w2 b phase ballot in
      record {
        u = u;
        is = ap (λ x. accept_commit Committing s b x) N.is ∙ I.is;
        n = I.n;
        ballot = I.ballot;
        phase = phase';
        grows = I.grows;
        sound = record {
          aborted =
              subst (λ a. a ≤ counter_of u.prepared) (sym I.aborted)
              (subst (λ o. A ≤ counter_of o) (sym I.prepared)
              (through A (counter_of N.p) I.q.counter low2
              (subst (λ o. counter_of o ≤ I.q.counter) (sym p2.1) (not_below-counter I.q p2.0 I.over))));
          confirmed_prepared = subst (λ o. Under o u.prepared) (sym I.confirmed_prepared)
              (subst (λ o. Under w.confirmed_prepared o) (sym I.prepared)
              (under-trans w.confirmed_prepared N.p (Some I.q)
              (under-trans w.confirmed_prepared w.prepared N.p sound.confirmed_prepared N.grows) over));
          committing =
              λ c. record {
                b = I.n;
                p = I.q;
                ballot = I.ballot;
                prepared = I.prepared;
                value = I.value;
                high = I.high;
                low = I.low;
              };
        };
        voted = I.voted;
        accepts = I.accepts;
        confirms = I.confirms;
        confirmed_prepared = I.confirmed_prepared;
        still_p =
            accept_prepared-still s I.n u
            (λ t i v acc. subst (λ o. above o t ≡ false) (sym I.prepared) (elim (cases_Bool (below I.q t)) [
              | inr k ↦ k
              | inl k ↦
                  let tv : (same_value t.value I.n.value) ≡ true = valued u.phase I.n.value t phase' v in
                  let own : passes (takes_prepare t) (position u) ≡ false = rw at_q (beyond I.n I.q t k I.value) in
                  let tb : (same_value t.value b.value) ≡ true = subst (λ x. same_value t.value x ≡ true) I.kept tv in
                  let backs : passes (backs_prepare t) (position w) ≡ true =
                  rw at_w (or_left (same_value b.value t.value)
                  (same_value b.value t.value && nat_le t.counter (counter_of w.prepared))
                  (swapped t.value b.value tb)) in
                  let acc1 : is_accepted s w t ≡ true =
                  accepted-from s f (position u) (position w) (backs_prepare t) (takes_prepare t)
                  (λ h. backs) own acc in
                  let parts = named-parts s u t i in
                  let all : may_be_prepared w.phase b.value t ≡ true = rw phase tb in
                  let up : above N.p t ≡ false → below I.q t ≡ false =
                  λ a. under-trans (Some t) N.p (Some I.q) a over in
                  elim parts.1 [
                    | inl r ↦ up (N.above t (named-row s w t parts.0 r) all acc1)
                    | inr o ↦ elim (own-in u I.n t phase' I.ballot o) [
                      | inl e ↦ elim I.new_under [
                        | inl e1 ↦ up
                            (N.above t (named-own s w t parts.0
                            (subst (λ x. IsIn x (own_named w)) (sym (e ∙ e1)) (own-has w b phase ballot))) all acc1)
                        | inr e1 ↦ subst (λ x. below I.q x ≡ false) (sym e) e1
                      ]
                      | inr (inl e) ↦ subst (λ x. below I.q x ≡ false) (sym e)
                          (subst (λ o. below I.q (ballot_with (counter_of o) I.n.value) ≡ false) (sym I.prepared)
                          (not_above-value I.q (ballot_with I.q.counter I.n.value) (omega arith) I.value))
                      | inr (inr e) ↦ subst (λ x. below I.q x ≡ false) (sym e)
                          (not_above-value I.q (ballot_with u.high I.n.value) I.high I.value)
                    ]
                  ]
            ]));
        still_c = none-widens s I.n u (λ t i v c acc.
            let tb : (same_value t.value b.value) ≡ true = subst (λ x. same_value t.value x ≡ true) I.kept v in
            let own : passes (takes_commit t.value t.counter t.counter) (position u) ≡ false =
            rw at_q (past (same_value I.n.value t.value) u.low u.high t.counter c) in
            let backs : passes (backs_commit t.value t.counter t.counter) (position w2) ≡ true =
            rw at_2 (and_from (same_value b.value t.value) (nat_le w.low t.counter) (swapped t.value b.value tb)
            (between w.low w.high u.high t.counter low I.hi_grows c)) in
            let acc2 : commit_accepted s w2 t.value t.counter t.counter ≡ true =
            accepted-from s f (position u) (position w2) (backs_commit t.value t.counter t.counter)
            (takes_commit t.value t.counter t.counter) (λ h. backs) own acc in
            let parts = commits-parts s u t i in
            elim parts.1 [
              | inl r ↦ I.greatest_hi t (commits-row s w2 t parts.0 r) tb c acc2
              | inr o ↦ not_both u.high t.counter (own-counters u I.n t phase' I.ballot I.low o) c
            ]);
      }
    where
      valued : (ph : Phase) (x : List ℕ) (t : Ballot) → ph ≡ Committing → may_be_prepared ph x t ≡ true
          → (same_value t.value x) ≡ true
      valued ph x t e h = rw e at h

      between : (a c d e : ℕ) → a ≤ c → c ≤ d → nat_lt d e ≡ true → nat_le a e ≡ true
      between a c d e h k l = grind (arith, nat_tests)

      past : (v : Bool) (l h t : ℕ) → nat_lt h t ≡ true → (v && (nat_le l t && nat_le t h)) ≡ false
      past v l h t k = let z : nat_le t h ≡ false = over h t k in rw z (ands v (nat_le l t))
        where
          over : (h t : ℕ) → nat_lt h t ≡ true → nat_le t h ≡ false
          over h t k = grind (arith, nat_tests)

          ands : (a b : Bool) → (a && (b && false)) ≡ false
          ands true true = refl
          ands true false = refl
          ands false b = refl

      beyond : (n q t : Ballot) → below q t ≡ true → q.value ≡ n.value
          → (same_value n.value t.value && nat_le t.counter q.counter) ≡ false
      beyond n q t h e = elim (cases_Bool (same_value n.value t.value && nat_le t.counter q.counter)) [
        | inr k ↦ k
        | inl k ↦ let p = and_parts (same_value n.value t.value) (nat_le t.counter q.counter) k in
            absurd (true≢false (sym h ∙ not_above-value q t (up_to t.counter q.counter p.1)
            (e ∙ same_value-true n.value t.value p.0)))
      ]

      -- a test of two values, the other way round
      swapped : (x y : List ℕ) → same_value x y ≡ true → same_value y x ≡ true
      swapped x y h = subst (λ z. same_value z x ≡ true) (same_value-true x y h) (same_value-refl x)
