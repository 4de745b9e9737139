-- In PREPARE: once p, h, b and c were set with one position, they stay as they are. `Passes` stands on it.
use Rattle.std.proofs.Common.{◌≡◌, ◌≤◌, true, false, ◌||◌, nat_le, Option, Some, None, is_none, refl, sym, ◌∙◌, ap, subst, inl, inr, ◌⊎◌}
use Rattle.std.proofs.lemmas.Bool.{cases_Bool, or_left, and_parts, true≢false}
use Rattle.scp_types.specs.declared.ballot.Ballot.{Ballot}
use Rattle.scp_spec.proofs.Balloting.Tests.{implies, backs_prepare, takes_prepare, Fair, quorum_own, quorum_more}
use Rattle.scp_types.specs.declared.statement.Statement.TheVariants.{Prepare}
use Rattle.scp_types.specs.declared.kind.Kind.{Kind}
use Rattle.scp_spec.specs.Views.{Seen, passes}
use Rattle.scp_types.specs.declared.state.Phase.{Phase}
use Rattle.scp_types.specs.declared.state.Votes.{Votes}
use Rattle.scp_spec.specs.States.{below, counter_of, high_counter, commit_counter, position}
use Rattle.scp_spec.specs.Balloting.{aborted_by, is_accepted, is_confirmed, may_be_prepared, accept_prepared, raise_confirmed_prepared, follow_confirmed_prepared, set_commit}
use Rattle.scp_types.specs.declared.state.Phase.TheVariants.{Preparing, Committing}
use Rattle.scp_spec.specs.Extremes.{IsIn}
use Rattle.scp_spec.proofs.Ballots.Order.{below-self, not_above-value}
use Rattle.scp_spec.proofs.Ballots.Above.{above, Under, above-trans, under-trans, aborted-by}
use Rattle.scp_spec.proofs.Balloting.Named.{own_named, named-parts, named-row, named-own}
use Rattle.scp_spec.proofs.Balloting.OwnPosition.{position-preparing, own-preparing, accepted-from, not_own, own_under}
use Rattle.scp_spec.proofs.Balloting.Moves.{fixed-unread, accept_prepared-still, accept_prepared-moves, raise_confirmed_prepared-still, raise_confirmed_prepared-moves, follow_confirmed_prepared-moves, Fixed, set_commit-moves}
use Rattle.scp_spec.proofs.Equality.Sameness.{same_value-true}
use Rattle.scp_types.specs.Votes.{same_value}
use Rattle.scp_spec.proofs.Sets.Numbers.{up_to}
use Rattle.scp_spec.proofs.Sets.Tests.{first_holds}

-- in COMMIT
pub record Held (w : Votes) : Type 0 where
  pub b : Ballot
  pub p : Ballot
  pub ballot : w.ballot ≡ Some b
  pub prepared : w.prepared ≡ Some p
  pub value : p.value ≡ b.value
  pub high : w.high ≤ p.counter
  pub low : w.low ≤ w.high

-- what a fresh node's votes have, and each rule keeps
pub record Sound (w : Votes) : Type 0 where
  pub aborted : w.aborted ≤ counter_of w.prepared
  pub confirmed_prepared : Under w.confirmed_prepared w.prepared
  pub committing : w.phase ≡ Committing → Held w

implies-under : (b t : Ballot) → implies b t ≡ true → below b t ≡ false
implies-under b t h =
    let p = and_parts (same_value b.value t.value) (nat_le t.counter b.counter) h in
    not_above-value b t (up_to t.counter b.counter p.1) (same_value-true b.value t.value p.0)

own-ballot : (w : Votes) (b : Ballot) → w.phase ≡ Preparing → w.ballot ≡ Some b → IsIn b (own_named w)
own-ballot w b p e = rw (position-preparing w b p e) (inl refl)

own-prepared : (w : Votes) (b t : Ballot) → w.phase ≡ Preparing → w.ballot ≡ Some b → w.prepared ≡ Some t
    → IsIn t (own_named w)
own-prepared w b t p e k = rw (position-preparing w b p e) (rw k (inr (inl refl)))

preparing≢committing : {A : Type 0} (p : Phase) → p ≡ Preparing → p ≡ Committing → A
preparing≢committing p a b = cc

pub record Ready (s : Seen) (b : Ballot) (w : Votes) : Type 0 where
  pub u : Votes
  pub is : set_commit (follow_confirmed_prepared b (raise_confirmed_prepared s (accept_prepared s b w))) ≡ u
  pub n : Ballot
  pub ballot : u.ballot ≡ Some n
  pub phase : u.phase ≡ Preparing
  pub grows : b.counter ≤ n.counter
  pub sound : Sound u
  pub voted : u.voted ≡ w.voted
  pub accepts : u.accepts ≡ w.accepts
  pub confirms : u.confirms ≡ w.confirms
  pub stays : is_none w.confirmed_prepared ≡ false → is_none u.confirmed_prepared ≡ false
  pub still_p : accept_prepared s n u ≡ u
  pub still_h : raise_confirmed_prepared s u ≡ u
  pub above_h : (h : Ballot) → u.confirmed_prepared ≡ Some h → below n h ≡ false
  pub fixed : Fixed u u.commit

module _ (s : Seen) (f : Fair s) (b : Ballot) (w : Votes) (phase : w.phase ≡ Preparing) (ballot : w.ballot ≡ Some b)
    (sound : Sound w) where
  pub ready : Ready s b w
  ready =
      let N = accept_prepared-moves s b w in
      let A = aborted_by w.prepared N.p w.aborted in
      let w2 : Votes = record w { prepared = N.p; aborted = A } in
      let M = raise_confirmed_prepared-moves s w2 in
      let w3 : Votes = record w2 { confirmed_prepared = M.h } in
      let F = follow_confirmed_prepared-moves b w3 in
      let w4 : Votes = record w3 { ballot = Some F.n } in
      let C = set_commit-moves w4 in
      let u : Votes = record w4 { commit = C.c } in
      let low : A ≤ counter_of N.p = aborted-by w.prepared N.p w.aborted sound.aborted N.grows in
      let at2 = position-preparing w2 b phase ballot in
      let at4 = position-preparing u F.n phase refl in
      let at1 = position-preparing w b phase ballot in
      let high_at : (t : Ballot) → M.h ≡ Some t → above N.p t ≡ false = λ t e. elim (M.from t e) [
        | inl k ↦ let z : Under (Some t) w.prepared = rw k at sound.confirmed_prepared in
            under-trans (Some t) w.prepared N.p z N.grows
        | inr k ↦ own_under b N.p A (high_counter w2 b) (commit_counter w2 b) t low
            (subst (λ o. passes (takes_prepare t) o ≡ true) at2
            (quorum_own s f Kind.Ballot (position w2) (takes_prepare t) k))
      ] in
      let high_under : Under M.h N.p = under_each M.h N.p (λ t e. high_at t e) in
      let new_under : (F.n ≡ b) ⊎ (above N.p F.n ≡ false) = elim F.from [
        | inl e ↦ inl e
        | inr e ↦ inr (high_at F.n e)
      ] in
      record {
        u = u;
        is = ap (λ x. set_commit (follow_confirmed_prepared b (raise_confirmed_prepared s x))) N.is
            ∙ (ap (λ x. set_commit (follow_confirmed_prepared b x)) M.is ∙ (ap set_commit F.is ∙ C.is));
        n = F.n;
        ballot = refl;
        phase = phase;
        grows = F.grows;
        sound = record {
          aborted = low;
          confirmed_prepared = high_under;
          committing = λ e. preparing≢committing w.phase phase e;
        };
        voted = refl;
        accepts = refl;
        confirms = refl;
        stays = M.stays;
        still_p = accept_prepared-still s F.n u (λ t i v acc. elim (cases_Bool (above N.p t)) [
          | inr k ↦ k
          | inl k ↦
              let own : passes (takes_prepare t) (position u) ≡ false =
              rw at4 (not_own F.n N.p A (high_counter u F.n) (commit_counter u F.n) t low k) in
              let backs : passes (backs_prepare t) (position u) ≡ true
              → passes (backs_prepare t) (position w) ≡ true = λ h.
              let j : (implies F.n t || takes_prepare t (Prepare F.n N.p A (high_counter u F.n) (commit_counter u F.n)))
              ≡ true = rw at4 at h in
              let imp : implies F.n t ≡ true =
              first_holds _ _ j (not_own F.n N.p A (high_counter u F.n) (commit_counter u F.n) t low k) in
              elim new_under [
                | inl e ↦ rw at1 (or_left (implies b t) _ (subst (λ x. implies x t ≡ true) e imp))
                | inr e ↦ absurd (true≢false (sym k ∙ above-trans N.p F.n t e (implies-under F.n t imp)))
              ] in
              let acc1 : is_accepted s w t ≡ true =
              accepted-from s f (position u) (position w) (backs_prepare t) (takes_prepare t) backs own acc in
              let parts = named-parts s u t i in
              let all : may_be_prepared w.phase b.value t ≡ true = rw phase refl in
              elim parts.1 [
                | inl r ↦ N.above t (named-row s w t parts.0 r) all acc1
                | inr o ↦ elim (own-preparing u F.n t phase refl o) [
                  | inl e ↦ elim new_under [
                    | inl e1 ↦ N.above t
                        (named-own s w t parts.0
                        (subst (λ x. IsIn x (own_named w)) (sym (e ∙ e1)) (own-ballot w b phase ballot))) all acc1
                    | inr e1 ↦ subst (λ x. above N.p x ≡ false) (sym e) e1
                  ]
                  | inr e ↦ subst (λ o. above o t ≡ false) (sym e) (below-self t)
                ]
              ]
        ]);
        still_h = raise_confirmed_prepared-still s u (λ t i con.
            let own : passes (takes_prepare t) (position u) ≡ true =
            quorum_own s f Kind.Ballot (position u) (takes_prepare t) con in
            let own2 : passes (takes_prepare t) (position w2) ≡ true = rw at2 (rw at4 at own) in
            let con2 : is_confirmed s w2 t ≡ true =
            quorum_more s f Kind.Ballot (position u) (position w2) (takes_prepare t) own2 con in
            let parts = named-parts s u t i in
            elim parts.1 [
              | inl r ↦ M.above t (named-row s w2 t parts.0 r) con2
              | inr o ↦ elim (own-preparing u F.n t phase refl o) [
                | inl e ↦ elim F.from [
                  | inl e1 ↦ M.above t
                      (named-own s w2 t parts.0
                      (subst (λ x. IsIn x (own_named w2)) (sym (e ∙ e1)) (own-ballot w2 b phase ballot))) con2
                  | inr e1 ↦ let z : M.h ≡ Some F.n = e1 in
                      subst (λ x. above M.h x ≡ false) (sym e)
                      (subst (λ o. above o F.n ≡ false) (sym z) (below-self F.n))
                ]
                | inr e ↦ M.above t (named-own s w2 t parts.0 (own-prepared w2 b t phase ballot e)) con2
              ]
            ]);
        above_h = F.above;
        fixed = fixed-unread w4 C.c C.c w4.armed C.fixed;
      }
    where
      under_each : (h p : Option Ballot) → ((t : Ballot) → h ≡ Some t → above p t ≡ false) → Under h p
      under_each None p g = tt
      under_each (Some h) p g = g h refl
