-- What a node sees is fair: of its own position only whether it passes matters. `Passes` and the crate `node_view`
-- stand on it.
use Rattle.std.proofs.Common.{◌≡◌, ℕ, Bool, true, false, ◌==◌, Option, Some, None, List, ◌∷◌, map, if◌then◌else◌, refl, sym, ◌∙◌, subst}
use Rattle.std.proofs.lemmas.Bool.{true≢false, false≢true, false_from_ne_true, not-true, not_from_false, eq-eqb, not-false}
use Rattle.scp_types.specs.Trees.{Slices}
use Rattle.scp_types.specs.declared.kind.Kind.{Kind}
use Rattle.scp_types.specs.declared.statement.Statement.{Statement}
use Rattle.scp_types.specs.Statements.{Sent}
use Rattle.scp_spec.specs.Satisfaction.{sat, is_blocked}
use Rattle.scp_spec.specs.Rows.{row}
use Rattle.scp_spec.specs.Backing.{slices_by, is_passed}
use Rattle.scp_spec.specs.Views.{passing_with, quorum_passes, blocking_passes, seen}
use Rattle.scp_spec.proofs.Slices.Satisfaction.{outside, sat_monotone, sat_outside}
use Rattle.scp_spec.proofs.Slices.Quorums.{has_quorum-found}
use Rattle.scp_spec.proofs.Balloting.Tests.{Fair}

passing-more : (v : ℕ) (own other : Bool) (table : List Sent) (k : Kind) (test weaker : Statement → Bool)
    → ((x : Statement) → test x ≡ true → weaker x ≡ true) → (own ≡ true → other ≡ true)
    → (u : ℕ) → passing_with v table k own test u ≡ true → passing_with v table k other weaker u ≡ true
passing-more v own other table k test weaker m f u h = go (v == u) (row table u k) h
  where
    others : (o : Option Sent) → is_passed test o ≡ true → is_passed weaker o ≡ true
    others None i = absurd (false≢true i)
    others (Some e) i = m e.body i

    go : (b : Bool) (o : Option Sent) → (if b then own else is_passed test o) ≡ true
        → (if b then other else is_passed weaker o) ≡ true
    go true o i = f i
    go false o i = others o i

passing-own : (v : ℕ) (own : Bool) (table : List Sent) (k : Kind) (test : Statement → Bool)
    → passing_with v table k own test v ≡ true → own ≡ true
passing-own v own table k test h =
    subst (λ b. (if b then own else is_passed test (row table v k)) ≡ true) (eq-eqb v v refl) h

blocked-more : (q : Slices) (a b : ℕ → Bool) → ((u : ℕ) → a u ≡ true → b u ≡ true) → is_blocked q a ≡ true
    → is_blocked q b ≡ true
blocked-more q a b f h =
    not-false (is_blocked q b) (false_from_ne_true _ (λ s. let t : sat q (outside b) ≡ true = sat_outside q b ∙ s in
    let r = sat_monotone q (outside b) (outside a)
    (λ u i. not_from_false (a u) (false_from_ne_true _ (λ j. true≢false (sym (f u j) ∙ not-true (b u) i)))) t in
    true≢false (sym h ∙ not-true (is_blocked q a) (sym (sat_outside q a) ∙ r))))

pub seen-fair : (v : ℕ) (q : Slices) (leaders : List ℕ) (table : List Sent) → Fair (seen v q leaders table)
unfolding seen quorum_passes blocking_passes
seen-fair v q leaders table = record {
  own = λ k own test h. let r =
      has_quorum-found sat (slices_by v q table k) (v ∷ map (λ e. e.sender) table)
      (passing_with v table k own test) v h in passing-own v own table k test (r.within v r.member);
  blocks = λ k own other test weaker m f h. blocked-more q (passing_with v table k own test)
      (passing_with v table k other weaker) (passing-more v own other table k test weaker m f) h;
}
