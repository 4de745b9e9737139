-- A step that leaves what is published, or adds to it, keeps the rule.
use Rattle.std.proofs.Common.{◌≡◌, ◌≢◌, ℕ, List, [], ◌∷◌, ◌++◌, fold, refl, sym, ap, ◌∙◌, subst, ⊎_elim, append_assoc, Result, Ok, Err, MatchResult}
use Rattle.std.specs.Prelude.{OnOk}
use Rattle.std.proofs.lemmas.List.{append-nil}
use mathlib.Core.Option.{some}
use mathlib.Core.List.{IsPrefix}
use lib.ListN.{get_elem?}
use Rattle.crossbeam_utils.specs.Register.{Admits, TurnsAt, Turns}
use Rattle.atomic_table.proofs.Lists.{at_set, at_snoc}
use Rattle.pool_cell.specs.declared.decision.Decision.{Decision}
use Rattle.pool_cell.specs.Beginnings.{BeginsWithSeen, SeesWhole}

beginning_of_beginning : (a b c : List Decision) → IsPrefix a b → IsPrefix b c → IsPrefix a c
beginning_of_beginning a b c p q = (p.0 ++ q.0, sym (append_assoc a p.0 q.0) ∙ ap (λ (l : List Decision). l ++ q.0) p.1 ∙ q.1)

-- who makes the step has seen all of the new list afterwards
pub grows : (seat : ℕ) (v x y : List Decision) → IsPrefix x y → TurnsAt BeginsWithSeen seat v x y SeesWhole
grows seat v x y more views h at = (
  y,
  (λ j u e. ⊎_elim (λ (t : (j ≡ seat) × (y ≡ u)). subst (λ (l : List Decision). IsPrefix l y) t.1 ([], append-nil y)) (λ (t : (j ≢ seat) × (get_elem? views j ≡ some u)). beginning_of_beginning u x y (h j u t.1) more)
      (at_set views seat j y u e)),
  (refl, beginning_of_beginning v x y (h seat v at) more),
)

pub looks : (seat : ℕ) (v : List Decision) → Turns BeginsWithSeen seat v (λ x. x) SeesWhole
looks seat v x = grows seat v x x ([], append-nil x)

pub all_appended : (x ops : List Decision) → fold (λ l o. l ++ o ∷ []) x ops ≡ x ++ ops
all_appended x [] = sym (append-nil x)
all_appended x (o ∷ os) = all_appended (x ++ o ∷ []) os ∙ append_assoc x (o ∷ []) os

-- a newcomer has seen nothing
pub admits : Admits BeginsWithSeen []
admits x views h seat v at = ⊎_elim (h seat v) (λ (e : [] ≡ v). subst (λ (l : List Decision). IsPrefix l x) e (x, refl)) (at_snoc views [] v seat at)

pub ok_out : {T E : Type 0} {A C : Type 0} (B : Type 0) (r : Result T E) → (A → C) → MatchResult r (λ _. A) (λ _. B) → OnOk r C
ok_out B (Ok x) f h = f h
ok_out B (Err e) f h = tt
