-- Which instances a network finds at a slot after it, or another one, is opened or closed. `Runs`, and the crates
-- `host_journal` and `line_run` stand on it.
use Rattle.std.proofs.Common.{◌≡◌, ℕ, Bool, true, false, not, cond, ◌==◌, Some, None, List, [], ◌∷◌, ◌++◌, filter, if◌then◌else◌, refl, ◌∙◌, ap}
use Rattle.std.proofs.lemmas.Bool.{eqb-true}
use Rattle.scp_spec.specs.Networks.{Slot, instances_at}

pub instances_at-push : (ss : List Slot) (s : Slot) (i : ℕ) → (s.number == i) ≡ true → instances_at ss i ≡ None
    → instances_at (ss ++ s ∷ []) i ≡ Some s.instances
instances_at-push [] s i y n = ap (λ b. if b then Some s.instances else None) y
instances_at-push (t ∷ ts) s i y n = go (t.number == i) n (instances_at-push ts s i y)
  where
    go : (b : Bool) → (if b then Some t.instances else instances_at ts i) ≡ None
        → (instances_at ts i ≡ None → instances_at (ts ++ s ∷ []) i ≡ Some s.instances)
        → (if b then Some t.instances else instances_at (ts ++ s ∷ []) i) ≡ Some s.instances
    go true m f = cc
    go false m f = f m

pub instances_at-push_other : (ss : List Slot) (s : Slot) (i : ℕ) → (s.number == i) ≡ false
    → instances_at (ss ++ s ∷ []) i ≡ instances_at ss i
instances_at-push_other [] s i o = ap (λ b. if b then Some s.instances else None) o
instances_at-push_other (t ∷ ts) s i o =
    ap (λ x. if t.number == i then Some t.instances else x) (instances_at-push_other ts s i o)

pub instances_at-drop : (ss : List Slot) (i : ℕ) → instances_at (filter (λ s. not (s.number == i)) ss) i ≡ None
instances_at-drop [] i = refl
instances_at-drop (s ∷ ss) i = go (s.number == i) refl (instances_at-drop ss i)
  where
    go : (b : Bool) → (s.number == i) ≡ b → instances_at (filter (λ s. not (s.number == i)) ss) i ≡ None
        → instances_at
        (cond (not b) (s ∷ filter (λ s. not (s.number == i)) ss) (filter (λ s. not (s.number == i)) ss)) i ≡ None
    go true e ih = ih
    go false e ih = rw e ih

pub instances_at-drop_other : (ss : List Slot) (j i : ℕ) → (j == i) ≡ false
    → instances_at (filter (λ s. not (s.number == j)) ss) i ≡ instances_at ss i
instances_at-drop_other [] j i o = refl
instances_at-drop_other (s ∷ ss) j i o = go (s.number == j) refl (instances_at-drop_other ss j i o)
  where
    go : (b : Bool) → (s.number == j) ≡ b → instances_at (filter (λ s. not (s.number == j)) ss) i ≡ instances_at ss i
        → instances_at (cond (not b) (s ∷ filter (λ s. not (s.number == j)) ss) (filter (λ s. not (s.number == j)) ss)) i
        ≡ (if s.number == i then Some s.instances else instances_at ss i)
    go true e ih = rw (ap (λ x. x == i) (eqb-true s.number j e) ∙ o) ih
    go false e ih = ap (λ x. if s.number == i then Some s.instances else x) ih
