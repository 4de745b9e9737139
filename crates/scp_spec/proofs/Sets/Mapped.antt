-- What a mapped list contains. `Reach`, and the crates `host_closure` and `node_view` stand on it.
use Rattle.std.proofs.Common.{◌≡◌, List, [], ◌∷◌, map, subst, inl, inr, arith}
use Rattle.std.specs.List.{Contains}
use Rattle.scp_spec.proofs.Sets.Contained.{contains_head, contains_tail, contained_cases}

-- the envelope that an element of a mapped list comes from
pub mapped_from : {X Y : Type 0} (f : X → Y) (xs : List X) (y : Y) → Contains (map f xs) y
    → (x : X) × Contains xs x × (f x ≡ y)
mapped_from f [] y c = absurd (let l = c.1 in omega arith)
mapped_from f (x ∷ xs) y c = elim (contained_cases y (f x) (map f xs) c) [
  | inl e ↦ (x, contains_head x xs, e)
  | inr i ↦ let r = mapped_from f xs y i in (r.0, contains_tail r.0 x xs r.1, r.2)
]

pub mapped_to : {X Y : Type 0} (f : X → Y) (xs : List X) (x : X) → Contains xs x → Contains (map f xs) (f x)
mapped_to f [] x c = absurd (let l = c.1 in omega arith)
mapped_to f (y ∷ ys) x c = elim (contained_cases x y ys c) [
  | inl e ↦ subst (λ z. Contains (map f (y ∷ ys)) (f z)) e (contains_head (f y) (map f ys))
  | inr i ↦ contains_tail (f x) (f y) (map f ys) (mapped_to f ys x i)
]
