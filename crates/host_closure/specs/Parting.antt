-- Where two lists part.
use Rattle.std.specs.Prelude.{ℕ, List, Option, Some, None, slice_get, take, ⊤}
use Rattle.std.specs.List.{AllZip}

-- at a place only one of two lists has an element, or both have one and these are other than each other
abbrev pub AreParted : {T : Type 0} → (T → T → Type 0) → Option T → Option T → Type 0
AreParted Other None None = ⊥
AreParted Other (Some x) (Some y) = Other x y
AreParted Other _ _ = ⊤

-- two lists are the same, element by element, before a place, and part there
pub record IsPartedAt {T : Type 0} (Same Other : T → T → Type 0) (one other : List T) (place : ℕ) : Type 0 where
  pub before : AllZip Same (take place one) (take place other)
  pub there : AreParted Other (slice_get one place) (slice_get other place)
