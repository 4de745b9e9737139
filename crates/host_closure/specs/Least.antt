-- The least of some names that is not as it should be.
use Rattle.std.specs.Prelude.{ℕ, ◌<◌, nat_lt, List, Option, Some, None, if◌then◌else◌, IsTrue}
use Rattle.scp_spec.specs.Sets.{among}

-- all of these names are as they should be
abbrev pub AreAll : (ℕ → Type 0) → List ℕ → Type 0
AreAll Good list = (u : ℕ) → IsTrue (among list u) → Good u

-- the least of the names that is not as it should be
pub record IsLeast (Bad Good : ℕ → Type 0) (list : List ℕ) (u : ℕ) : Type 0 where
  pub member : IsTrue (among list u)
  pub bad : Bad u
  pub least : (w : ℕ) → IsTrue (among list w) → w < u → Good w

-- the lesser of a name and the best one so far
abbrev pub lesser_name : Option ℕ → ℕ → Option ℕ
lesser_name None x = Some x
lesser_name (Some u) x = if nat_lt u x then Some u else Some x
