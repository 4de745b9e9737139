-- Places that are asked one by one whether they pass.
use Rattle.std.specs.Prelude.{◌≡◌, ℕ, ◌+◌, ◌^◌, ◌≤◌, List, Bool, length, nat_le}
use Rattle.scp_bits.specs.Places.{bit_of}
use Rattle.scp_bits.specs.Met.{one_where}
use Rattle.scp_bits.specs.declared.asking.Tally.{Tally}

-- the set of all places that pass a test
pub record ArePassing (passing : ℕ → Bool) (ws : List ℕ) : Type 0 where
  pub bits : (i : ℕ) → bit_of ws i ≡ one_where (passing i)
  pub short : length ws ≤ 2 ^ 58

-- some places were asked and some of them passed, or it is known without asking. If x of y more places pass, which may
-- still be asked, they are enough now exactly if they and those that passed were enough before; and y places are left
abbrev pub IsAsked : ℕ → ℕ → Tally → Tally → Type 0
IsAsked passed asked old now =
    (x y : ℕ) → x ≤ y → asked + y ≤ old.left → (nat_le now.missing x ≡ nat_le old.missing (passed + x)) × (y ≤ now.left)
