-- Orders of numbers, and tests of them, one after the other. Most folders from `Ballots` on stand on it.
use Rattle.std.proofs.Common.{◌≡◌, ℕ, ◌≤◌, true, false, ◌==◌, nat_le, nat_lt, arith}
use Rattle.std.proofs.lemmas.Bool.Decides.{nat_tests}

pub through : (a b c : ℕ) → a ≤ b → b ≤ c → a ≤ c
through a b c h k = omega (arith, h, k)

pub up_to : (m n : ℕ) → nat_le m n ≡ true → m ≤ n
up_to m n h = grind (arith, nat_tests)

pub not_both : (m n : ℕ) → n ≤ m → nat_lt m n ≡ true → ⊥
not_both m n h k = grind (arith, nat_tests)

pub turned : (m n : ℕ) → (m == n) ≡ false → (n == m) ≡ false
turned m n h = grind (arith, nat_tests)
