-- Who beats whom in a round is an order.
use Rattle.std.proofs.Common.{◌≡◌, ℕ, Bool, true, false, ◌==◌, ◌&&◌, ◌||◌, nat_lt, arith}
use Rattle.std.proofs.lemmas.Bool.Decides.{nat_tests}
use Rattle.scp_spec.specs.Leaders.{hash, beats}

abbrev pub Beats : Type 0
Beats = ℕ → ℕ → Bool

-- none beats itself; who does not beat the best beats none that does; of two, one beats the other
pub record IsOrder (beats : Beats) : Type 0 where
  pub itself : (u : ℕ) → beats u u ≡ false
  pub behind : (w u best : ℕ) → beats w best ≡ false → beats u best ≡ true → beats w u ≡ false
  pub same : (u w : ℕ) → beats u w ≡ false → beats w u ≡ false → u ≡ w

-- the same of priorities and names
beats_itself : (p u : ℕ) → (nat_lt p p || ((p == p) && nat_lt u u)) ≡ false
beats_itself p u = grind (arith, nat_tests)

stays_behind : (pw pu pb w u b : ℕ) → (nat_lt pb pw || ((pw == pb) && nat_lt b w)) ≡ false → (nat_lt pb pu || ((pu == pb) && nat_lt b u)) ≡ true → (nat_lt pu pw || ((pw == pu) && nat_lt u w)) ≡ false
stays_behind pw pu pb w u b h k = grind (arith, nat_tests)

neither : (p r u w : ℕ) → (nat_lt r p || ((p == r) && nat_lt w u)) ≡ false → (nat_lt p r || ((r == p) && nat_lt u w)) ≡ false → u ≡ w
neither p r u w h k = grind (arith, nat_tests)

pub rounds_are_orders : (slot round : ℕ) → IsOrder (beats slot round)
rounds_are_orders slot round = record {
  itself = λ u. beats_itself (hash slot 2 round u) u;
  behind = λ w u best. stays_behind (hash slot 2 round w) (hash slot 2 round u) (hash slot 2 round best) w u best;
  same = λ u w. neither (hash slot 2 round u) (hash slot 2 round w) u w;
}
