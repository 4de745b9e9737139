-- The order of names as numbers is the derived order of their halves.
use Rattle.std.proofs.Common.{◌≡◌, ℕ, ◌*◌, ◌+◌, ◌/◌, ◌%◌, ◌^◌, ◌<◌, ◌==◌, ◌&&◌, ◌∙◌, ap₂, arith}
use Rattle.std.specs.Ordering.{nat_cmp, ordering_then}
use Rattle.std.proofs.lemmas.Bool.Decides.{nat_tests}
use Rattle.std.proofs.lemmas.Nat.{div-add-mod'}
use Rattle.std.proofs.Math.Nat.{mod-lt}
use Rattle.scp_types.specs.contracts.node_id.NodeIdOrd.TheImpl.{ghosts as ord}
use Rattle.scp_types.specs.contracts.node_id.NodeIdPartialEq.TheImpl.{ghosts as equal}

abbrev half : ℕ
half = 2 ^ 128

eq_halves : (h l k m : ℕ) → l < half → m < half → ((h == k) && (l == m)) ≡ (h * half + l == k * half + m)
eq_halves h l k m p q = grind (arith, nat_tests)

cmp_halves : (h l k m : ℕ) → l < half → m < half → ordering_then (nat_cmp h k) (nat_cmp l m) ≡ nat_cmp (h * half + l) (k * half + m)
cmp_halves h l k m p q = grind (arith, nat_tests)

pub name_eq_is : (a b : ℕ) → equal.eq a b ≡ (a == b)
name_eq_is a b =
    eq_halves (a / half) (a % half) (b / half) (b % half) (mod-lt a (omega arith)) (mod-lt b (omega arith)) ∙ ap₂ (λ x y. x == y) (div-add-mod' a half) (div-add-mod' b half)

pub name_cmp_is : (a b : ℕ) → ord.cmp a b ≡ nat_cmp a b
name_cmp_is a b =
    cmp_halves (a / half) (a % half) (b / half) (b % half) (mod-lt a (omega arith)) (mod-lt b (omega arith)) ∙ ap₂ nat_cmp (div-add-mod' a half) (div-add-mod' b half)
