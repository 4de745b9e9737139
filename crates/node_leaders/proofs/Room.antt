-- A weight that has room for so many levels can be multiplied once, and has room for those below.
use Rattle.std.proofs.Common.{◌≡◌, ℕ, suc, ◌*◌, ◌^◌, ◌<◌, ◌≤◌, refl, arith}
use Rattle.std.proofs.lemmas.Nat.{mul-le}
use Rattle.std.proofs.Math.Nat.{mul_assoc, mul_comm, one-le-pow, pow-le-pow_right}
use native.Mathlib.Numerals.{unary_clauses}
use Rattle.scp_types.specs.Trees.{most_members, most_levels}
use Rattle.scp_spec.specs.Weights.{Fraction}
use Rattle.scp_slices.specs.Weighing.{part_of, whole}
use Rattle.node_leaders.specs.Walk.{HasRoomForLevels}

-- one factor more takes the place of one level
next_level : (k a levels room : ℕ) → k ≤ most_members → a * most_members ^ suc levels ≤ room → (k * a) * most_members ^ levels ≤ room
next_level k a levels room few h =
    let grown : (k * a) * most_members ^ levels ≤ (most_members * a) * most_members ^ levels = mul-le (k * a) (most_members ^ levels) (most_members * a) (most_members ^ levels) (mul-le k a most_members a few (omega arith)) (omega arith) in
    let moved : (most_members * a) * most_members ^ levels ≡ a * most_members ^ suc levels = rw (mul_comm most_members a, mul_assoc a most_members (most_members ^ levels), mul_comm most_members (most_members ^ levels)) (simp unary_clauses refl) in
    omega (arith, grown, moved)

fewer_levels : (a below levels room : ℕ) → below ≤ levels → a * most_members ^ levels ≤ room → a * most_members ^ below ≤ room
fewer_levels a below levels room h k =
    let less : most_members ^ below ≤ most_members ^ levels = pow-le-pow_right (omega arith) h in
    let product : a * most_members ^ below ≤ a * most_members ^ levels = mul-le a (most_members ^ below) a (most_members ^ levels) (omega arith) less in
    omega arith

-- a part of it has room for the levels of an inner set
pub has_room : (k n levels below : ℕ) (f : Fraction) → k ≤ most_members → n ≤ most_members → below < levels → HasRoomForLevels f levels → HasRoomForLevels (part_of k n f) below
has_room k n levels below f few many h r = record {
  numerator = next_level k f.numerator below (most_members ^ most_levels) few (fewer_levels f.numerator (suc below) levels (most_members ^ most_levels) h r.numerator);
  denominator = next_level n f.denominator below (most_members ^ most_levels) many (fewer_levels f.denominator (suc below) levels (most_members ^ most_levels) h r.denominator);
}

few : (a levels room : ℕ) → a * most_members ^ levels ≤ room → a ≤ room
few a levels room h =
    let least : 1 ≤ most_members ^ levels = one-le-pow levels most_members (omega arith) in
    let product : a * 1 ≤ a * most_members ^ levels = mul-le a 1 a (most_members ^ levels) (omega arith) least in
    omega arith

-- and both numbers are small
pub is_small : (f : Fraction) (levels : ℕ) → HasRoomForLevels f levels → (f.numerator ≤ 2 ^ 56) × (f.denominator ≤ 2 ^ 56)
is_small f levels r =
    let upper : f.numerator ≤ most_members ^ most_levels = few f.numerator levels (most_members ^ most_levels) r.numerator in
    let lower : f.denominator ≤ most_members ^ most_levels = few f.denominator levels (most_members ^ most_levels) r.denominator in
    (omega arith, omega arith)

-- the whole has room for all levels
pub whole_has_room : (levels : ℕ) → levels ≤ most_levels → HasRoomForLevels whole levels
whole_has_room levels h =
    let less : most_members ^ levels ≤ most_members ^ most_levels = pow-le-pow_right (omega arith) h in
    record { numerator = omega arith; denominator = omega arith }
