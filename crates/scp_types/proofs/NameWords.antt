-- A name as one number, of its four words of 64 bits: the first word counts most.
use Rattle.std.proofs.Common.{◌≡◌, ℕ, ◌+◌, ◌*◌, ◌/◌, ◌%◌, ◌^◌, ◌<◌, arith}

pub first_word : (a b c d : ℕ) → b < 2 ^ 64 → c < 2 ^ 64 → d < 2 ^ 64 → (a * 2 ^ 192 + b * 2 ^ 128 + c * 2 ^ 64 + d) / 2 ^ 192 ≡ a
first_word a b c d g h k = omega arith

pub second_word : (a b c d : ℕ) → b < 2 ^ 64 → c < 2 ^ 64 → d < 2 ^ 64 → (a * 2 ^ 192 + b * 2 ^ 128 + c * 2 ^ 64 + d) / 2 ^ 128 % 2 ^ 64 ≡ b
second_word a b c d g h k = omega arith

pub third_word : (a b c d : ℕ) → b < 2 ^ 64 → c < 2 ^ 64 → d < 2 ^ 64 → (a * 2 ^ 192 + b * 2 ^ 128 + c * 2 ^ 64 + d) / 2 ^ 64 % 2 ^ 64 ≡ c
third_word a b c d g h k = omega arith

pub fourth_word : (a b c d : ℕ) → b < 2 ^ 64 → c < 2 ^ 64 → d < 2 ^ 64 → (a * 2 ^ 192 + b * 2 ^ 128 + c * 2 ^ 64 + d) % 2 ^ 64 ≡ d
fourth_word a b c d g h k = omega arith
