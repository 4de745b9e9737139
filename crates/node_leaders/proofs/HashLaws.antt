-- The bytes that are hashed, piece by piece.
use Rattle.std.proofs.Common.{◌≡◌, ℕ, zero, suc, append_assoc, ◌+◌, ◌*◌, ◌/◌, ◌%◌, ◌^◌, ◌<◌, List, [], ◌∷◌, ◌++◌, get_or, take, refl, ap, sym, ◌∙◌, inl, inr, arith}
use Rattle.std.specs.Int.{w32, w64, byte_at, bytes_high_first, to_be_bytes, from_be_bytes}
use Rattle.std.specs.Prelude.{slice_index}
use Rattle.std.proofs.lemmas.Bool.{cases_lt}
use Rattle.std.proofs.lemmas.List.{append-nil, get_or-take, get_or_past, length-take}
use Rattle.std.proofs.Math.Nat.{mul_comm, mul_assoc, pow-suc, div-div-eq-div-mul}
use Rattle.sha2.specs.Sha256.{sha256, digest_bytes, final_hash, initial_hash_256}
use Rattle.scp_spec.specs.Leaders.{in_bytes, preimage, hash}

-- ---- a number in so many bytes
next_byte : (i n : ℕ) → byte_at (suc i) n ≡ byte_at i (n / 256)
next_byte zero n = omega arith
next_byte (suc i) n = ap (λ (m : ℕ). m % 256) (ap (λ (m : ℕ). n / m) (sym (power i)) ∙ sym (div-div-eq-div-mul n 256 (256 ^ suc i)))
  where
    power : (i : ℕ) → 256 * 256 ^ suc i ≡ 256 ^ suc (suc i)
    power i = mul_comm 256 (256 ^ suc i) ∙ sym (pow-suc 256 (suc i))

last_apart : (k n : ℕ) → bytes_high_first (suc k) n ≡ bytes_high_first k (n / 256) ++ (n % 256 ∷ [])
last_apart zero n = refl
last_apart (suc k) n = rw (next_byte k n, last_apart k n) refl

-- it is what the code writes
in_bytes_is : (k n : ℕ) → in_bytes k n ≡ bytes_high_first k n
unfolding in_bytes
in_bytes_is zero n = refl
in_bytes_is (suc k) n = rw (in_bytes_is k (n / 256)) (sym (last_apart k n))

-- the low bytes of a number, apart
low_apart : (j k a d : ℕ) → d < 256 ^ j → in_bytes (j + k) (a * 256 ^ j + d) ≡ in_bytes k a ++ in_bytes j d
unfolding in_bytes
low_apart zero k a d l =
    let none_more : a * 256 ^ 0 + d ≡ a = omega arith in
    let as_long : zero + k ≡ k = omega arith in
    rw (none_more, as_long) (sym (append-nil (in_bytes k a)))
low_apart (suc j) k a d l =
    let grows = pow-suc 256 j in
    let power : a * 256 ^ suc j + d ≡ a * 256 ^ j * 256 + d = ap (λ (m : ℕ). a * m + d) grows ∙ ap (λ (m : ℕ). m + d) (sym (mul_assoc a (256 ^ j) 256)) in
    let one_longer : suc j + k ≡ suc (j + k) = omega arith in
    let whole : (a * 256 ^ suc j + d) / 256 ≡ a * 256 ^ j + d / 256 = ap (λ (m : ℕ). m / 256) power ∙ quotient (a * 256 ^ j) d in
    let last : (a * 256 ^ suc j + d) % 256 ≡ d % 256 = ap (λ (m : ℕ). m % 256) power ∙ rest (a * 256 ^ j) d in
    ap (λ (n : ℕ). in_bytes n (a * 256 ^ suc j + d)) one_longer
    ∙ rw (whole, last, low_apart j k a (d / 256) (omega (arith, grows, l))) (append_assoc (in_bytes k a) (in_bytes j (d / 256)) (d % 256 ∷ []))
  where
    quotient : (y d : ℕ) → (y * 256 + d) / 256 ≡ y + d / 256
    quotient y d = omega arith

    rest : (y d : ℕ) → (y * 256 + d) % 256 ≡ d % 256
    rest y d = omega arith

-- ---- the bytes that are hashed
-- the bytes of a name are those of its words
name_text : (a b c d : ℕ) → b < 2 ^ 64 → c < 2 ^ 64 → d < 2 ^ 64
    → in_bytes 32 (((a * 2 ^ 64 + b) * 2 ^ 64 + c) * 2 ^ 64 + d) ≡ ((in_bytes 8 a ++ in_bytes 8 b) ++ in_bytes 8 c) ++ in_bytes 8 d
name_text a b c d g h k =
    low_apart 8 24 ((a * 2 ^ 64 + b) * 2 ^ 64 + c) d k
    ∙ ap (λ (xs : List ℕ). xs ++ in_bytes 8 d) (low_apart 8 16 (a * 2 ^ 64 + b) c h ∙ ap (λ (xs : List ℕ). xs ++ in_bytes 8 c) (low_apart 8 8 a b g))

byte_text : (tag : ℕ) → tag < 256 → in_bytes 1 tag ≡ tag ∷ []
unfolding in_bytes
byte_text tag l =
    let whole : tag % 256 ≡ tag = omega arith in
    rw whole refl

-- the four words, each put behind those before it
pieces : (p a b c d : List ℕ) → ((((p ++ a) ++ b) ++ c) ++ d) ≡ p ++ (((a ++ b) ++ c) ++ d)
pieces p a b c d = simp append_assoc

-- the digest of the pieces begins with the hash
pub hash_is : (slot tag round u a b c d : ℕ) (s r w x y z digest : List ℕ) → a * 2 ^ 192 + b * 2 ^ 128 + c * 2 ^ 64 + d ≡ u → b < 2 ^ 64 → c < 2 ^ 64 → d < 2 ^ 64 → tag < 256
    → s ≡ to_be_bytes w64 slot → r ≡ to_be_bytes w32 round
    → w ≡ to_be_bytes w64 a → x ≡ to_be_bytes w64 b → y ≡ to_be_bytes w64 c → z ≡ to_be_bytes w64 d
    → digest ≡ sha256 ((((((s ++ (tag ∷ [])) ++ r) ++ w) ++ x) ++ y) ++ z)
    → from_be_bytes w64 (take 8 digest) ≡ hash slot tag round u
unfolding hash preimage
hash_is slot tag round u a b c d s r w x y z digest e g h k small es er ew ex ey ez is =
    let words : ((a * 2 ^ 64 + b) * 2 ^ 64 + c) * 2 ^ 64 + d ≡ u = omega (arith, e) in
    let name : in_bytes 32 u ≡ ((w ++ x) ++ y) ++ z =
    ap (in_bytes 32) (sym words) ∙ name_text a b c d g h k ∙ rw (in_bytes_is 8 a, in_bytes_is 8 b, in_bytes_is 8 c, in_bytes_is 8 d, ew, ex, ey, ez) refl in
    let text : ((s ++ (tag ∷ [])) ++ r) ++ (((w ++ x) ++ y) ++ z) ≡ preimage slot tag round u = rw (name, byte_text tag small, in_bytes_is 8 slot, in_bytes_is 4 round, es, er) refl in
    ap (λ (bytes : List ℕ). from_be_bytes w64 (take 8 bytes)) (is ∙ ap sha256 (pieces ((s ++ (tag ∷ [])) ++ r) w x y z ∙ text))

-- ---- a hash has 64 bits
abbrev AreBytes : List ℕ → Type 0
AreBytes bytes = (i : ℕ) → get_or bytes i 0 < 256

AreBytes-cons : (x : ℕ) (xs : List ℕ) → x < 256 → AreBytes xs → AreBytes (x ∷ xs)
AreBytes-cons x xs h k zero = h
AreBytes-cons x xs h k (suc i) = k i

AreBytes-append : (xs ys : List ℕ) → AreBytes xs → AreBytes ys → AreBytes (xs ++ ys)
AreBytes-append [] ys h k = k
AreBytes-append (x ∷ xs) ys h k = AreBytes-cons x (xs ++ ys) (h 0) (AreBytes-append xs ys (λ j. h (suc j)) k)

AreBytes-word : (n : ℕ) → AreBytes (to_be_bytes w32 n)
AreBytes-word n zero = omega arith
AreBytes-word n (suc zero) = omega arith
AreBytes-word n (suc (suc zero)) = omega arith
AreBytes-word n (suc (suc (suc zero))) = omega arith
AreBytes-word n (suc (suc (suc (suc i)))) = omega arith

AreBytes-digest : (h : List ℕ) (n : ℕ) → AreBytes (digest_bytes h n)
unfolding digest_bytes
AreBytes-digest h zero = λ i. omega arith
AreBytes-digest h (suc n) = AreBytes-append (digest_bytes h n) (to_be_bytes w32 (slice_index h n)) (AreBytes-digest h n) (AreBytes-word (slice_index h n))

AreBytes-take : (n : ℕ) (xs : List ℕ) → AreBytes xs → AreBytes (take n xs)
AreBytes-take n xs h i = elim (cases_lt i n) [
  | inl l ↦ rw (get_or-take n xs i 0 l) (h i)
  | inr l ↦ rw (get_or_past (take n xs) i 0 (omega (arith, length-take n xs))) (omega arith)
]

below : (bytes : List ℕ) → AreBytes bytes → from_be_bytes w64 bytes < 2 ^ 64
below bytes fits = omega (arith, fits 0, fits 1, fits 2, fits 3, fits 4, fits 5, fits 6, fits 7)

AreBytes-sha256 : (m : List ℕ) → AreBytes (sha256 m)
unfolding sha256
AreBytes-sha256 m = AreBytes-digest (final_hash initial_hash_256 m) 8

pub hash_below : (slot tag round u : ℕ) → hash slot tag round u < 2 ^ 64
unfolding hash
hash_below slot tag round u = below (take 8 (sha256 (preimage slot tag round u))) (AreBytes-take 8 (sha256 (preimage slot tag round u)) (AreBytes-sha256 (preimage slot tag round u)))
