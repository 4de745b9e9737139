-- The steps of reading, and how a function of the program gives what reading gives.
use Rattle.std.specs.Prelude.{◌≡◌, ℕ, List, [], ◌∷◌, Option, Some, None, ◌⊎◌, ◌==◌, length, take, drop, slice_index, ◌<◌, Result, Ok, Err, nat_lt, if◌then◌else◌}
use Rattle.std.proofs.Common.{inl, inr}
use Rattle.std.specs.Int.{Width, byte_len, from_be_bytes}
use Rattle.scp_codec.specs.declared.error.Fault.{Fault}
use Rattle.scp_codec.specs.declared.error.Fault.TheVariants.{Truncated}
use Rattle.scp_codec.specs.declared.error.CodecError.{CodecError}
use Rattle.scp_codec.specs.declared.error.CodecError.TheVariants as errors

infixl 10 ◌>>=◌
-- what comes next if nothing was wrong so far, else the fault
abbrev pub ◌>>=◌ : {A B : Type 0} → Result A Fault → (A → Result B Fault) → Result B Fault
(Ok x) >>= f = f x
(Err e) >>= f = Err e

-- an error says that it is out of memory, or it is the fault that reading says
abbrev pub Fails : {Y : Type 0} → CodecError → Result Y Fault → Type 0
Fails errors.NoMemory read = Unit {0}
Fails (errors.Fault f) read = read ≡ Err f

-- what a function returned, seen by a view, is what reading gives, unless it is out of memory
abbrev pub Gives : {X Y : Type 0} → (X → Y) → Result X CodecError → Result Y Fault → Type 0
Gives view (Ok x) read = read ≡ Ok (view x)
Gives view (Err e) read = Fails e read

-- what a function that takes no memory returned, seen by a view, is what reading gives
abbrev pub Says : {X Y : Type 0} → (X → Y) → Result X Fault → Result Y Fault → Type 0
Says view (Ok x) read = read ≡ Ok (view x)
Says view (Err f) read = read ≡ Err f

-- each number of a list is below 256
abbrev pub IsBytes : List ℕ → Type 0
IsBytes bytes = (i : ℕ) → slice_index bytes i < 256

-- reads a byte
abbrev pub byte_at : List ℕ → Result (ℕ × List ℕ) Fault
byte_at [] = Err Truncated
byte_at (b ∷ rest) = Ok (b, rest)

-- reads a number of the width
abbrev pub number_at : Width → List ℕ → Result (ℕ × List ℕ) Fault
number_at w bytes =
    if nat_lt (length bytes) (byte_len w) then Err Truncated
    else Ok (from_be_bytes w (take (byte_len w) bytes), drop (byte_len w) bytes)

-- reads n bytes
abbrev pub bytes_at : ℕ → List ℕ → Result (List ℕ × List ℕ) Fault
bytes_at n bytes = if nat_lt (length bytes) n then Err Truncated else Ok (take n bytes, drop n bytes)

-- ---- parts that are joined
-- reading takes a part from the front, or says the first fault from left to right
abbrev pub Reads : Type 0 → Type 0
Reads X = List ℕ → Result (X × List ℕ) Fault

-- a part, and what comes after it
abbrev pub read_then : {A B : Type 0} → Reads A → (A → Reads B) → Reads (A × B)
read_then r s bytes = r bytes >>= λ a. s a.0 a.1 >>= λ b. Ok ((a.0, b.0), b.1)

-- what was read, unless a fault was found in it
abbrev pub unless : {A : Type 0} → Option Fault → A → Result A Fault
unless None a = Ok a
unless (Some f) a = Err f

-- a part that is read and then judged
abbrev pub read_judged : {A : Type 0} → Reads A → (A → Option Fault) → Reads A
read_judged r judge bytes = r bytes >>= λ a. unless (judge a.0) a

-- a part under another type
abbrev pub read_as : {A B : Type 0} → Reads A → (A → B) → Reads B
read_as r to bytes = r bytes >>= λ a. Ok (to a.0, a.1)

-- a tag, and one of two parts behind it
abbrev pub read_either : {A B : Type 0} → ℕ → Reads A → ℕ → Reads B → Fault → Reads (A ⊎ B)
read_either m r n s fault bytes =
    byte_at bytes >>= λ tag. if tag.0 == m then (r tag.1 >>= λ a. Ok (inl a.0, a.1))
    else if tag.0 == n then (s tag.1 >>= λ b. Ok (inr b.0, b.1)) else Err fault

-- nothing may stand there
abbrev pub read_fail : {A : Type 0} → Fault → Reads A
read_fail fault bytes = Err fault
