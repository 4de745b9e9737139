-- Reading values one after the other, as a loop does.
use Rattle.std.proofs.Common.{◌≡◌, ℕ, suc, ◌-◌, ◌+◌, ◌≤◌, ◌<◌, List, [], ◌∷◌, ◌++◌, Result, Ok, Err, refl, sym, ap, ◌∙◌, append_assoc, arith}
use Rattle.std.proofs.lemmas.List.{append-nil}
use Rattle.scp_codec.specs.declared.error.Fault.{Fault}
use Rattle.scp_codec.specs.declared.error.CodecError.{CodecError}
use Rattle.scp_codec.specs.declared.error.CodecError.TheVariants as errors
use Rattle.scp_codec.specs.Steps.{◌>>=◌, Fails}
use Rattle.scp_codec.specs.Reading.{value_at, values_at}

abbrev pub Names : Type 0
Names = List (List ℕ)

-- what was read before, and what is still read
abbrev pub with_front : Names → Result (Names × List ℕ) Fault → Result (Names × List ℕ) Fault
with_front front read = read >>= λ x. Ok (front ++ x.0, x.1)

abbrev behind : List ℕ → Names × List ℕ → Result ((List ℕ × Names) × List ℕ) Fault
behind v x = Ok ((v, x.0), x.1)

abbrev put_all : (List ℕ × Names) × List ℕ → Result (Names × List ℕ) Fault
put_all y = Ok (y.0.0 ∷ y.0.1, y.1)

regroup : (front : Names) (n : List ℕ) (read : Result (Names × List ℕ) Fault) → with_front front ((read >>= behind n) >>= put_all) ≡ with_front (front ++ n ∷ []) read
regroup front n (Ok x) = ap (λ (ns : Names). Ok (ns, x.1)) (simp append_assoc)
regroup front n (Err f) = refl

pub goes_on : (front : Names) (count i : ℕ) (bytes : List ℕ) (n : List ℕ) (after : List ℕ) (total : Result (Names × List ℕ) Fault) → i < count → value_at bytes ≡ Ok (n, after)
    → with_front front (values_at (count - i) bytes) ≡ total → with_front (front ++ n ∷ []) (values_at (count - (i + 1)) after) ≡ total
unfolding values_at
goes_on front count i bytes n after total lt h so_far =
    let k : count - i ≡ suc (count - (i + 1)) = omega arith in
    let one : with_front front (values_at (count - i) bytes) ≡ with_front (front ++ n ∷ []) (values_at (count - (i + 1)) after) = rw (k, h) (regroup front n (values_at (count - (i + 1)) after)) in
    sym one ∙ so_far

pub ends : (e : CodecError) (front : Names) (count i : ℕ) (bytes : List ℕ) (total : Result (Names × List ℕ) Fault) → i < count → Fails e (value_at bytes)
    → with_front front (values_at (count - i) bytes) ≡ total → Fails e total
unfolding values_at
ends errors.NoMemory front count i bytes total lt h so_far = tt
ends (errors.Fault f) front count i bytes total lt h so_far =
    let k : count - i ≡ suc (count - (i + 1)) = omega arith in
    let one : with_front front (values_at (count - i) bytes) ≡ Err f = rw (k, h) refl in
    sym so_far ∙ one

pub is_done : (front : Names) (count i : ℕ) (bytes : List ℕ) (total : Result (Names × List ℕ) Fault) → count ≤ i → with_front front (values_at (count - i) bytes) ≡ total → total ≡ Ok (front, bytes)
unfolding values_at
is_done front count i bytes total le so_far =
    let k : count - i ≡ 0 = omega arith in
    let one : with_front front (values_at (count - i) bytes) ≡ Ok (front, bytes) = rw k (ap (λ (ns : Names). Ok (ns, bytes)) (append-nil front)) in
    sym so_far ∙ one
