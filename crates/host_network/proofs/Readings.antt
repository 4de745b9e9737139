-- What is read in bytes is what the grammar of envelopes says of them.
use Rattle.std.proofs.Common.{◌≡◌, ℕ, ◌<◌, ◌≤◌, Bool, true, false, ltb, List, [], ◌∷◌, length, get_or, Result, Ok, Err, refl, sym, ◌∙◌, ap, inl, inr}
use Rattle.std.proofs.lemmas.Bool.{ltb-false, ltb-true}
use Rattle.scp_types.specs.Statements.{Sent}
use Rattle.scp_codec.specs.declared.error.CodecError.{CodecError}
use Rattle.scp_codec.specs.declared.error.CodecError.TheVariants as errors
use Rattle.scp_codec.specs.declared.error.Fault.{Fault as Wrong}
use Rattle.scp_codec.specs.declared.error.Fault.TheVariants.{Truncated, TrailingBytes, Version, Kind, Limit, BadSlices, BadStatement, SpareVersion}
use Rattle.scp_codec.specs.Answers.{fault_number}
use Rattle.scp_codec.specs.Faults.{HasOtherKind, HasOtherVersion}
use Rattle.scp_codec.specs.Grammar.{IsFault}
use Rattle.scp_codec.specs.Reading.{decoding}
use Rattle.scp_codec.specs.Spelling.{Spells, most_bytes}
use Rattle.scp_codec.specs.Steps.{IsBytes}
use Rattle.scp_codec.proofs.EnvelopeLaws.{is_spelled, is_read, is_fault, fault_is}
use Rattle.scp_spec.specs.Networks.Reading.{Read, Fault}
use Rattle.scp_spec.specs.Submissions.{HasOneLength}
use Rattle.host_network.specs.Decoding.{reading_of_result, reading, ReadingsAreExact}
use Rattle.host_network.specs.Standing.{MayTakeMemory, is_found_early}
use Rattle.host_network.proofs.EarlyFaults.{IsLate, is_placed}
use Rattle.host_network.proofs.ReadLengths.{length_is}

-- the number of a fault tells it
fault_by : ℕ → Wrong
fault_by n = get_or (BadStatement ∷ Truncated ∷ TrailingBytes ∷ Version ∷ Kind ∷ Limit ∷ BadSlices ∷ BadStatement ∷ BadStatement ∷ SpareVersion ∷ []) n BadStatement

fault_by-number : (f : Wrong) → fault_by (fault_number f) ≡ f
unfolding fault_by
fault_by-number Truncated = refl
fault_by-number TrailingBytes = refl
fault_by-number Version = refl
fault_by-number Kind = refl
fault_by-number Limit = refl
fault_by-number BadSlices = refl
fault_by-number BadStatement = refl
fault_by-number SpareVersion = refl

numbers-differ : (f g : Wrong) → fault_number f ≡ fault_number g → f ≡ g
numbers-differ f g e = sym (fault_by-number f) ∙ ap fault_by e ∙ fault_by-number g

-- what was said is told apart
said-read : (r : Result Sent Wrong) (e : Sent) → reading_of_result r ≡ Read e → r ≡ Ok e
said-read (Ok x) e h = let q : x ≡ e = cc in ap (λ y. Ok y) q
said-read (Err f) e h = absurd (cc)

said-fault : (r : Result Sent Wrong) (f : Wrong) → reading_of_result r ≡ Fault (fault_number f) → r ≡ Err f
said-fault (Ok x) f h = absurd (cc)
said-fault (Err g) f h = let q : fault_number g ≡ fault_number f = cc in ap (λ y. Err y) (numbers-differ g f q)

-- an envelope is read exactly where the bytes spell it
pub reads : (bytes : List ℕ) (e : Sent) → Spells bytes e → reading bytes ≡ Read e
unfolding reading
reads bytes e h = ap reading_of_result (is_read bytes e h)

pub reads-fault : (bytes : List ℕ) (f : Wrong) → IsBytes bytes → IsFault bytes f → reading bytes ≡ Fault (fault_number f)
unfolding reading
reads-fault bytes f fits h = ap reading_of_result (fault_is bytes f fits h)

pub readings_are_exact : ReadingsAreExact
unfolding reading
readings_are_exact bytes fits = record {
  envelope = λ e. (λ h. is_spelled bytes e fits (said-read (decoding bytes) e h), λ h. reads bytes e h);
  fault = λ f. (λ h. is_fault bytes f fits (said-fault (decoding bytes) f h), λ h. reads-fault bytes f fits h);
}

-- all that is read as one envelope has one length, whether or not it is a list of bytes
pub has_one_length : HasOneLength reading
unfolding reading
has_one_length a b e p q = length_is a e (said-read (decoding a) e p) ∙ sym (length_is b e (said-read (decoding b) e q))

-- want of memory names no fault
abbrev answered : CodecError → Result Sent CodecError
answered x = Err x

pub names-none : (x : CodecError) (f : Wrong) → x ≡ errors.NoMemory → answered x ≡ Err (errors.Fault f) → ⊥
names-none x f is h = cc

-- bytes take memory that are neither too many nor of another version or kind
late-found : (f : Wrong) → IsLate f → is_found_early (Fault (fault_number f)) ≡ false
late-found Truncated l = refl
late-found TrailingBytes l = refl
late-found Version l = absurd l
late-found Kind l = absurd l
late-found Limit l = refl
late-found BadSlices l = refl
late-found BadStatement l = refl
late-found SpareVersion l = refl

pub takes-memory : (bytes : List ℕ) → (most_bytes < length bytes → ⊥) → (length bytes ≤ most_bytes → HasOtherVersion bytes → ⊥) → (length bytes ≤ most_bytes → HasOtherKind bytes → ⊥) → MayTakeMemory (length bytes) (reading bytes)
unfolding reading
takes-memory bytes long version kind = (few, found (decoding bytes) refl)
  where
    within : (b : Bool) → ltb 65536 (length bytes) ≡ b → length bytes ≤ most_bytes
    within true e = absurd (long (ltb-true _ _ e))
    within false e = ltb-false _ _ e

    few : length bytes ≤ most_bytes
    few = within (ltb 65536 (length bytes)) refl

    found : (r : Result Sent Wrong) → decoding bytes ≡ r → is_found_early (reading_of_result r) ≡ false
    found (Ok e) h = refl
    found (Err f) h =
        elim (is_placed bytes f h) [
          | inl l ↦ late-found f l
          | inr o ↦ elim o [
            | inl v ↦ absurd (version few v)
            | inr k ↦ absurd (kind few k)
          ]
        ]
