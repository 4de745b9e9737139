-- Formats made of parts: how a part is spelled, what has a spelling, and which fronts show which fault.
use Rattle.std.specs.Prelude.{◌≡◌, ℕ, Bool, true, false, List, [], ◌∷◌, ◌++◌, Option, Some, None, ◌⊎◌, ◌==◌}
use Rattle.std.proofs.Common.{inl, inr}
use Rattle.scp_codec.specs.declared.error.Fault.{Fault}

-- which fronts show which fault: it shows with the last byte of the front, and no sooner
abbrev pub Fronts : Type 1
Fronts = List ℕ → Fault → Type 0

-- nothing in it can be wrong
abbrev pub NoFault : Fronts
NoFault front f = ⊥

-- ---- a part, and what comes after it
-- the one text, then the other
abbrev pub text_then : {A B : Type 0} → (A → List ℕ) → (A → B → List ℕ) → A × B → List ℕ
text_then s t x = s x.0 ++ t x.0 x.1

-- both are valid, the second one after the first
abbrev pub ValidThen : {A B : Type 0} → (A → Type 0) → (A → B → Type 0) → A × B → Type 0
ValidThen V W x = V x.0 × W x.0 x.1

-- the first part shows it, or a valid first part is spelled and what comes after it shows it
abbrev pub ShowsThen : {A : Type 0} → (A → List ℕ) → (A → Type 0) → Fronts → (A → Fronts) → Fronts
ShowsThen {A} text V S T front f =
    S front f ⊎ ((a : A) × V a × (later : List ℕ) × (front ≡ text a ++ later) × T a later f)

-- ---- a part that is judged once it is read
-- it is valid, and no fault is found in it
abbrev pub ValidJudged : {A : Type 0} → (A → Type 0) → (A → Option Fault) → A → Type 0
ValidJudged V judge a = V a × (judge a ≡ None)

-- the part itself shows it, or the part is spelled and the judgement on it is that fault
abbrev pub ShowsJudged : {A : Type 0} → (A → List ℕ) → (A → Type 0) → Fronts → (A → Option Fault) → Fronts
ShowsJudged {A} text V S judge front f = S front f ⊎ ((a : A) × V a × (front ≡ text a) × (judge a ≡ Some f))

-- ---- a tag, and one of two parts behind it
-- one tag before the one, another before the other
abbrev pub text_either : {A B : Type 0} → ℕ → (A → List ℕ) → ℕ → (B → List ℕ) → A ⊎ B → List ℕ
text_either m s n t (inl a) = m ∷ s a
text_either m s n t (inr b) = n ∷ t b

-- the front is a tag that is neither
abbrev pub IsStrayTag : ℕ → ℕ → List ℕ → Type 0
IsStrayTag m n front = (tag : ℕ) × (front ≡ tag ∷ []) × (tag == m ≡ false) × (tag == n ≡ false)

-- the tag shows the fault by being neither, or what stands behind a tag shows it
abbrev pub ShowsEither : ℕ → Fronts → ℕ → Fronts → Fault → Fronts
ShowsEither m S n T fault front f =
    (IsStrayTag m n front × (f ≡ fault))
    ⊎ (((later : List ℕ) × (front ≡ m ∷ later) × S later f) ⊎ ((later : List ℕ) × (front ≡ n ∷ later) × T later f))

-- ---- nothing may stand there
-- it shows at once
abbrev pub ShowsFail : Fault → Fronts
ShowsFail fault front f = (front ≡ []) × (f ≡ fault)

-- ---- one of two formats, as a test says
-- the one or the other, as a test says
abbrev pub ShowsIf : Bool → Fronts → Fronts → Fronts
ShowsIf true S T = S
ShowsIf false S T = T
