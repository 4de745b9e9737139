-- Answers that are kept by the numbers of forms.
use Rattle.std.specs.Prelude.{◌≡◌, ◌⊎◌, ℕ, List, Bool, true, false, Option, Some, None}
use Rattle.scp_bits.specs.Places.{bit_of, Numbered}
use Rattle.scp_bits.specs.Met.{has_needed}
use Rattle.scp_bits.specs.declared.answers.Answers.{Answers}

-- of the numbers that are noted now, at most n was not noted before
abbrev pub AreNoted : ℕ → List ℕ → List ℕ → Type 0
AreNoted n old now = (i : ℕ) → bit_of now i ≡ 1 → (bit_of old i ≡ 1) ⊎ (n ≡ i)

-- of the numbers that are noted now, at most n was not noted before, and only if this answer was given
abbrev pub AreAnswers : ℕ → Type 0 → List ℕ → List ℕ → Type 0
AreAnswers n given old now = (i : ℕ) → bit_of now i ≡ 1 → (bit_of old i ≡ 1) ⊎ ((n ≡ i) × given)

-- no answer is kept
abbrev pub IsNothing : Answers → Type 0
IsNothing a = (i : ℕ) → (bit_of a.met i ≡ 0) × (bit_of a.unmet i ≡ 0)

-- the answer is an earlier one for the form's number, or what holds of its set at these places; what is kept then is
-- what was kept before, and this answer
pub record IsAnswer (f : Numbered) (ws : List ℕ) (old now : Answers) (answer : Bool) : Type 0 where
  pub kept_met : AreAnswers f.number (has_needed f.set ws ≡ true) old.met now.met
  pub kept_unmet : AreAnswers f.number (has_needed f.set ws ≡ false) old.unmet now.unmet
  pub holds : answer ≡ true → (bit_of old.met f.number ≡ 1) ⊎ (has_needed f.set ws ≡ true)
  pub fails : answer ≡ false → (bit_of old.unmet f.number ≡ 1) ⊎ (has_needed f.set ws ≡ false)

-- the answer for a place: if there is no form, its slices are not met, and the answers stay as they are
abbrev pub IsAnswerAt : Option Numbered → List ℕ → Answers → Answers → Bool → Type 0
IsAnswerAt None ws old now answer = (now ≡ old) × (answer ≡ false)
IsAnswerAt (Some f) ws old now answer = IsAnswer f ws old now answer
