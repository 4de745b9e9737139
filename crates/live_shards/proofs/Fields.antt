-- The fields of a line are those that a cut at each space gives.
use Rattle.std.proofs.Common.{◌≡◌, ◌∙◌, ℕ, List, [], ◌∷◌, ◌++◌, true, false, refl, sym, ap, subst}
use Rattle.std.specs.Prelude.{◌==◌}
use Rattle.std.specs.List.{join_with_byte, list_all, slice_split}
use Rattle.std.specs.Char.{is_ascii_graphic}
use Rattle.std.proofs.Common.{arith}
use Rattle.std.proofs.lemmas.Bool.Decides.{nat_tests}
use Rattle.line_script.specs.Script.{AreFields, Bytes, is_field, IsSkipped}
use Rattle.line_script.proofs.ScriptLemmas.{both_true}
use Rattle.live_shards.specs.Asked.{cut_at_spaces}

not-space : (b : ℕ) → is_ascii_graphic b ≡ true → (b == 32) ≡ false
not-space b e = grind (arith, nat_tests)

one-field : (field : Bytes) → list_all is_ascii_graphic field ≡ true → slice_split (λ b. b == 32) field ≡ field ∷ []
one-field [] e = refl
one-field (b ∷ more) e =
    let both = both_true (is_ascii_graphic b) (list_all is_ascii_graphic more) e in
    simp (not-space b both.0, one-field more both.1)

first-field : (field rest : Bytes) → list_all is_ascii_graphic field ≡ true
    → slice_split (λ b. b == 32) (field ++ 32 ∷ rest) ≡ field ∷ slice_split (λ b. b == 32) rest
first-field [] rest e = refl
first-field (b ∷ more) rest e =
    let both = both_true (is_ascii_graphic b) (list_all is_ascii_graphic more) e in
    simp (not-space b both.0, first-field more rest both.1)

graphic : (field : Bytes) → is_field field ≡ true → list_all is_ascii_graphic field ≡ true
graphic [] e = refl
graphic (b ∷ more) e = e

-- fields with a space between each two
cut : (field : Bytes) (more : List Bytes) → list_all is_field (field ∷ more) ≡ true
    → slice_split (λ b. b == 32) (join_with_byte 32 (field ∷ more)) ≡ field ∷ more
cut field [] e = one-field field (graphic field (both_true (is_field field) true e).0)
cut field (next ∷ more) e =
    let both = both_true (is_field field) (list_all is_field (next ∷ more)) e in
    first-field field (join_with_byte 32 (next ∷ more)) (graphic field both.0) ∙ ap (λ fields. field ∷ fields) (cut next more both.1)

pub fields_by_cut : (line : Bytes) (fields : List Bytes) → (IsSkipped line → ⊥) → AreFields line fields → cut_at_spaces line ≡ fields
fields_by_cut line [] whole are = absurd (whole (subst IsSkipped are.0 (refl, refl)))
fields_by_cut line (field ∷ more) whole are = ap cut_at_spaces (sym are.0) ∙ cut field more are.1
