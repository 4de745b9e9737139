-- Which form a line of a live host has.
use Rattle.std.specs.Prelude.{◌&&◌, ◌||◌, nat_eq, Bool, List, [], ◌∷◌, codes, Option, unwrap_or, if◌then◌else◌}
use lib.Pointwise.{pointwise}
use Rattle.line_script.specs.Script.{Bytes}
use Rattle.line_request.specs.Lines.{meaning_in}
use Rattle.line_request.specs.declared.form.Form.{Form}
use Rattle.line_request.specs.declared.form.Form.TheVariants as form

-- a field is this word
abbrev pub is_word : Bytes → Bytes → Bool
is_word = pointwise nat_eq

-- the first word is that of an envelope which reaches a node, and a star stands in the place of the node
abbrev pub is_for_all : Bytes → Bytes → Bool
is_for_all word star = is_word star (codes "*") && (is_word word (codes "deliver") || is_word word (codes "say"))

-- by the first word, or by the first and the third
abbrev pub form_by_star : List Bytes → Form
form_by_star (word ∷ number ∷ star ∷ fields) = if is_for_all word star then form.ForAll else form.Script
form_by_star fields = form.Script

-- by only the first word
abbrev pub form_by_word : Bytes → Option Form
form_by_word =
    meaning_in
    ((codes "net", form.Net) ∷ (codes "drop", form.Drop) ∷ (codes "left", form.Left) ∷ (codes "show", form.Show) ∷ [])

-- the form of a line with these fields
abbrev pub form_in : List Bytes → Form
form_in [] = form.Script
form_in (word ∷ fields) = unwrap_or (form_by_word word) (form_by_star (word ∷ fields))
