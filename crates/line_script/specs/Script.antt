-- The lines of a script and the fields of a line.
use Rattle.std.specs.Prelude.{◌≡◌, ◌==◌, ◌++◌, ℕ, Bool, true, false, not, List, [], ◌∷◌, IsTrue}
use Rattle.std.specs.Prelude.{if◌then◌else◌, nat_lt}
use Rattle.std.specs.List.{enumerate_from, join_with_byte, list_all, onto_first}
use Rattle.std.specs.Char.{is_ascii_graphic}

-- bytes in a row, as numbers
abbrev pub Bytes : Type 0
Bytes = List ℕ

-- ---- lines

-- the lines, with a line feed (10) after each
abbrev pub lines_with_feeds : List Bytes → Bytes
lines_with_feeds [] = []
lines_with_feeds (line ∷ more) = line ++ 10 ∷ lines_with_feeds more

-- the text, with a line feed after its last line if it lacks one
abbrev pub text_with_last_feed : Bytes → Bytes
text_with_last_feed [] = []
text_with_last_feed (b ∷ []) = if b == 10 then b ∷ [] else b ∷ 10 ∷ []
text_with_last_feed (b ∷ c ∷ more) = b ∷ text_with_last_feed (c ∷ more)

abbrev pub has_no_feed : Bytes → Bool
has_no_feed line = list_all (λ b. not (b == 10)) line

-- the lines hold no line feed, and with one after each they are the text, of which the last may be
-- missing
abbrev pub AreLines : Bytes → List Bytes → Type 0
AreLines text lines = (lines_with_feeds lines ≡ text_with_last_feed text) × IsTrue (list_all has_no_feed lines)

-- the lines of a text, byte by byte
abbrev pub lines_of : Bytes → List Bytes
lines_of [] = []
lines_of (b ∷ more) = if b == 10 then [] ∷ lines_of more else onto_first b (lines_of more)

-- the lines of what is left of a text, of which the first has this number
abbrev pub numbered_lines : ℕ × Bytes → List (ℕ × Bytes)
numbered_lines left = enumerate_from left.0 (lines_of left.1)

-- ---- fields

-- there are bytes, and each is a printed character other than the space
abbrev pub is_field : Bytes → Bool
is_field [] = false
is_field (b ∷ more) = list_all is_ascii_graphic (b ∷ more)

-- the line is these fields, with one space (32) between each two
abbrev pub AreFields : Bytes → List Bytes → Type 0
AreFields line fields = (join_with_byte 32 fields ≡ line) × IsTrue (list_all is_field fields)

-- each byte is below 128
abbrev pub is_ascii : Bytes → Bool
is_ascii = list_all (λ b. nat_lt b 128)

-- the line is empty or a comment: it begins with `#` (35)
abbrev pub is_no_record : Bytes → Bool
is_no_record [] = true
is_no_record (b ∷ more) = b == 35

-- the line is ASCII, and empty or a comment
abbrev pub IsSkipped : Bytes → Type 0
IsSkipped line = IsTrue (is_no_record line) × IsTrue (is_ascii line)

-- the line is neither skipped nor fields
abbrev pub IsBad : Bytes → Type 0
IsBad line = ¬ IsSkipped line × ((fields : List Bytes) → ¬ AreFields line fields)
