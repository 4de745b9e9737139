-- Lines are what `AreLines` says, and fields what a cut at each space gives.
use Rattle.std.proofs.Common.{◌≡◌, ◌∙◌, ℕ, ◌+◌, ◌-◌, ◌<◌, List, [], ◌∷◌, ◌++◌, Bool, true, false, refl, sym, ap, subst, length, take, drop, arith, cond, one-add, add-one}
use Rattle.std.specs.Prelude.{◌==◌, ◌&&◌, ◌≤◌, not, nat_lt, if◌then◌else◌, Some, None, position}
use Rattle.std.specs.List.{enumerate_from, join_with_byte, list_all, onto_first, slice_split, position_or_len}
use Rattle.std.specs.Char.{is_ascii_graphic}
use Rattle.std.proofs.lemmas.Bool.{ltb-false}
use Rattle.std.proofs.lemmas.List.{take_all, length-drop, length-take}
use Rattle.std.proofs.Math.ListN.{drop_of_length-le}
use Rattle.std.proofs.lemmas.Bool.Decides.{nat_tests, Decides-eqb}
use Rattle.std.proofs.lemmas.List.Splits.{join_with_byte-slice_split}
use Rattle.std.proofs.lemmas.List.Folds.{list_all-append}
use Rattle.line_script.specs.Script.{Bytes, lines_with_feeds, text_with_last_feed, has_no_feed, AreLines, lines_of, numbered_lines, is_field, AreFields, is_ascii, is_no_record, IsBad}

pub both_true : (a b : Bool) → (a && b) ≡ true → (a ≡ true) × (b ≡ true)
both_true true b e = (refl, e)
both_true false b e = cc

-- ---- lines

closed_not_empty : (c : ℕ) (more : Bytes) → [] ≡ text_with_last_feed (c ∷ more) → ⊥
closed_not_empty c [] e = elim (c == 10) as (λ b. [] ≡ (if b then c ∷ [] else c ∷ 10 ∷ []) → ⊥) [ true ↦ λ h. cc | false ↦ λ h. cc ] e
closed_not_empty c (d ∷ more) e = cc

onto_ended : (b c : ℕ) (more : Bytes) (lines : List Bytes) → lines_with_feeds lines ≡ text_with_last_feed (c ∷ more)
    → lines_with_feeds (onto_first b lines) ≡ b ∷ text_with_last_feed (c ∷ more)
onto_ended b c more [] e = absurd (closed_not_empty c more e)
onto_ended b c more (line ∷ lines) e = ap (λ bytes. b ∷ bytes) e

is_feed_byte : (b : ℕ) → (b == 10) ≡ true → b ≡ 10
is_feed_byte b e = (Decides-eqb b 10).0 e

cut_byte : (b : ℕ) (more : Bytes) (is_feed : Bool) → (b == 10) ≡ is_feed
    → lines_with_feeds (lines_of more) ≡ text_with_last_feed more
    → lines_with_feeds (if is_feed then [] ∷ lines_of more else onto_first b (lines_of more)) ≡ text_with_last_feed (b ∷ more)
cut_byte b [] true e ih = simp e (ap (λ x. x ∷ []) (sym (is_feed_byte b e)))
cut_byte b [] false e ih = simp e
cut_byte b (c ∷ more) true e ih =
    ap (λ bytes. 10 ∷ bytes) ih ∙ ap (λ x. x ∷ text_with_last_feed (c ∷ more)) (sym (is_feed_byte b e))
cut_byte b (c ∷ more) false e ih = onto_ended b c more (lines_of (c ∷ more)) ih

ended_lines : (text : Bytes) → lines_with_feeds (lines_of text) ≡ text_with_last_feed text
ended_lines [] = refl
ended_lines (b ∷ more) = cut_byte b more (b == 10) refl (ended_lines more)

onto_no_feed : (b : ℕ) (lines : List Bytes) → (b == 10) ≡ false
    → list_all has_no_feed lines ≡ true → list_all has_no_feed (onto_first b lines) ≡ true
onto_no_feed b [] e h = simp e
onto_no_feed b (line ∷ lines) e h = simp e h

no_feed_byte : (b : ℕ) (more : Bytes) (is_feed : Bool) → (b == 10) ≡ is_feed
    → list_all has_no_feed (lines_of more) ≡ true
    → list_all has_no_feed (if is_feed then [] ∷ lines_of more else onto_first b (lines_of more)) ≡ true
no_feed_byte b more true e ih = ih
no_feed_byte b more false e ih = onto_no_feed b (lines_of more) e ih

no_feed_lines : (text : Bytes) → list_all has_no_feed (lines_of text) ≡ true
no_feed_lines [] = refl
no_feed_lines (b ∷ more) = no_feed_byte b more (b == 10) refl (no_feed_lines more)

pub lines_are_lines : (text : Bytes) → AreLines text (lines_of text)
lines_are_lines text = (ended_lines text, no_feed_lines text)

-- ---- the first line

abbrev feed_at : Bytes → ℕ
feed_at = position_or_len (λ b. b == 10)

cut_on : (b c : ℕ) (more : Bytes) (n : ℕ)
    → lines_of (c ∷ more) ≡ take n (c ∷ more) ∷ lines_of (drop (n + 1) (c ∷ more))
    → onto_first b (lines_of (c ∷ more))
    ≡ take (1 + n) (b ∷ c ∷ more) ∷ lines_of (drop (1 + n + 1) (b ∷ c ∷ more))
cut_on b c more n e = ap (onto_first b) e ∙ simp (one-add, add-one)

cut_at : (b : ℕ) (more : Bytes) (is_feed : Bool) → (b == 10) ≡ is_feed
    → ((0 < length more) → lines_of more ≡ take (feed_at more) more ∷ lines_of (drop (feed_at more + 1) more))
    → (if is_feed then [] ∷ lines_of more else onto_first b (lines_of more))
    ≡ take (cond (not is_feed) (1 + feed_at more) 0) (b ∷ more)
    ∷ lines_of (drop (cond (not is_feed) (1 + feed_at more) 0 + 1) (b ∷ more))
cut_at b more true e ih = refl
cut_at b [] false e ih = refl
cut_at b (c ∷ more) false e ih = cut_on b c more (feed_at (c ∷ more)) (ih (omega arith))

-- the first line ends at the first line feed, or at the end
first_line_cut : (text : Bytes) → 0 < length text
    → lines_of text ≡ take (feed_at text) text ∷ lines_of (drop (feed_at text + 1) text)
first_line_cut [] e = absurd (omega arith)
first_line_cut (b ∷ more) e = cut_at b more (b == 10) refl (first_line_cut more)

found_at : (is_in : Bool) (m n : ℕ) → cond is_in (Some m) None ≡ Some n → m ≡ n
found_at true m n e = cc
found_at false m n e = cc

not_found : (is_in : Bool) (m : ℕ) → cond is_in (Some m) None ≡ None → is_in ≡ false
not_found true m e = cc
not_found false m e = refl

-- as a slice of the text is cut
pub line_before_feed : (text : Bytes) (n : ℕ) → 0 < length text
    → position (λ b. b == 10) text ≡ Some n
    → lines_of text ≡ take n text ∷ lines_of (take (length text - (n + 1)) (drop (n + 1) text))
line_before_feed text n e found =
    let whole : take (length text - (n + 1)) (drop (n + 1) text) ≡ drop (n + 1) text =
    take_all (length text - (n + 1)) (drop (n + 1) text) (omega (arith, length-drop (n + 1) text)) in
    let cut : lines_of text ≡ take n text ∷ lines_of (drop (n + 1) text) =
    subst (λ m. lines_of text ≡ take m text ∷ lines_of (drop (m + 1) text))
    (found_at (nat_lt (feed_at text) (length text)) (feed_at text) n found)
    (first_line_cut text e) in
    rw whole cut

pub line_without_feed : (text : Bytes) → 0 < length text
    → position (λ b. b == 10) text ≡ None → lines_of text ≡ text ∷ []
line_without_feed text e missing =
    let past : length text ≤ feed_at text =
    ltb-false (feed_at text) (length text) (not_found (nat_lt (feed_at text) (length text)) (feed_at text) missing) in
    let whole : take (feed_at text) text ≡ text = take_all (feed_at text) text past in
    let rest : drop (feed_at text + 1) text ≡ [] = drop_of_length-le text (omega arith) in
    first_line_cut text e ∙ simp (whole, rest)

-- ---- the first of numbered lines, and those behind it

pub first_numbered : (left : ℕ × Bytes) (n : ℕ) (line rest : Bytes) → left.0 ≡ n → lines_of left.1 ≡ line ∷ lines_of rest
    → (more : List (ℕ × Bytes)) × (numbered_lines left ≡ (n, line) ∷ more)
first_numbered left n line rest e cut =
    let more = enumerate_from (left.0 + 1) (lines_of rest) in
    (more, ap (enumerate_from left.0) cut ∙ ap (λ k. (k, line) ∷ more) e)

abbrev second : List (ℕ × Bytes) → Bytes
second [] = []
second (l ∷ more) = l.1

abbrev behind : List (ℕ × Bytes) → List (ℕ × Bytes)
behind [] = []
behind (l ∷ more) = more

first_is_cut : (text line : Bytes) (n m : ℕ) (more : List (ℕ × Bytes)) → 0 < length text → numbered_lines (n, text) ≡ (m, line) ∷ more
    → (take (feed_at text) text ≡ line) × (enumerate_from (n + 1) (lines_of (drop (feed_at text + 1) text)) ≡ more)
first_is_cut text line n m more some e =
    let cut : (n, take (feed_at text) text) ∷ enumerate_from (n + 1) (lines_of (drop (feed_at text + 1) text)) ≡ (m, line) ∷ more =
    sym (ap (enumerate_from n) (first_line_cut text some)) ∙ e in
    (ap second cut, ap behind cut)

-- the first line, and the line feed behind it, are passed
pub behind_first : (text line : Bytes) (n m k : ℕ) (more : List (ℕ × Bytes)) → numbered_lines (n, text) ≡ (m, line) ∷ more
    → length line ≡ k → k < length text → numbered_lines (n + 1, drop (k + 1) text) ≡ more
behind_first text line n m k more e count inside =
    let is = first_is_cut text line n m more (omega (arith, inside)) e in
    let at : feed_at text ≡ k = omega (arith, inside, count, ap length is.0, length-take (feed_at text) text) in
    subst (λ f. enumerate_from (n + 1) (lines_of (drop (f + 1) text)) ≡ more) at is.1

-- the first line is all that is left
pub behind_last : (text line : Bytes) (n m k : ℕ) (more : List (ℕ × Bytes)) → numbered_lines (n, text) ≡ (m, line) ∷ more
    → length line ≡ k → length text ≤ k → [] ≡ more
behind_last [] line n m k more e count short = cc
behind_last (b ∷ text) line n m k more e count short =
    let is = first_is_cut (b ∷ text) line n m more (omega arith) e in
    let past : length (b ∷ text) ≤ feed_at (b ∷ text) = omega (arith, short, count, ap length is.0, length-take (feed_at (b ∷ text)) (b ∷ text)) in
    let none : drop (feed_at (b ∷ text) + 1) (b ∷ text) ≡ [] = drop_of_length-le (b ∷ text) (omega (arith, past)) in
    ap (λ rest. enumerate_from (n + 1) (lines_of rest)) (sym none) ∙ is.1

-- ---- fields

graphic_is_no_space : (b : ℕ) → is_ascii_graphic b ≡ true → (b == 32) ≡ false
graphic_is_no_space b e = grind (arith, nat_tests)

graphic_is_ascii : (b : ℕ) → is_ascii_graphic b ≡ true → nat_lt b 128 ≡ true
graphic_is_ascii b e = grind (arith, nat_tests)

no_space_field : (field : Bytes) → list_all is_ascii_graphic field ≡ true
    → slice_split (λ b. b == 32) field ≡ field ∷ []
no_space_field [] e = refl
no_space_field (b ∷ more) e =
    let both = both_true (is_ascii_graphic b) (list_all is_ascii_graphic more) e in
    simp (graphic_is_no_space b both.0, no_space_field more both.1)

cut_field : (field rest : Bytes) → list_all is_ascii_graphic field ≡ true
    → slice_split (λ b. b == 32) (field ++ 32 ∷ rest) ≡ field ∷ slice_split (λ b. b == 32) rest
cut_field [] rest e = refl
cut_field (b ∷ more) rest e =
    let both = both_true (is_ascii_graphic b) (list_all is_ascii_graphic more) e in
    simp (graphic_is_no_space b both.0, cut_field more rest both.1)

field_is_graphic : (field : Bytes) → is_field field ≡ true → list_all is_ascii_graphic field ≡ true
field_is_graphic [] e = refl
field_is_graphic (b ∷ more) e = e

pub field_of_graphic : (field : Bytes) → 1 ≤ length field
    → list_all is_ascii_graphic field ≡ is_field field
field_of_graphic [] e = absurd (omega arith)
field_of_graphic (b ∷ more) e = refl

-- fields are what a cut at each space gives
split_join : (field : Bytes) (more : List Bytes) → list_all is_field (field ∷ more) ≡ true
    → slice_split (λ b. b == 32) (join_with_byte 32 (field ∷ more)) ≡ field ∷ more
split_join field [] e =
    no_space_field field (field_is_graphic field (both_true (is_field field) true e).0)
split_join field (next ∷ more) e =
    let both = both_true (is_field field) (list_all is_field (next ∷ more)) e in
    cut_field field (join_with_byte 32 (next ∷ more)) (field_is_graphic field both.0)
    ∙ ap (λ fields. field ∷ fields) (split_join next more both.1)

graphic_all_ascii : (field : Bytes) → list_all is_ascii_graphic field ≡ true → is_ascii field ≡ true
graphic_all_ascii [] e = refl
graphic_all_ascii (b ∷ more) e =
    let both = both_true (is_ascii_graphic b) (list_all is_ascii_graphic more) e in
    simp (graphic_is_ascii b both.0, graphic_all_ascii more both.1)

join_ascii : (fields : List Bytes) → list_all is_field fields ≡ true
    → is_ascii (join_with_byte 32 fields) ≡ true
join_ascii [] e = refl
join_ascii (field ∷ []) e =
    graphic_all_ascii field (field_is_graphic field (both_true (is_field field) true e).0)
join_ascii (field ∷ next ∷ more) e =
    let both = both_true (is_field field) (list_all is_field (next ∷ more)) e in
    let here = graphic_all_ascii field (field_is_graphic field both.0) in
    list_all-append (λ b. nat_lt b 128) field (32 ∷ join_with_byte 32 (next ∷ more))
    ∙ simp (here, join_ascii (next ∷ more) both.1)

split_fields : (line : Bytes) (fields : List Bytes) → is_no_record line ≡ false → AreFields line fields
    → slice_split (λ b. b == 32) line ≡ fields
split_fields [] fields e are = cc
split_fields (b ∷ more) [] e are = cc
split_fields (b ∷ more) (field ∷ others) e are =
    ap (slice_split (λ b. b == 32)) (sym are.0) ∙ split_join field others are.1

pub not_ascii_is_bad : (line : Bytes) → is_ascii line ≡ false → IsBad line
not_ascii_is_bad line e = (
  λ skipped. let same : false ≡ true = sym e ∙ skipped.1 in cc,
  λ fields are. let same : false ≡ true = sym e ∙ ap is_ascii (sym are.0) ∙ join_ascii fields are.1 in cc,
)

pub no_fields_is_bad : (line : Bytes) → is_no_record line ≡ false
    → list_all is_field (slice_split (λ b. b == 32) line) ≡ false → IsBad line
no_fields_is_bad line e none = (
  λ skipped. let same : false ≡ true = sym e ∙ skipped.0 in cc,
  λ fields are.
      let same : false ≡ true =
      sym none ∙ ap (list_all is_field) (split_fields line fields e are) ∙ are.1 in
      cc,
)

pub split_are_fields : (line : Bytes) → list_all is_field (slice_split (λ b. b == 32) line) ≡ true
    → AreFields line (slice_split (λ b. b == 32) line)
split_are_fields line e = (join_with_byte-slice_split 32 line, e)
