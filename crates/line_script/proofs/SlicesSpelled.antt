-- Slices that a word spells are what it is read as.
use Rattle.std.proofs.Common.{◌≡◌, ◌∙◌, ℕ, zero, suc, ◌+◌, ◌^◌, ◌<◌, ◌≤◌, Bool, true, false, List, [], ◌∷◌, ◌++◌, length, take, drop, refl, sym, ap, subst, arith, append_assoc, one-add}
use Rattle.std.specs.Prelude.{◌==◌, ◌&&◌, Option, Some, None, Result, Ok, Err, IfOk, IfSome, IsSome, ◌↔◌, option_map, option_and_then, nat_le, nat_lt, if◌then◌else◌}
use Rattle.std.specs.List.{list_all}
use Rattle.std.specs.Char.{is_ascii_alphanumeric}
use Rattle.std.proofs.lemmas.List.{nil_from_length}
use Rattle.std.proofs.Math.Seq.{take-append_seam, drop-append_seam}
use Rattle.std.proofs.lemmas.Bool.Decides.{nat_tests}
use Rattle.scp_types.specs.Trees.{Members, none, node, inner, Slices, IsNested, HaveThresholds, depth_of, member_count}
use Rattle.scp_types.specs.Shape.{members_of}
use Rattle.scp_types.specs.declared.nested.Member.{Member}
use Rattle.scp_types.specs.declared.nested.Member.TheVariants.{Node, Set}
use Rattle.line_script.specs.Script.{Bytes}
use Rattle.line_script.specs.Values.{is_plain, is_lower_hex, is_lower_digit}
use Rattle.line_script.specs.Numbers.{is_digit, decimal as number}
use Rattle.line_script.specs.Names.{bytes_of_result, is_short_name, name_of_bytes, name_with_zeros, word_name}
use Rattle.line_script.specs.Words.{is_decimal, word_threshold}
use Rattle.line_script.specs.Fronts.{SetReader, plain_count, plain_part, behind_plain, threshold_front, member_front, with_more, members_front, members_in, set_of, set_front, inner_front}
use Rattle.line_script.specs.Slices.{SpellsMembers, SpellsSlices, AreSlices, SlicesSpelledOnce}
use Rattle.line_script.specs.Slices.SpellsMembers.{nobody, name, set}
use Rattle.line_script.proofs.ScriptLemmas.{both_true}
use Rattle.line_script.proofs.RunLaws.{append_nothing}
use Rattle.line_script.proofs.SlicesRead.{same_pairs, sets_found, inner_found}

-- ---- words are of letters and digits

pub all_pass : (p q : ℕ → Bool) → ((b : ℕ) → p b ≡ true → q b ≡ true) → (word : Bytes) → list_all p word ≡ true → list_all q word ≡ true
all_pass p q h [] e = refl
all_pass p q h (b ∷ more) e =
    let both = both_true (p b) (list_all p more) e in
    rw (h b both.0, all_pass p q h more both.1) refl

digit_plain : (b : ℕ) → is_digit b ≡ true → is_ascii_alphanumeric b ≡ true
digit_plain b e = grind (arith, nat_tests)

pub lower_plain : (b : ℕ) → is_lower_digit b ≡ true → is_ascii_alphanumeric b ≡ true
lower_plain b e = grind (arith, nat_tests)

pub number_plain : (word : Bytes) (bound n : ℕ) → (if is_decimal word && nat_lt (number word) bound then Some (number word) else None) ≡ Some n → is_plain word ≡ true
number_plain word bound n e = go (is_decimal word) (nat_lt (number word) bound) refl e
  where
    go : (is below : Bool) → is_decimal word ≡ is → (if is && below then Some (number word) else None) ≡ Some n → is_plain word ≡ true
    go true below f g =
        let outer = both_true (nat_lt 0 (length word) && list_all is_digit word) _ f in
        all_pass is_digit is_ascii_alphanumeric digit_plain word (both_true (nat_lt 0 (length word)) (list_all is_digit word) outer.0).1
    go false below f g = cc

pub name_plain : (word : Bytes) (u : ℕ) → word_name word ≡ Some u → is_plain word ≡ true
name_plain word u e = go (length word == 64) (is_lower_hex word) (is_short_name word) (nat_le (length word) 32) refl refl e
  where
    go : (long lower short fits : Bool) → is_lower_hex word ≡ lower → is_short_name word ≡ short
        → option_map name_of_bytes (if long then (if lower then bytes_of_result (Rattle.hex.specs.Hex.decode_of word) else None) else if short && fits then Some (name_with_zeros word) else None) ≡ Some u → is_plain word ≡ true
    go true true short fits f g h = all_pass is_lower_digit is_ascii_alphanumeric lower_plain word f
    go true false short fits f g h = cc
    go false lower true fits f g h = (both_true (nat_lt 0 (length word)) (is_plain word) g).1
    go false lower false fits f g h = cc

-- ---- the letters and digits at the front

count_at : (word : Bytes) (b : ℕ) (behind : Bytes) → is_plain word ≡ true → is_ascii_alphanumeric b ≡ false → plain_count (word ++ b ∷ behind) ≡ length word
unfolding plain_count
count_at [] b behind plain other = rw other refl
count_at (c ∷ word) b behind plain other =
    let both = both_true (is_ascii_alphanumeric c) (is_plain word) plain in
    rw both.0 (ap (λ n. 1 + n) (count_at word b behind both.1 other) ∙ one-add (length word))

part_at : (word : Bytes) (b : ℕ) (behind : Bytes) → is_plain word ≡ true → is_ascii_alphanumeric b ≡ false → plain_part (word ++ b ∷ behind) ≡ word
part_at word b behind plain other = ap (λ n. take n (word ++ b ∷ behind)) (count_at word b behind plain other) ∙ take-append_seam word (b ∷ behind)

behind_at : (word : Bytes) (b : ℕ) (behind : Bytes) → is_plain word ≡ true → is_ascii_alphanumeric b ≡ false → behind_plain (word ++ b ∷ behind) ≡ b ∷ behind
behind_at word b behind plain other = ap (λ n. drop n (word ++ b ∷ behind)) (count_at word b behind plain other) ∙ drop-append_seam word (b ∷ behind)

-- a name before a comma or a closing bracket
named_member : (read : SetReader) (word : Bytes) (u b : ℕ) (behind : Bytes) → word_name word ≡ Some u → is_ascii_alphanumeric b ≡ false → (b == 91) ≡ false
    → member_front read (word ++ b ∷ behind) ≡ Some (Node u, b ∷ behind)
named_member read word u b behind is other no_set =
    let plain = name_plain word u is in
    rw (part_at word b behind plain other, behind_at word b behind plain other, no_set, is) refl

set_member : (read : SetReader) (digits behind : Bytes) (k : ℕ) (q : Slices) (after : Bytes) → word_threshold digits ≡ Some k → read (digits ++ 91 ∷ behind) ≡ Some (q, after)
    → member_front read (digits ++ 91 ∷ behind) ≡ Some (Set q, after)
set_member read digits behind k q after is found =
    rw (behind_at digits 91 behind (number_plain digits (2 ^ 8) k is) refl, found) refl

threshold_at : (digits behind : Bytes) (k : ℕ) → word_threshold digits ≡ Some k → threshold_front (digits ++ 91 ∷ behind) ≡ Some (k, behind)
threshold_at digits behind k is =
    let plain = number_plain digits (2 ^ 8) k is in
    rw (part_at digits 91 behind plain refl, behind_at digits 91 behind plain refl, is) refl

-- ---- what is spelled is read

no_text : {own : Members} {text : Bytes} → SpellsMembers own text → own ≡ none → text ≡ []
no_text nobody e = refl
no_text (name word more f is rest) e = cc
no_text (set digits inside more f is own rest) e = cc

-- what stands behind a member is a comma or the closing bracket
record Marked (text : Bytes) : Type 0 where
  pub mark : ℕ
  pub behind : Bytes
  pub parts : text ≡ mark ∷ behind
  pub other : is_ascii_alphanumeric mark ≡ false
  pub no_set : (mark == 91) ≡ false

marked : {own : Members} {more : Bytes} → SpellsMembers own more → (tail : Bytes) → Marked (more ++ 93 ∷ tail)
marked nobody tail = record { mark = 93; behind = tail; parts = refl; other = refl; no_set = refl }
marked (name word more e is rest) tail = record { mark = 44; behind = (word ++ more) ++ 93 ∷ tail; parts = ap (λ bs. bs ++ 93 ∷ tail) e; other = refl; no_set = refl }
marked (set digits inside more e is own rest) tail =
    record { mark = 44; behind = (digits ++ 91 ∷ (inside ++ 93 ∷ more)) ++ 93 ∷ tail; parts = ap (λ bs. bs ++ 93 ∷ tail) e; other = refl; no_set = refl }

abbrev ReadsAll : SetReader → ℕ → Members → Bytes → Bytes → Type 0
ReadsAll read room own text tail = (ms : List Member) × (members_front read room (text ++ 93 ∷ tail) ≡ Some (ms, tail)) × (members_of ms ≡ own)

-- the members behind one
abbrev ReadsMore : SetReader → ℕ → Member → Members → Bytes → Bytes → Type 0
ReadsMore read room m own more tail = (ms : List Member) × (with_more m (more ++ 93 ∷ tail) (members_front read room) ≡ Some (m ∷ ms, tail)) × (members_of ms ≡ own)

comma_behind : (read : SetReader) (room : ℕ) (m : Member) (own : Members) (more text tail : Bytes) → more ≡ 44 ∷ text → ReadsAll read room own text tail → ReadsMore read room m own more tail
comma_behind read room m own more text tail e all =
    (all.0, ap (λ bs. with_more m (bs ++ 93 ∷ tail) (members_front read room)) e ∙ ap (option_map {U = List Member × Bytes} (λ r. (m ∷ r.0, r.1))) all.1, all.2)

continues : {own : Members} {more : Bytes} (read : SetReader) (room : ℕ) (m : Member) (tail : Bytes) → SpellsMembers own more
    → ((text : Bytes) → SpellsMembers own (44 ∷ text) → ReadsAll read room own text tail) → ReadsMore read room m own more tail
continues read room m tail nobody all = ([], refl, refl)
continues read room m tail (name word more e is rest) all = comma_behind read room m _ _ (word ++ more) tail e (all (word ++ more) (name word more refl is rest))
continues read room m tail (set digits inside more e is own rest) all =
    comma_behind read room m _ _ (digits ++ 91 ∷ (inside ++ 93 ∷ more)) tail e (all (digits ++ 91 ∷ (inside ++ 93 ∷ more)) (set digits inside more refl is own rest))

one_member : (read : SetReader) (room : ℕ) (m : Member) (own : Members) (text word more tail : Bytes) → 44 ∷ text ≡ 44 ∷ (word ++ more) → member_front read (word ++ (more ++ 93 ∷ tail)) ≡ Some (m, more ++ 93 ∷ tail)
    → (rest : ReadsMore read room m own more tail) → members_front read (suc room) (text ++ 93 ∷ tail) ≡ Some (m ∷ rest.0, tail)
one_member read room m own text word more tail e found rest =
    let parts : text ++ 93 ∷ tail ≡ word ++ (more ++ 93 ∷ tail) = ap (λ bs. drop 1 bs ++ 93 ∷ tail) e ∙ append_assoc word more (93 ∷ tail) in
    ap (members_front read (suc room)) parts ∙ ap (option_and_then (λ r. with_more r.0 r.1 (members_front read room))) found ∙ rest.1

name_at : {own : Members} (read : SetReader) (word more tail : Bytes) (u : ℕ) → word_name word ≡ Some u → SpellsMembers own more → member_front read (word ++ (more ++ 93 ∷ tail)) ≡ Some (Node u, more ++ 93 ∷ tail)
name_at read word more tail u is rest =
    let behind = marked rest tail in
    subst (λ bs. member_front read (word ++ bs) ≡ Some (Node u, bs)) (sym behind.parts) (named_member read word u behind.mark behind.behind is behind.other behind.no_set)

set_at : (read : SetReader) (digits inside more tail : Bytes) (k : ℕ) (own : Members) → word_threshold digits ≡ Some k → (all : ReadsAll read 64 own inside (more ++ 93 ∷ tail))
    → set_front read (digits ++ 91 ∷ (inside ++ 93 ∷ (more ++ 93 ∷ tail))) ≡ Some (set_of k all.0, more ++ 93 ∷ tail)
unfolding members_in
set_at read digits inside more tail k own is all =
    rw (threshold_at digits (inside ++ 93 ∷ (more ++ 93 ∷ tail)) k is, all.1) refl

reads : (own : Members) (levels room : ℕ) (text tail : Bytes) → SpellsMembers own (44 ∷ text) → HaveThresholds own → depth_of own ≤ levels → member_count own ≤ room
    → ReadsAll (inner_front levels) room own text tail
reads none levels room text tail s h d c = let never : 44 ∷ text ≡ [] = no_text s refl in cc
reads (node u rest) levels zero text tail s h d c = absurd (omega (arith, c))
reads (node u rest) levels (suc room) text tail (name word more e is s) h d c =
    let read = inner_front levels in
    let others = continues read room (Node u) tail s (λ t spelled. reads rest levels room t tail spelled h d (omega (arith, c))) in
    (Node u ∷ others.0, one_member read room (Node u) rest text word more tail e (name_at read word more tail u is s) others, ap (node u) others.2)
reads (inner k own rest) levels zero text tail s h d c = absurd (omega (arith, c))
reads (inner k own rest) zero (suc room) text tail s h d c = absurd (omega (arith, d))
reads (inner k own rest) (suc levels) (suc room) text tail (set digits inside more e is inner_spelled s) h d c =
    let read = inner_front (suc levels) in
    let all = reads own levels 64 inside (more ++ 93 ∷ tail) inner_spelled h.1 (omega (arith, d)) h.0.2 in
    let m = Set (set_of k all.0) in
    let others = continues read room m tail s (λ t spelled. reads rest (suc levels) room t tail spelled h.2 (omega (arith, d)) (omega (arith, c))) in
    let parts : (digits ++ 91 ∷ (inside ++ 93 ∷ more)) ++ 93 ∷ tail ≡ digits ++ 91 ∷ (inside ++ 93 ∷ (more ++ 93 ∷ tail)) =
    append_assoc digits (91 ∷ (inside ++ 93 ∷ more)) (93 ∷ tail) ∙ ap (λ bs. digits ++ 91 ∷ bs) (append_assoc inside (93 ∷ more) (93 ∷ tail)) in
    let found = set_member read digits (inside ++ 93 ∷ (more ++ 93 ∷ tail)) k (set_of k all.0) (more ++ 93 ∷ tail) is
    (set_at (inner_front levels) digits inside more tail k own is all) in
    let whole : text ++ 93 ∷ tail ≡ digits ++ 91 ∷ (inside ++ 93 ∷ (more ++ 93 ∷ tail)) = ap (λ bs. drop 1 bs ++ 93 ∷ tail) e ∙ parts in (
      m ∷ others.0,
      ap (members_front read (suc room)) whole ∙ ap (option_and_then (λ r. with_more r.0 r.1 (members_front read room))) found ∙ others.1,
      ap (λ ms. inner k ms (members_of others.0)) all.2 ∙ ap (inner k own) others.2,
    )

-- slices that a word spells stand at the front of what begins with it
pub spelled_front : (q : Slices) (word tail : Bytes) → SpellsSlices q word → IsNested q → set_front (inner_front 8) (word ++ tail) ≡ Some (q, tail)
unfolding members_in
spelled_front q word tail h rules =
    let all = reads q.members 8 64 h.inside tail h.members rules.inner_sets rules.levels rules.outer.2 in
    let parts : word ++ tail ≡ h.digits ++ 91 ∷ (h.inside ++ 93 ∷ tail) =
    ap (λ bs. bs ++ tail) h.parts ∙ append_assoc h.digits (91 ∷ (h.inside ++ 93 ∷ [])) tail ∙ ap (λ bs. h.digits ++ 91 ∷ bs) (append_assoc h.inside (93 ∷ []) tail) in
    let same : set_of q.threshold all.0 ≡ q = λ i. record { threshold = q.threshold; members = all.2 i } in
    ap (set_front (inner_front 8)) parts ∙ (rw (threshold_at h.digits (h.inside ++ 93 ∷ tail) q.threshold h.threshold, all.1) refl) ∙ ap (λ p. Some (p, tail)) same

pub spelled_whole : (q : Slices) (word : Bytes) → SpellsSlices q word → IsNested q → set_front (inner_front 8) word ≡ Some (q, [])
spelled_whole q word h rules = ap (set_front (inner_front 8)) (sym (append_nothing word)) ∙ spelled_front q word [] h rules

pub slices_spelled_once : SlicesSpelledOnce
slices_spelled_once p q word g g_rules h h_rules = (same_pairs p q [] [] (sym (spelled_whole p word g g_rules) ∙ spelled_whole q word h h_rules)).0

-- ---- as the code reads them

not_both : {A : Type 0} (x : A) (r : Option A) → None ≡ r → r ≡ Some x → ⊥
not_both x None e f = cc
not_both x (Some y) e f = cc

pub nothing_read : (word : Bytes) → None ≡ set_front (inner_front 8) word → AreSlices word None
nothing_read word e q h rules = not_both (q, []) (set_front (inner_front 8) word) e (spelled_whole q word h rules)

pub more_read : (word : Bytes) (made : Slices) (rest : Bytes) → Some (made, rest) ≡ set_front (inner_front 8) word → 0 < length rest → AreSlices word None
more_read word made rest e some q h rules =
    let none_left : rest ≡ [] = (same_pairs made q rest [] (e ∙ spelled_whole q word h rules)).1 in
    let count : length rest ≡ 0 = ap (λ (bs : Bytes). length bs) none_left in
    absurd (omega (arith, some, count))

whole_word : (word : Bytes) (made : Slices) → Some (made, []) ≡ set_front (inner_front 8) word → SpellsSlices made word
whole_word word made e =
    let found = sets_found (inner_front 8) (inner_found 8) word made [] (sym e) in
    subst (SpellsSlices made) (sym (found.1 ∙ append_nothing found.0)) found.2

none_made : (made : Slices) (r : Option Slices) → r ≡ None → (IsSome r ↔ IsNested made) → IsNested made → ⊥
none_made made None e exactly rules = let never = exactly.1 rules in cc
none_made made (Some q) e exactly rules = cc

pub slices_read : (word : Bytes) (made : Slices) (rest : Bytes) (o : Option Slices) → Some (made, rest) ≡ set_front (inner_front 8) word → rest ≡ []
    → (IsSome o ↔ IsNested made) → IfSome o (λ n. n ≡ made) → AreSlices word o
slices_read word made rest (Some q) e empty exactly some =
    let whole = ap (λ bs. Some (made, bs)) (sym empty) ∙ e in
    let spelled = whole_word word made whole in
    (subst (λ p. SpellsSlices p word) (sym some) spelled, subst IsNested (sym some) (exactly.0 refl))
slices_read word made rest None e empty exactly some =
    λ q h rules.
    let same : made ≡ q = (same_pairs made q rest [] (e ∙ spelled_whole q word h rules)).0 in
    none_made made None refl exactly (subst IsNested (sym same) rules)

pub slices_answer : {E : Type 0} (word : Bytes) (made : Slices) (rest : Bytes) (r : Result (Option Slices) E) → Some (made, rest) ≡ set_front (inner_front 8) word → length rest ≡ 0
    → IfOk r (λ o. IsSome o ↔ IsNested made) → IfOk r (λ o. IfSome o (λ n. n ≡ made)) → IfOk r (λ o. AreSlices word o)
slices_answer word made rest (Ok o) e empty exactly some = slices_read word made rest o e (nil_from_length rest empty) exactly some
slices_answer word made rest (Err x) e empty exactly some = tt
