-- Slices are read exactly.
use Rattle.std.proofs.Common.{◌≡◌, ◌∙◌, ℕ, zero, suc, Bool, true, false, List, [], ◌∷◌, ◌++◌, refl, sym, ap, subst, append_assoc}
use Rattle.std.specs.Prelude.{◌==◌, Option, Some, None, option_map, option_and_then, if◌then◌else◌}
use Rattle.std.proofs.lemmas.Bool.{eqb-true}
use Rattle.std.proofs.lemmas.List.{take-append-drop}
use Rattle.scp_types.specs.Trees.{Slices}
use Rattle.scp_types.specs.Shape.{members_of}
use Rattle.scp_types.specs.declared.nested.Member.{Member}
use Rattle.scp_types.specs.declared.nested.Member.TheVariants.{Node, Set}
use Rattle.line_script.specs.Script.{Bytes}
use Rattle.line_script.specs.Names.{word_name}
use Rattle.line_script.specs.Words.{word_threshold}
use Rattle.line_script.proofs.RunLaws.{append_nothing}
use Rattle.line_script.specs.Fronts.{SetReader, plain_part, behind_plain, threshold_and_rest, threshold_front, node_and_rest, member_with, member_front, with_more, members_front, members_in, set_of, set_front, inner_front}
use Rattle.line_script.specs.Slices.{SpellsMembers, SpellsSlices}
use Rattle.line_script.specs.Slices.SpellsMembers.{nobody, name, set}

abbrev first_or : {A B : Type 0} → A → Option (A × B) → A
first_or a None = a
first_or a (Some p) = p.0

abbrev second_or : {A B : Type 0} → B → Option (A × B) → B
second_or b None = b
second_or b (Some p) = p.1

pub same_pairs : {A B : Type 0} (a c : A) (b d : B) → ◌≡◌ {A = Option (A × B)} (Some (a, b)) (Some (c, d)) → (a ≡ c) × (b ≡ d)
same_pairs a c b d e = (ap (first_or a) e, ap (second_or b) e)

-- ---- what is read is spelled

-- what a reader of sets finds stands at the front of the text
abbrev FindsSets : SetReader → Type 0
FindsSets read = (text : Bytes) (q : Slices) (tail : Bytes) → read text ≡ Some (q, tail) → (word : Bytes) × (text ≡ word ++ tail) × SpellsSlices q word

-- the word of a member, before what spells others
abbrev SpellsMember : Member → Bytes → Type 0
SpellsMember m word = (others : List Member) (more : Bytes) → SpellsMembers (members_of others) more → SpellsMembers (members_of (m ∷ others)) (44 ∷ (word ++ more))

set_member : (q : Slices) (word : Bytes) → SpellsSlices q word → SpellsMember (Set q) word
set_member q word h others more rest =
    let parts : word ++ more ≡ h.digits ++ 91 ∷ (h.inside ++ 93 ∷ more) =
    ap (λ bs. bs ++ more) h.parts ∙ append_assoc h.digits (91 ∷ (h.inside ++ 93 ∷ [])) more ∙ ap (λ bs. h.digits ++ 91 ∷ bs) (append_assoc h.inside (93 ∷ []) more) in
    set h.digits h.inside more (ap (λ bs. 44 ∷ bs) parts) h.threshold h.members rest

-- a member found at the front
abbrev Found : Bytes → Member → Bytes → Type 0
Found text m after = (word : Bytes) × (text ≡ word ++ after) × SpellsMember m word

named_found : (word after behind : Bytes) (m : Member) (r : Option ℕ) → word_name word ≡ r → node_and_rest r behind ≡ Some (m, after) → Found (word ++ behind) m after
named_found word after behind m None e f = cc
named_found word after behind m (Some u) e f =
    let same = same_pairs (Node u) m behind after f in
    (word, ap (λ bs. word ++ bs) same.1, subst (λ n. SpellsMember n word) same.0 (λ others more h. name word more refl e h))

abbrev as_set : Option (Slices × Bytes) → Option (Member × Bytes)
as_set r = option_map {U = Member × Bytes} (λ p. (Set p.0, p.1)) r

set_found : (text after : Bytes) (m : Member) (r : Option (Slices × Bytes)) → ((q : Slices) (tail : Bytes) → r ≡ Some (q, tail) → (word : Bytes) × (text ≡ word ++ tail) × SpellsSlices q word)
    → as_set r ≡ Some (m, after) → Found text m after
set_found text after m None finds e = cc
set_found text after m (Some (q, tail)) finds e =
    let same = same_pairs (Set q) m tail after e in
    let found = finds q tail refl in
    (found.0, found.1 ∙ ap (λ bs. found.0 ++ bs) same.1, subst (λ n. SpellsMember n found.0) same.0 (set_member q found.0 found.2))

member_found : (read : SetReader) → FindsSets read → (text after : Bytes) (m : Member) → member_front read text ≡ Some (m, after) → Found text m after
member_found read finds text after m e = go (behind_plain text) (take-append-drop _ text) e
  where
    go : (behind : Bytes) → plain_part text ++ behind ≡ text → member_with (read text) (word_name (plain_part text)) behind ≡ Some (m, after) → Found text m after
    go [] whole f = subst (λ bs. Found bs m after) whole (named_found (plain_part text) after [] m (word_name (plain_part text)) refl f)
    go (b ∷ rest) whole f = elim (b == 91) as (λ c. (if c then as_set (read text) else node_and_rest (word_name (plain_part text)) (b ∷ rest)) ≡ Some (m, after) → Found text m after) [
      | true ↦ λ g. set_found text after m (read text) (λ q tail h. finds text q tail h) g
      | false ↦ λ g. subst (λ bs. Found bs m after) whole (named_found (plain_part text) after (b ∷ rest) m (word_name (plain_part text)) refl g)
    ] f

-- members found at the front, up to a closing bracket
abbrev FoundAll : Bytes → List Member → Bytes → Type 0
FoundAll text ms tail = (inside : Bytes) × (text ≡ inside ++ 93 ∷ tail) × SpellsMembers (members_of ms) (44 ∷ inside)

last_found : (text after : Bytes) (m : Member) (tail : Bytes) (ms : List Member) → Found text m after → after ≡ 93 ∷ tail → m ∷ [] ≡ ms → FoundAll text ms tail
last_found text after m tail ms found e f =
    let none_behind : 44 ∷ (found.0 ++ []) ≡ 44 ∷ found.0 = ap (λ bs. 44 ∷ bs) (append_nothing found.0) in
    (found.0, found.1 ∙ ap (λ bs. found.0 ++ bs) e, subst (λ n. SpellsMembers (members_of n) (44 ∷ found.0)) f (subst (SpellsMembers (members_of (m ∷ []))) none_behind (found.2 [] [] nobody)))

more_found : (text after rest : Bytes) (m : Member) (tail : Bytes) (ms others : List Member) → Found text m after → after ≡ 44 ∷ rest → FoundAll rest others tail → m ∷ others ≡ ms → FoundAll text ms tail
more_found text after rest m tail ms others found e all f =
    let parts : text ≡ (found.0 ++ 44 ∷ all.0) ++ 93 ∷ tail =
    found.1 ∙ ap (λ bs. found.0 ++ bs) (e ∙ ap (λ bs. 44 ∷ bs) all.1) ∙ sym (append_assoc found.0 (44 ∷ all.0) (93 ∷ tail)) in
    (found.0 ++ 44 ∷ all.0, parts, subst (λ n. SpellsMembers (members_of n) (44 ∷ (found.0 ++ 44 ∷ all.0))) f (found.2 others (44 ∷ all.0) all.2))

-- what is found behind a comma
abbrev FindsAll : (Bytes → Option (List Member × Bytes)) → Type 0
FindsAll more = (text : Bytes) (ms : List Member) (tail : Bytes) → more text ≡ Some (ms, tail) → FoundAll text ms tail

abbrev by_mark : Member → Bytes → Option (List Member × Bytes) → Bool → Bool → Option (List Member × Bytes)
by_mark m rest r comma bracket = if comma then option_map {U = List Member × Bytes} (λ p. (m ∷ p.0, p.1)) r else if bracket then Some (m ∷ [], rest) else None

mark_found : (text : Bytes) (m : Member) (b : ℕ) (rest : Bytes) (ms : List Member) (tail : Bytes) (r : Option (List Member × Bytes))
    → ((others : List Member) (end : Bytes) → r ≡ Some (others, end) → FoundAll rest others end) → Found text m (b ∷ rest)
    → (comma bracket : Bool) → (b == 44) ≡ comma → (b == 93) ≡ bracket → by_mark m rest r comma bracket ≡ Some (ms, tail) → FoundAll text ms tail
mark_found text m b rest ms tail None finds found true bracket c d g = cc
mark_found text m b rest ms tail (Some (others, end)) finds found true bracket c d g =
    let same = same_pairs (m ∷ others) ms end tail g in
    more_found text (b ∷ rest) rest m tail ms others found (ap (λ x. x ∷ rest) (eqb-true b 44 c)) (finds others tail (ap (λ t. Some (others, t)) same.1)) same.0
mark_found text m b rest ms tail r finds found false true c d g =
    let same = same_pairs (m ∷ []) ms rest tail g in
    last_found text (b ∷ rest) m tail ms found (ap (λ x. x ∷ rest) (eqb-true b 93 d) ∙ ap (λ t. 93 ∷ t) same.1) same.0
mark_found text m b rest ms tail r finds found false false c d g = cc

first_found : (text : Bytes) (ms : List Member) (tail : Bytes) (more : Bytes → Option (List Member × Bytes)) → FindsAll more
    → (r : Option (Member × Bytes)) → ((m : Member) (after : Bytes) → r ≡ Some (m, after) → Found text m after)
    → option_and_then (λ p. with_more p.0 p.1 more) r ≡ Some (ms, tail) → FoundAll text ms tail
first_found text ms tail more finds None found g = cc
first_found text ms tail more finds (Some (m, [])) found g = cc
first_found text ms tail more finds (Some (m, b ∷ rest)) found g =
    mark_found text m b rest ms tail (more rest) (λ others end h. finds rest others end h) (found m (b ∷ rest) refl) (b == 44) (b == 93) refl refl g

members_found : (read : SetReader) → FindsSets read → (room : ℕ) → FindsAll (members_front read room)
members_found read finds zero text ms tail e = cc
members_found read finds (suc room) text ms tail e =
    first_found text ms tail (members_front read room) (λ t ns end h. members_found read finds room t ns end h) (member_front read text)
    (λ m after h. member_found read finds text after m h) e

-- the threshold and the bracket behind it
abbrev FoundThreshold : Bytes → ℕ → Bytes → Type 0
FoundThreshold text k rest = (digits : Bytes) × (text ≡ digits ++ 91 ∷ rest) × (word_threshold digits ≡ Some k)

abbrev by_opening : ℕ → Bytes → Bool → Option (ℕ × Bytes)
by_opening j behind opens = if opens then Some (j, behind) else None

bracket_found : (digits : Bytes) (b : ℕ) (behind rest : Bytes) (j k : ℕ) (opens : Bool) → word_threshold digits ≡ Some j → (b == 91) ≡ opens
    → by_opening j behind opens ≡ Some (k, rest) → FoundThreshold (digits ++ b ∷ behind) k rest
bracket_found digits b behind rest j k true e c g =
    let same = same_pairs j k behind rest g in
    (digits, ap (λ bs. digits ++ bs) (ap (λ x. x ∷ behind) (eqb-true b 91 c) ∙ ap (λ bs. 91 ∷ bs) same.1), e ∙ ap (λ n. Some n) same.0)
bracket_found digits b behind rest j k false e c g = cc

opened_found : (digits behind rest : Bytes) (k : ℕ) (r : Option ℕ) → word_threshold digits ≡ r → threshold_and_rest r behind ≡ Some (k, rest) → FoundThreshold (digits ++ behind) k rest
opened_found digits behind rest k None e g = cc
opened_found digits [] rest k (Some j) e g = cc
opened_found digits (b ∷ behind) rest k (Some j) e g = bracket_found digits b behind rest j k (b == 91) e refl g

threshold_found : (text rest : Bytes) (k : ℕ) → threshold_front text ≡ Some (k, rest) → FoundThreshold text k rest
threshold_found text rest k g =
    subst (λ bs. FoundThreshold bs k rest) (take-append-drop _ text) (opened_found (plain_part text) (behind_plain text) rest k (word_threshold (plain_part text)) refl g)

set_parts : (text : Bytes) (k : ℕ) (rest : Bytes) (ms : List Member) (q : Slices) (end tail : Bytes) → FoundThreshold text k rest → FoundAll rest ms end → ◌≡◌ {A = Option (Slices × Bytes)} (Some (set_of k ms, end)) (Some (q, tail))
    → (word : Bytes) × (text ≡ word ++ tail) × SpellsSlices q word
set_parts text k rest ms q end tail front all g =
    let same = same_pairs (set_of k ms) q end tail g in
    let word = front.0 ++ 91 ∷ (all.0 ++ 93 ∷ []) in
    let parts : front.0 ++ 91 ∷ (all.0 ++ 93 ∷ end) ≡ word ++ tail =
    ap (λ t. front.0 ++ 91 ∷ (all.0 ++ 93 ∷ t)) same.1
    ∙ sym (append_assoc front.0 (91 ∷ (all.0 ++ 93 ∷ [])) tail ∙ ap (λ bs. front.0 ++ 91 ∷ bs) (append_assoc all.0 (93 ∷ []) tail)) in (
      word,
      front.1 ∙ ap (λ bs. front.0 ++ 91 ∷ bs) all.1 ∙ parts,
      subst (λ p. SpellsSlices p word) same.0 (record { digits = front.0; inside = all.0; parts = refl; threshold = front.2; members = all.2 }),
    )

set_front_found : (text : Bytes) (q : Slices) (tail : Bytes) (k : ℕ) (rest : Bytes) (r : Option (List Member × Bytes)) → FoundThreshold text k rest
    → ((ms : List Member) (end : Bytes) → r ≡ Some (ms, end) → FoundAll rest ms end)
    → option_map {U = Slices × Bytes} (λ p. (set_of k p.0, p.1)) r ≡ Some (q, tail) → (word : Bytes) × (text ≡ word ++ tail) × SpellsSlices q word
set_front_found text q tail k rest None front finds g = cc
set_front_found text q tail k rest (Some (ms, end)) front finds g = set_parts text k rest ms q end tail front (finds ms end refl) g

pub sets_found : (read : SetReader) → FindsSets read → FindsSets (set_front read)
unfolding members_in
sets_found read finds text q tail e = go (threshold_front text) refl e
  where
    go : (r : Option (ℕ × Bytes)) → threshold_front text ≡ r → option_and_then (λ t. option_map {U = Slices × Bytes} (λ p. (set_of t.0 p.0, p.1)) (members_in read t.1)) r ≡ Some (q, tail)
        → (word : Bytes) × (text ≡ word ++ tail) × SpellsSlices q word
    go None f g = cc
    go (Some (k, rest)) f g = set_front_found text q tail k rest (members_in read rest) (threshold_found text rest k f) (λ ms end h. members_found read finds 64 rest ms end h) g

pub inner_found : (levels : ℕ) → FindsSets (inner_front levels)
inner_found zero text q tail e = cc
inner_found (suc levels) text q tail e = sets_found (inner_front levels) (inner_found levels) text q tail e
