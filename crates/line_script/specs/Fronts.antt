-- Slices as they are read from front to back: what stands at the front of a text, and what follows it.
use Rattle.std.specs.Prelude.{◌==◌, ℕ, zero, suc, not, List, [], ◌∷◌, take, drop, Option, Some, None, option_map, option_and_then, if◌then◌else◌}
use Rattle.std.specs.List.{position_or_len}
use Rattle.std.specs.Char.{is_ascii_alphanumeric}
use Rattle.scp_types.specs.Trees.{Slices}
use Rattle.scp_types.specs.Shape.{members_of}
use Rattle.scp_types.specs.declared.nested.Member.{Member}
use Rattle.scp_types.specs.declared.nested.Member.TheVariants.{Node, Set}
use Rattle.line_script.specs.Script.{Bytes}
use Rattle.line_script.specs.Names.{word_name}
use Rattle.line_script.specs.Words.{word_threshold}

-- how many letters and digits there are at the front
unfoldable pub plain_count : Bytes → ℕ
plain_count text = position_or_len (λ b. not (is_ascii_alphanumeric b)) text

-- the letters and digits at the front of a word
abbrev pub plain_part : Bytes → Bytes
plain_part text = take (plain_count text) text

-- what follows the letters and digits at the front of a word
abbrev pub behind_plain : Bytes → Bytes
behind_plain text = drop (plain_count text) text

abbrev pub threshold_and_rest : Option ℕ → Bytes → Option (ℕ × Bytes)
threshold_and_rest None rest = None
threshold_and_rest (Some k) [] = None
threshold_and_rest (Some k) (b ∷ rest) = if b == 91 then Some (k, rest) else None

-- the threshold at the front of a word, and what follows the opening bracket (91) behind it
abbrev pub threshold_front : Bytes → Option (ℕ × Bytes)
threshold_front text = threshold_and_rest (word_threshold (plain_part text)) (behind_plain text)

-- what is read as a set
abbrev pub SetReader : Type 0
SetReader = Bytes → Option (Slices × Bytes)

abbrev pub node_and_rest : Option ℕ → Bytes → Option (Member × Bytes)
node_and_rest name rest = option_map (λ u. (Node u, rest)) name

abbrev pub member_with : Option (Slices × Bytes) → Option ℕ → Bytes → Option (Member × Bytes)
member_with inner name [] = node_and_rest name []
member_with inner name (b ∷ rest) =
    if b == 91 then option_map (λ r. (Set r.0, r.1)) inner else node_and_rest name (b ∷ rest)

-- a member: a set if an opening bracket follows the letters and digits, else a name
abbrev pub member_front : SetReader → Bytes → Option (Member × Bytes)
member_front inner text = member_with (inner text) (word_name (plain_part text)) (behind_plain text)

-- further members behind a comma (44), or none if the closing bracket (93) follows
abbrev pub with_more : Member → Bytes → (Bytes → Option (List Member × Bytes)) → Option (List Member × Bytes)
with_more m [] more = None
with_more m (b ∷ rest) more =
    if b == 44 then option_map (λ r. (m ∷ r.0, r.1)) (more rest) else if b == 93 then Some (m ∷ [], rest) else None

-- at most this many members, up to the closing bracket
abbrev pub members_front : SetReader → ℕ → Bytes → Option (List Member × Bytes)
members_front inner zero text = None
members_front inner (suc room) text =
    option_and_then (λ r. with_more r.0 r.1 (members_front inner room)) (member_front inner text)

-- the members at the front of a word, at most 64
unfoldable pub members_in : SetReader → Bytes → Option (List Member × Bytes)
members_in inner text = members_front inner 64 text

abbrev pub set_of : ℕ → List Member → Slices
set_of k ms = record { threshold = k; members = members_of ms }

-- a set of at most 64 members, whose inner sets are read so
abbrev pub set_front : SetReader → SetReader
set_front inner text =
    option_and_then (λ t. option_map (λ r. (set_of t.0 r.0, r.1)) (members_in inner t.1)) (threshold_front text)

-- a set at the front of a word, of at most this many levels of sets; for 0 there is none
abbrev pub inner_front : ℕ → SetReader
inner_front zero text = None
inner_front (suc levels) text = set_front (inner_front levels) text
