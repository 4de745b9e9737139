-- The statements that words spell.
use Rattle.std.specs.Prelude.{◌≡◌, ◌==◌, ◌-◌, ℕ, nat_eq, List, [], ◌∷◌, length, take, drop, codes, Option, Some, None, option_map, option_and_then, IfSome, if◌then◌else◌}
use Rattle.std.specs.List.{AllByRecursion, slice_split}
use lib.Pointwise.{pointwise}
use Rattle.hex.specs.Hex.{IsBytes}
use Rattle.scp_types.specs.Statements.{HasWidths}
use Rattle.scp_types.specs.declared.ballot.Ballot.{Ballot}
use Rattle.scp_types.specs.declared.statement.Statement.{Statement}
use Rattle.scp_types.specs.declared.statement.Statement.TheVariants.{Nominate, Prepare, Commit, Externalize}
use Rattle.line_script.specs.Script.{Bytes}
use Rattle.line_script.specs.Values.{word_value}
use Rattle.line_script.specs.Printed.{text_of_statement}
use Rattle.line_script.specs.Words.{split_once, word_ballot, word_counter}
use Rattle.line_script.specs.WordLists.{each_word}

-- ---- pieces of a word

-- the three parts of a word that the first two such bytes make
abbrev pub split_twice : ℕ → Bytes → Option (Bytes × Bytes × Bytes)
split_twice at text = option_and_then (λ p. option_map (λ q. (p.0, q.0, q.1)) (split_once at p.1)) (split_once at text)

-- what stands behind a front
abbrev pub behind : Bytes → Bytes → Option Bytes
behind head word = if pointwise nat_eq (take (length head) word) head then Some (drop (length head) word) else None

-- what stands before a closing bracket (41) at the end
abbrev pub before_bracket : Bytes → Option Bytes
before_bracket text =
    if pointwise nat_eq (drop (length text - 1) text) (41 ∷ []) then Some (take (length text - 1) text) else None

-- what stands between a front and a closing bracket at the end
abbrev pub inside_brackets : Bytes → Bytes → Option Bytes
inside_brackets head word = option_and_then before_bracket (behind head word)

-- ---- values, ballots and counters

-- the values that a list with a `+` (43) between each and the next spells, which is empty for none
abbrev pub word_values : Bytes → Option (List Bytes)
word_values list = if length list == 0 then Some [] else each_word word_value (slice_split (λ b. b == 43) list)

-- a ballot that a word spells, or `-` (45) for none
abbrev pub word_optional : Bytes → Option (Option Ballot)
word_optional word = if pointwise nat_eq word (45 ∷ []) then Some None else option_map (λ b. Some b) (word_ballot word)

-- three counters with a comma (44) between each and the next
abbrev pub three_counters : Bytes → Option (ℕ × ℕ × ℕ)
three_counters text =
    option_and_then (λ w. option_and_then (λ a. option_and_then (λ b. option_map (λ c. (a, b, c)) (word_counter w.2)) (word_counter w.1)) (word_counter w.0)) (split_twice 44 text)

-- ---- statements by their fields

abbrev pub nomination : Option (List Bytes) → Option (List Bytes) → Option Statement
nomination voted accepted = option_and_then (λ v. option_map (λ a. Nominate v a) accepted) voted

abbrev pub prepare : Option (ℕ × ℕ × ℕ) → Option Ballot → Option (Option Ballot) → Option Statement
prepare counters ballot prepared =
    option_and_then (λ n. option_and_then (λ b. option_map (λ p. Prepare b p n.0 n.1 n.2) prepared) ballot) counters

abbrev pub commit : Option (ℕ × ℕ × ℕ) → Option Ballot → Option Statement
commit counters ballot = option_and_then (λ n. option_map (λ b. Commit b n.0 n.1 n.2) ballot) counters

abbrev pub externalized_statement : Option ℕ → Option Ballot → Option Statement
externalized_statement counter ballot = option_and_then (λ h. option_map (λ b. Externalize b h) ballot) counter

-- the fields of a nomination in words: the values voted for and those accepted, with a bar (124) between
abbrev pub nomination_in : Bytes → Option Statement
nomination_in fields = option_and_then (λ w. nomination (word_values w.0) (word_values w.1)) (split_once 124 fields)

-- the fields of PREPARE in words: the ballot, the prepared one, and three counters
abbrev pub prepare_in : Bytes → Option Statement
prepare_in fields =
    option_and_then (λ w. prepare (three_counters w.2) (word_ballot w.0) (word_optional w.1)) (split_twice 44 fields)

-- the fields of COMMIT in words: the ballot and three counters
abbrev pub commit_in : Bytes → Option Statement
commit_in fields = option_and_then (λ w. commit (three_counters w.1) (word_ballot w.0)) (split_once 44 fields)

-- the fields of EXTERNALIZE in words: the ballot and a counter
abbrev pub externalize_in : Bytes → Option Statement
externalize_in fields = option_and_then (λ w. externalized_statement (word_counter w.1) (word_ballot w.0)) (split_once 44 fields)

-- ---- statements

-- the statement of the first kind whose fields there are
abbrev pub of_kinds : Option Bytes → Option Bytes → Option Bytes → Option Bytes → Option Statement
of_kinds (Some fields) prep comm ext = nomination_in fields
of_kinds None (Some fields) comm ext = prepare_in fields
of_kinds None None (Some fields) ext = commit_in fields
of_kinds None None None (Some fields) = externalize_in fields
of_kinds None None None None = None

-- the statement that a word spells: the word of its kind, and in brackets its fields
abbrev pub word_statement : Bytes → Option Statement
word_statement word =
    of_kinds (inside_brackets (codes "nom(") word) (inside_brackets (codes "prep(") word) (inside_brackets (codes "comm(") word) (inside_brackets (codes "ext(") word)

-- ---- read back

-- the bytes of its values are below 256
abbrev pub HasBytes : Statement → Type 0
HasBytes (Nominate voted accepted) = AllByRecursion IsBytes voted × AllByRecursion IsBytes accepted
HasBytes (Prepare b p a h c) = IsBytes b.value × IfSome p (λ b. IsBytes b.value)
HasBytes (Commit b p h c) = IsBytes b.value
HasBytes (Externalize b h) = IsBytes b.value

-- a statement is what its printed word is read as
abbrev pub StatementsReadBack : Type 0
StatementsReadBack = (s : Statement) → HasWidths s → HasBytes s → word_statement (text_of_statement s) ≡ Some s
