-- The words that slices and statements are printed as.
use Rattle.std.specs.Prelude.{◌++◌, ℕ, Bool, true, false, List, [], ◌∷◌, drop, codes, Option, Some, None}
use Rattle.std.specs.List.{flat_map}
use Rattle.std.specs.Fmt.{decimal}
use Rattle.scp_types.specs.declared.ballot.Ballot.{Ballot}
use Rattle.scp_types.specs.declared.statement.Statement.{Statement}
use Rattle.scp_types.specs.declared.statement.Statement.TheVariants.{Nominate, Prepare, Commit, Externalize}
use Rattle.scp_types.specs.Trees.{Members, none, node, inner, Slices}
use Rattle.line_script.specs.Script.{Bytes}
use Rattle.line_script.specs.Values.{text_of_value}
use Rattle.line_script.specs.Names.{text_of_name}
use Rattle.line_script.specs.Words.{text_of_ballot}

-- ---- slices

-- a threshold, and in brackets (91 and 93) what stands in them
abbrev pub text_of_set : ℕ → Bytes → Bytes
text_of_set k inside = decimal k ++ 91 ∷ (inside ++ 93 ∷ [])

-- each member with a comma (44) before it: a name, or again a set
abbrev pub behind_commas : Members → Bytes
behind_commas none = []
behind_commas (node u rest) = 44 ∷ (text_of_name u ++ behind_commas rest)
behind_commas (inner k own rest) = 44 ∷ (text_of_set k (drop 1 (behind_commas own)) ++ behind_commas rest)

-- the word that slices are printed as: a threshold, and in brackets the members with a comma between each and the next
abbrev pub text_of_slices : Slices → Bytes
text_of_slices q = text_of_set q.threshold (drop 1 (behind_commas q.members))

-- a comma between members, not before the first
abbrev pub comma : Bool → Bytes
comma true = []
comma false = 44 ∷ []

-- what is left of members with a comma before each, the first without one
abbrev pub without_first : Bool → Bytes → Bytes
without_first true text = drop 1 text
without_first false text = text

-- ---- statements

-- a value with a `+` (43) before it
abbrev pub behind_plus : Bytes → Bytes
behind_plus v = 43 ∷ text_of_value v

-- values with a `+` between each and the next
abbrev pub text_of_values : List Bytes → Bytes
text_of_values [] = []
text_of_values (v ∷ more) = text_of_value v ++ flat_map behind_plus more

-- a ballot, or `-` (45) if there is none
abbrev pub text_of_optional : Option Ballot → Bytes
text_of_optional None = 45 ∷ []
text_of_optional (Some b) = text_of_ballot b

-- a number with a comma (44) before it
abbrev pub behind_comma : ℕ → Bytes
behind_comma n = 44 ∷ decimal n

-- the fields of a statement, each after a comma but for the first, and a bar (124) between voted and accepted values
abbrev pub fields_of_statement : Statement → Bytes
fields_of_statement (Nominate voted accepted) = text_of_values voted ++ 124 ∷ text_of_values accepted
fields_of_statement (Prepare b p a h c) =
    text_of_ballot b ++ 44 ∷ (text_of_optional p ++ (behind_comma a ++ (behind_comma h ++ behind_comma c)))
fields_of_statement (Commit b p h c) = text_of_ballot b ++ (behind_comma p ++ (behind_comma h ++ behind_comma c))
fields_of_statement (Externalize b h) = text_of_ballot b ++ behind_comma h

-- the word of a statement's kind, with the bracket behind it
abbrev pub kind_text : Statement → Bytes
kind_text (Nominate voted accepted) = codes "nom("
kind_text (Prepare b p a h c) = codes "prep("
kind_text (Commit b p h c) = codes "comm("
kind_text (Externalize b h) = codes "ext("

-- the word that a statement is printed as, up to its closing bracket (41)
abbrev pub text_of_statement : Statement → Bytes
text_of_statement s = kind_text s ++ (fields_of_statement s ++ 41 ∷ [])
