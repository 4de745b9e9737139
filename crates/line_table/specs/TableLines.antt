-- The lines of table files: what each prints, and what it makes of the listener.
use Rattle.std.specs.Prelude.{◌≡◌, ◌≢◌, ◌⊎◌, ◌++◌, ◌^◌, ℕ, true, false, List, [], ◌∷◌, Option, Some, None, codes}
use Rattle.std.specs.Fmt.{decimal}
use Rattle.std.specs.List.{fold}
use Rattle.line_script.specs.Script.{Bytes}
use Rattle.line_script.specs.Names.{octets_in, text_of_name, word_name}
use Rattle.line_script.specs.Printed.{text_of_slices, text_of_statement}
use Rattle.line_script.specs.Slices.{AreSlices}
use Rattle.line_script.specs.Statements.{word_statement}
use Rattle.line_script.specs.Words.{word_ballot, word_number}
use Rattle.scp_types.specs.Statements.{IsWellFormed, Sent}
use Rattle.scp_types.specs.declared.ballot.Ballot.{Ballot}
use Rattle.scp_types.specs.declared.kind.Kind.{Kind}
use Rattle.scp_types.specs.declared.kind.Kind.TheVariants.{Nomination}
use Rattle.scp_codec.specs.Answers.{fault_number}
use Rattle.scp_codec.specs.Grammar.{IsFault}
use Rattle.scp_codec.specs.Spelling.{Spells}
use Rattle.scp_codec.specs.declared.error.Fault.{Fault}
use Rattle.node_table.specs.Senders.{senders}
use Rattle.scp_spec.specs.Reach.{IsReach}
use Rattle.scp_spec.specs.Rows.{is_taken, row, table_with_offer}
use Rattle.node_view.specs.declared.configured.Configured.{Configured}
use Rattle.line_table.specs.Listeners.{HeardRows, IsBacked}

-- ---- what a line asks for

-- these words spell the configuration, field by field
abbrev pub AreOwnWords : Bytes → Bytes → Bytes → Configured → Type 0
AreOwnWords name slot slices c =
    (word_name name ≡ Some c.name) × (word_number (2 ^ 64) slot ≡ Some c.slot) × AreSlices slices (Some c.slices)

-- the fields `NAME SLOT SLICES` spell the configuration
abbrev pub AreOwn : List Bytes → Configured → Type 0
AreOwn (name ∷ slot ∷ slices ∷ []) c = AreOwnWords name slot slices c
AreOwn fields c = ⊥

-- `self NAME SLOT SLICES`: the line begins a listener of this configuration
abbrev pub Begins : List Bytes → Configured → Type 0
Begins (word ∷ fields) c = (word ≡ codes "self") × AreOwn fields c
Begins [] c = ⊥

-- `ask COUNTER:VALUE`: the line asks whether quorums back the ballot
abbrev pub Asks : List Bytes → Ballot → Type 0
Asks fields b = (word : Bytes) × (fields ≡ codes "ask" ∷ word ∷ []) × (word_ballot word ≡ Some b)

-- these words spell the sender, the slices and the statement of an envelope of the slot, which is well formed
abbrev pub ArePutWords : ℕ → Bytes → Bytes → Bytes → Sent → Type 0
ArePutWords slot sender slices statement e =
    (word_name sender ≡ Some e.sender) × (e.slot ≡ slot) × AreSlices slices (Some e.slices)
    × (word_statement statement ≡ Some e.body) × IsWellFormed e.body

-- the fields `SENDER SLICES STATEMENT` spell the envelope of the slot
abbrev pub ArePut : ℕ → List Bytes → Sent → Type 0
ArePut slot (sender ∷ slices ∷ statement ∷ []) e = ArePutWords slot sender slices statement e
ArePut slot fields e = ⊥

-- `put SENDER SLICES STATEMENT`: the line puts this envelope of the slot
abbrev pub PutsRow : ℕ → List Bytes → Sent → Type 0
PutsRow slot (word ∷ fields) e = (word ≡ codes "put") × ArePut slot fields e
PutsRow slot [] e = ⊥

-- `env HEX`: the line hands these bytes over
abbrev pub Hands : List Bytes → Bytes → Type 0
Hands (word ∷ digits ∷ []) bytes = (word ≡ codes "env") × (octets_in digits ≡ Some bytes)
Hands fields bytes = ⊥

-- `show` or `reach`: the line asks what the listener knows
abbrev pub ShowsKnown : List Bytes → Type 0
ShowsKnown (word ∷ []) = (word ≡ codes "show") ⊎ (word ≡ codes "reach")
ShowsKnown fields = ⊥

-- ---- what is answered

-- whether the node's quorums back the ballot, in a word
pub data Backs (h : HeardRows) (b : Ballot) : Option Bytes → Type 0 where
  yes : IsBacked h b → Backs h b (Some (codes "yes"))
  no : ¬ IsBacked h b → Backs h b (Some (codes "no"))

-- what becomes of an envelope that a listener hears, in a word
pub data Takes (h : HeardRows) (e : Sent) : Option Bytes → HeardRows → Type 0 where
  replaced : e.slot ≡ h.configured.slot → is_taken h.rows e ≡ true
      → Takes h e (Some (codes "replaced")) (record h { rows = table_with_offer h.rows e })
  stale : e.slot ≡ h.configured.slot → is_taken h.rows e ≡ false → Takes h e (Some (codes "stale")) h
  other : e.slot ≢ h.configured.slot → Takes h e (Some (codes "other")) h

-- what is said of a fault: `bad` and its number
abbrev pub fault_text : Fault → Bytes
fault_text f = codes "bad " ++ decimal (fault_number f)

-- what becomes of bytes: the envelope that they spell is taken, or their fault is told and nothing changes
pub data Decodes (h : HeardRows) (bytes : Bytes) : Option Bytes → HeardRows → Type 0 where
  envelope : {k : HeardRows} {printed : Option Bytes} (e : Sent) → Spells bytes e → Takes h e printed k
      → Decodes h bytes printed k
  fault : (f : Fault) → IsFault bytes f → Decodes h bytes (Some (fault_text f)) h

-- the text up to its next piece: with this behind it, unless it is empty
abbrev pub up_to_next : Bytes → Bytes → Bytes
up_to_next between [] = []
up_to_next between (b ∷ text) = (b ∷ text) ++ between

-- the text with one name more, behind a space
abbrev pub text_with_name : Bytes → ℕ → Bytes
text_with_name text u = up_to_next (codes " ") text ++ text_of_name u

-- a row in words: its sender, its slices and its statement, with a space (32) between each and the next
abbrev pub text_of_row : Sent → Bytes
text_of_row e = text_of_name e.sender ++ 32 ∷ (text_of_slices e.slices ++ 32 ∷ text_of_statement e.body)

-- the text with one row more, if there is one, on a line of its own
abbrev pub text_with_row : Bytes → Option Sent → Bytes
text_with_row text None = text
text_with_row text (Some e) = up_to_next (codes "\n") text ++ text_of_row e

-- the text with a sender's rows in a table, that of its nomination first
abbrev pub text_with_rows : List Sent → Bytes → ℕ → Bytes
text_with_rows table text u = text_with_row (text_with_row text (row table u Nomination)) (row table u Kind.Ballot)

-- the text, if it is not empty
abbrev pub unless_empty : Bytes → Option Bytes
unless_empty [] = None
unless_empty (b ∷ text) = Some (b ∷ text)

-- all rows of a table, a line each, ascending by sender
abbrev pub text_of_table : List Sent → Option Bytes
text_of_table table = unless_empty (fold (text_with_rows table) [] (senders table))

-- the names of the nodes that the listener reaches, ascending
abbrev pub PrintsReach : HeardRows → Option Bytes → Type 0
PrintsReach h printed = (names : List ℕ) × IsReach h.configured.name h.configured.slices h.rows names
    × (printed ≡ Some (fold text_with_name [] names))

-- what is printed of what the listener knows: at `show` its rows, at `reach` whom it reaches
abbrev pub Prints : HeardRows → List Bytes → Option Bytes → Type 0
Prints h (word ∷ []) printed =
    ((word ≡ codes "show") × (printed ≡ text_of_table h.rows)) ⊎ ((word ≡ codes "reach") × PrintsReach h printed)
Prints h fields printed = ⊥

-- ---- what a line tells

-- what a line tells a listener to print and to become
pub data TellsListener : Option HeardRows → List Bytes → Option Bytes → Option HeardRows → Type 0 where
  itself : {fields : List Bytes} {c : Configured} → Begins fields c
      → TellsListener None fields None (Some (record { configured = c; rows = [] }))
  ask : {h : HeardRows} {fields : List Bytes} {b : Ballot} {printed : Option Bytes} → Asks fields b → Backs h b printed
      → TellsListener (Some h) fields printed (Some h)
  put : {h k : HeardRows} {fields : List Bytes} {e : Sent} {printed : Option Bytes}
      → PutsRow h.configured.slot fields e → Takes h e printed k → TellsListener (Some h) fields printed (Some k)
  env : {h k : HeardRows} {fields : List Bytes} {bytes : Bytes} {printed : Option Bytes}
      → Hands fields bytes → Decodes h bytes printed k → TellsListener (Some h) fields printed (Some k)
  shown : {h : HeardRows} {fields : List Bytes} {printed : Option Bytes} → Prints h fields printed
      → TellsListener (Some h) fields printed (Some h)

-- ---- bad lines

-- the line begins no listener
abbrev pub BeginsNone : List Bytes → Type 0
BeginsNone fields = (c : Configured) → ¬ Begins fields c

-- the line asks about no ballot
abbrev pub AsksNone : List Bytes → Type 0
AsksNone fields = (b : Ballot) → Asks fields b → ⊥

-- the line puts no envelope of the slot
abbrev pub PutsNone : ℕ → List Bytes → Type 0
PutsNone slot fields = (e : Sent) → ¬ PutsRow slot fields e

-- the line hands no bytes over
abbrev pub HandsNone : List Bytes → Type 0
HandsNone fields = (bytes : Bytes) → ¬ Hands fields bytes

-- the first line is bad if it begins no listener, any other if it asks for nothing that a listener does
abbrev pub RefusesTableLine : Option HeardRows → List Bytes → Type 0
RefusesTableLine None fields = BeginsNone fields
RefusesTableLine (Some h) fields = AsksNone fields × PutsNone h.configured.slot fields × HandsNone fields × ¬ ShowsKnown fields

-- a line tells one thing: what it prints, and what becomes of the listener
abbrev pub LinesTellOneThing : Type 0
LinesTellOneThing =
    (old new other : Option HeardRows) (fields : List Bytes) (printed said : Option Bytes) → TellsListener old fields printed new
    → TellsListener old fields said other → (printed ≡ said) × (new ≡ other)
