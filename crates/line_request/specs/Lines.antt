-- The lines of scripts of networks that ask for events, and the events that they ask for.
use Rattle.std.specs.Prelude.{◌≡◌, ◌==◌, ◌^◌, ℕ, nat_eq, List, [], ◌∷◌, codes, Option, Some, None, option_map, option_and_then, if◌then◌else◌}
use Rattle.std.specs.Map.{lookup}
use lib.Pointwise.{pointwise}
use Rattle.line_script.specs.Script.{Bytes}
use Rattle.line_script.specs.Names.{digits_bytes, octets_in, word_name}
use Rattle.line_script.specs.Words.{word_counter, word_number}
use Rattle.line_script.specs.Values.{word_value}
use Rattle.line_script.specs.Slices.{AreSlices}
use Rattle.line_script.specs.Statements.{word_statement}
use Rattle.scp_codec.specs.Spelling.{Spells}
use Rattle.scp_types.specs.Trees.{Slices}
use Rattle.scp_types.specs.Statements.{Sent}
use Rattle.scp_types.specs.declared.event.Event.{Event}
use Rattle.scp_types.specs.declared.event.Event.TheVariants.{OpenSlot, CloseSlot, Propose, Deliver, Hear, NominationTimer, BallotTimer, Reslice}
use Rattle.scp_types.specs.declared.statement.Statement.{Statement}
use Rattle.scp_types.specs.declared.kind.Kind.{Kind}
use Rattle.scp_types.specs.declared.kind.Kind.TheVariants.{Nomination}
use Rattle.line_request.specs.declared.verbs.Verb.{Verb}
use Rattle.line_request.specs.declared.verbs.Verb.TheVariants as verb
use Rattle.line_request.specs.declared.verbs.EventVerb.{EventVerb}
use Rattle.line_request.specs.declared.verbs.EventVerb.TheVariants as ask

-- what stands for a word in a table of words
abbrev pub meaning_in : {X : Type 0} → List (Bytes × X) → Bytes → Option X
meaning_in table word = lookup (λ known. pointwise nat_eq word known) table

-- the first word of the lines of each kind
abbrev pub verbs : List (Bytes × Verb)
verbs =
    (codes "net", verb.Net) ∷ (codes "node", verb.Node) ∷ (codes "roster", verb.Roster)
    ∷ (codes "open", verb.Event ask.Open)
    ∷ (codes "close", verb.Event ask.Close) ∷ (codes "propose", verb.Event ask.Propose)
    ∷ (codes "deliver", verb.Event ask.Deliver)
    ∷ (codes "say", verb.Event ask.Say) ∷ (codes "hear", verb.Event ask.Hear)
    ∷ (codes "ntimer", verb.Event ask.NominationTimer)
    ∷ (codes "btimer", verb.Event ask.BallotTimer) ∷ (codes "reslice", verb.Event ask.Reslice)
    ∷ (codes "settle", verb.Settle) ∷ []

-- the kind of the lines that begin with a word
abbrev pub verb_in : Bytes → Option Verb
verb_in = meaning_in verbs

-- the word of each kind of emissions
abbrev pub kinds : List (Bytes × Kind)
kinds = (codes "nom", Nomination) ∷ (codes "bal", Kind.Ballot) ∷ []

-- the kind of emissions that a word names
abbrev pub kind_in : Bytes → Option Kind
kind_in = meaning_in kinds

-- the slot that a word spells
abbrev pub slot_in : Bytes → Option ℕ
slot_in = word_number (2 ^ 64)

-- the bytes that a word proposes: those of a value of letters and digits, or `#` (35) and any even number of digits
abbrev pub word_proposal : Bytes → Option Bytes
word_proposal [] = None
word_proposal (c ∷ rest) = if c == 35 then digits_bytes rest else word_value (c ∷ rest)

-- ---- pieces of a line

-- three fields, if there are three
abbrev pub three : List Bytes → Option (Bytes × Bytes × Bytes)
three (a ∷ b ∷ c ∷ []) = Some (a, b, c)
three fields = None

abbrev pub behind_two : Bytes → Bytes → Option (Bytes × Bytes × Bytes) → Option (Bytes × Bytes × Bytes × Bytes × Bytes)
behind_two a b None = None
behind_two a b (Some w) = Some (a, b, w.0, w.1, w.2)

-- five fields, if there are five
abbrev pub five : List Bytes → Option (Bytes × Bytes × Bytes × Bytes × Bytes)
five (a ∷ b ∷ more) = behind_two a b (three more)
five fields = None

-- the slot and the node that two words spell
abbrev pub slot_and_node_in : Bytes → Bytes → Option (ℕ × ℕ)
slot_and_node_in i name = option_and_then (λ slot. option_map (λ u. (slot, u)) (word_name name)) (slot_in i)

-- an emission by the words of its sender, its kind and its number
abbrev pub emission_in : Bytes → Bytes → Bytes → Option (ℕ × Kind × ℕ)
emission_in sender kind number =
    option_and_then (λ from. option_and_then (λ k. option_map (λ n. (from, k, n)) (word_number (2 ^ 64) number)) (kind_in kind)) (word_name sender)

-- who says something, of which slot, and the statement, as three words spell them
abbrev pub saying_in : Bytes → Bytes → Bytes → Option (ℕ × ℕ × Statement)
saying_in from i statement =
    option_and_then (λ u. option_and_then (λ slot. option_map (λ s. (u, slot, s)) (word_statement statement)) (slot_in i)) (word_name from)

-- ---- the event that the fields after the number of the network ask for, on a line of each kind

-- the opening of a slot, from the fields after the number of the network
abbrev pub opening_in : List Bytes → Option Event
opening_in (i ∷ []) = option_map (λ slot. OpenSlot slot) (slot_in i)
opening_in fields = None

-- the closing of a slot, from the fields after the number of the network
abbrev pub closing_in : List Bytes → Option Event
closing_in (i ∷ []) = option_map (λ slot. CloseSlot slot) (slot_in i)
closing_in fields = None

-- a proposal, from the fields: a slot, a node and a value
abbrev pub proposal_in : List Bytes → Option Event
proposal_in fields =
    option_and_then (λ w. option_and_then (λ at. option_map (λ x. Propose at.0 at.1 x) (word_proposal w.2)) (slot_and_node_in w.0 w.1)) (three fields)

-- a delivery, from the fields: a node and bytes
abbrev pub delivery_in : List Bytes → Option Event
delivery_in (name ∷ digits ∷ []) =
    option_and_then (λ u. option_map (λ bytes. Deliver u bytes) (octets_in digits)) (word_name name)
delivery_in fields = None

-- a hearing, from the fields: a slot, a node and an emission
abbrev pub hearing_in : List Bytes → Option Event
hearing_in fields =
    option_and_then (λ w. option_and_then (λ at. option_map (λ x. Hear at.0 at.1 x.0 x.1 x.2) (emission_in w.2 w.3 w.4)) (slot_and_node_in w.0 w.1)) (five fields)

-- a nomination timer, from the fields: a slot, a node and a round
abbrev pub nomination_timer_in : List Bytes → Option Event
nomination_timer_in fields =
    option_and_then (λ w. option_and_then (λ at. option_map (λ r. NominationTimer at.0 at.1 r) (word_counter w.2)) (slot_and_node_in w.0 w.1)) (three fields)

-- a ballot timer, from the fields: a slot, a node and a counter
abbrev pub ballot_timer_in : List Bytes → Option Event
ballot_timer_in fields =
    option_and_then (λ w. option_and_then (λ at. option_map (λ n. BallotTimer at.0 at.1 n) (word_counter w.2)) (slot_and_node_in w.0 w.1)) (three fields)

-- at this slot and node, if any, the slices that the word spells
abbrev pub IsResliced : Option (ℕ × ℕ) → Bytes → Event → Type 0
IsResliced None slices e = ⊥
IsResliced (Some at) slices e = (q : Slices) × AreSlices slices (Some q) × (e ≡ Reslice at.0 at.1 q)

-- of a slot, a node and slices
abbrev pub AsksResliceOf : Option (Bytes × Bytes × Bytes) → Event → Type 0
AsksResliceOf None e = ⊥
AsksResliceOf (Some w) e = IsResliced (slot_and_node_in w.0 w.1) w.2 e

-- the fields ask for a change of slices: a slot, a node and slices
abbrev pub AsksReslice : List Bytes → Event → Type 0
AsksReslice fields e = AsksResliceOf (three fields) e

-- the bytes spell an envelope of the sender, slot, slices and statement that the words spell
abbrev pub AreSaid : Bytes → Bytes → Bytes → Bytes → Bytes → Type 0
AreSaid bytes from i slices statement =
    (e : Sent) × Spells bytes e × (saying_in from i statement ≡ Some (e.sender, e.slot, e.body))
    × AreSlices slices (Some e.slices)

-- to this node, if any, the bytes of the envelope that the words spell
abbrev pub IsSaid : Option ℕ → Bytes × Bytes × Bytes × Bytes × Bytes → Event → Type 0
IsSaid None w e = ⊥
IsSaid (Some u) w e = (bytes : Bytes) × AreSaid bytes w.1 w.2 w.3 w.4 × (e ≡ Deliver u bytes)

-- of a node, and of the sender, the slot, the slices and the statement of an envelope
abbrev pub AsksSayOf : Option (Bytes × Bytes × Bytes × Bytes × Bytes) → Event → Type 0
AsksSayOf None e = ⊥
AsksSayOf (Some w) e = IsSaid (word_name w.0) w e

-- the fields ask for a delivery in words: a node, and sender, slot, slices and statement of an envelope
abbrev pub AsksSay : List Bytes → Event → Type 0
AsksSay fields e = AsksSayOf (five fields) e

-- what is read is what was asked for, or nothing if nothing was
abbrev pub IsRead : {X : Type 0} → (X → Type 0) → Option X → Type 0
IsRead asks (Some x) = asks x
IsRead {X} asks None = (x : X) → ¬ asks x

-- a line of a kind, by its fields after the number of the network, asks for this event, or for none
abbrev pub IsEventAsked : EventVerb → List Bytes → Option Event → Type 0
IsEventAsked ask.Open fields asked = asked ≡ opening_in fields
IsEventAsked ask.Close fields asked = asked ≡ closing_in fields
IsEventAsked ask.Propose fields asked = asked ≡ proposal_in fields
IsEventAsked ask.Deliver fields asked = asked ≡ delivery_in fields
IsEventAsked ask.Say fields asked = IsRead (AsksSay fields) asked
IsEventAsked ask.Hear fields asked = asked ≡ hearing_in fields
IsEventAsked ask.NominationTimer fields asked = asked ≡ nomination_timer_in fields
IsEventAsked ask.BallotTimer fields asked = asked ≡ ballot_timer_in fields
IsEventAsked ask.Reslice fields asked = IsRead (AsksReslice fields) asked
