-- A live host, and what it answers to its lines.
use Rattle.std.specs.Prelude.{◌≡◌, ◌⊎◌, ◌+◌, ◌-◌, ◌++◌, ◌&&◌, ◌==◌, if◌then◌else◌, option_map, not, ℕ, Bool, true, false, nat_lt, List, [], ◌∷◌, length, Option, Some, None, is_some}
use Rattle.std.specs.List.{flat_map, list_any}
use Rattle.std.specs.Ordering.{nat_cmp}
use Rattle.std.specs.BTreeMap.{insert_entry, is_at}
use Rattle.std.specs.Map.{lookup, remove_entry, set_value}
use Rattle.scp_types.specs.declared.event.Event.{Event}
use Rattle.scp_types.specs.declared.event.Event.TheVariants.{CloseSlot, Deliver, OpenSlot}
use Rattle.scp_types.specs.declared.event.Refusal.{Refusal}
use Rattle.scp_types.specs.declared.event.Refusal.TheVariants.{NoSuchNetwork, NoSuchNode, SlotNotOpen}
use Rattle.scp_spec.specs.Hosts.{Config}
use Rattle.scp_spec.specs.Networks.{Net}
use Rattle.scp_spec.specs.Networks.Reply.{Refused}
use Rattle.scp_spec.specs.Nodes.{Node}
use Rattle.host_config.specs.Configs.{index_of_name, names_of}
use Rattle.host_network.specs.Decoding.{step_of}
use Rattle.host_network.specs.Standing.{Machine, StandsFor, node_at}
use Rattle.host_network.specs.declared.network.Used.{Used}
use Rattle.line_script.specs.Script.{AreFields, Bytes, IsBad, IsSkipped}
use Rattle.live_feed.specs.Served.{LineReply, Serving, unanswered}
use Rattle.live_feed.specs.declared.answering.Deed.{Deed}
use Rattle.live_feed.specs.declared.answering.Deed.TheVariants as deed
use Rattle.live_feed.specs.declared.answering.Done.{Done}
use Rattle.live_feed.specs.declared.answering.Drawn.{Drawn}
use Rattle.line_request.specs.declared.request.Declaration.{Declaration}
use Rattle.line_request.specs.declared.request.Declaration.TheVariants as declaration
use Rattle.line_request.specs.Outlines.{IsConfigOf, Outlined, Waiting, waiting_at, waiting_without}
use Rattle.line_request.specs.Preparing.{Prepares}
use Rattle.line_request.specs.Taking.{takes_node, takes_roster}
use Rattle.line_request.specs.Telling.{is_bare}
use Rattle.live_network.specs.Telling.{IsServedBy, ending_of, tellings_of}
use Rattle.live_network.specs.declared.served.Served.{Served}
use Rattle.live_network.specs.Left.{all_left, left_line, left_of}
use Rattle.live_network.specs.Shown.{Shows}
use Rattle.live_network.specs.declared.left.Left.{Left}
use Rattle.line_request.specs.Asking.{IsAskedOf}
use Rattle.live_host.specs.Blocks.{TellsOfNoWant, block_of, closing_line, closing_of, line_of_telling}
use Rattle.line_request.specs.declared.ask.Ask.{Ask}
use Rattle.line_request.specs.declared.ask.Ask.TheVariants as ask
use Rattle.live_host.specs.declared.block.Closing.{Closing}
use Rattle.live_host.specs.declared.block.Closing.TheVariants as closing
use Rattle.live_host.specs.declared.all.NodeAnswer.{NodeAnswer}

-- whether a live host prints envelopes as bytes; and its networks by number: those that are declared and that no event
-- has named since, and those that run
pub record Live : Type 0 where
  pub bytes : Bool
  pub waiting : Waiting
  pub running : List (ℕ × Machine)

-- a host without networks
abbrev pub new_live : Bool → Live
new_live bytes = record { bytes = bytes; waiting = []; running = [] }

-- the network of a number, if it runs
abbrev pub live_at : Live → ℕ → Option Machine
live_at l g = lookup (is_at (nat_cmp g)) l.running

-- the same with that one in its place
abbrev pub with_live : Live → ℕ → Machine → Live
with_live l g m = record l { running = set_value (is_at (nat_cmp g)) l.running m }

-- the answer that is one line: how it closes
abbrev pub one_line : ℕ → Closing → Option Done → LineReply
one_line n c done = record { text = closing_line n c; done = done }

-- ---- what a line did
-- what a line did to the network of a number, if it is taken
abbrev pub done_if : Bool → ℕ → Deed → Option Done
done_if true g d = Some (record { network = g; deed = d })
done_if false g d = None

-- how much a network that runs has used up, and how many of its slots are open
abbrev pub used_of : Machine → Used
used_of m = record { events = m.events; bytes = m.bytes; slots = length m.slots; opens = m.opens }

-- what was drawn: what is used up afterwards, less what was used up before
abbrev pub drawn_between : Used → Used → Drawn
drawn_between before after = record {
  events = after.events - before.events;
  bytes = after.bytes - before.bytes;
  opens = after.opens - before.opens;
}

-- what was drawn on the budgets of a network
abbrev pub drawn : Machine → Machine → Drawn
drawn m after = drawn_between (used_of m) (used_of after)

-- what an event did that was applied, and drew so much: an opening and a closing name their slot, and any other has this one
abbrev pub deed_at : Event → ℕ → Drawn → Deed
deed_at (OpenSlot j) i d = deed.Applied j d
deed_at (CloseSlot j) i d = deed.Closed j d
deed_at e i d = deed.Applied i d

abbrev pub deed_by : Option Refusal → Event → ℕ → Drawn → Deed
deed_by None e i d = deed_at e i d
deed_by (Some r) e i d = deed.Refused

-- what an event did that was served, and drew so much
abbrev pub deed_of : Event → Served → Drawn → Deed
deed_of e s d = deed_by s.refused e s.slot d

-- ---- declarations
-- A declaration is taken. A network is taken if it is not declared, and fewer than 4,096 are. A node or a roster is
-- taken of a network that waits and may have it.
abbrev pub takes_declaration : Live → ℕ → Declaration → Bool
takes_declaration l g (declaration.Net b) =
    not (is_some (waiting_at l.waiting g)) && (not (is_some (live_at l g)) && nat_lt (length l.waiting + length l.running) 4096)
takes_declaration l g (declaration.Node u q) = takes_node (waiting_at l.waiting g) u
takes_declaration l g (declaration.Roster r) = takes_roster (waiting_at l.waiting g) r.names.items r.shares

-- a declaration is taken, and changes the networks that wait; or it is not, and changes nothing
abbrev pub IsDeclared : ℕ → Declaration → Live → Bool → Live → Type 0
IsDeclared g d old true new =
    (takes_declaration old g d ≡ true) × Prepares g d old.waiting new.waiting × (new.running ≡ old.running) × (new.bytes ≡ old.bytes)
IsDeclared g d old false new = (takes_declaration old g d ≡ false) × (new ≡ old)

abbrev pub closing_of_declaration : Bool → Closing
closing_of_declaration true = closing.Taken
closing_of_declaration false = closing.Bad

-- ---- the first event
-- a network to which nothing has happened
abbrev pub begun : Config → Machine
begun c = record { config = c; slots = []; events = 0; bytes = 0; opens = 0 }

-- what waits runs from now on, with the configuration that was declared
abbrev pub IsStarted : Option Outlined → ℕ → Live → Live → Type 0
IsStarted None g old new = new ≡ old
IsStarted (Some d) g old new =
    (c : Config) × IsConfigOf g d c × (new.waiting ≡ waiting_without old.waiting g)
    × (new.running ≡ insert_entry nat_cmp old.running g (begun c)) × (new.bytes ≡ old.bytes)

-- an event names the network of a number, which runs from now on if it waits; or it waits and has no node, and nothing
-- changes
abbrev pub IsBegun : ℕ → Live → Bool → Live → Type 0
IsBegun g old true new = IsStarted (waiting_at old.waiting g) g old new
IsBegun g old false new = (is_bare (waiting_at old.waiting g) ≡ true) × (new ≡ old)

-- ---- events
-- an event of a network that runs, if it does, is served, and then the line is kept; this is its answer
abbrev pub IsServedAt : Option Machine → ℕ → ℕ → Event → Live → LineReply → Live → Type 0
IsServedAt None n g e old a new = (a ≡ one_line n (closing.Refused NoSuchNetwork) None) × (new ≡ old)
IsServedAt (Some m) n g e old a new =
    (after : Machine) × (s : Served) × IsServedBy m (step_of e) after s × (new ≡ with_live old g after)
    × (a ≡ record {
      text = block_of old.bytes n g s.slot (tellings_of s.told.items) (ending_of s);
      done = Some (record { network = g; deed = deed_of e s (drawn m after) });
    })

-- the answer to an event of the network of a number, if it runs: it is served, and the line is kept
abbrev pub IsEventAnswered : ℕ → ℕ → Event → Live → LineReply → Live → Type 0
IsEventAnswered n g e old a new =
    (running : Option Machine) × (live_at old g ≡ running) × IsServedAt running n g e old a new

-- ---- bytes for all nodes
-- each of these nodes gets the bytes, one after the other
pub data AreServed (bytes : Bytes) : List ℕ → Machine → List NodeAnswer → Machine → Type 0 where
  none_left : {m : Machine} → AreServed bytes [] m [] m
  next_node : {us : List ℕ} {old now new : Machine} {answers : List NodeAnswer} (a : NodeAnswer)
      → IsServedBy old (step_of (Deliver a.node bytes)) now a.served → AreServed bytes us now answers new
      → AreServed bytes (a.node ∷ us) old (a ∷ answers) new

-- the slot of the first of them who was not refused
abbrev pub slot_of_answer : Option Refusal → ℕ → Option ℕ → Option ℕ
slot_of_answer None i others = Some i
slot_of_answer (Some r) i others = others

-- the slot of the first of these answers that is no refusal
abbrev pub slot_of_answers : List NodeAnswer → Option ℕ
slot_of_answers [] = None
slot_of_answers (a ∷ answers) = slot_of_answer a.served.refused a.served.slot (slot_of_answers answers)

-- what bytes did that came to all nodes, and drew so much: they were applied at this slot, or each node refused them
abbrev pub deed_of_all : Option ℕ → Drawn → Deed
deed_of_all None d = deed.Refused
deed_of_all (Some i) d = deed.Applied i d

-- the lines of a node: what was told, or why it was refused
abbrev pub lines_of_node : Option Refusal → Bool → ℕ → ℕ → ℕ → NodeAnswer → Bytes
lines_of_node None b n g i a = flat_map (line_of_telling b n g i) (tellings_of a.served.told.items)
lines_of_node (Some r) b n g i a = line_of_telling b n g i (record { node = a.node; reply = Refused r })

-- the lines of a node's answer: what was told, or why it was refused
abbrev pub lines_of_answer : Bool → ℕ → ℕ → ℕ → NodeAnswer → Bytes
lines_of_answer b n g i a = lines_of_node a.served.refused b n g i a

-- the lines of the answers of all nodes, if one of them is no refusal
abbrev pub lines_of_answers : Option ℕ → Bool → ℕ → ℕ → List NodeAnswer → Bytes
lines_of_answers None b n g answers = []
lines_of_answers (Some i) b n g answers = flat_map (lines_of_answer b n g i) answers

-- the better of two closings of a block: `ok`, else `stale`, else the first
abbrev pub better_closing : Closing → Closing → Closing
better_closing closing.Taken c = closing.Taken
better_closing closing.Stale closing.Taken = closing.Taken
better_closing closing.Stale c = closing.Stale
better_closing (closing.Refused r) closing.Taken = closing.Taken
better_closing (closing.Refused r) closing.Stale = closing.Stale
better_closing (closing.Refused r) c = closing.Refused r
better_closing closing.Bad c = c

-- how the block of several answers closes: with the best of their closings
abbrev pub closing_of_answers : List NodeAnswer → Closing
closing_of_answers [] = closing.Refused NoSuchNode
closing_of_answers (a ∷ answers) = better_closing (closing_of (ending_of a.served)) (closing_of_answers answers)

-- the lines of all, and how the block ends
abbrev pub block_of_answers : Bool → ℕ → ℕ → List NodeAnswer → Bytes
block_of_answers b n g answers =
    lines_of_answers (slot_of_answers answers) b n g answers ++ closing_line n (closing_of_answers answers)

-- bytes come to each hosted node of a network that runs, if it does, and then the line is kept; this is the answer
abbrev pub AreServedAt : Option Machine → ℕ → ℕ → Bytes → Live → LineReply → Live → Type 0
AreServedAt None n g bytes old a new = (a ≡ one_line n (closing.Refused NoSuchNetwork) None) × (new ≡ old)
AreServedAt (Some m) n g bytes old a new =
    (after : Machine) × (answers : List NodeAnswer) × AreServed bytes (names_of m.config.nodes) m answers after
    × (new ≡ with_live old g after)
    × (a ≡ record {
      text = block_of_answers old.bytes n g answers;
      done = Some (record { network = g; deed = deed_of_all (slot_of_answers answers) (drawn m after) });
    })

-- the answer to bytes for all nodes of the network of a number, if it runs: they are served, and the line is kept
abbrev pub AreAllAnswered : ℕ → ℕ → Bytes → Live → LineReply → Live → Type 0
AreAllAnswered n g bytes old a new =
    (running : Option Machine) × (live_at old g ≡ running) × AreServedAt running n g bytes old a new

-- ---- networks that are taken back
abbrev pub IsDroppedAt : Option Outlined → Option Machine → ℕ → Live → Bool → Live → Type 0
IsDroppedAt (Some d) running g old taken new =
    (taken ≡ true) × (new ≡ record old { waiting = waiting_without old.waiting g })
IsDroppedAt None (Some m) g old taken new =
    (taken ≡ true) × (new ≡ record old { running = remove_entry (is_at (nat_cmp g)) old.running })
IsDroppedAt None None g old taken new = (taken ≡ false) × (new ≡ old)

-- the network of a number is taken back, whether it waits or runs; or there is none, and nothing changes
abbrev pub IsDropped : ℕ → Live → Bool → Live → Type 0
IsDropped g old taken new = IsDroppedAt (waiting_at old.waiting g) (live_at old g) g old taken new

abbrev pub closing_of_drop : Bool → Closing
closing_of_drop true = closing.Taken
closing_of_drop false = closing.Refused NoSuchNetwork

-- ---- questions
abbrev pub left_by : Option Outlined → Option Machine → Option Left
left_by (Some d) running = Some (all_left d)
left_by None running = option_map (λ m. left_of m.config (used_of m)) running

-- what is left of the budgets of the network of a number, whether it waits or runs
abbrev pub left_at : Live → ℕ → Option Left
left_at l g = left_by (waiting_at l.waiting g) (live_at l g)

-- the block of what is left of a network's budgets, or that there is no such network
abbrev pub IsLeftText : ℕ → ℕ → Option Left → Bytes → Type 0
IsLeftText n g None text = text ≡ closing_line n (closing.Refused NoSuchNetwork)
IsLeftText n g (Some left) text = text ≡ left_line n g left ++ closing_line n closing.Taken

-- why a node of a network that does not run is not shown: there is none, it does not host the node, or no slot is open
abbrev pub not_shown : Option Outlined → ℕ → Refusal
not_shown None u = NoSuchNetwork
not_shown (Some d) u = if list_any (λ hosted. hosted.name == u) d.nodes then SlotNotOpen else NoSuchNode

-- why a node of a network that runs is not at a slot: it is not hosted, or the slot is not open
abbrev pub not_there : Config → ℕ → Refusal
not_there c u = if is_some (index_of_name c.nodes u) then SlotNotOpen else NoSuchNode

-- the lines of a node, if it is there
abbrev pub IsNodeText : ℕ → ℕ → ℕ → Refusal → Option Node → Bytes → Type 0
IsNodeText n g i why None text = text ≡ closing_line n (closing.Refused why)
IsNodeText n g i why (Some u) text = (lines : Bytes) × Shows n g i u lines × (text ≡ lines ++ closing_line n closing.Taken)

-- a node at a slot of a network that runs is shown as it is there
abbrev pub IsShownOf : ℕ → ℕ → ℕ → ℕ → Machine → Bytes → Type 0
IsShownOf n g i u m text =
    (net : Net) → StandsFor m net → IsNodeText n g i (not_there m.config u) (node_at net i u) text

abbrev pub IsShownBy : Option Machine → ℕ → ℕ → ℕ → ℕ → Live → Bytes → Type 0
IsShownBy (Some m) n g i u l text = IsShownOf n g i u m text
IsShownBy None n g i u l text = text ≡ closing_line n (closing.Refused (not_shown (waiting_at l.waiting g) u))

-- a node at a slot of the network of a number is shown, if it is there
abbrev pub IsShown : ℕ → ℕ → ℕ → ℕ → Live → Bytes → Type 0
IsShown n g i u l text = (running : Option Machine) × (live_at l g ≡ running) × IsShownBy running n g i u l text

-- ---- lines
-- a bad line changes nothing, and is not kept
abbrev pub IsBadLine : ℕ → Live → LineReply → Live → Type 0
IsBadLine n old a new = (a ≡ one_line n closing.Bad None) × (new ≡ old)

-- what stands behind the beginning of a network: its answer; or the line is bad
abbrev pub IsAnsweredThen : Bool → ℕ → (Live → LineReply → Live → Type 0) → Live → LineReply → Live → Type 0
IsAnsweredThen true n answers old a new = answers old a new
IsAnsweredThen false n answers old a new = IsBadLine n old a new

abbrev pub IsAnsweredOnceBegun : ℕ → ℕ → (Live → LineReply → Live → Type 0) → Live → LineReply → Live → Type 0
IsAnsweredOnceBegun n g answers old a new =
    (is : Bool) × (now : Live) × IsBegun g old is now × IsAnsweredThen is n answers now a new

-- The answer to what a line asks of the network of a number. A declaration or a `drop` is kept if it is taken. A
-- question is not kept, and changes nothing.
abbrev pub IsAskAnswered : ℕ → ℕ → Ask → Live → LineReply → Live → Type 0
IsAskAnswered n g (ask.Declare d) old a new =
    (taken : Bool) × IsDeclared g d old taken new × (a ≡ one_line n (closing_of_declaration taken) (done_if taken g deed.Declared))
IsAskAnswered n g (ask.Serve e) old a new = IsAnsweredOnceBegun n g (IsEventAnswered n g e) old a new
IsAskAnswered n g (ask.ForAll bytes) old a new = IsAnsweredOnceBegun n g (AreAllAnswered n g bytes) old a new
IsAskAnswered n g ask.Left old a new = IsLeftText n g (left_at old g) a.text × (a.done ≡ None) × (new ≡ old)
IsAskAnswered n g (ask.Show i u) old a new = IsShown n g i u old a.text × (a.done ≡ None) × (new ≡ old)
IsAskAnswered n g ask.Drop old a new =
    (taken : Bool) × IsDropped g old taken new × (a ≡ one_line n (closing_of_drop taken) (done_if taken g deed.Dropped))

abbrev pub IsAnswerTo : ℕ → Option (ℕ × Ask) → Live → LineReply → Live → Type 0
IsAnswerTo n None old a new = IsBadLine n old a new
IsAnswerTo n (Some asked) old a new = IsAskAnswered n asked.0 asked.1 old a new

-- the answer to a line with these fields: to what they ask for, or that it is bad
abbrev pub AreFieldsAnswered : ℕ → List Bytes → Live → LineReply → Live → Type 0
AreFieldsAnswered n fields old a new =
    (asked : Option (ℕ × Ask)) × IsAskedOf fields asked × IsAnswerTo n asked old a new

-- a line that is not skipped is bad, or its fields are answered
abbrev pub IsLineAnswered : ℕ → Bytes → Live → LineReply → Live → Type 0
IsLineAnswered n line old a new =
    (IsBad line × IsBadLine n old a new)
    ⊎ ((fields : List Bytes) × AreFields line fields × AreFieldsAnswered n fields old a new)

-- What a line is answered: its block, which is none if the line is skipped, and what it did, if it is kept. A line that
-- is too long is bad.
abbrev pub Serves : Serving Live
Serves old n None a new = IsBadLine n old a new
Serves old n (Some line) a new =
    (IsSkipped line × (a ≡ unanswered) × (new ≡ old)) ⊎ ((IsSkipped line → ⊥) × IsLineAnswered n line old a new)

-- likewise with a journal, which tells what a line did only if memory sufficed: no block says that it was out of memory
abbrev pub Remembers : Serving Live
Remembers old n line a new = Serves old n line a new × TellsOfNoWant a.text
