-- By which numbers the emissions of an event are named.
use Rattle.std.specs.Prelude.{ℕ, suc, List, [], ◌∷◌, ◌++◌, length, filter, Option, Some, None}
use Rattle.scp_types.specs.Statements.{Sent, kind_of}
use Rattle.scp_spec.specs.Rows.{is_kind}
use Rattle.scp_spec.specs.Networks.{Net, Instance, Step, effect, emissions, node_where_open, instances_at}
use Rattle.scp_spec.specs.Networks.Reading.{Read, Fault}
use Rattle.host_network.specs.declared.emission.Emission.{Emission}
use Rattle.scp_spec.specs.Networks.Step.{Opens, Closes, Proposes, Delivers, Hears, NominationTimerFires, BallotTimerFires, Reslices}

-- the slot and the node of an event that is one of a node
abbrev pub slot_and_node_of : Step → Option (ℕ × ℕ)
slot_and_node_of (Opens i) = None
slot_and_node_of (Closes i) = None
slot_and_node_of (Proposes i u x) = Some (i, u)
slot_and_node_of (Delivers u size (Read e)) = Some (e.slot, u)
slot_and_node_of (Delivers u size (Fault n)) = None
slot_and_node_of (Hears i u from kind k) = Some (i, u)
slot_and_node_of (NominationTimerFires i u r) = Some (i, u)
slot_and_node_of (BallotTimerFires i u n) = Some (i, u)
slot_and_node_of (Reslices i u q) = Some (i, u)

-- what a node at a slot has emitted; nothing if there is none
abbrev pub emitted_at : Option Instance → List Sent
emitted_at None = []
emitted_at (Some p) = p.emitted

-- what the node of an event has emitted before it, since its slot was opened
abbrev pub emitted_before : Net → Option (ℕ × ℕ) → List Sent
emitted_before net None = []
emitted_before net (Some at) = emitted_at (node_where_open (instances_at net.slots at.0) at.1)

-- the number of each emission among those of its kind, behind earlier ones
unfoldable pub numbers_by_kind : List Sent → List Sent → List ℕ
numbers_by_kind emitted [] = []
numbers_by_kind emitted (e ∷ es) =
    suc (length (filter (λ x. is_kind (kind_of e.body) (kind_of x.body)) emitted))
    ∷ numbers_by_kind (emitted ++ e ∷ []) es

-- the marks of an event that is not refused: by which number a Hear names each of its emissions
abbrev pub marks_in : Net → Step → List ℕ
marks_in net e = numbers_by_kind (emitted_before net (slot_and_node_of e)) (emissions (effect net e).1)

-- emissions by the names under which others hear them: node, kind and number
abbrev pub named : List Sent → List ℕ → List Emission
named [] ks = []
named (e ∷ es) [] = []
named (e ∷ es) (k ∷ ks) = record { from = e.sender; kind = kind_of e.body; number = k } ∷ named es ks
