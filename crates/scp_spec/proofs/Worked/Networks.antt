-- Networks and their histories, computed from the definitions.
use Rattle.scp_types.specs.declared.event.Out.{Out}
use Rattle.std.proofs.Common.{◌≡◌, ℕ, true, false, Some, None, List, [], ◌∷◌, ◌++◌, not, ◌==◌, map, filter, flat_map, refl}
use Rattle.scp_types.specs.declared.kind.Kind.{Kind}
use Rattle.scp_types.specs.declared.kind.Kind.TheVariants.{Nomination}
use Rattle.scp_types.specs.declared.statement.Statement.TheVariants.{Nominate, Prepare, Externalize}
use Rattle.scp_types.specs.declared.event.Out.TheVariants.{ArmBallot, Emit, Externalized as Decided}
use Rattle.scp_spec.specs.Networks.{Step, Reply}
use Rattle.scp_spec.specs.Networks.Reading.{Read, Fault}
use Rattle.scp_types.specs.declared.event.Refusal.TheVariants.{NoSuchNetwork, NoSuchNode, SlotNotOpen, SlotOpenAlready, TooManySlots, BadEnvelope, HostedSender, NotEmitted, JournalFull, BytesFull, BadValue, ProposedAlready}
use Rattle.scp_spec.specs.Networks.Step.{Opens, Closes, Proposes, Delivers, Hears}
use Rattle.scp_spec.specs.Networks.Reply.{Done, Refused}
use Rattle.scp_spec.specs.Hosts.{Config, Entry, nets, host_run}
use Rattle.scp_spec.specs.Isolation.{closure, kept_of, outs_of}
use Rattle.scp_spec.proofs.Worked.Everything.{everything}
use Rattle.scp_spec.proofs.Worked.Letters.{A, B, C, D, Z, k, m, q, x, y, at, just, two_of_bcd, three_of_abcd, by, to_A, one_net, hosted_with, in_one, replies, nodes_A, run_A, members}

-- ---- refusals
abbrev two_nodes : List Config
two_nodes = one_net (hosted_with A (just A) ∷ hosted_with B (just A) ∷ []) (record { events = 100; bytes = 1000; slots = 1 })

-- a Hear hands over what was emitted and nothing else; nobody delivers under a hosted name
pub hears_what_was_emitted : host_run (nets two_nodes)
    (in_one (Opens 1 ∷ Proposes 1 A x ∷ Hears 1 B A Kind.Ballot 2 ∷ Delivers B 88
    (Read (by A (just A) (Externalize (at 1 x) 1))) ∷ Hears 1 B A Kind.Ballot 1 ∷ Hears 1 B C Kind.Ballot 1
    ∷ Hears 1 B A Kind.Ballot 0 ∷ []) ++ (7, Opens 1) ∷ [])
    ≡ Done [] ∷ Done
    (Emit (by A (just A) (Nominate (x ∷ []) (x ∷ []))) ∷ Emit
    (by A (just A) (Externalize (at 1 x) 1)) ∷ Decided x ∷ []) ∷ Refused NotEmitted ∷ Refused HostedSender
    ∷ Done (Emit (by B (just A) (Externalize (at 1 x) 1)) ∷ Decided x ∷ [])
    ∷ Refused NoSuchNode ∷ Refused NotEmitted ∷ Refused NoSuchNetwork ∷ []
unfolding everything
hears_what_was_emitted = refl

abbrev alone : ℕ → List Config
alone events = one_net (hosted_with A (just A) ∷ []) (record { events = events; bytes = 0; slots = 1 })

-- a closed slot is forgotten, and begins anew when it is opened again
pub reopened_slot_begins_anew : replies (alone 10)
    (Opens 1 ∷ Proposes 1 A x ∷ Proposes 1 A y ∷ Opens 1 ∷ Opens 2 ∷ Closes 1 ∷ Proposes 1 A y ∷ Opens 1
    ∷ Proposes 1 A y ∷ [])
    ≡ Done [] ∷ Done
    (Emit (by A (just A) (Nominate (x ∷ []) (x ∷ []))) ∷ Emit
    (by A (just A) (Externalize (at 1 x) 1)) ∷ Decided x ∷ [])
    ∷ Refused ProposedAlready ∷ Refused SlotOpenAlready ∷ Refused TooManySlots
    ∷ Done [] ∷ Refused SlotNotOpen ∷ Done [] ∷ Done
    (Emit (by A (just A) (Nominate (y ∷ []) (y ∷ []))) ∷ Emit
    (by A (just A) (Externalize (at 1 y) 1)) ∷ Decided y ∷ []) ∷ []
unfolding everything
reopened_slot_begins_anew = refl

-- a full journal takes nothing more; a value has at least one byte; faulty bytes are refused once the node is known
pub full_journal_refuses : replies (alone 2)
    (Opens 1 ∷ Proposes 1 A [] ∷ Delivers B 3 (Fault 1) ∷ Delivers A 3 (Fault 1) ∷ Proposes 1 A x ∷ Closes 1 ∷ [])
    ≡ Done [] ∷ Refused BadValue ∷ Refused NoSuchNode ∷ Refused (BadEnvelope 1) ∷ Done
    (Emit (by A (just A) (Nominate (x ∷ []) (x ∷ []))) ∷ Emit
    (by A (just A) (Externalize (at 1 x) 1)) ∷ Decided x ∷ []) ∷ Refused JournalFull ∷ []
unfolding everything
full_journal_refuses = refl

abbrev few_bytes : List Config
few_bytes = one_net (hosted_with A two_of_bcd ∷ []) (record { events = 100; bytes = 208; slots = 1 })

abbrev from_B : Step
from_B = to_A B (just B) (Prepare (at 9 m) (Some (at 9 m)) 6 0 0)

-- strangers use up the bytes of a network, also by stale envelopes
pub strangers_use_up_bytes : replies few_bytes
    (Opens 1 ∷ to_A Z (just Z) (Prepare (at 9 m) None 0 0 0) ∷ to_A Z (just Z)
    (Prepare (at 9 m) None 0 0 0) ∷ from_B ∷ []) ≡ Done [] ∷ Done [] ∷ Done [] ∷ Refused BytesFull ∷ []
unfolding everything
strangers_use_up_bytes = refl

-- ---- closures and kept steps
abbrev from_C : Step
from_C = to_A C (just C) (Prepare (at 8 k) (Some (at 8 k)) 6 0 0)

abbrev from_Z : Step
from_Z = to_A Z (just Z) (Prepare (at 5 q) None 0 0 0)

abbrev from_D : ℕ → Step
from_D u = to_A D (just u) (Prepare (at 1 k) None 0 0 0)

-- who is named later is in the closure of the whole run, wherever its own envelope came
pub named_later_is_in : members (run_A (Opens 1 ∷ from_B ∷ from_C ∷ from_Z ∷ from_D Z ∷ []))
    ≡ true ∷ true ∷ true ∷ true ∷ true ∷ false ∷ []
unfolding everything closure
named_later_is_in = refl

pub named_later_is_in_from_the_beginning : members (run_A (Opens 1 ∷ from_Z ∷ from_B ∷ from_C ∷ from_D Z ∷ []))
    ≡ true ∷ true ∷ true ∷ true ∷ true ∷ false ∷ []
unfolding everything closure
named_later_is_in_from_the_beginning = refl

abbrev without : List Entry
without = run_A (Opens 1 ∷ from_B ∷ from_C ∷ from_D D ∷ [])

abbrev with_stranger : List Entry
with_stranger = run_A (Opens 1 ∷ from_B ∷ from_C ∷ from_Z ∷ from_D D ∷ [])

pub stranger_is_out : members without ≡ true ∷ true ∷ true ∷ true ∷ false ∷ false ∷ []
unfolding everything closure
stranger_is_out = refl

-- with and without the stranger the same steps are kept, and A gives out the same
pub stranger_is_not_kept : kept_of (closure nodes_A 1 A without) 1 without
    ≡ kept_of (closure nodes_A 1 A without) 1 with_stranger
unfolding everything closure kept_of
stranger_is_not_kept = refl

pub stranger_changes_nothing : outs_of 1 A with_stranger
    ≡ ArmBallot 8 ∷ Emit (by A two_of_bcd (Prepare (at 8 k) (Some (at 1 k)) 0 1 1)) ∷ []
unfolding everything outs_of
stranger_changes_nothing = refl

-- ---- four validators
abbrev four : List Config
four = one_net (hosted_with A three_of_abcd ∷ hosted_with B three_of_abcd ∷ hosted_with C three_of_abcd ∷ hosted_with D three_of_abcd ∷ [])
    (record { events = 1000; bytes = 0; slots = 1 })

abbrev others : ℕ → List ℕ
others u = filter (λ w. not (w == u)) (A ∷ B ∷ C ∷ D ∷ [])

-- all hear the k-th emission of a node
abbrev heard_by_others : Kind → ℕ → ℕ → List Step
heard_by_others kind number u = map (λ w. Hears 1 w u kind number) (others u)

abbrev heard_by_all : Kind → ℕ → List Step
heard_by_all kind number = flat_map (heard_by_others kind number) (A ∷ B ∷ C ∷ D ∷ [])

-- all propose x
abbrev talk : List Step
talk = Opens 1 ∷ Proposes 1 A x ∷ Proposes 1 B x ∷ Proposes 1 C x ∷ Proposes 1 D x ∷ []

abbrev decided_in : List Out → List (List ℕ)
decided_in [] = []
decided_in (Decided v ∷ os) = v ∷ decided_in os
decided_in (_ ∷ os) = decided_in os

abbrev values_of : List Reply → List (List ℕ)
values_of [] = []
values_of (Refused r ∷ rs) = values_of rs
values_of (Done os ∷ rs) = decided_in os ++ values_of rs

-- whoever leads: once all have heard what each emitted, all four externalize x
pub all_externalize : values_of
    (replies four (talk ++ heard_by_all Nomination 1 ++ heard_by_all Nomination 2 ++ heard_by_all Kind.Ballot 1
    ++ heard_by_all Kind.Ballot 2 ++ heard_by_all Kind.Ballot 3 ++ heard_by_all Kind.Ballot 4)) ≡ x ∷ x ∷ x ∷ x ∷ []
unfolding everything
all_externalize = refl
