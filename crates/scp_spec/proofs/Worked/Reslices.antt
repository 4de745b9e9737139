-- Slices that change in the middle of a slot, computed from the definitions.
use Rattle.std.proofs.Common.{◌≡◌, true, false, Some, None, List, [], ◌∷◌, ◌++◌, refl}
use Rattle.scp_types.specs.Trees.{Slices, node, none}
use Rattle.scp_types.specs.declared.kind.Kind.{Kind}
use Rattle.scp_types.specs.declared.statement.Statement.TheVariants.{Nominate, Prepare, Externalize}
use Rattle.scp_types.specs.declared.event.NodeEvent.TheVariants.{Take, Reslice}
use Rattle.scp_types.specs.declared.event.Out.TheVariants.{ArmBallot, Emit, Externalized as Decided}
use Rattle.scp_types.specs.declared.event.Refusal.TheVariants.{NoSuchNode, SlotNotOpen, JournalFull}
use Rattle.scp_spec.specs.Nodes.{Node, fresh, step}
use Rattle.scp_spec.specs.Networks.{Step}
use Rattle.scp_spec.specs.Networks.Step.{Opens, Closes, Proposes, Hears, Reslices}
use Rattle.scp_spec.specs.Networks.Reply.{Done, Refused}
use Rattle.scp_spec.specs.Hosts.{Config, Entry, nets, host_run}
use Rattle.scp_spec.specs.Isolation.{KeptStep, closure, kept_of}
use Rattle.scp_spec.specs.Isolation.KeptStep.{Opening, EventAt}
use Rattle.scp_spec.proofs.Worked.Everything.{everything}
use Rattle.scp_spec.proofs.Worked.Letters.{A, B, C, E, Z, k, m, q, x, at, just, two_of_bcd, by, to_A, net_of_A, one_net, hosted_with, in_one, replies, nodes_A, run_A, members}

abbrev two_of_bcz : Slices
two_of_bcz = record { threshold = 2; members = node B (node C (node Z none)) }

-- B and C accept all ballots below 6 as aborted, and a stranger names one there
abbrev unnamed : List Step
unnamed =
    Opens 1 ∷ to_A B (just B) (Prepare (at 9 m) (Some (at 9 m)) 6 0 0) ∷ to_A C (just C)
    (Prepare (at 8 k) (Some (at 8 k)) 6 0 0) ∷ to_A Z (just Z) (Prepare (at 5 q) None 0 0 0) ∷ []

-- once the stranger stands in new slices, its early ballot is accepted through B and C and confirmed by A, B and C, and
-- they raise A to counter 8; what is emitted carries the new slices
pub named_by_new_slices : replies (net_of_A two_of_bcd) (unnamed ++ Reslices 1 A two_of_bcz ∷ [])
    ≡ Done [] ∷ Done [] ∷ Done [] ∷ Done [] ∷ Done
    (ArmBallot 8 ∷ Emit (by A two_of_bcz (Prepare (at 8 q) (Some (at 5 q)) 0 5 5)) ∷ []) ∷ []
unfolding everything
named_by_new_slices = refl

-- ---- closures and kept steps
-- the closure has the names of the configured slices and of the new ones
pub new_names_are_in : members (run_A (unnamed ++ Reslices 1 A two_of_bcz ∷ []))
    ≡ true ∷ true ∷ true ∷ true ∷ true ∷ false ∷ []
unfolding everything closure
new_names_are_in = refl

-- names that are named no more stay in
pub old_names_stay_in : members (run_A (unnamed ++ Reslices 1 A (just B) ∷ []))
    ≡ true ∷ true ∷ true ∷ true ∷ false ∷ false ∷ []
unfolding everything closure
old_names_stay_in = refl

-- slices of another slot name nobody here
pub other_slots_name_nobody : members (run_A (Opens 2 ∷ Reslices 2 A two_of_bcz ∷ []))
    ≡ true ∷ true ∷ true ∷ true ∷ false ∷ false ∷ []
unfolding everything closure
other_slots_name_nobody = refl

abbrev with_new : List Entry
with_new = run_A (unnamed ++ Reslices 1 A two_of_bcz ∷ [])

abbrev four_kept : List KeptStep
four_kept =
    Opening ∷ EventAt A (Take (by B (just B) (Prepare (at 9 m) (Some (at 9 m)) 6 0 0))) ∷ EventAt A
    (Take (by C (just C) (Prepare (at 8 k) (Some (at 8 k)) 6 0 0))) ∷ EventAt A
    (Take (by Z (just Z) (Prepare (at 5 q) None 0 0 0))) ∷ []

-- new slices are a kept step: a run with them agrees with the run before them at four places, and at no fifth
pub new_slices_are_kept : kept_of (closure nodes_A 1 A with_new) 1 with_new ≡ four_kept
    ++ EventAt A (Reslice two_of_bcz) ∷ []
unfolding everything closure kept_of
new_slices_are_kept = refl

pub four_places_agree : kept_of (closure nodes_A 1 A with_new) 1 (run_A unnamed) ≡ four_kept
unfolding everything closure kept_of
four_places_agree = refl

-- ---- what is emitted
abbrev both_nominate : List Step
both_nominate =
    Opens 1 ∷ to_A B (just B) (Nominate (x ∷ []) (x ∷ [])) ∷ to_A C (just C) (Nominate (x ∷ []) (x ∷ [])) ∷ []

-- new slices alone emit nothing; they travel with the next statement
pub new_slices_travel_with_the_next : replies (net_of_A two_of_bcd)
    (both_nominate ++ Reslices 1 A (just E) ∷ to_A E (just E) (Prepare (at 2 x) (Some (at 2 x)) 0 0 0) ∷ [])
    ≡ Done [] ∷ Done [] ∷ Done
    (Emit (by A two_of_bcd (Nominate [] (x ∷ []))) ∷ Emit
    (by A two_of_bcd (Prepare (at 1 x) None 0 0 0)) ∷ []) ∷ Done []
    ∷ Done (ArmBallot 2 ∷ Emit (by A (just E) (Prepare (at 2 x) (Some (at 2 x)) 0 2 2)) ∷ []) ∷ []
unfolding everything
new_slices_travel_with_the_next = refl

-- what B says decides nothing for A until A trusts B alone; then new slices decide in one event
pub new_slices_may_decide : replies (net_of_A two_of_bcd)
    (Opens 1 ∷ to_A B (just B) (Externalize (at 3 x) 3) ∷ Reslices 1 A (just B) ∷ [])
    ≡ Done [] ∷ Done [] ∷ Done (Emit (by A (just B) (Externalize (at 3 x) 3)) ∷ Decided x ∷ []) ∷ []
unfolding everything
new_slices_may_decide = refl

-- what is accepted and confirmed stays, whatever slices come; the timer that was armed is live, and what follows it
-- carries the new slices
pub what_is_confirmed_stays : replies (net_of_A two_of_bcd)
    (unnamed ++ Reslices 1 A two_of_bcz ∷ Reslices 1 A (just E) ∷ Reslices 1 A two_of_bcd ∷ [])
    ≡ Done [] ∷ Done [] ∷ Done [] ∷ Done [] ∷ Done
    (ArmBallot 8 ∷ Emit (by A two_of_bcz (Prepare (at 8 q) (Some (at 5 q)) 0 5 5)) ∷ []) ∷ Done [] ∷ Done [] ∷ []
unfolding everything
what_is_confirmed_stays = refl

-- ---- networks
-- the node is tested first, then the slot, then the journal; slices that are the same are journalled too
pub new_slices_are_refused : replies (one_net (hosted_with A (just A) ∷ []) (record { events = 3; bytes = 0; slots = 1 }))
    (Reslices 1 B (just B) ∷ Reslices 1 A (just B) ∷ Opens 1 ∷ Reslices 1 A (just A) ∷ Reslices 1 A
    (just B) ∷ Reslices 1 A (just A) ∷ Reslices 1 B (just B) ∷ [])
    ≡ Refused NoSuchNode ∷ Refused SlotNotOpen ∷ Done [] ∷ Done [] ∷ Done [] ∷ Refused JournalFull
    ∷ Refused NoSuchNode ∷ []
unfolding everything
new_slices_are_refused = refl

-- a slot that is opened again begins with the configured slices
pub reopened_slot_has_the_configured_slices : replies
    (one_net (hosted_with A (just A) ∷ []) (record { events = 100; bytes = 0; slots = 1 }))
    (Opens 1 ∷ Reslices 1 A (just B) ∷ Closes 1 ∷ Opens 1 ∷ Proposes 1 A x ∷ [])
    ≡ Done [] ∷ Done [] ∷ Done [] ∷ Done [] ∷ Done
    (Emit (by A (just A) (Nominate (x ∷ []) (x ∷ []))) ∷ Emit
    (by A (just A) (Externalize (at 1 x) 1)) ∷ Decided x ∷ []) ∷ []
unfolding everything
reopened_slot_has_the_configured_slices = refl

abbrev both_hosted : List Config
both_hosted = one_net (hosted_with A (just A) ∷ hosted_with B (just A) ∷ []) (record { events = 100; bytes = 1000; slots = 1 })

-- what was emitted is heard with the slices that it was emitted with
pub heard_with_the_old_slices : host_run (nets both_hosted)
    (in_one (Opens 1 ∷ Proposes 1 A x ∷ Reslices 1 A (just C) ∷ Hears 1 B A Kind.Ballot 1 ∷ []))
    ≡ Done [] ∷ Done
    (Emit (by A (just A) (Nominate (x ∷ []) (x ∷ []))) ∷ Emit
    (by A (just A) (Externalize (at 1 x) 1)) ∷ Decided x ∷ []) ∷ Done []
    ∷ Done (Emit (by B (just A) (Externalize (at 1 x) 1)) ∷ Decided x ∷ []) ∷ []
unfolding everything
heard_with_the_old_slices = refl

-- ---- leaders stay
-- B led the first round, and is named no more
abbrev led_by_B : Node
led_by_B =
    record (fresh 1 A (just C)) {
      inputs = record { proposal = None; round = 1; leaders = B ∷ []; ballot_timeouts = 0 };
    }

-- what it nominates is voted for all the same
pub old_leader_is_echoed : (step led_by_B (Take (by B (just B) (Nominate (x ∷ []) [])))).1
    ≡ Emit (by A (just C) (Nominate (x ∷ []) [])) ∷ []
unfolding everything
old_leader_is_echoed = refl
