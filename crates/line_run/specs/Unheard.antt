-- What nodes of networks have emitted and no line has handed on, by network and slot.
use Rattle.std.specs.Prelude.{◌≡◌, ◌==◌, ◌&&◌, ◌++◌, ℕ, List, [], ◌∷◌, Option, Some, None, Vec, if◌then◌else◌}
use Rattle.std.specs.Global.{Global}
use Rattle.std.specs.declared.cmp.Ordering.{Ordering}
use Rattle.std.specs.Ordering.{nat_cmp, ordering_then}
use Rattle.std.specs.BTreeMap.{is_at}
use Rattle.std.specs.Map.{lookup}
use Rattle.scp_types.specs.Statements.{Sent}
use Rattle.scp_types.specs.declared.event.Event.{Event}
use Rattle.scp_types.specs.declared.event.Event.TheVariants as event
use Rattle.scp_types.specs.declared.event.Out.{Out}
use Rattle.scp_types.specs.declared.event.Out.TheVariants.{ArmNomination, ArmBallot, Emit, Externalized}
use Rattle.scp_spec.specs.Networks.{emissions}
use Rattle.host_network.specs.declared.applied.Given.{Given}
use Rattle.host_network.specs.Marks.{named}
use Rattle.host_network.specs.declared.emission.Emission.{Emission}

-- ---- what waits

-- the emissions that wait, by network and slot
abbrev pub Unheard : Type 0
Unheard = List ((ℕ × ℕ) × Vec Emission Global)

-- the order of slots: that of their networks, and within one that of their numbers
abbrev pub slot_cmp : ℕ × ℕ → ℕ × ℕ → Ordering
slot_cmp x y = ordering_then (nat_cmp x.0 y.0) (nat_cmp x.1 y.1)

-- the emissions of a list, if there is one
abbrev pub emissions_in : Option (Vec Emission Global) → List Emission
emissions_in None = []
emissions_in (Some v) = v.items

-- what waits at a slot of a network, in the order in which it was emitted
abbrev pub unheard_at : Unheard → ℕ → ℕ → List Emission
unheard_at u g i = emissions_in (lookup (is_at (slot_cmp (g, i))) u)

-- these emissions wait at that slot of that network from now on, and elsewhere the same as before
abbrev pub WaitThere : ℕ → ℕ → List Emission → Unheard → Unheard → Type 0
WaitThere g i es old new =
    (j k : ℕ) → unheard_at new j k ≡ (if (g == j) && (i == k) then es else unheard_at old j k)

-- ---- what an event makes wait

-- what an event emitted, by the names under which others hear it
abbrev pub named_emissions : Given → List Emission
named_emissions r = named (emissions r.outs.items) r.marks.items

-- what an event has emitted first
abbrev pub first_emitted : List Out → Option Sent
first_emitted [] = None
first_emitted (Emit e ∷ outs) = Some e
first_emitted (Externalized v ∷ outs) = first_emitted outs
first_emitted (ArmNomination round ∷ outs) = first_emitted outs
first_emitted (ArmBallot counter ∷ outs) = first_emitted outs

-- What an event of the network of a number emitted waits behind what waits, at the slot of the first emission: all that
-- an event emits is of one slot.
abbrev pub WaitsBehind : Option Sent → ℕ → Given → Unheard → Unheard → Type 0
WaitsBehind None g r old new = new ≡ old
WaitsBehind (Some e) g r old new = WaitThere g e.slot (unheard_at old g e.slot ++ named_emissions r) old new

-- the slot that an event closes, if it closes one
abbrev pub slot_closed_by : Event → Option ℕ
slot_closed_by (event.CloseSlot i) = Some i
slot_closed_by e = None

-- an event of the network of a number was applied and gave this out: what it emitted waits from now on; if it closed a
-- slot, nothing waits there
abbrev pub WaitsAfter : Option ℕ → ℕ → Given → Unheard → Unheard → Type 0
WaitsAfter None g r old new = WaitsBehind (first_emitted r.outs.items) g r old new
WaitsAfter (Some i) g r old new = WaitThere g i [] old new
