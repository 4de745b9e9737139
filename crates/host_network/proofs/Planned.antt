-- Plans for events that nothing refuses, and refusals.
use Rattle.std.proofs.Common.{◌≡◌, ℕ, Bool, true, false, List, [], ◌∷◌, map, slice_get, Option, Some, None, Result, Ok, Err, refl, sym, ◌∙◌, ap, subst, inr}
use Rattle.scp_types.specs.Statements.{Sent}
use Rattle.scp_types.specs.declared.event.NodeEvent.{NodeEvent}
use Rattle.scp_types.specs.declared.event.Out.{Out}
use Rattle.scp_types.specs.declared.event.Refusal.{Refusal}
use Rattle.scp_types.specs.declared.event.Refusal.TheVariants.{BadValue, ProposedAlready}
use Rattle.scp_spec.specs.Networks.{Net, Step, act, effect, first_that, has_proposal, is_bad_value, room_test, hosted_test, open_test, node_where_open, outs_at, instances_at, size_of, source, tests}
use Rattle.scp_spec.specs.Rosters.{Roster, Source}
use Rattle.node_core.specs.Filings.{IsFiledEvent, event_of}
use Rattle.node_core.specs.declared.filed.FiledEvent.{FiledEvent}
use Rattle.node_core.specs.declared.filed.FiledEvent.TheVariants as events
use Rattle.scp_types.specs.Trees.{Slices}
use Rattle.scp_spec.specs.Networks.Step.{Proposes, NominationTimerFires, BallotTimerFires, Reslices}
use Rattle.host_config.specs.Configs.{index_of_name}
use Rattle.host_network.specs.Deeds.{HasNoRoom, HasRoomForEvent, IsDrawn, IsNodeOf, IsNodeThere, IsOwnEvent, IsPlan, IsPlanned, IsPlannedSurely, IsRoom, IsCountedInstance, IsSlotThere, IsSpot, IsSpotRefused, slots_after_event, instance_at, own_source}
use Rattle.host_network.specs.Answers.{delivered_of}
use Rattle.host_network.specs.FiledSlots.{CountedInstance, slot_of}
use Rattle.host_network.specs.Marks.{slot_and_node_of}
use Rattle.host_network.specs.Standing.{IsFirstRefusal, IsStanding, FiledMachine, StandsFor, machine_of}
use Rattle.host_network.specs.declared.plan.Deed.TheVariants.{Act, Hand}
use Rattle.host_network.specs.declared.plan.Drawn.{Drawn}
use Rattle.host_network.specs.declared.plan.Plan.{Plan}
use Rattle.host_network.specs.declared.plan.Spot.{Spot}
use Rattle.host_network.proofs.Allowed.{node_then, node_place-in, open_then, passes, refuses, slot-in, stops}
use Rattle.host_network.proofs.Plans.{acted-is, node_where_open-node, neat-net, node-there, outs-are, counted-instance, instance-there}

-- ---- one event of one node
-- what is done by places is what the event does, in each network for which the machine stands
acted-in : (m : FiledMachine) (net : Net) (i u k h : ℕ) (e : NodeEvent) → IsStanding m → IsSlotThere m i k → index_of_name m.config.nodes u ≡ Some h → StandsFor (machine_of m) net → slots_after_event net.slots k h e ≡ (act net i u e).0.slots
acted-in m net i u k h e st q r s = acted-is net i u k h e (neat-net (machine_of m) net st.tidy s) (slot-in m net i s ∙ q) (node_place-in m net u s ∙ r)

outs-in : (m : FiledMachine) (net : Net) (i u k h : ℕ) (e : NodeEvent) → IsStanding m → IsSlotThere m i k → index_of_name m.config.nodes u ≡ Some h → StandsFor (machine_of m) net → outs_at e (instance_at (slice_get net.slots k) h) ≡ (act net i u e).1
outs-in m net i u k h e st q r s = outs-are net i u k h e (neat-net (machine_of m) net st.tidy s) (slot-in m net i s ∙ q) (node_place-in m net u s ∙ r)

-- the places are there
pub places-there : (m : FiledMachine) (i u k h : ℕ) → IsStanding m → IsSlotThere m i k → index_of_name m.config.nodes u ≡ Some h → IsNodeThere (map slot_of (machine_of m).slots) k h
places-there m i u k h st q r =
    let y = instance-there (machine_of m) i u k h st.tidy q r in
    node-there (machine_of m) k h y.1 (y.0, y.2, y.3)

-- an event that is filed
pub act-plan : (m : FiledMachine) (e : Step) (i u : ℕ) (at : Spot) (x : FiledEvent) (d : Drawn) → IsStanding m → IsSpot m i u at → IsFiledEvent m.archive x → IsDrawn (machine_of m) d (source m.config.roster e) → size_of e ≡ 0 → slot_and_node_of e ≡ Some (i, u) → delivered_of e ≡ None
    → ((net : Net) → StandsFor (machine_of m) net → effect net e ≡ act net i u (event_of x)) → ((net : Net) → StandsFor (machine_of m) net → first_that (tests net e) ≡ None)
    → IsPlan m e (record { deed = Act at x; charge = record { drawn = d; size = 0 } })
act-plan m e i u at x d st there filed drawn sized named none is allowed = record {
  allowed = allowed;
  slots = λ net s. acted-in m net i u at.slot_at at.node_at (event_of x) st there.slot there.node s ∙ ap (λ (y : Net × List Out). y.0.slots) (sym (is net s));
  outs = λ net s. outs-in m net i u at.slot_at at.node_at (event_of x) st there.slot there.node s ∙ ap (λ (y : Net × List Out). y.1) (sym (is net s));
  named = subst (λ (o : Option (ℕ × ℕ)). IsNodeOf (machine_of m) o at.slot_at at.node_at) (sym named) (there.slot, there.node);
  handed = sym none;
  drawn = drawn;
  size = sym sized;
  there = (places-there m i u at.slot_at at.node_at st there.slot there.node, filed);
}

-- an envelope that no archive has yet
pub hand-plan : (m : FiledMachine) (e : Step) (i u size : ℕ) (at : Spot) (x : Sent) (d : Drawn) → IsStanding m → IsSpot m i u at → IsDrawn (machine_of m) d (source m.config.roster e) → size ≡ size_of e → slot_and_node_of e ≡ Some (i, u) → delivered_of e ≡ Some x
    → ((net : Net) → effect net e ≡ act net i u (NodeEvent.Take x)) → ((net : Net) → StandsFor (machine_of m) net → first_that (tests net e) ≡ None)
    → IsPlan m e (record { deed = Hand at x; charge = record { drawn = d; size = size } })
hand-plan m e i u size at x d st there drawn sized named taken is allowed = record {
  allowed = allowed;
  slots = λ net s. acted-in m net i u at.slot_at at.node_at (NodeEvent.Take x) st there.slot there.node s ∙ ap (λ (y : Net × List Out). y.0.slots) (sym (is net));
  outs = λ net s. outs-in m net i u at.slot_at at.node_at (NodeEvent.Take x) st there.slot there.node s ∙ ap (λ (y : Net × List Out). y.1) (sym (is net));
  named = subst (λ (o : Option (ℕ × ℕ)). IsNodeOf (machine_of m) o at.slot_at at.node_at) (sym named) (there.slot, there.node);
  handed = sym taken;
  drawn = drawn;
  size = sized;
  there = places-there m i u at.slot_at at.node_at st there.slot there.node;
}

-- what takes no memory is a plan or a refusal
pub planned : (m : FiledMachine) (e : Step) (r : Result Plan Refusal) → IsPlannedSurely m e r → IsPlanned m e r
planned m e (Ok p) h = h
planned m e (Err x) h = inr h

-- ---- events of a node's own
-- their tests, on what they draw
abbrev own_tests_on : Net → ℕ → ℕ → Source → List (Bool × Refusal)
own_tests_on net i u s = hosted_test net u ∷ open_test net i ∷ room_test net s ∷ []

pub own-plan : (m : FiledMachine) (i u : ℕ) (sp : Spot) (x : FiledEvent) (d : Drawn) (e : Step) → IsStanding m → IsSpot m i u sp → IsFiledEvent m.archive x → IsRoom m (λ o. own_source o i u) (Ok d) → IsOwnEvent i u x e
    → IsPlan m e (record { deed = Act sp x; charge = record { drawn = d; size = 0 } })
own-plan m i u sp x d e st at filed room own =
    act-plan m e i u sp x d st at filed (subst (IsDrawn (machine_of m) d) (sym (own.source_is m.config.roster)) room.0) own.size_is own.named_is own.none_is (λ net s. own.effect_is net)
    (λ net s. ap first_that (own.tests_are net) ∙ node_then m net u sp.node_at (open_test net i ∷ room_test net (own_source net.roster i u) ∷ []) s at.node
    ∙ open_then m net i sp.slot_at (room_test net (own_source net.roster i u) ∷ []) s at.slot ∙ passes (room_test net (own_source net.roster i u)) [] (room.1 net s))

-- no such node, or no such slot
pub own-nowhere : (m : FiledMachine) (i u : ℕ) (x : FiledEvent) (e : Step) (r : Refusal) → IsSpotRefused m i u r → IsOwnEvent i u x e → IsFirstRefusal (machine_of m) e r
own-nowhere m i u x e r nowhere own = λ net s. ap first_that (own.tests_are net) ∙ nowhere net s (room_test net (own_source net.roster i u) ∷ [])

-- no room
pub own-full : (m : FiledMachine) (i u : ℕ) (sp : Spot) (x : FiledEvent) (e : Step) (r : Refusal) → IsSpot m i u sp → IsRoom m (λ o. own_source o i u) (Err r) → IsOwnEvent i u x e → IsFirstRefusal (machine_of m) e r
own-full m i u sp x e r at full own =
    λ net s. ap first_that (own.tests_are net) ∙ node_then m net u sp.node_at (open_test net i ∷ room_test net (own_source net.roster i u) ∷ []) s at.node
    ∙ open_then m net i sp.slot_at (room_test net (own_source net.roster i u) ∷ []) s at.slot ∙ stops (room_test net (own_source net.roster i u)) r [] (full net s)

-- an event whose tests and effect are those of a node's own, by what it draws on where there is a roster
own-by : (i u : ℕ) (x : FiledEvent) (e : Step) → ((net : Net) → tests net e ≡ own_tests_on net i u (source net.roster e)) → ((net : Net) → effect net e ≡ act net i u (event_of x)) → ((r : Roster) → source (Some r) e ≡ own_source (Some r) i u)
    → size_of e ≡ 0 → slot_and_node_of e ≡ Some (i, u) → delivered_of e ≡ None → IsOwnEvent i u x e
own-by i u x e own does drawn sized named none = record { tests_are = λ net. own net ∙ ap (own_tests_on net i u) (at net.roster); effect_is = does; source_is = at; size_is = sized; named_is = named; none_is = none }
  where
    at : (o : Option Roster) → source o e ≡ own_source o i u
    at None = refl
    at (Some r) = drawn r

-- timers and slices
pub nomination-own : (i u r : ℕ) → IsOwnEvent i u (events.NominationTimer r) (NominationTimerFires i u r)
unfolding effect
nomination-own i u r = own-by i u (events.NominationTimer r) (NominationTimerFires i u r) (λ net. refl) (λ net. refl) (λ x. refl) refl refl refl

pub ballot-own : (i u n : ℕ) → IsOwnEvent i u (events.BallotTimer n) (BallotTimerFires i u n)
unfolding effect
ballot-own i u n = own-by i u (events.BallotTimer n) (BallotTimerFires i u n) (λ net. refl) (λ net. refl) (λ x. refl) refl refl refl

pub reslice-own : (i u : ℕ) (q : Slices) → IsOwnEvent i u (events.Reslice q) (Reslices i u q)
unfolding effect
reslice-own i u q = own-by i u (events.Reslice q) (Reslices i u q) (λ net. refl) (λ net. refl) (λ x. refl) refl refl refl

-- ---- room
pub roster-in : (m : FiledMachine) (net : Net) → StandsFor (machine_of m) net → net.roster ≡ m.config.roster
roster-in m net s = ap (λ (n : Net). n.roster) s.is

pub room-ok : (m : FiledMachine) (of : Option Roster → Source) (d : Drawn) → IsDrawn (machine_of m) d (of m.config.roster) → HasRoomForEvent (machine_of m) d → IsRoom m of (Ok d)
room-ok m of d drawn room = (drawn, λ net s. room (of net.roster) net (subst (λ o. IsDrawn (machine_of m) d (of o)) (sym (roster-in m net s)) drawn) s)

pub room-err : (m : FiledMachine) (of : Option Roster → Source) (d : Drawn) (r : Refusal) → IsDrawn (machine_of m) d (of m.config.roster) → HasNoRoom (machine_of m) d r → IsRoom m of (Err r)
room-err m of d r drawn full = λ net s. full (of net.roster) net (subst (λ o. IsDrawn (machine_of m) d (of o)) (sym (roster-in m net s)) drawn) s

-- ---- a proposal
-- its tests, on what they draw
abbrev asks_tests : Net → ℕ → ℕ → List ℕ → Source → List (Bool × Refusal)
asks_tests net i u x s = hosted_test net u ∷ open_test net i ∷ (is_bad_value x, BadValue) ∷ (has_proposal (node_where_open (instances_at net.slots i) u), ProposedAlready) ∷ room_test net s ∷ []

asks-source : (o : Option Roster) (i u : ℕ) (x : List ℕ) → source o (Proposes i u x) ≡ own_source o i u
asks-source None i u x = refl
asks-source (Some r) i u x = refl

asks-are : (net : Net) (i u : ℕ) (x : List ℕ) → first_that (tests net (Proposes i u x)) ≡ first_that (asks_tests net i u x (own_source net.roster i u))
asks-are net i u x = ap (λ s. first_that (asks_tests net i u x s)) (asks-source net.roster i u x)

-- what is tested once the node is there
asks-there : (m : FiledMachine) (net : Net) (i u : ℕ) (x : List ℕ) (sp : Spot) → IsSpot m i u sp → StandsFor (machine_of m) net
    → first_that (tests net (Proposes i u x)) ≡ first_that ((is_bad_value x, BadValue) ∷ (has_proposal (node_where_open (instances_at net.slots i) u), ProposedAlready) ∷ room_test net (own_source net.roster i u) ∷ [])
asks-there m net i u x sp at s =
    let ts : List (Bool × Refusal) = (is_bad_value x, BadValue) ∷ (has_proposal (node_where_open (instances_at net.slots i) u), ProposedAlready) ∷ room_test net (own_source net.roster i u) ∷ [] in
    asks-are net i u x ∙ node_then m net u sp.node_at (open_test net i ∷ ts) s at.node ∙ open_then m net i sp.slot_at ts s at.slot

pub asks-nowhere : (m : FiledMachine) (i u : ℕ) (x : List ℕ) (r : Refusal) → IsSpotRefused m i u r → IsFirstRefusal (machine_of m) (Proposes i u x) r
asks-nowhere m i u x r nowhere = λ net s. asks-are net i u x ∙ nowhere net s ((is_bad_value x, BadValue) ∷ (has_proposal (node_where_open (instances_at net.slots i) u), ProposedAlready) ∷ room_test net (own_source net.roster i u) ∷ [])

pub asks-bad : (m : FiledMachine) (i u : ℕ) (x : List ℕ) (sp : Spot) → IsSpot m i u sp → is_bad_value x ≡ true → IsFirstRefusal (machine_of m) (Proposes i u x) BadValue
asks-bad m i u x sp at bad = λ net s. asks-there m net i u x sp at s ∙ refuses (is_bad_value x) BadValue ((has_proposal (node_where_open (instances_at net.slots i) u), ProposedAlready) ∷ room_test net (own_source net.roster i u) ∷ []) bad

-- the node at the place of a name and an open slot
pub node_where_open-instance : (m : FiledMachine) (net : Net) (i u k h : ℕ) (y : CountedInstance) → IsStanding m → StandsFor (machine_of m) net → IsSlotThere m i k → index_of_name m.config.nodes u ≡ Some h → IsCountedInstance (machine_of m) k h y → node_where_open (instances_at net.slots i) u ≡ Some y.instance
node_where_open-instance m net i u k h y st s q r is =
    node_where_open-node net.nodes net.slots i u k h (neat-net (machine_of m) net st.tidy s) (slot-in m net i s ∙ q) (node_place-in m net u s ∙ r)
    ∙ ap (λ (n : Net). instance_at (slice_get n.slots k) h) s.is ∙ counted-instance (machine_of m) k h y is

asks-good : (m : FiledMachine) (net : Net) (i u : ℕ) (x : List ℕ) (sp : Spot) (y : CountedInstance) (b : Bool) → IsStanding m → IsSpot m i u sp → IsCountedInstance (machine_of m) sp.slot_at sp.node_at y → is_bad_value x ≡ false → b ≡ has_proposal (Some y.instance) → StandsFor (machine_of m) net
    → first_that (tests net (Proposes i u x)) ≡ first_that ((b, ProposedAlready) ∷ room_test net (own_source net.roster i u) ∷ [])
asks-good m net i u x sp y b st at is good given s =
    let ts : List (Bool × Refusal) = room_test net (own_source net.roster i u) ∷ [] in
    asks-there m net i u x sp at s ∙ passes (is_bad_value x, BadValue) ((has_proposal (node_where_open (instances_at net.slots i) u), ProposedAlready) ∷ ts) good
    ∙ ap (λ (c : Bool). first_that ((c, ProposedAlready) ∷ ts)) (ap has_proposal (node_where_open-instance m net i u sp.slot_at sp.node_at y st s at.slot at.node is) ∙ sym given)

pub asks-again : (m : FiledMachine) (i u : ℕ) (x : List ℕ) (sp : Spot) (y : CountedInstance) (b : Bool) → IsStanding m → IsSpot m i u sp → IsCountedInstance (machine_of m) sp.slot_at sp.node_at y → is_bad_value x ≡ false → b ≡ has_proposal (Some y.instance) → b ≡ true → IsFirstRefusal (machine_of m) (Proposes i u x) ProposedAlready
asks-again m i u x sp y b st at is good given has = λ net s. asks-good m net i u x sp y b st at is good given s ∙ refuses b ProposedAlready (room_test net (own_source net.roster i u) ∷ []) has

pub asks-full : (m : FiledMachine) (i u : ℕ) (x : List ℕ) (sp : Spot) (y : CountedInstance) (b : Bool) (r : Refusal) → IsStanding m → IsSpot m i u sp → IsCountedInstance (machine_of m) sp.slot_at sp.node_at y → is_bad_value x ≡ false → b ≡ has_proposal (Some y.instance) → b ≡ false → IsRoom m (λ o. own_source o i u) (Err r)
    → IsFirstRefusal (machine_of m) (Proposes i u x) r
asks-full m i u x sp y b r st at is good given has full =
    λ net s. asks-good m net i u x sp y b st at is good given s ∙ passes (b, ProposedAlready) (room_test net (own_source net.roster i u) ∷ []) has ∙ stops (room_test net (own_source net.roster i u)) r [] (full net s)

pub asks-plan : (m : FiledMachine) (i u : ℕ) (x : List ℕ) (sp : Spot) (y : CountedInstance) (b : Bool) (d : Drawn) → IsStanding m → IsSpot m i u sp → IsCountedInstance (machine_of m) sp.slot_at sp.node_at y → is_bad_value x ≡ false → b ≡ has_proposal (Some y.instance) → b ≡ false → IsRoom m (λ o. own_source o i u) (Ok d)
    → IsPlan m (Proposes i u x) (record { deed = Act sp (events.Propose x); charge = record { drawn = d; size = 0 } })
unfolding effect
asks-plan m i u x sp y b d st at is good given has room =
    act-plan m (Proposes i u x) i u sp (events.Propose x) d st at tt (subst (IsDrawn (machine_of m) d) (sym (asks-source m.config.roster i u x)) room.0) refl refl refl (λ net s. refl)
    (λ net s. asks-good m net i u x sp y b st at is good given s ∙ passes (b, ProposedAlready) (room_test net (own_source net.roster i u) ∷ []) has ∙ passes (room_test net (own_source net.roster i u)) [] (room.1 net s))
