-- No event exceeds the budgets.
use Rattle.std.specs.Prelude.{◌≡◌, ◌⊎◌, ◌+◌, ◌<◌, ◌≤◌, ℕ, Bool, true, false, List, Option, Some, None, if◌then◌else◌}
use Rattle.std.proofs.Common.{refl, sym, ap, subst, arith, inl, inr}
use Rattle.scp_types.specs.declared.event.Event.TheVariants.{Deliver}
use Rattle.scp_spec.specs.Counts.{HasRoomForBytes, HasRoomForEvents}
use Rattle.scp_spec.specs.Networks.{Net, Reply, Step, first_that, net_step, on_budgets, on_opens, size_of, source, tests}
use Rattle.scp_spec.specs.Networks.Reading.{Fault, Read}
use Rattle.scp_spec.specs.Networks.Step.{BallotTimerFires, Closes, Delivers, Hears, NominationTimerFires, Opens, Proposes, Reslices}
use Rattle.scp_spec.specs.Rosters.{Roster, Share, Source, is_on, share_or_budgets}
use Rattle.scp_spec.specs.Rosters.Share.{Own, Pair}
use Rattle.scp_spec.specs.Rosters.Source.{OfBudgets, OfOpens, OfShare}
use Rattle.scp_spec.proofs.Networks.Drawn.{counted-next}
use Rattle.scp_spec.proofs.Networks.Effects.{effect-keeps, net_step-keeps, next}
use Rattle.scp_spec.proofs.Networks.Refusals.{applied_where_room}
use Rattle.scp_spec.proofs.Networks.Room.{room-bytes, room-events}
use Rattle.host_network.specs.Decoding.{step_of}
use Rattle.host_network.specs.Standing.{IsStood, Machine, StandsFor, net_of}
use Rattle.live_network.specs.Serving.{AreHeard, Ending, Hearing, IsServed, IsTried, ToldReply}
use Rattle.live_network.specs.Serving.AreHeard.{all_heard, one_heard}
use Rattle.live_network.specs.Serving.IsServed.{done, refused}
use Rattle.live_network.specs.Serving.IsTried.{stepped, wanting}
use Rattle.live_network.specs.Telling.{IsServedBy}
use Rattle.live_network.specs.declared.served.Served.{Served}
use Rattle.line_script.specs.Script.{Bytes}
use Rattle.live_host.specs.Hosts.{AreServed}
use Rattle.live_host.specs.Hosts.AreServed.{next_node, none_left}
use Rattle.live_host.specs.declared.all.NodeAnswer.{NodeAnswer}
use Rattle.live_host.specs.Erasing.{HasOpensFor, HasRoomBy, HasRoomForMore, none_drawn}
use Rattle.live_host.proofs.ErasedMachines.{served-stood}
use Rattle.live_host.proofs.ErasedStanding.{room-of}
use Rattle.live_host.proofs.ErasedThere.{less-opens}

-- ---- steps
-- the shares of openings and closings are those of the roster
abbrev AreSharesOf : Option Roster → Source → Type 0
AreSharesOf r OfBudgets = Unit {0}
AreSharesOf None (OfOpens shares) = ⊥
AreSharesOf (Some r) (OfOpens shares) = shares ≡ r.shares
AreSharesOf r (OfShare shares i s) = Unit {0}

shares-of-share : (r : Roster) (i : ℕ) (s : Share) → AreSharesOf (Some r) (share_or_budgets r i s)
shares-of-share r i s = by (is_on r.names s)
  where
    by : (on : Bool) → AreSharesOf (Some r) (if on then OfShare r.shares i s else OfBudgets)
    by true = tt
    by false = tt

shares-of : (r : Option Roster) (e : Step) → AreSharesOf r (source r e)
shares-of None e = tt
shares-of (Some r) (Opens i) = refl
shares-of (Some r) (Closes i) = refl
shares-of (Some r) (Proposes i u x) = shares-of-share r i (Own u)
shares-of (Some r) (Delivers u size (Read e)) = shares-of-share r e.slot (Pair u e.sender)
shares-of (Some r) (Delivers u size (Fault n)) = tt
shares-of (Some r) (Hears i u from kind k) = shares-of-share r i (Pair u from)
shares-of (Some r) (NominationTimerFires i u n) = shares-of-share r i (Own u)
shares-of (Some r) (BallotTimerFires i u n) = shares-of-share r i (Own u)
shares-of (Some r) (Reslices i u q) = shares-of-share r i (Own u)

events-within : (net : Net) (s : Source) → HasRoomForEvents net s → net.events + 0 ≤ net.budgets.events
    → (net.events + on_budgets s 1) + 0 ≤ net.budgets.events
events-within net OfBudgets room less = let here : net.events < net.budgets.events = room in omega arith
events-within net (OfOpens shares) room less = omega arith
events-within net (OfShare shares i s) room less = omega arith

bytes-within : (net : Net) (s : Source) (size : ℕ) → HasRoomForBytes net s size ⊎ (size ≡ 0)
    → net.bytes + 0 ≤ net.budgets.bytes → (net.bytes + on_budgets s size) + 0 ≤ net.budgets.bytes
bytes-within net OfBudgets size (inl room) less =
    let here : net.bytes + size ≤ net.budgets.bytes = room in omega arith
bytes-within net OfBudgets size (inr none) less = omega arith
bytes-within net (OfOpens shares) size room less = omega arith
bytes-within net (OfShare shares i s) size room less = omega arith

opens-within : (net : Net) (r : Option Roster) (s : Source) → AreSharesOf r s → HasRoomForEvents net s
    → HasOpensFor (net.opens + 0) r → HasOpensFor ((net.opens + on_opens s) + 0) r
opens-within net r OfBudgets of room less = less-opens ((net.opens + 0) + 0) (net.opens + 0) r (omega arith) less
opens-within net None (OfOpens shares) of room less = tt
opens-within net (Some r) (OfOpens shares) of room less =
    let here : net.opens < shares.opens = room in
    let same : shares.opens ≡ r.shares.opens = ap (λ x. x.opens) of in
    let most : (net.opens + 1) + 0 ≤ r.shares.opens = omega arith in
    most
opens-within net r (OfShare shares i s) of room less = less-opens ((net.opens + 0) + 0) (net.opens + 0) r (omega arith) less

next-within : (net : Net) (e : Step) → first_that (tests net e) ≡ None → HasRoomForMore none_drawn net
    → HasRoomForMore none_drawn (next net e)
next-within net e passes room =
    let count = counted-next net e in
    let kept = effect-keeps net e in
    let has = applied_where_room net e passes in
    let s : Source = source net.roster e in
    let event = room-events net e has in
    record {
      events = subst (λ b. (next net e).events + 0 ≤ b.events) (sym kept.budgets)
          (subst (λ n. n + 0 ≤ net.budgets.events) (sym count.events) (events-within net s event room.events));
      bytes = subst (λ b. (next net e).bytes + 0 ≤ b.bytes) (sym kept.budgets)
          (subst (λ n. n + 0 ≤ net.budgets.bytes) (sym count.bytes)
          (bytes-within net s (size_of e) (room-bytes net e has) room.bytes));
      opens = subst (HasOpensFor ((next net e).opens + 0)) (sym kept.roster)
          (subst (λ n. HasOpensFor (n + 0) net.roster) (sym count.opens)
          (opens-within net net.roster s (shares-of net.roster e) event room.opens));
    }

step-within : (net : Net) (e : Step) → HasRoomForMore none_drawn net → HasRoomForMore none_drawn (net_step net e).0
step-within net e room = net_step-keeps (HasRoomForMore none_drawn) next-within net e room

-- ---- events
tried-within : {old : Net} {e : Step} {r : Reply} {new : Net} → HasRoomForMore none_drawn old → IsTried old e r new
    → HasRoomForMore none_drawn new
tried-within {old} {e} room stepped = step-within old e room
tried-within room (wanting why) = room

heard-within : {j : ℕ} {hs : List Hearing} {old : Net} {told : List ToldReply} {new : Net} → HasRoomForMore none_drawn old
    → AreHeard j hs old told new → HasRoomForMore none_drawn new
heard-within room all_heard = room
heard-within room (one_heard r tried others) = heard-within (tried-within room tried) others

net-within : {net : Net} {e : Step} {ending : Ending} {told : List ToldReply} {after : Net} → HasRoomForMore none_drawn net
    → IsServed net e ending told after → HasRoomForMore none_drawn after
net-within room (refused r tried) = room
net-within room (done os tried heard) = heard-within (tried-within room tried) heard

-- a machine has room where a network has it for which it stands
room-by : (m : Machine) (net : Net) → StandsFor m net → HasRoomForMore none_drawn net → HasRoomBy none_drawn m
room-by m net stands room =
    let here = subst (HasRoomForMore none_drawn) stands.is room in
    record { events = here.events; bytes = here.bytes; opens = here.opens }

pub served-within : (m : Machine) (e : Step) (after : Machine) (s : Served) → IsStood m → IsServedBy m e after s
    → HasRoomBy none_drawn m → HasRoomBy none_drawn after
served-within m e after s (draws, tallied) served room =
    let stands : StandsFor m (net_of m draws) = record { is = refl; tallied = tallied } in
    let step = served.served (net_of m draws) stands in
    room-by after step.0 step.2 (net-within (room-of none_drawn m (net_of m draws) stands room) step.1)

pub all-within : (bytes : Bytes) {us : List ℕ} {m : Machine} {answers : List NodeAnswer} {after : Machine} → IsStood m
    → AreServed bytes us m answers after → HasRoomBy none_drawn m → HasRoomBy none_drawn after
all-within bytes stood none_left room = room
all-within bytes {m = m} stood (next_node {now} a served others) room =
    all-within bytes (served-stood m (step_of (Deliver a.node bytes)) now a.served stood served).0 others
    (served-within m (step_of (Deliver a.node bytes)) now a.served stood served room)
