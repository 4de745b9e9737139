-- What an event comes to where more was declared and used up, it comes to where that is not so.
use Rattle.std.specs.Prelude.{◌≡◌, ◌+◌, ◌-◌, ◌++◌, ℕ, List, Option, Some, None, option_map}
use Rattle.std.proofs.Common.{◌∙◌, refl, sym, ap, subst, arith, inl, inr}
use Rattle.scp_spec.specs.Networks.{Budgets, Net, Reply, Step, first_that, net_step}
use Rattle.scp_spec.specs.Networks.Reply.{Done, Refused}
use Rattle.scp_spec.specs.Rosters.{Roster}
use Rattle.host_network.specs.FiledSlots.{AreTallied, CountedSlot}
use Rattle.host_network.specs.Marks.{slot_and_node_of}
use Rattle.host_network.specs.Standing.{Machine, StandsFor, net_of}
use Rattle.live_network.specs.Serving.{AreHeard, Ending, Hearing, IsServed, IsTried, ToldReply, slot_at, step_of_hearing, told_at, waits_after}
use Rattle.live_network.specs.Serving.AreHeard.{all_heard, one_heard}
use Rattle.live_network.specs.Serving.Ending.{IsDone}
use Rattle.live_network.specs.Serving.IsServed.{done, refused}
use Rattle.live_network.specs.Serving.IsTried.{stepped, wanting}
use Rattle.live_feed.specs.declared.answering.Drawn.{Drawn}
use Rattle.live_host.specs.Futures.{MovedMachinesServeNoMore, moved, moved_budgets, moved_net, moved_roster}
use Rattle.live_host.proofs.MovedMachines.{stale-moves, stands-moved, waits-move}
use Rattle.live_host.proofs.MovedNets.{moved_nets_step_alike, tests-move}
use Rattle.live_host.proofs.MovedParts.{lowered_budgets, lowered_roster, roster_with, same-budgets}

-- ---- two networks that are moved to one are one
-- so much less is declared, and as much less is used up
abbrev lowered_net : Drawn → Net → Net
lowered_net d net = record net {
  budgets = lowered_budgets d net.budgets;
  roster = option_map (lowered_roster d) net.roster;
  events = net.events - d.events;
  bytes = net.bytes - d.bytes;
  opens = net.opens - d.opens;
}

less-more : (n d : ℕ) → (n + d) - d ≡ n
less-more n d = omega arith

budgets-lowered : (d : Drawn) (b : Budgets) → lowered_budgets d (moved_budgets d b) ≡ b
budgets-lowered d b =
    same-budgets (lowered_budgets d (moved_budgets d b)) b (less-more b.events d.events) (less-more b.bytes d.bytes) refl

roster-lowered : (d : Drawn) (r : Option Roster) → option_map (lowered_roster d) (option_map (moved_roster d) r) ≡ r
roster-lowered d None = refl
roster-lowered d (Some r) = ap (λ n. Some (roster_with r n)) (less-more r.shares.opens d.opens)

-- the network with these parts
abbrev net_with : Net → Budgets → Option Roster → ℕ → ℕ → ℕ → Net
net_with net b r events bytes opens =
    record net { budgets = b; roster = r; events = events; bytes = bytes; opens = opens }

net-lowered : (d : Drawn) (net : Net) → lowered_net d (moved_net d net) ≡ net
net-lowered d net =
    let was : Net = lowered_net d (moved_net d net) in
    ap (λ b. net_with net b was.roster was.events was.bytes was.opens) (budgets-lowered d net.budgets)
    ∙ ap (λ r. net_with net net.budgets r was.events was.bytes was.opens) (roster-lowered d net.roster)
    ∙ ap (λ n. net_with net net.budgets net.roster n was.bytes was.opens) (less-more net.events d.events)
    ∙ ap (λ n. net_with net net.budgets net.roster net.events n was.opens) (less-more net.bytes d.bytes)
    ∙ ap (net_with net net.budgets net.roster net.events net.bytes) (less-more net.opens d.opens)

one-net : (d : Drawn) (net other : Net) → moved_net d net ≡ moved_net d other → net ≡ other
one-net d net other same = sym (net-lowered d net) ∙ ap (lowered_net d) same ∙ net-lowered d other

-- ---- steps and hearings
tried-back : (d : Drawn) (old : Net) (e : Step) {r : Reply} {new : Net} → IsTried (moved_net d old) e r new
    → (now : Net) × (new ≡ moved_net d now) × IsTried old e r now
tried-back d old e stepped =
    let same = moved_nets_step_alike d old e in (
      (net_step old e).0,
      ap (λ x. x.0) same,
      subst (λ r. IsTried old e r (net_step old e).0) (sym (ap (λ x. x.1) same)) stepped,
    )
tried-back d old e (wanting (inl none)) = (old, refl, wanting (inl (sym (ap first_that (tests-move d old e)) ∙ none)))
tried-back d old e (wanting (inr read)) = (old, refl, wanting (inr read))

heard-back : (d : Drawn) {i : ℕ} {hs : List Hearing} {big : Net} {told : List ToldReply} {new : Net}
    → AreHeard i hs big told new → (old : Net) → big ≡ moved_net d old
    → (now : Net) × (new ≡ moved_net d now) × AreHeard i hs old told now
heard-back d all_heard old is = (old, is, all_heard)
heard-back d {i} (one_heard {h} {hs} {old = big} {now = bigger} {new} {told} r tried others) old is =
    let e : Step = step_of_hearing i h in
    let here = tried-back d old e (subst (λ n. IsTried n e r bigger) is tried) in
    let rest = heard-back d others here.0 here.1 in
    let waits = ap (λ n. waits_after n e r) is ∙ waits-move d old e r in
    (rest.0, rest.1, one_heard r here.2 (subst (λ ws. AreHeard i (hs ++ ws) here.0 told rest.0) waits rest.2))

served-back : (d : Drawn) (old : Net) (e : Step) {ending : Ending} {told : List ToldReply} {new : Net}
    → IsServed (moved_net d old) e ending told new
    → (now : Net) × (new ≡ moved_net d now) × IsServed old e ending told now
served-back d old e (refused r tried) =
    let back = tried-back d old e tried in
    (old, refl, refused r (subst (λ n. IsTried old e (Refused r) n) (sym (one-net d old back.0 back.1)) back.2))
served-back d old e (done {now} {new} {told} os tried heard) =
    let here = tried-back d old e tried in
    let rest = heard-back d heard here.0 here.1 in
    let i : ℕ = slot_at (slot_and_node_of e) in
    let follows = subst (λ ws. AreHeard i ws here.0 told rest.0) (waits-move d old e (Done os)) rest.2 in (
      rest.0,
      rest.1,
      subst (λ stale. IsServed old e (IsDone stale) (told_at (slot_and_node_of e) os ++ told) rest.0)
          (sym (stale-moves d old e)) (done os here.2 follows),
    )

-- ---- machines
-- the machine with these slots that stands for a network
abbrev machine_from : Net → List CountedSlot → Machine
machine_from net slots = record {
  config = record { number = net.number; nodes = net.nodes; budgets = net.budgets; roster = net.roster };
  slots = slots;
  events = net.events;
  bytes = net.bytes;
  opens = net.opens;
}

moved-from : (d : Drawn) (big : Machine) (net now : Net) → StandsFor big net → net ≡ moved_net d now
    → big ≡ moved d (machine_from now big.slots)
moved-from d big net now stands is = ap (λ n. machine_from n big.slots) (sym stands.is ∙ is)

stands-before : (d : Drawn) (m big : Machine) (net now : Net)
    → StandsFor big net → net ≡ moved_net d now → big ≡ moved d m → StandsFor m now
stands-before d m big net now stands is from = record {
  is = one-net d now (net_of m now.draws)
      (sym is ∙ stands.is ∙ ap (net_of big) (ap (λ n. n.draws) is) ∙ ap (λ b. net_of b now.draws) from);
  tallied = subst (AreTallied now.draws) (ap (λ b. b.slots) from)
      (subst (λ draws. AreTallied draws big.slots) (ap (λ n. n.draws) is) stands.tallied);
}

-- what a machine that is moved comes to is another that is moved as much
pub moved_machines_serve_no_more : MovedMachinesServeNoMore
moved_machines_serve_no_more d m big e s (draws, tallied) served =
    let first = served.served (moved_net d (net_of m draws)) (record { is = refl; tallied = tallied }) in
    let back = served-back d (net_of m draws) e first.1 in
    let after : Machine = machine_from back.0 big.slots in
    let from : big ≡ moved d after = moved-from d big first.0 back.0 first.2 back.1 in
    let stands : StandsFor after back.0 = stands-before d after big first.0 back.0 first.2 back.1 from in (
      after,
      (back.0.draws, stands.tallied),
      from,
      record {
        slot = served.slot;
        served = λ net here.
            let next = served.served (moved_net d net) (stands-moved d m net here) in
            let before = served-back d net e next.1 in
            (before.0, before.2, stands-before d after big next.0 before.0 next.2 before.1 from);
      },
    )
