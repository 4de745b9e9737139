-- What an event comes to, with all that the others hear of it, where more was declared and as much more used up.
use Rattle.std.specs.Prelude.{◌≡◌, ◌++◌, ℕ, List, Option, Some, None}
use Rattle.std.proofs.Common.{◌∙◌, refl, sym, ap, subst, inl, inr}
use Rattle.scp_types.specs.declared.event.Out.{Out}
use Rattle.scp_spec.specs.Networks.{Net, Reply, Step, effect, emissions, first_that}
use Rattle.scp_spec.specs.Networks.Reading.{Fault, Read}
use Rattle.scp_spec.specs.Networks.Reply.{Done, Refused}
use Rattle.scp_spec.specs.Networks.Step.{BallotTimerFires, Closes, Delivers, Hears, NominationTimerFires, Opens, Proposes, Reslices}
use Rattle.host_config.specs.Configs.{names_of}
use Rattle.host_network.specs.Marks.{emitted_before, marks_in, named, numbers_by_kind, slot_and_node_of}
use Rattle.host_network.specs.Standing.{Machine, StandsFor, net_of}
use Rattle.live_network.specs.Serving.{AreHeard, Ending, Hearing, IsServed, IsTried, ToldReply, all_hearings, is_stale, slot_at, step_of_hearing, told_at, waits_after}
use Rattle.live_network.specs.Serving.AreHeard.{all_heard, one_heard}
use Rattle.live_network.specs.Serving.Ending.{IsDone}
use Rattle.live_network.specs.Serving.IsServed.{done, refused}
use Rattle.live_network.specs.Serving.IsTried.{stepped, wanting}
use Rattle.live_network.specs.Telling.{ending_of, tellings_of}
use Rattle.live_feed.specs.declared.answering.Drawn.{Drawn}
use Rattle.live_host.specs.Futures.{MovedMachinesServeAlike, moved, moved_net}
use Rattle.live_host.proofs.MovedNets.{effect-moves, moved_nets_step_alike, tests-move}

-- ---- steps that are tried
tried-moves : (d : Drawn) {old : Net} (e : Step) {r : Reply} {new : Net} → IsTried old e r new
    → IsTried (moved_net d old) e r (moved_net d new)
tried-moves d {old} e stepped =
    subst (λ did. IsTried (moved_net d old) e did.1 did.0) (moved_nets_step_alike d old e) stepped
tried-moves d {old} e (wanting (inl none)) = wanting (inl (ap first_that (tests-move d old e) ∙ none))
tried-moves d {old} e (wanting (inr read)) = wanting (inr read)

-- ---- what is heard
marks-move : (d : Drawn) (net : Net) (e : Step) → marks_in (moved_net d net) e ≡ marks_in net e
marks-move d net e =
    by (slot_and_node_of e) (effect (moved_net d net) e) (effect net e) (effect-moves d net e)
  where
    before : (at : Option (ℕ × ℕ)) → emitted_before (moved_net d net) at ≡ emitted_before net at
    before None = refl
    before (Some at) = refl

    by : (at : Option (ℕ × ℕ)) (did was : Net × List Out) → did ≡ (moved_net d was.0, was.1)
        → numbers_by_kind (emitted_before (moved_net d net) at) (emissions did.1)
        ≡ numbers_by_kind (emitted_before net at) (emissions was.1)
    by at did was same =
        ap (λ es. numbers_by_kind es (emissions did.1)) (before at)
        ∙ ap (λ outs. numbers_by_kind (emitted_before net at) (emissions outs)) (ap (λ x. x.1) same)

pub waits-move : (d : Drawn) (net : Net) (e : Step) (r : Reply) → waits_after (moved_net d net) e r ≡ waits_after net e r
waits-move d net e (Done os) =
    ap (λ marks. all_hearings (names_of net.nodes) (named (emissions os) marks)) (marks-move d net e)
waits-move d net e (Refused r) = refl

heard-moves : (d : Drawn) {i : ℕ} {hs : List Hearing} {old new : Net} {told : List ToldReply}
    → AreHeard i hs old told new → AreHeard i hs (moved_net d old) told (moved_net d new)
heard-moves d all_heard = all_heard
heard-moves d {i} {told = told} (one_heard {h} {hs} {old} {now} {new} {told = more} r tried others) =
    one_heard r (tried-moves d (step_of_hearing i h) tried)
    (subst (λ ws. AreHeard i (hs ++ ws) (moved_net d now) more (moved_net d new))
    (sym (waits-move d old (step_of_hearing i h) r)) (heard-moves d others))

pub stale-moves : (d : Drawn) (net : Net) (e : Step) → is_stale (moved_net d net) e ≡ is_stale net e
stale-moves d net (Opens i) = refl
stale-moves d net (Closes i) = refl
stale-moves d net (Proposes i u x) = refl
stale-moves d net (Delivers u size (Read e)) = refl
stale-moves d net (Delivers u size (Fault n)) = refl
stale-moves d net (Hears i u from kind k) = refl
stale-moves d net (NominationTimerFires i u r) = refl
stale-moves d net (BallotTimerFires i u n) = refl
stale-moves d net (Reslices i u q) = refl

pub served-moves : (d : Drawn) {old : Net} (e : Step) {ending : Ending} {told : List ToldReply} {new : Net}
    → IsServed old e ending told new → IsServed (moved_net d old) e ending told (moved_net d new)
served-moves d e (refused r tried) = refused r (tried-moves d e tried)
served-moves d {old} e (done {now} {new} {told} os tried heard) =
    subst
    (λ stale. IsServed (moved_net d old) e (IsDone stale) (told_at (slot_and_node_of e) os ++ told) (moved_net d new))
    (stale-moves d old e)
    (done os (tried-moves d e tried)
    (subst (λ ws. AreHeard (slot_at (slot_and_node_of e)) ws (moved_net d now) told (moved_net d new))
    (sym (waits-move d old e (Done os))) (heard-moves d heard)))

-- ---- machines
pub stands-moved : (d : Drawn) (m : Machine) (net : Net) → StandsFor m net → StandsFor (moved d m) (moved_net d net)
stands-moved d m net stands = record { is = ap (moved_net d) stands.is; tallied = stands.tallied }

-- the network of which the one for which a moved machine stands is moved
pub stood-before : (d : Drawn) (m : Machine) (net : Net) → StandsFor (moved d m) net → StandsFor m (net_of m net.draws)
stood-before d m net stands = record { is = refl; tallied = stands.tallied }

pub moved_machines_serve_alike : MovedMachinesServeAlike
moved_machines_serve_alike d old new e s served = record {
  slot = served.slot;
  served = λ net stands.
      let after = served.served (net_of old net.draws) (stood-before d old net stands) in (
        moved_net d after.0,
        subst (λ n. IsServed n e (ending_of s) (tellings_of s.told.items) (moved_net d after.0)) (sym stands.is)
            (served-moves d e after.1),
        stands-moved d new after.0 after.2,
      );
}
