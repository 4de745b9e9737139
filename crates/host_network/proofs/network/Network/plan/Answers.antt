use Rattle.std.proofs.Common.{sym, subst}
use Rattle.scp_types.specs.declared.event.Event.{Event}
use Rattle.scp_spec.specs.Networks.Step.{NominationTimerFires, BallotTimerFires}
use Rattle.host_network.specs.Decoding.{step_of}
use Rattle.host_network.specs.Deeds.{IsPlanned}
use Rattle.host_network.proofs.Planned.{ballot-own, nomination-own, planned}
use Rattle.host_network.proofs.network.Network.plan.Goals as goal

pub returns-in-NominationTimer : goal.returns-in-NominationTimer
returns-in-NominationTimer g c =
    let m = c.args.self.now in
    let i = c.in-NominationTimer.slot in
    let u = c.in-NominationTimer.node in
    let r = c.in-NominationTimer.round in
    let e = NominationTimerFires i u r in
    subst (λ (x : Event). IsPlanned m (step_of x) c.plan_own.result) (sym c.in-NominationTimer.is) (planned m e c.plan_own.result (c.plan_own.ensures e (nomination-own i u r)))

pub returns-in-BallotTimer : goal.returns-in-BallotTimer
returns-in-BallotTimer g c =
    let m = c.args.self.now in
    let i = c.in-BallotTimer.slot in
    let u = c.in-BallotTimer.node in
    let n = c.in-BallotTimer.counter in
    let e = BallotTimerFires i u n in
    subst (λ (x : Event). IsPlanned m (step_of x) c.plan_own-in-BallotTimer.result) (sym c.in-BallotTimer.is) (planned m e c.plan_own-in-BallotTimer.result (c.plan_own-in-BallotTimer.ensures e (ballot-own i u n)))
