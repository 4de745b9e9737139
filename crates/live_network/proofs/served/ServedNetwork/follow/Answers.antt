use Rattle.std.proofs.Common.{◌≡◌, ◌∙◌, ◌++◌, Some, None, IfErr, IfOk, OnErr, Result, List, refl, sym, ap, subst, subst₂, false}
use Rattle.scp_types.specs.declared.event.Refusal.{Refusal}
use Rattle.scp_spec.specs.Networks.{emissions}
use Rattle.scp_spec.specs.Networks.Reply.{Done}
use Rattle.host_config.specs.Configs.{names_of}
use Rattle.host_network.specs.declared.emission.Emission.{Emission}
use Rattle.host_network.specs.Standing.{IsRefusal, Machine, machine_of}
use Rattle.host_network.specs.Marks.{named}
use Rattle.live_network.specs.Serving.{all_hearings, told_of}
use Rattle.live_network.specs.Steps.{IsStepped, IsStepTaken}
use Rattle.live_network.specs.Telling.{HaveHeard, IsServedBy, tellings_of}
use Rattle.live_network.specs.declared.served.Served.{Served}
use Rattle.live_network.specs.declared.stepping.Stepped.{Stepped}
use Rattle.live_network.proofs.Leading.{served-alone, served-and-heard, served-refused}
use Rattle.live_network.proofs.served.ServedNetwork.follow.Goals as goal

pub returns-in-Err : goal.returns-in-Err
returns-in-Err g c = λ old e taken.
    let now = c.args.self.now in
    let s : Served = record { refused = Some c.in-Err.refusal; stale = false; slot = 0; told = c.nothing-following.result.told } in
    let why : IsRefusal old e c.in-Err.refusal = subst (λ (r : Result Stepped Refusal). IfErr r (IsRefusal old e)) c.in-Err.is taken.refused in
    let same : now ≡ old = subst (λ (r : Result Stepped Refusal). OnErr r (now ≡ old)) c.in-Err.is taken.same in
    subst (λ (m : Machine). IsServedBy old e m s) (sym same)
    (served-refused old e c.in-Err.refusal s why refl (ap tellings_of c.nothing-following.ensures.1))

pub returns-in-None : goal.returns-in-None
returns-in-None g c = λ old e before.
    let now = machine_of c.self.inside.network in
    let taken : IsStepTaken old e c.args.stepped now = subst (λ (m : Machine). IsStepTaken old e c.args.stepped m) (sym c.self.view_is) before in
    let done : IsStepped old e c.in-Ok.stepped now = subst (λ (r : Result Stepped Refusal). IfOk r (λ t. IsStepped old e t now)) c.in-Ok.is taken.done in
    let s : Served = record { refused = None; stale = c.in-Ok.stepped.stale; slot = 0; told = c.nothing-following.result.told } in
    subst (λ (m : Machine). IsServedBy old e m s) (sym c.forget_unheld.ensures.state)
    (served-alone old now e c.in-Ok.stepped s done c.in-None.is refl refl refl (ap tellings_of c.nothing-following.ensures.1))

pub returns : goal.returns
returns g c = λ old e before.
    let now = machine_of c.self.inside.network in
    let new = machine_of c.hear_all.new.network in
    let taken : IsStepTaken old e c.args.stepped now = subst (λ (m : Machine). IsStepTaken old e c.args.stepped m) (sym c.self.view_is) before in
    let stepped = c.in-Ok.stepped in
    let done : IsStepped old e stepped now = subst (λ (r : Result Stepped Refusal). IfOk r (λ t. IsStepped old e t now)) c.in-Ok.is taken.done in
    let given = stepped.given in
    let first = c.note.new.self in
    let s : Served = record { refused = None; stale = stepped.stale; slot = c.in-Some.slot; told = c.hear_all.new.following.told } in
    let heard = c.in_ok-hear_all-in-Some.ensures.heard in
    let told : tellings_of first.told.items ≡ told_of c.in-Some.node (Done given.outs.items) = c.in_ok-note-in-Some.ensures.told ∙ ap (λ l. tellings_of l ++ told_of c.in-Some.node (Done given.outs.items)) c.nothing-following.ensures.1 in
    let emitted : first.emissions.items ≡ named (emissions given.outs.items) given.marks.items = c.in_ok-note-in-Some.ensures.emissions ∙ ap (λ (l : List Emission). l ++ named (emissions given.outs.items) given.marks.items) c.nothing-following.ensures.0 in
    let us : c.deref.result.now ≡ names_of c.self.inside.network.config.nodes = c.deref.ensures.value ∙ c.self.invariant in
    let all : HaveHeard c.in-Some.slot (all_hearings (names_of c.self.inside.network.config.nodes) (named (emissions given.outs.items) given.marks.items)) now heard.0 new =
    subst₂ (λ ns es. HaveHeard c.in-Some.slot (all_hearings ns es) now heard.0 new) us emitted heard.2 in
    subst (λ (m : Machine). IsServedBy old e m s) (sym c.forget_unheld-in-Some.ensures.state)
    (served-and-heard old now new e stepped c.in-Some.slot c.in-Some.node (tellings_of first.told.items) (tellings_of c.hear_all.new.following.told.items) heard.0 s done c.in-Some.is taken.config
    all told heard.1 refl refl refl refl)
