use Rattle.std.proofs.Common.{◌∙◌, ◌∷◌, ◌++◌, [], take, take_all, refl, sym, ap, subst, arith}
use Rattle.std.proofs.lemmas.List.{take_more}
use Rattle.scp_spec.specs.Hosts.{Config}
use Rattle.host_config.specs.Configs.{names_of}
use Rattle.host_network.specs.Standing.{machine_of}
use Rattle.live_network.specs.Serving.{hearings_of}
use Rattle.live_network.specs.Telling.{IsHeardByAll}
use Rattle.live_network.proofs.Leading.{heard-both, heard-nothing, hearings-more}
use Rattle.live_network.proofs.hearing.let_others_hear.Goals as goal

pub loop-name-init : goal.loop-name-init
loop-name-init g c = (heard-nothing c.args.slot (names_of c.args.network.now.config.nodes) (machine_of c.args.network.now) c.args.following.now, refl)

pub loop-name-preserved : goal.loop-name-preserved
loop-name-preserved g c =
    let us = names_of c.args.network.now.config.nodes in
    let names = c.args.names.now in
    let e = c.args.emission.now in
    let k = c.loop-name.name-index in
    let u = c.name-item.result in
    let old = machine_of c.args.network.now in
    let now = machine_of c.loop-name.network in
    let new = machine_of c.hear.new.network in
    let one = subst (λ (x : Config). IsHeardByAll c.args.slot (names_of x.nodes) (hearings_of (u ∷ []) e) now c.loop-name.following c.hear.new.following new) c.loop-name.invariant.1 c.in_ok-hear.ensures.heard in
    let next = take_more names k u (let t = c.loop-name-test.true in omega arith) ∙ ap (λ v. take k names ++ v ∷ []) (sym c.name-item.is) in (
      subst (λ l. IsHeardByAll c.args.slot us l old c.args.following.now c.hear.new.following new) (sym (hearings-more names k u e next))
          (heard-both c.args.slot us (hearings_of (take k names) e) (hearings_of (u ∷ []) e) old now new c.args.following.now c.loop-name.following c.hear.new.following c.loop-name.invariant.0 one),
      c.hear.ensures.config ∙ c.loop-name.invariant.1,
    )

pub returns-clause-heard : goal.returns-clause-heard
returns-clause-heard g c =
    let names = c.args.names.now in
    let all = take_all c.loop-name.name-index names (let t = c.loop-name-test.false in omega arith) in
    subst (λ l. IsHeardByAll c.args.slot (names_of c.args.network.now.config.nodes) (hearings_of l c.args.emission.now) (machine_of c.args.network.now) c.args.following.now c.loop-name.following (machine_of c.loop-name.network)) all c.loop-name.invariant.0
