use Rattle.std.proofs.Common.{◌≡◌, ◌∙◌, ◌+◌, ◌<◌, ◌≤◌, ◌∷◌, ◌++◌, [], List, length, suc, drop, drop-cons, drop_of_length-le, append_assoc, sym, ap, subst, arith}
use Rattle.std.proofs.lemmas.List.{drop-append-le}
use Rattle.scp_spec.specs.Hosts.{Config}
use Rattle.host_config.specs.Configs.{names_of}
use Rattle.host_network.specs.declared.emission.Emission.{Emission}
use Rattle.host_network.specs.Standing.{machine_of}
use Rattle.live_network.specs.Serving.{all_hearings, hearings_of}
use Rattle.live_network.specs.Steps.{LeadsTo}
use Rattle.live_network.proofs.Leading.{ComesTo, comes-next, comes-to-all}
use Rattle.live_network.proofs.hearing.hear_all.Goals as goal

pub loop-at-preserved : goal.loop-at-preserved
loop-at-preserved g c =
    let i = c.args.slot in
    let us = c.args.names.now in
    let es = c.args.following.now.emissions.items in
    let old = machine_of c.args.network.now in
    let now = machine_of c.loop-at.network in
    let new = machine_of c.let_others_hear.new.network in
    let at = c.loop-at.at in
    let items = c.loop-at.following.emissions.items in
    let e = c.index.result.now in
    let before = c.loop-at.invariant in
    let heard = c.in_ok-let_others_hear.ensures.heard in
    let within : at < length items = (let t = c.loop-at-test.true in let n = c.len.ensures in omega (arith, t, n)) in
    let past : at + 1 ≤ length items = omega (arith, within) in
    let one : suc at ≡ at + 1 = omega arith in
    let first : drop at items ≡ e ∷ drop (at + 1) items = drop-cons items at e within ∙ ap (λ (x : Emission). x ∷ drop (suc at) items) (sym c.index.ensures) ∙ ap (λ n. e ∷ drop n items) one in
    let named : us ≡ names_of c.loop-at.network.config.nodes = c.requires ∙ ap (λ (x : Config). names_of x.nodes) (sym before.3) in
    let leads : LeadsTo i (hearings_of us e) now (all_hearings us heard.0) heard.1 new = subst (λ l. LeadsTo i (hearings_of us e) now (all_hearings l heard.0) heard.1 new) (sym named) heard.4 in
    let next = comes-next i us es old now new e (drop (at + 1) items) heard.0 before.0 heard.1 (subst (λ l. ComesTo i us es old l before.0 now) first before.2) leads in
    let left : drop (at + 1) c.let_others_hear.new.following.emissions.items ≡ drop (at + 1) items ++ heard.0 = ap (λ (l : List Emission). drop (at + 1) l) heard.2 ∙ drop-append-le (at + 1) items heard.0 past in (
      before.0 ++ heard.1,
      heard.3 ∙ ap (λ l. l ++ heard.1) before.1 ∙ append_assoc _ before.0 heard.1,
      subst (λ l. ComesTo i us es old l (before.0 ++ heard.1) new) (sym left) next,
      c.let_others_hear.ensures.config ∙ before.3,
    )

pub returns-clause-heard : goal.returns-clause-heard
returns-clause-heard g c =
    let at = c.loop-at.at in
    let items = c.loop-at.following.emissions.items in
    let before = c.loop-at.invariant in
    let none : drop at items ≡ [] = drop_of_length-le items (let t = c.loop-at-test.false in let n = c.len.ensures in omega (arith, t, n)) in (
      before.0,
      before.1,
      comes-to-all c.args.slot c.args.names.now c.args.following.now.emissions.items (machine_of c.args.network.now) (machine_of c.loop-at.network) before.0
          (subst (λ l. ComesTo c.args.slot c.args.names.now c.args.following.now.emissions.items (machine_of c.args.network.now) l before.0 (machine_of c.loop-at.network)) none before.2),
    )
