use Rattle.std.proofs.Common.{◌∙◌, List, slice_get, option_map, ◌-◌, sym, ap, subst, arith}
use Rattle.node_store.specs.Archives.{AreFiled, sent_of, sents_of}
use Rattle.node_store.specs.declared.filed.Filed.{Filed}
use Rattle.host_network.proofs.Emitted.{filed-at}
use Rattle.host_network.proofs.EmissionsByKind.{nth-none, nth-some, from-one}
use Rattle.host_network.proofs.Numbering.{sent-at, get-sent}
use Rattle.host_network.proofs.emission_log.EmissionLog.emission.Goals as goal

pub returns-in-None-clause-sent : goal.returns-in-None-clause-sent
returns-in-None-clause-sent c = sym (from-one c.args.kind c.args.number (sents_of c.args.self.now) (omega (arith, c.if-number-eq0.false)) ∙ nth-none c.args.kind (sents_of c.args.self.now) (c.args.number - 1) (sym c.in-None.ensures))

pub returns-in-Some-clause-sent : goal.returns-in-Some-clause-sent
returns-in-Some-clause-sent c =
    sent-at c.filed_at.result (slice_get c.deref.result.now c.in-Some.place) c.filed_at.ensures
    ∙ ap (λ fs. option_map sent_of (slice_get fs c.in-Some.place)) (c.deref.ensures.value ∙ c.self.view_is)
    ∙ sym (get-sent c.args.self.now c.in-Some.place)
    ∙ nth-some c.args.kind (sents_of c.args.self.now) (c.args.number - 1) c.in-Some.place (sym c.in-Some.ensures)
    ∙ sym (from-one c.args.kind c.args.number (sents_of c.args.self.now) (omega (arith, c.if-number-eq0.false)))

pub returns-in-Some-clause-filed : goal.returns-in-Some-clause-filed
returns-in-Some-clause-filed c = λ archive h. filed-at archive c.deref.result.now c.in-Some.place c.filed_at.result (subst (λ (fs : List Filed). AreFiled archive fs) (sym (c.deref.ensures.value ∙ c.self.view_is)) h) c.filed_at.ensures
