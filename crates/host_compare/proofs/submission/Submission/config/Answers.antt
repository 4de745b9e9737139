use Rattle.std.proofs.Common.{◌∙◌, Some, ap, arith}
use Rattle.scp_spec.specs.Hosts.{History}
use Rattle.host_compare.proofs.IndexLaws.{absent, found}
use Rattle.host_compare.proofs.submission.Submission.config.Goals as goal

pub index-requires : goal.index-requires
index-requires c =
    let there = found c.self.inside.configs.items c.args.self.now.configs c.self.inside.places c.args.net c.in-Some.place.now (ap (λ (h : History). h.configs) c.self.view_is) c.self.invariant c.in-Some.ensures.value in
    omega (arith, there.0, c.self.inside.configs.ok)

pub returns-in-Some : goal.returns-in-Some
returns-in-Some c =
    let there = found c.self.inside.configs.items c.args.self.now.configs c.self.inside.places c.args.net c.in-Some.place.now (ap (λ (h : History). h.configs) c.self.view_is) c.self.invariant c.in-Some.ensures.value in
    ap Some c.index.ensures ∙ there.1 c.index.result.now

pub returns-in-None : goal.returns-in-None
returns-in-None c =
    absent c.self.inside.configs.items c.args.self.now.configs c.self.inside.places c.args.net (ap (λ (h : History). h.configs) c.self.view_is) c.self.invariant c.in-None.ensures.value
