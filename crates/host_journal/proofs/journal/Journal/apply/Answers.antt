use Rattle.std.proofs.Common.{subst, sym, ◌∙◌}
use Rattle.scp_spec.specs.Hosts.{Config}
use Rattle.host_network.specs.Decoding.{step_of}
use Rattle.host_journal.proofs.Growing.{entered, is-readable, journal-more, log-grows, marks-named, names-nodes}
use Rattle.host_journal.proofs.journal.Journal.apply.Goals as goal

pub enter-requires-clause-hosted : goal.enter-requires-clause-hosted
enter-requires-clause-hosted g c =
    names-nodes c.self.inside.network c.apply.new.self c.config.result.now (g.K.Keeping.entries c.self.inside.kept) (step_of c.args.event) c.in-Ok.outcome c.self.invariant.0 c.in-Ok.ensures.applied c.config.ensures c.apply.ensures.config

pub enter-requires-clause-readable : goal.enter-requires-clause-readable
enter-requires-clause-readable g c =
    is-readable c.self.inside.network c.apply.new.self (g.K.Keeping.entries c.self.inside.kept) (step_of c.args.event) c.in-Ok.outcome c.self.invariant.0 c.in-Ok.ensures.applied

pub invariant_of-self-in-Ok : goal.invariant_of-self-in-Ok
invariant_of-self-in-Ok g c =
    let es = g.K.Keeping.entries c.self.inside.kept in
    let nodes = c.self.inside.network.config.nodes in
    let archive = c.apply.new.self.archive in
    let room : g.K.Keeping.is_kept nodes archive c.make_room.new.self =
    g.met.K.Keeping.stay nodes c.self.inside.network.archive archive c.make_room.new.self c.apply.ensures.kept
    (c.make_room.ensures.kept nodes c.self.inside.network.archive c.self.invariant.1) in
    let grown : g.K.Keeping.is_kept c.config.result.now.nodes archive c.enter.new.self =
    c.enter.ensures.kept archive c.in-Ok.ensures.applied.delivered_filed c.in-Ok.ensures.applied.filed
    (subst (λ (k : Config). g.K.Keeping.is_kept k.nodes archive c.make_room.new.self) (sym (c.config.ensures ∙ c.apply.ensures.config)) room) in (
      journal-more c.self.inside.network c.apply.new.self c.tidy.new.network es (g.K.Keeping.entries c.make_room.new.self) (g.K.Keeping.entries c.enter.new.self) (step_of c.args.event) c.in-Ok.outcome
          c.self.invariant.0 c.in-Ok.ensures.applied c.apply.ensures.config c.tidy.ensures.state c.make_room.ensures.entries c.enter.ensures.entered,
      subst (λ (k : Config). g.K.Keeping.is_kept k.nodes c.tidy.new.network.archive c.enter.new.self) (c.config.ensures ∙ sym c.tidy.ensures.config) (c.tidy.ensures.kept c.config.result.now.nodes grown),
    )

pub returns-in-Ok-clause-ok : goal.returns-in-Ok-clause-ok
returns-in-Ok-clause-ok g c =
    entered c.args.self.now c.self.inside.network c.apply.new.self (g.K.Keeping.entries c.self.inside.kept) (step_of c.args.event) c.in-Ok.outcome c.self.view_is c.self.invariant.0 c.in-Ok.ensures.applied

pub returns-in-Ok-clause-entered : goal.returns-in-Ok-clause-entered
returns-in-Ok-clause-entered g c =
    log-grows c.args.self.now c.self.inside.network c.apply.new.self c.tidy.new.network (g.K.Keeping.entries c.self.inside.kept) (g.K.Keeping.entries c.make_room.new.self) (g.K.Keeping.entries c.enter.new.self) (step_of c.args.event) c.in-Ok.outcome
    c.self.view_is c.in-Ok.ensures.applied c.apply.ensures.config c.tidy.ensures.config c.make_room.ensures.entries c.enter.ensures.entered

pub returns-in-Ok-clause-marks : goal.returns-in-Ok-clause-marks
returns-in-Ok-clause-marks g c =
    marks-named c.args.self.now c.self.inside.network c.apply.new.self (g.K.Keeping.entries c.self.inside.kept) (step_of c.args.event) c.in-Ok.outcome c.self.view_is c.self.invariant.0 c.in-Ok.ensures.applied
