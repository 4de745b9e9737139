use Rattle.host_journal.proofs.Begins.{fresh-journal}
use Rattle.host_journal.proofs.journal.Journal.new.Goals as goal

pub invariant_of-result : goal.invariant_of-result
invariant_of-result g c = (
  fresh-journal c.args.config c.new.result (g.K.Keeping.entries c.nothing.result) c.new.ensures c.nothing.ensures.entries,
  c.nothing.ensures.kept c.new.result.config.nodes c.new.result.archive,
)
