use Rattle.std.proofs.Common.{◌∙◌, sym}
use Rattle.host_compare.proofs.IndexLaws.{no-nodes}
use Rattle.host_compare.proofs.RunsOf.{nodes_are}
use Rattle.host_compare.proofs.submission.Submission.nodes.Goals as goal

pub returns-in-Some : goal.returns-in-Some
returns-in-Some c = c.nodes.ensures.value ∙ nodes_are c.args.self.now.configs c.args.net c.in-Some.config.now (sym c.in-Some.ensures)

pub returns-in-None : goal.returns-in-None
returns-in-None c = sym (no-nodes c.args.self.now.configs c.args.net (sym c.in-None.ensures))
