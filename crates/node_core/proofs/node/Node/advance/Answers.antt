use Rattle.std.proofs.Common.{◌∙◌, ap, sym}
use Rattle.scp_types.specs.declared.event.NodeEvent.TheVariants.{Take}
use Rattle.node_store.specs.Archives.{sent_of}
use Rattle.node_core.specs.Filings.{event_of}
use Rattle.node_core.proofs.Answered.{quiet-after}
use Rattle.node_core.proofs.Sendings.{emitted-own}
use Rattle.node_core.proofs.node.Node.advance.Goals as goal

pub returns-in-Take-clause-quiet : goal.returns-in-Take-clause-quiet
returns-in-Take-clause-quiet g c =
    λ R x is held out led. quiet-after c.args.self.now.node c.take.new.self.node (Take (sent_of c.in-Take.envelope)) c.take.result c.comes_of_events.ensures c.take.ensures.node c.take.ensures.outs R x (ap event_of (sym c.in-Take.is) ∙ is) held out led

pub returns-in-Take-clause-emitted : goal.returns-in-Take-clause-emitted
returns-in-Take-clause-emitted g c = emitted-own c.args.self.now.node c.take.new.self.node c.take.new.archive (Take (sent_of c.in-Take.envelope)) c.take.result c.take.ensures.node c.take.ensures.outs c.take.ensures.whole c.take.ensures.filed

pub returns-in_default-clause-quiet : goal.returns-in_default-clause-quiet
returns-in_default-clause-quiet g c = quiet-after c.args.self.now.node c.turn.new.self.node (event_of c.args.event) c.turn.result c.comes_of_events.ensures c.turn.ensures.node c.turn.ensures.outs

pub returns-in_default-clause-emitted : goal.returns-in_default-clause-emitted
returns-in_default-clause-emitted g c = emitted-own c.args.self.now.node c.turn.new.self.node c.turn.new.archive (event_of c.args.event) c.turn.result c.turn.ensures.node c.turn.ensures.outs c.turn.ensures.whole c.turn.ensures.filed
