use Rattle.std.proofs.Common.{◌∙◌, sym, arith}
use Rattle.line_request.proofs.OutlineLaws.{hosted-or-same}
use Rattle.line_request.proofs.outlines.Outline.host.Goals as goal

pub invariant_of-self : goal.invariant_of-self
invariant_of-self c = hosted-or-same _ c.new.result c.args.name _ _ _ _ c.self.invariant
    (omega (arith, c.len.ensures, c.if-len-ge-MAX_NODES.false)) c.new.ensures c.deref.ensures.value (sym c.has_node.ensures ∙ c.if-has_node.false)
    c.push.ensures.items
