use Rattle.std.proofs.Common.{◌∙◌, ap}
use Rattle.scp_types.specs.Trees.{Slices}
use Rattle.scp_slices.specs.Weighing.{share_of}
use Rattle.scp_slices.proofs.WeighingLaws.{share_of_is}
use Rattle.scp_slices.proofs.nested.NestedSliceFamily.weight.Goals as goal

pub returns : goal.returns
returns c =
    c.weight_in.ensures.value ∙ (ap (λ (q : Slices). share_of q c.args.node.now) c.set.ensures.value ∙ share_of_is c.args.self.now c.args.node.now c.set.ensures.rules.names_differ)
