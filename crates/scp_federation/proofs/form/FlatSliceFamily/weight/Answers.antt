use Rattle.std.proofs.Common.{◌≡◌, ◌∙◌, ap, subst, rules}
use Rattle.scp_types.specs.Trees.{Slices, IsNested}
use Rattle.scp_federation.specs.Numbers.{set_at}
use Rattle.scp_slices.specs.Weighing.{share_of}
use Rattle.scp_slices.proofs.WeighingLaws.{share_of_is}
use Rattle.scp_federation.proofs.form.FlatSliceFamily.weight.Goals as goal

pub returns : goal.returns
returns c =
    let held : set_at c.self.inside.names.items c.self.inside.sets.items 0 ≡ c.args.self.now = search rules in
    let lent : set_at c.deref.result.now c.deref-2.result.now 0 ≡ c.args.self.now = search rules in
    let kept = subst IsNested held c.self.invariant.rules in
    c.weight_at.ensures.value ∙ (ap (λ (q : Slices). share_of q c.args.node.now) lent ∙ share_of_is c.args.self.now c.args.node.now kept.names_differ)
