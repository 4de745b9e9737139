use Rattle.std.proofs.Common.{◌∙◌}
use Rattle.std.proofs.lemmas.Result.{IfOk-weaker}
use Rattle.scp_federation.proofs.Chosen.{ascending_kept}
use Rattle.scp_federation.proofs.Region.{answer_among}
use Rattle.scp_federation.proofs.voting.confirms.Goals as goal

pub in_quorum-requires : goal.in_quorum-requires
in_quorum-requires g c =
    ascending_kept c.args.region.now _ (g.V.Voters.accepting c.args.voters.now) (c.deref.ensures.value ∙ c.in_ok-accepting.ensures) c.requires.ascending

pub returns : goal.returns
returns g c =
    let family = g.S.Family.SliceFamily in
    IfOk-weaker c.in_quorum.result _ _ (λ b h.
    answer_among family.sat family.names g.met.S.Family.SliceFamily.local (g.S.SlicesOf.slices_at c.args.slices_of.now) c.args.region.now _ (g.V.Voters.accepting c.args.voters.now)
    (c.deref.ensures.value ∙ c.in_ok-accepting.ensures) c.requires.closed c.args.node.now c.requires.member b h) c.in_quorum.ensures
