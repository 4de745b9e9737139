use Rattle.std.proofs.Common.{◌<◌, ℕ, List, sym, subst, ◌∙◌, ◌↔◌, IsTrue}
use Rattle.std.proofs.lemmas.List.Kept.{AllPairs-filter}
use Rattle.std.proofs.lemmas.Result.{IfOk-weaker}
use Rattle.scp_spec.specs.Sets.{among, IsAscending}
use Rattle.scp_spec.specs.Quorums.{HasQuorum}
use Rattle.scp_slices.proofs.Region.{same_answer}
use Rattle.scp_slices.proofs.search.in_quorum_within.Goals as goal

pub in_quorum-requires : goal.in_quorum-requires
in_quorum-requires g c =
    let kept = c.deref.ensures.value ∙ c.in_ok-inside.ensures in
    subst IsAscending (sym kept) (AllPairs-filter (λ u w. u < w) (among c.args.region.now) c.args.supporters.now c.requires.ascending)

pub returns : goal.returns
returns g c =
    let sat = g.S.Family.SliceFamily.sat in
    let slices_at = g.S.SlicesOf.slices_at c.args.slices_of.now in
    let node = c.args.node.now in
    let kept = c.deref.ensures.value ∙ c.in_ok-inside.ensures in
    IfOk-weaker c.in_quorum.result _ _ (λ b h.
    same_answer sat g.S.Family.SliceFamily.names slices_at g.met.S.Family.SliceFamily.local c.args.supporters.now (among c.args.region.now) c.requires.closed node c.requires.member b
    (subst (λ (us : List ℕ). IsTrue b ↔ HasQuorum sat slices_at (among us) node) kept h)) c.in_quorum.ensures
