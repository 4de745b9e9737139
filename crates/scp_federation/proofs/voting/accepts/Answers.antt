use Rattle.std.proofs.Common.{refl, ◌∙◌, inl}
use Rattle.scp_federation.proofs.Chosen.{ascending_kept, other_reason}
use Rattle.scp_federation.proofs.Region.{answer_among, blocking_among}
use Rattle.scp_federation.proofs.voting.accepts.Goals as goal

pub in_quorum-requires : goal.in_quorum-requires
in_quorum-requires g c =
    ascending_kept c.args.region.now _ (g.V.Voters.backing c.args.voters.now) (c.deref.ensures.value ∙ c.in_ok-backing.ensures) c.requires.ascending

pub are_blocking-requires : goal.are_blocking-requires
are_blocking-requires g c =
    ascending_kept c.args.region.now _ (g.V.Voters.accepting c.args.voters.now) (c.deref-2.ensures.value ∙ c.in_ok-accepting.ensures) c.requires.ascending

pub returns-then-branch : goal.returns-then-branch
returns-then-branch g c =
    let family = g.S.Family.SliceFamily in
    let found = answer_among family.sat family.names g.met.S.Family.SliceFamily.local (g.S.SlicesOf.slices_at c.args.slices_of.now) c.args.region.now _ (g.V.Voters.backing c.args.voters.now)
    (c.deref.ensures.value ∙ c.in_ok-backing.ensures) c.requires.closed c.args.node.now c.requires.member _ c.in_ok-in_quorum.ensures in
    (λ _. inl (found.0 c.if-branch.true), λ _. refl)

pub returns : goal.returns
returns g c =
    let family = g.S.Family.SliceFamily in
    let local = g.met.S.Family.SliceFamily.local in
    let slices_at = g.S.SlicesOf.slices_at c.args.slices_of.now in
    let found = answer_among family.sat family.names local slices_at c.args.region.now _ (g.V.Voters.backing c.args.voters.now)
    (c.deref.ensures.value ∙ c.in_ok-backing.ensures) c.requires.closed c.args.node.now c.requires.member _ c.in_ok-in_quorum.ensures in
    let blocked = blocking_among family.sat family.names local slices_at c.args.region.now _ (g.V.Voters.accepting c.args.voters.now)
    (c.deref-2.ensures.value ∙ c.in_ok-accepting.ensures) c.requires.closed c.args.node.now c.requires.member _ c.are_blocking.ensures in
    other_reason _ _ c.if-branch.false found blocked
