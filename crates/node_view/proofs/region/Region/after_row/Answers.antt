use Rattle.std.specs.Arc.{arc_slice_items}
use Rattle.std.proofs.Common.{List, ℕ, subst, sym}
use Rattle.scp_types.specs.declared.kind.Kind.{Kind}
use Rattle.scp_types.specs.declared.kind.Kind.TheVariants.{Nomination}
use Rattle.scp_spec.specs.Sets.{IsAscending}
use Rattle.scp_bits.specs.Moving.{AreMoved}
use Rattle.node_view.proofs.region.Region.after_row.Goals as goal

pub moved_places-requires-clause-now : goal.moved_places-requires-clause-now
moved_places-requires-clause-now g c = subst (λ (us : List ℕ). IsAscending us) (sym c.deref-2.ensures.value) c.in_ok-nodes.ensures.ascending

pub over-requires-clause-former : goal.over-requires-clause-former
over-requires-clause-former g c =
    let us = (arc_slice_items c.args.self.now.nodes) in
    let all = c.in_ok-nodes.nodes.items in
    let kept = c.requires.kept in
    let closed = c.in_ok-nodes.ensures.closed in
    let moved : AreMoved us all c.deref-4.result.now =
    subst (λ (places : List ℕ). AreMoved us all places) (sym c.deref-4.ensures.value)
    (subst (λ (p : List ℕ × List ℕ). AreMoved p.0 p.1 c.in_ok-places.places.items) (λ i. (c.deref.ensures.value i, c.deref-2.ensures.value i)) c.in_ok-places.ensures) in
    record {
      ballots = record { moved = moved; forms = kept.ballots; within = kept.ballot_names; closed = closed Kind.Ballot };
      nominations = record { moved = moved; forms = kept.nominations; within = kept.nomination_names; closed = closed Nomination };
    }
