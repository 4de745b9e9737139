use Rattle.std.specs.Arc.{arc_slice_items}
use Rattle.std.proofs.Common.{◌≡◌, ◌∙◌, List, ℕ, ap, subst, sym}
use Rattle.scp_types.specs.declared.kind.Kind.{Kind}
use Rattle.scp_spec.specs.Views.{seen}
use Rattle.node_view.specs.Knowing.{IsKnown}
use Rattle.node_view.specs.Regions.{row_places}
use Rattle.node_view.specs.Watching.{RowsOfNodes}
use Rattle.node_view.proofs.seeing.View.of.Goals as goal

pub gather-requires : goal.gather-requires
gather-requires g c =
    c.deref-2.ensures.value ∙ (c.requires.region.ballot_rows ∙ ap (row_places c.args.table.now Kind.Ballot) (sym c.deref.ensures.value))

pub by_ballot_rows-requires : goal.by_ballot_rows-requires
by_ballot_rows-requires g c =
    let known = c.args.known.now in
    let at : List ℕ → RowsOfNodes = λ us. record { nodes = us; table = c.args.table.now; kind = Kind.Ballot } in
    let is : c.in_ok-ballots.ballots ≡ at (arc_slice_items known.region.nodes) = c.in_ok-ballots.ensures ∙ ap at c.deref.ensures.value in
    record {
      known = subst (λ (k : RowsOfNodes). IsKnown c.args.own.name.now c.args.own.slices.now k.table known) (sym is) c.requires;
      ballots = is ∙ ap (λ (k : RowsOfNodes). record { nodes = (arc_slice_items known.region.nodes); table = k.table; kind = Kind.Ballot }) (sym is);
    }

pub returns : goal.returns
returns g c =
    c.by_ballot_rows.ensures
    ∙ ap (λ (k : RowsOfNodes). seen c.args.own.name.now c.args.own.slices.now c.args.leaders.now k.table) c.in_ok-ballots.ensures
