use Rattle.std.specs.Arc.{arc_slice_items}
use Rattle.std.proofs.Common.{◌≡◌, ℕ, IfSome, List, subst, sym}
use Rattle.std.proofs.lemmas.Option.{IfSome_then}
use Rattle.scp_types.specs.declared.kind.Kind.{Kind}
use Rattle.scp_types.specs.declared.kind.Kind.TheVariants.{Nomination}
use Rattle.scp_types.specs.Statements.{Sent}
use Rattle.node_view.specs.Grouping.{AreGrouped}
use Rattle.node_view.specs.Knowing.{AreSearched, IsKnown}
use Rattle.node_view.specs.Watching.{RowsOfNodes, rows_of_others, values_in}
use Rattle.node_view.proofs.Knowing.{searched}
use Rattle.node_view.proofs.seeing.View.by_ballot_rows.Goals as goal

pub invariant_of-result : goal.invariant_of-result
invariant_of-result g c =
    let own = c.args.own.name.now in
    let table = c.table-table.result.now in
    let same : c.args.ballots.table ≡ table = sym c.table-table.ensures in
    let known = c.args.known.now in
    let at : List ℕ → Kind → RowsOfNodes = λ us kind. record { nodes = us; table = table; kind = kind } in
    let kept : c.args.ballots ≡ at (arc_slice_items known.region.nodes) Kind.Ballot =
    subst (λ (t : List Sent). c.args.ballots ≡ record { nodes = (arc_slice_items known.region.nodes); table = t; kind = Kind.Ballot }) same c.requires.ballots in
    let is = subst (λ (t : List Sent). IsKnown own c.args.own.slices.now t known) same c.requires.known in
    let nominated : c.rows-nominations.result ≡ at (arc_slice_items known.region.nodes) Nomination = c.rows-nominations.ensures in
    record {
      known = is.region;
      single = c.are_single.ensures;
      ballots_kept = kept;
      nominations_kept = nominated;
      ballots_listed = subst (λ (k : RowsOfNodes). IfSome known.ballots (λ b. AreSearched own k.kind k.table k.nodes b)) (sym kept) (searched own table (arc_slice_items known.region.nodes) known.ballots is.ballots);
      values_listed = subst (λ (k : RowsOfNodes). IfSome known.values (λ v. v.values ≡ values_in (rows_of_others own k.kind k.table k.nodes))) (sym nominated) (IfSome_then known.values is.values (λ v are. are.values));
      ballots_alike = subst (λ (k : RowsOfNodes). IfSome known.ballots (λ b. IfSome b.alike (AreGrouped own k))) (sym kept) (IfSome_then known.ballots is.ballots (λ b are. are.alike));
      values_alike = subst (λ (k : RowsOfNodes). IfSome known.values (λ v. IfSome v.alike (AreGrouped own k))) (sym nominated) (IfSome_then known.values is.values (λ v are. are.alike));
    }
