use Rattle.std.proofs.Common.{Bor, None, Option, option_map}
use Rattle.scp_types.specs.Statements.{Sent}
use Rattle.node_view.proofs.Keeping.{places_of_all, row_gathered}
use Rattle.node_view.proofs.reached.ReachedRows.gather.Goals as goal

pub invariant_of-result : goal.invariant_of-result
invariant_of-result g c =
    let sent = λ (o : Option (Bor Sent)). option_map (λ (r : Bor Sent). r.now) o in (
      places_of_all c.args.kind c.args.table.now c.args.nodes.now c.args.places.now c.requires,
      row_gathered c.args.kind c.args.table.now c.args.nodes.now sent c.in_ok-gathered.gathered.items None c.args.places.now c.in_ok-gathered.ensures c.requires,
    )
