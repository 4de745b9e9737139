use Rattle.std.proofs.Common.{◌≡◌, ◌∙◌, None, Some, ap, get_or, option_map, sym}
use Rattle.scp_types.specs.Statements.{Sent}
use Rattle.node_store.specs.Archives.{sent_of, sents_of}
use Rattle.node_view.specs.Regions.{rows_of}
use Rattle.node_view.proofs.Standings.{has_slices}
use Rattle.node_view.proofs.known.has_slices_at.Goals as goal

pub returns-in-Some-filed_at : goal.returns-in-Some-filed_at
returns-in-Some-filed_at g c = λ same k is.
    let there : get_or (rows_of c.args.kind c.args.region.now) c.args.node None ≡ Some c.in-Some.place = cc in
    has_slices k.name k.slices (sents_of c.args.table.now) (sent_of c.args.row.now.envelope) c.args.region.now c.args.kind c.args.node c.in-Some.place c.if-node-region.false there
    (ap (option_map (λ (x : Sent). x.slices)) (sym c.in-Some-filed_at.ensures.row) ∙ ap (λ s. Some s) (c.tells_same_slices.ensures same)) is
