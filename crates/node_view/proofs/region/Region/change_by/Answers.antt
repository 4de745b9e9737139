use Rattle.node_view.proofs.KeptLaws.{kept_region}
use Rattle.node_view.proofs.region.Region.change_by.Goals as goal

pub returns-in_default : goal.returns-in_default
returns-in_default g c = λ is. (kept_region c.args.own.name.now c.args.own.slices.now c.args.table.now c.args.envelope.now c.args.self.now is, tt)
