use Rattle.std.proofs.Common.{◌∙◌}
use Rattle.node_store.proofs.archive.Archive.copy_of.Goals as goal

pub returns : goal.returns
returns g c = λ i. record { number = c.args.filed.now.number; put = record { marker = c.args.filed.now.put.marker; value = (c.of.ensures ∙ c.read.ensures) i } }
