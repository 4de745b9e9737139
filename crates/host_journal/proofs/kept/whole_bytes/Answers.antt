use Rattle.std.proofs.Common.{ap, length, ◌∙◌}
use Rattle.scp_types.specs.Statements.{Sent}
use Rattle.scp_spec.specs.Networks.Reading.{Read}
use Rattle.host_network.proofs.Readings.{reads}
use Rattle.host_network.specs.Decoding.{reading}
use Rattle.host_journal.specs.Keeping.{spelled_size}
use Rattle.host_journal.proofs.Spelled.{counted}
use Rattle.host_journal.proofs.kept.whole_bytes.Goals as goal

pub returns-clause-count : goal.returns-clause-count
returns-clause-count g c = ap length c.new.ensures ∙ counted c.in_ok-bytes.bytes.items c.read.result.now c.in_ok-bytes.ensures ∙ ap spelled_size c.read.ensures

pub returns-clause-says : goal.returns-clause-says
returns-clause-says g c = ap reading c.new.ensures ∙ reads c.in_ok-bytes.bytes.items c.read.result.now c.in_ok-bytes.ensures ∙ ap (λ (e : Sent). Read e) c.read.ensures
