use Rattle.scp_codec.specs.Kinds.{kind_number}
use Rattle.scp_codec.proofs.EnvelopeLaws.{kind_is_refused}
use Rattle.scp_codec.proofs.decoder.read_envelope.Goals as goal

pub returns-clause-kind : goal.returns-clause-kind
returns-clause-kind c = λ h. absurd (kind_is_refused c.args.reader.now c.read_version.new.reader c.in_ok-version.version (kind_number c.in_ok-kind.kind, c.read_kind.new.reader) h c.in_ok-version.ensures c.in_ok-kind.ensures)
