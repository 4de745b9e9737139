use Rattle.scp_codec.proofs.EnvelopeLaws.{one_spelling}
use Rattle.scp_codec.proofs.decoder.one_spelling.Goals as goal

pub returns : goal.returns
returns c = one_spelling
