use Rattle.scp_codec.proofs.EnvelopeLaws.{one_answer}
use Rattle.scp_codec.proofs.decoder.one_answer.Goals as goal

pub returns : goal.returns
returns c = one_answer
