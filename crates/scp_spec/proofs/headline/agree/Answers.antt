use Rattle.scp_spec.proofs.Runs.Claims.{agree_claim}
use Rattle.scp_spec.proofs.headline.agree.Goals as goal

pub returns : goal.returns
returns c = agree_claim
