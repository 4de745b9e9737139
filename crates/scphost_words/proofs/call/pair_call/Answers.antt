use Rattle.scphost_words.proofs.Short.{pair_short}
use Rattle.scphost_words.proofs.call.pair_call.Goals as goal

pub returns-in_default : goal.returns-in_default
returns-in_default g c = pair_short g.S.AsStr.text c.args.asked.now c.args.operands.now c.in_default.len_below
