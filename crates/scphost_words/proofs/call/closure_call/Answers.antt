use Rattle.scphost_words.proofs.Short.{closure_short}
use Rattle.scphost_words.proofs.call.closure_call.Goals as goal

pub returns-in_default : goal.returns-in_default
returns-in_default g c = closure_short g.S.AsStr.text c.args.asked.now c.args.operands.now c.in_default.len_below
