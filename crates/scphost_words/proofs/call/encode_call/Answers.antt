use Rattle.scphost_words.proofs.Short.{encode_short}
use Rattle.scphost_words.proofs.call.encode_call.Goals as goal

pub returns-in_default : goal.returns-in_default
returns-in_default g c = encode_short g.S.AsStr.text c.args.asked.now c.args.operands.now c.in_default.len_below
