use Rattle.std.proofs.Common.{rules}
use Rattle.host_compare.proofs.IndexLaws.{indexed_read}
use Rattle.host_compare.proofs.submission.Submission.declare.Goals as goal

pub invariant_of-self-2 : goal.invariant_of-self-2
invariant_of-self-2 c =
    indexed_read c.self.inside.configs.items c.reserve.new.self.items c.push.new.self.items c.args.config c.self.inside.places c.insert.new.self c.number-number.result c.len-place.result
    c.self.invariant c.reserve.ensures.items c.in-Ok.ensures.items (search rules) c.number-number.ensures (search rules) (search rules)
