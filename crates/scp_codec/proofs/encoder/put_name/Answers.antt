use Rattle.std.proofs.Common.{arith}
use Rattle.scp_codec.proofs.NameLaws.{name_written}
use Rattle.scp_codec.proofs.encoder.put_name.Goals as goal

pub returns : goal.returns
returns c =
    let word = c.words-first.result in
    name_written c.args.node.now word.0 word.1 word.2 word.3 c.args.out.now.items c.put_u64.new.out.items c.put_u64-2.new.out.items c.put_u64-3.new.out.items c.put_u64-4.new.out.items c.words-first.ensures.value (omega arith) (omega arith) (omega arith) c.in_ok-put_u64.ensures c.in_ok-put_u64-2.ensures c.in_ok-put_u64-3.ensures c.in_ok-put_u64-4.ensures
