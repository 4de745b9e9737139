use Rattle.std.proofs.Common.{ℕ, ap, ◌∙◌, arith}
use Rattle.scp_spec.specs.Leaders.{hash}
use Rattle.node_leaders.proofs.HashLaws.{hash_is}
use Rattle.node_leaders.proofs.draw.Draw.hash.Goals as goal

pub returns : goal.returns
returns c =
    let word = c.words-first.result in
    let one = c.update.ensures _ c.new-hasher.ensures in
    let two = c.update-2.ensures _ one in
    let three = c.update-3.ensures _ two in
    let four = c.update-4.ensures _ three in
    let five = c.update-5.ensures _ four in
    let six = c.update-6.ensures _ five in
    let seven = c.update-7.ensures _ six in
    let digest = c.finalize.ensures _ seven in
    c.first_word.ensures
    ∙ hash_is c.args.self.slot c.tag.result c.args.self.round c.args.node.now word.0 word.1 word.2 word.3 c.to_be_bytes.result c.to_be_bytes-2.result c.to_be_bytes-3.result c.to_be_bytes-4.result c.to_be_bytes-5.result c.to_be_bytes-6.result c.finalize.result
    c.words-first.ensures.value (omega arith) (omega arith) (omega arith) (omega arith) c.to_be_bytes.ensures c.to_be_bytes-2.ensures c.to_be_bytes-3.ensures c.to_be_bytes-4.ensures c.to_be_bytes-5.ensures c.to_be_bytes-6.ensures digest
    ∙ ap (λ (tag : ℕ). hash c.args.self.slot tag c.args.self.round c.args.node.now) c.tag.ensures
