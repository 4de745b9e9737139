use Rattle.std.proofs.Common.{rules}
use Rattle.line_request.specs.Lines.{AreSaid}
use Rattle.line_request.proofs.BackLaws.{decodes_back, nothing_encoded}
use Rattle.line_request.proofs.encoding.encode_words.Goals as goal

pub returns-in-None-clause-encoded : goal.returns-in-None-clause-encoded
returns-in-None-clause-encoded c = nothing_encoded c.args.from.now c.args.slot.now c.args.slices.now c.args.statement.now _ c.in_ok-bytes.ensures c.in-None.is

pub returns-in_ok-line-in-Some-clause-back : goal.returns-in_ok-line-in-Some-clause-back
returns-in_ok-line-in-Some-clause-back c =
    let said : AreSaid c.as_slice.result.now c.args.from.now c.args.slot.now c.args.slices.now c.args.statement.now = search rules in
    decodes_back c.args.from.now c.args.slot.now c.args.slices.now c.args.statement.now _ _ said c.in_ok-line-in-Some.ensures.line (search rules)
