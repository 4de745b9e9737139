use Rattle.std.proofs.Common.{arith}
use Rattle.scphost_words.proofs.FormLaws.{behind_only, behind_read, behind_unread, front_read, front_unread}
use Rattle.scphost_words.proofs.options.options_and_operands.Goals as goal

pub returns-in-Some-clause-all : goal.returns-in-Some-clause-all
returns-in-Some-clause-all g c = λ asked operands h.
    front_read _ _ _ _ _ _ c.plain_count-count.result c.none.ensures c.plain_count-count.ensures.count
    (omega (arith, c.if-count-eq0.true)) c.options_before-asked.ensures.given c.options_before-asked.ensures.ended c.in-Some.ensures asked operands h

pub returns-in-None-clause-all : goal.returns-in-None-clause-all
returns-in-None-clause-all g c = λ asked operands h.
    front_unread _ _ _ _ _ c.plain_count-count.result c.none.ensures c.plain_count-count.ensures.count
    (omega (arith, c.if-count-eq0.true)) c.options_before-asked.ensures.given c.options_before-asked.ensures.ended c.in-None.ensures asked operands h

pub returns-in_default-empty-clause-found : goal.returns-in_default-empty-clause-found
returns-in_default-empty-clause-found g c =
    behind_read g.S.AsStr.text c.args.command c.args.words.now c.split_at.result.0.now c.split_at.result.1.now c.options_before-asked-2.result.1.now
    _ _ c.plain_count-count.result c.none-2.ensures c.plain_count-count.ensures.count c.split_at.ensures.front c.split_at.ensures.back
    c.options_before-asked-2.ensures.given c.in_default-empty.len_below

pub returns-in_default-empty-clause-all : goal.returns-in_default-empty-clause-all
returns-in_default-empty-clause-all g c = λ asked operands h.
    let all = behind_only g.S.AsStr.text c.args.command c.args.words.now c.split_at.result.0.now c.split_at.result.1.now c.options_before-asked-2.result.1.now
    _ _ c.plain_count-count.result c.none-2.ensures c.plain_count-count.ensures.count (omega (arith, c.if-count-eq0.false))
    c.split_at.ensures.front c.split_at.ensures.back c.options_before-asked-2.ensures.given c.options_before-asked-2.ensures.ended asked operands h in
    (all.0, all.2)

pub returns-in_default-clause-all : goal.returns-in_default-clause-all
returns-in_default-clause-all g c = λ asked operands h.
    behind_unread g.S.AsStr.text c.args.command c.args.words.now c.split_at.result.0.now c.split_at.result.1.now c.options_before-asked-2.result.1.now
    _ _ c.plain_count-count.result c.none-2.ensures c.plain_count-count.ensures.count (omega (arith, c.if-count-eq0.false))
    c.split_at.ensures.front c.split_at.ensures.back c.options_before-asked-2.ensures.given c.options_before-asked-2.ensures.ended
    c.in_default.len_at_least asked operands h
