use Rattle.std.proofs.Common.{rules, arith, ◌<◌, ◌∙◌, length, map, sym, ap, subst}
use Rattle.std.proofs.lemmas.List.{get_or-map, length-map}
use Rattle.live_feed.specs.Served.{LineReply, reply_of}
use Rattle.live_host.specs.Blocks.{TellsOfNoWant}
use Rattle.scphost.proofs.RememberingLaws.{told_more}
use Rattle.scphost.proofs.remembering.told_of.Goals as goal

pub loop-told-preserved : goal.loop-told-preserved
loop-told-preserved c =
    let items = c.args.answers.now.items in
    let k = c.loop-told.told in
    let l : k < length items = search rules in
    let one = subst (λ (r : LineReply). TellsOfNoWant r.text) (ap reply_of c.index.ensures ∙ sym (get_or-map reply_of items k c.index.result.now (reply_of c.index.result.now) l)) (c.lacked_memory.ensures c.if-lacked_memory.false) in
    told_more k (map reply_of items) (reply_of c.index.result.now) c.loop-told.invariant (omega (arith, l, length-map items reply_of)) one
