use Rattle.std.proofs.Common.{rules, arith, ◌≡◌, ◌∙◌, ◌+◌, ◌++◌, ◌∷◌, ◌≤◌, length, map, refl, sym, ap, subst}
use Rattle.std.proofs.lemmas.List.{length-append, length-drop, length-map, length-take}
use Rattle.live_feed.specs.Reading.{given_of}
use Rattle.live_feed.specs.Served.{AreAnswered, reply_of}
use Rattle.live_feed.proofs.TogetherLaws.{answered_first, few_answers}
use Rattle.live_host.specs.Hosts.{Serves}
use Rattle.live_shards.proofs.ShardLaws.{answered_some, answered_then}
use Rattle.live_shards.proofs.sharded_host.ShardedHostBatchServer.serve_batch.Goals as goal

pub returns-then-len-turn : goal.returns-then-len-turn
returns-then-len-turn g c =
    let lines = c.args.lines.now in
    let turn = c.up_to_nets-turn.result in
    let one = c.serve_in_turn-answers.ensures in
    let answers = c.serve_in_turn-answers.result.items in
    let counted : c.len-2.result ≡ length answers = search rules in
    let within = c.up_to_nets-turn.ensures in
    let fewer = c.if-len-turn.true in
    (one.0, answered_first Serves c.args.self.now one.0 (c.args.count + 1) turn lines (map reply_of answers) (rw c.split_at.ensures.front at one.1), λ all. absurd (omega (arith, all, counted, within, fewer)))

pub returns-then-not-add_behind : goal.returns-then-not-add_behind
returns-then-not-add_behind g c =
    let lines = c.args.lines.now in
    let first = c.split_at.result.0.now in
    let others = c.split_at.result.1.now in
    let turn = c.up_to_nets-turn.result in
    let one = c.serve_in_turn-answers.result.items in
    let other = c.serve_shared-more.result.items in
    let more = c.serve_shared-more.ensures in
    let enough : turn ≤ length one = search rules in
    let added = c.if-not-add_behind.ensures.some refl in
    let whole = answered_then c.args.self.now c.serve_in_turn-answers.new.server more.0 c.args.count turn lines first others one other c.split_at.ensures.front c.split_at.ensures.back c.up_to_nets-turn.ensures enough c.serve_in_turn-answers.ensures more.1 in
    let few = few_answers Serves c.args.self.now more.0 (c.args.count + 1) (map given_of lines) (map reply_of (one ++ other)) whole in
    let so_far = answered_some c.args.self.now more.0 (c.args.count + 1) lines c.add_behind.new.answers.items (added.0 ∷ added.1) (one ++ other) added.2 whole in
    let many = ap length added.2 in
    let counted = length-append c.add_behind.new.answers.items (added.0 ∷ added.1) in
    (so_far.0, so_far.1, λ all. absurd (omega (arith, all, few, many, counted, length-map (one ++ other) reply_of, length-map lines given_of)))

pub returns-else-not-add_behind : goal.returns-else-not-add_behind
returns-else-not-add_behind g c =
    let lines = c.args.lines.now in
    let first = c.split_at.result.0.now in
    let others = c.split_at.result.1.now in
    let turn = c.up_to_nets-turn.result in
    let one = c.serve_in_turn-answers.result.items in
    let other = c.serve_shared-more.result.items in
    let more = c.serve_shared-more.ensures in
    let enough : turn ≤ length one = search rules in
    let added = c.if-not-add_behind.ensures.all refl in
    let whole = answered_then c.args.self.now c.serve_in_turn-answers.new.server more.0 c.args.count turn lines first others one other c.split_at.ensures.front c.split_at.ensures.back c.up_to_nets-turn.ensures enough c.serve_in_turn-answers.ensures more.1 in
    let few = few_answers Serves c.serve_in_turn-answers.new.server more.0 (c.args.count + turn + 1) (map given_of others) (map reply_of other) more.1 in
    let begun = few_answers Serves c.args.self.now c.serve_in_turn-answers.ensures.0 (c.args.count + 1) (map given_of first) (map reply_of one) c.serve_in_turn-answers.ensures.1 in
    let fronts = ap length c.split_at.ensures.front ∙ length-take turn lines in
    let backs = ap length c.split_at.ensures.back ∙ length-drop turn lines in
    let within = c.up_to_nets-turn.ensures in
    let many = ap length added ∙ length-append one other in (
      more.0,
      subst (λ xs. AreAnswered Serves c.args.self.now (c.args.count + 1) (map given_of lines) (map reply_of xs) more.0) (sym added) whole,
      λ all. more.2 (omega (arith, all, few, begun, many, fronts, backs, within, length-map other reply_of, length-map others given_of, length-map one reply_of, length-map first given_of)),
    )
