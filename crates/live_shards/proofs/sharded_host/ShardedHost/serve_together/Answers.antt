use Rattle.std.proofs.Common.{rules, ◌≡◌, ◌∙◌, ◌+◌, length, map, nat_lt, sym, ap, ap₂, subst}
use Rattle.std.proofs.lemmas.List.{length-map}
use Rattle.live_feed.specs.Reading.{given_of}
use Rattle.live_feed.specs.Served.{reply_of}
use Rattle.live_shards.specs.Parts.{joined}
use Rattle.live_shards.specs.Sharded.{AreAnsweredUntil, AreShards, hosts_of}
use Rattle.live_shards.proofs.ShardLaws.{batch_shards, nothing_answered, placed_long, together_answered, written}
use Rattle.live_shards.proofs.sharded_host.ShardedHost.serve_together.Goals as goal

pub returns-then-self-clause-answered : goal.returns-then-self-clause-answered
returns-then-self-clause-answered g c = nothing_answered c.args.self.now _ c.args.lines.now c.new.result.items c.new.ensures.items

pub invariant_of-batch-clause-long : goal.invariant_of-batch-clause-long
invariant_of-batch-clause-long g c =
    ap length c.as_slice.ensures.value ∙ placed_long c.len.result (map given_of c.args.lines.now) c.in_ok-places.places.items c.in_ok-places.ensures ∙ length-map c.args.lines.now given_of

pub invariant_of-self-2 : goal.invariant_of-self-2
invariant_of-self-2 g c =
    let items = c.self.inside.shards.items in
    let answers = c.in-Some.answers.items in
    let new = c.serve_dealt.new.shards in
    let long : length new ≡ length items = c.serve_dealt.ensures.length ∙ ap length c.deref_mut.ensures.value in
    let room : c.self.inside.shards.len ≡ length items = search rules in
    let counted : c.len-2.result ≡ length answers = search rules in
    let lost : nat_lt c.len-2.result (length c.args.lines.now) ≡ nat_lt (length (map reply_of answers)) (length (map given_of c.args.lines.now)) =
    ap₂ nat_lt (counted ∙ sym (length-map answers reply_of)) (sym (length-map c.args.lines.now given_of)) in
    let answered = rw c.deref_mut.ensures.value at c.in-Some.ensures.answered in
    subst (AreShards (nat_lt c.len-2.result (length c.args.lines.now))) (sym (written new items c.self.inside.shards.len room long))
    (batch_shards items new _ (map given_of c.args.lines.now) (map reply_of answers) _ c.self.invariant.some long c.in-Some.ensures.idle answered lost)

pub invariant_of-self : goal.invariant_of-self
invariant_of-self g c =
    let items = c.self.inside.shards.items in
    let new = c.serve_dealt.new.shards in
    let same : new ≡ items = c.in_default.ensures.none ∙ c.deref_mut.ensures.value in
    let room : c.self.inside.shards.len ≡ length items = search rules in
    subst (AreShards c.self.inside.lost) (sym (written new items c.self.inside.shards.len room (ap length same) ∙ same)) c.self.invariant

pub returns-clause-answered : goal.returns-clause-answered
returns-clause-answered g c =
    let items = c.self.inside.shards.items in
    let new = c.serve_dealt.new.shards in
    let long : length new ≡ length items = c.serve_dealt.ensures.length ∙ ap length c.deref_mut.ensures.value in
    let room : c.self.inside.shards.len ≡ length items = search rules in
    let answered = rw c.deref_mut.ensures.value at c.in-Some.ensures.answered in
    subst (λ xs. AreAnsweredUntil c.args.self.now (c.args.count + 1) (map given_of c.args.lines.now) (map reply_of c.in-Some.answers.items) (joined (hosts_of xs))) (sym (written new items c.self.inside.shards.len room long))
    (together_answered items new c.args.self.now _ _ _ c.self.view_is answered)
