use Rattle.std.proofs.Common.{rules, ◌<◌, [], length, ap, subst, sym}
use Rattle.std.specs.List.{All}
use Rattle.std.proofs.lemmas.List.Elements.{All-append, All-cons, All-nil}
use Rattle.live_host.specs.Hosts.{Live}
use Rattle.live_shards.proofs.ShardLaws.{IsFresh, fresh_joined, fresh_shards}
use Rattle.live_shards.proofs.sharded_host.ShardedHost.new.Goals as goal

pub loop-made-preserved : goal.loop-made-preserved
loop-made-preserved c =
    let one : IsFresh c.args.bytes c.new.result = record {
      bytes_is = ap (λ (l : Live). l.bytes) c.new.ensures.host;
      waiting = ap (λ (l : Live). l.waiting) c.new.ensures.host;
      running = ap (λ (l : Live). l.running) c.new.ensures.host;
      idle = c.new.ensures.idle;
    } in (
      search rules,
      search rules,
      search rules,
      subst (All (IsFresh c.args.bytes)) (sym c.push_reserved.ensures.items)
          (All-append (IsFresh c.args.bytes) c.loop-made.shards.items _ c.loop-made.invariant.3 (All-cons (IsFresh c.args.bytes) _ [] one (All-nil (IsFresh c.args.bytes)))),
    )

pub invariant_of-result : goal.invariant_of-result
invariant_of-result c =
    let some : 0 < length c.loop-made.shards.items = search rules in
    fresh_shards c.args.bytes c.loop-made.shards.items c.loop-made.invariant.3 some

pub returns : goal.returns
returns c =
    let some : 0 < length c.loop-made.shards.items = search rules in
    fresh_joined c.args.bytes c.loop-made.shards.items c.loop-made.invariant.3 some
