use Rattle.std.proofs.Common.{rules, arith, ◌≡◌, ◌≢◌, ◌≤◌, ◌∙◌, ◌<◌, [], length, get_or, get_or-set_other, refl, ap}
use Rattle.std.proofs.lemmas.List.{get_or_default}
use Rattle.live_shards.specs.declared.shard.Shard.{Shard}
use Rattle.live_shards.proofs.ShardLaws.{errands_more, rested_more}
use Rattle.live_shards.proofs.sharded_host.errands.Goals as goal

pub loop-place-preserved : goal.loop-place-preserved
loop-place-preserved c =
    let old = c.args.shards.now in
    let p = c.loop-place.place in
    let l : p < length c.loop-place.shards = search rules in
    let within : p < length old = let n = c.loop-place.invariant.0 in omega (arith, l, n) in
    let idle : c.replace-shard.new.dest.answers.items ≡ [] = ap (λ (s : Shard). s.answers.items) c.replace-shard.ensures.after ∙ c.new.ensures.idle in (
      search rules,
      search rules,
      search rules,
      search rules,
      errands_more c.args.batch old c.loop-place.errands.items c.push_reserved.new.self.items p _ c.loop-place.invariant.2 c.push_reserved.ensures.items c.loop-place.invariant.4
          (λ d. (c.replace-shard.ensures.value ∙ (c.loop-place.invariant.5 p c.index-shards-place.result (omega arith) ∙ get_or_default old p c.index-shards-place.result d within), refl, refl)),
      (λ k d less.
          let other : k ≢ p = λ same. absurd (omega (arith, less, same)) in
          let here : p ≤ k = omega (arith, less) in
          get_or-set_other c.loop-place.shards p k _ d other ∙ c.loop-place.invariant.5 k d here),
      rested_more c.loop-place.shards p _ l idle c.loop-place.invariant.6,
    )

pub returns-clause-some : goal.returns-clause-some
returns-clause-some c =
    let all : c.loop-place.place ≡ length c.args.shards.now = search rules in
    record { count = c.loop-place.invariant.2 ∙ all; each = λ k d e l. c.loop-place.invariant.4 k d e (omega (arith, l, all)) }
