use Rattle.std.proofs.Common.{◌≡◌, ◌<◌, ◌+◌, ℕ, vec_len}
use Rattle.crossbeam_queue.specs.Passes.{view, IsPassOf}
use Rattle.pool_queue.specs.Hands.{all_parts, weigh}
use Rattle.pool_queue.specs.Queues.{AllPasses, IsOn, parts, parts_by, put_by, taken_by}
use Rattle.pool_queue.specs.declared.rule.Job.{Job}
use Rattle.pool_queue.proofs.closing.gather.Given as goal

abbrev pub invariant-loop-pass : goal.invariant-loop-pass
invariant-loop-pass l =
    IsPassOf l.line l.whole × (0 < parts l.whole)
    × (parts l.whole + parts_by l.passes.items ≡ all_parts)
    × ((h : Job → ℕ) → (weigh h (view l.whole).put + put_by h l.passes.items ≡ put_by h l.fn.passes.items) × (weigh h (view l.whole).taken + taken_by h l.passes.items ≡ taken_by h l.fn.passes.items))
    × AllPasses (IsOn l.line) l.passes.items

abbrev pub decreases-loop-pass : goal.decreases-loop-pass
decreases-loop-pass l = vec_len l.passes
