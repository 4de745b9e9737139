use Rattle.std.proofs.Common.{ℕ, sym, subst, ◌≡◌}
use Rattle.crossbeam_queue.specs.Fifo.{Pushes}
use Rattle.crossbeam_queue.specs.Passes.{view}
use Rattle.pool_cell.specs.Rule.{Holds}
use Rattle.pool_cell.proofs.Moves.{empties}
use Rattle.pool_cell.proofs.lock.give.Goals as goal

pub push_as-requires-clause-rule : goal.push_as-requires-clause-rule
push_as-requires-clause-rule g c =
    (subst (λ (n : ℕ). Pushes Holds n c.args.pass.now.id (view c.args.pass.now) c.args.cell_state (λ w. w ≡ g.N.Next.next)) (sym c.requires.queue.1) c.requires.rule, empties _ _ c.requires.mine)
