use Rattle.std.proofs.Common.{◌+◌, ◌*◌}
use Rattle.pool_queue.proofs.doing.+starting.Given as goal

abbrev pub decreases-do_by : goal.decreases-do_by
decreases-do_by g l = 2 * l.others

abbrev pub decreases-rest : goal.decreases-rest
decreases-rest g l = 2 * l.fewer + 1
