-- What a reader has seen.
use Rattle.std.specs.Prelude.{Option, Some, None, List, []}
use Rattle.std.specs.declared.alloc.Global.{Global}
use Rattle.left_right.specs.Sides.{view}
use Rattle.left_right.specs.declared.reader.Reader.{Reader}
use Rattle.pool_cell.specs.declared.decision.Decision.{Decision}
use Rattle.pool_cell.specs.declared.board.Board.{Board}
use Rattle.pool_cell.specs.declared.board.Published.{Published}

-- the decisions that a reader was lent last; none without a reader
abbrev pub decisions_seen : Option (Reader Board (List Decision) Published Global) → List Decision
decisions_seen None = []
decisions_seen (Some r) = view r.place
