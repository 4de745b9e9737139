use Rattle.std.proofs.Common.{◌≡◌, ◌++◌, drop, map, option_map}
use Rattle.node_view.specs.Watching.{row_where}
use Rattle.node_view.proofs.rows.rows_where.Given as goal

abbrev pub invariant-loop-place : goal.invariant-loop-place
invariant-loop-place g l = map (λ o. option_map (λ r. r.now) o) l.rows.items ++ map (row_where l.table) (drop l.place-index l.places) ≡ map (row_where l.table) l.places
