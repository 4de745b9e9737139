use Rattle.std.proofs.Common.{◌≡◌, ℕ, ◌<◌, None}
use Rattle.node_view.specs.Grouping.{AreGroups, IsOutside, said_at}
use Rattle.node_view.proofs.alike.Alike.of_rows.Given as goal

abbrev pub invariant-loop-place : goal.invariant-loop-place
invariant-loop-place g l = record {
  groups : AreGroups (said_at l.own l.rows) l.alike.groups.items;
  outside : (i : ℕ) → i < l.place → IsOutside l.alike i → said_at l.own l.rows i ≡ None;
}
