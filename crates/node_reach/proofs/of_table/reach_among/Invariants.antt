use Rattle.std.proofs.Common.{◌+◌, ◌-◌, length}
use Rattle.node_reach.specs.Searching.{AreKnown, IsSearch, count_unmarked}
use Rattle.node_reach.proofs.Underway.{IsUnderway, all_named}
use Rattle.node_reach.proofs.of_table.reach_among.Given as goal

abbrev pub invariant-loop-rows : goal.invariant-loop-rows
invariant-loop-rows g l = record {
  search : IsSearch l.search;
  known : AreKnown l.table l.search.known;
  way : IsUnderway l.node l.slices l.table l.search;
}

abbrev pub decreases-loop-rows : goal.decreases-loop-rows
decreases-loop-rows g l = count_unmarked l.search.marks.items + length l.search.places.items + length l.search.others.pending + length (all_named l.node l.slices l.table) - length l.search.others.found
