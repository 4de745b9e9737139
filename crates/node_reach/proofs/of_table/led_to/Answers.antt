use Rattle.std.proofs.Common.{◌≡◌, ◌+◌, ◌∙◌, ℕ, List, length, ap, sym, subst, arith}
use Rattle.node_reach.specs.Sweeps.{Swept, AreNamesNoted, names_in_rows_of, unknown}
use Rattle.node_reach.specs.Widening.{AreLedTo}
use Rattle.node_reach.proofs.Widening.{begins, goes_on, led_to, widening_bound}
use Rattle.node_reach.proofs.of_table.led_to.Goals as goal

pub loop-next-init : goal.loop-next-init
loop-next-init g c =
    begins c.args.table.now c.args.known.now c.args.sender.now c.note_rows_of.new.sweep
    (subst (λ (s : Swept). AreNamesNoted s c.note_rows_of.new.sweep (unknown c.args.known.now (names_in_rows_of c.args.table.now c.args.sender.now))) c.new-sweep.ensures c.in_ok-note_rows_of.ensures)

pub loop-next-preserved : goal.loop-next-preserved
loop-next-preserved g c =
    goes_on c.args.table.now c.args.known.now c.args.sender.now c.loop-next.sweep c.take.new.self c.note_rows_of-in-Some.new.sweep c.in-Some.next c.loop-next.invariant c.in-Some.ensures c.in_ok-note_rows_of-2.ensures

pub loop-next-smaller : goal.loop-next-smaller
loop-next-smaller g c =
    let way = goes_on c.args.table.now c.args.known.now c.args.sender.now c.loop-next.sweep c.take.new.self c.note_rows_of-in-Some.new.sweep c.in-Some.next c.loop-next.invariant c.in-Some.ensures c.in_ok-note_rows_of-2.ensures in
    let bound = widening_bound c.args.table.now c.args.known.now c.args.sender.now c.note_rows_of-in-Some.new.sweep way in
    let taken : length c.take.new.self.pending + 1 ≡ length c.loop-next.sweep.pending = c.in-Some.ensures.counted in
    let same : length c.take.new.self.found ≡ length c.loop-next.sweep.found = ap length c.in-Some.ensures.found in
    let noted : length c.note_rows_of-in-Some.new.sweep.found + length c.take.new.self.pending ≡ length c.take.new.self.found + length c.note_rows_of-in-Some.new.sweep.pending = c.in_ok-note_rows_of-2.ensures.counted in
    omega (arith, bound, taken, same, noted)

pub returns : goal.returns
returns g c =
    let found : c.in_ok-nodes.nodes.items ≡ c.loop-next.sweep.found = c.in_ok-nodes.ensures ∙ ap (λ (s : Swept). s.found) c.in_default.ensures.1 in
    subst (λ (xs : List ℕ). AreLedTo c.args.table.now c.args.known.now c.args.sender.now xs) (sym found)
    (led_to c.args.table.now c.args.known.now c.args.sender.now c.loop-next.sweep c.loop-next.invariant c.in_default.ensures.0)
