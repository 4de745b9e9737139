use Rattle.std.proofs.Common.{◌∙◌, ◌||◌, ℕ, List, Option, length, ap, ap₂, sym, subst, arith}
use Rattle.scp_types.specs.Statements.{Sent}
use Rattle.scp_spec.specs.Sets.{among}
use Rattle.node_reach.specs.declared.search.KnownNodes.{KnownNodes}
use Rattle.node_reach.specs.Searching.{AreKnown}
use Rattle.node_reach.specs.Sweeps.{names_in_rows_of, names_in_row}
use Rattle.node_reach.proofs.Finding.{found_same}
use Rattle.node_reach.proofs.Underway.{begins, goes_on, is_reach, found_bound}
use Rattle.node_reach.proofs.of_table.reach_among.Goals as goal

pub loop-rows-init : goal.loop-rows-init
loop-rows-init g c =
    let known = c.in_ok-note_all.ensures.known ∙ (c.in_ok-note.ensures.known ∙ c.in_ok-search.ensures.known) in
    record {
      search = c.in_ok-note_all.ensures.search;
      known = subst (λ (k : KnownNodes). AreKnown c.args.table.now k) (sym known) c.requires;
      way = begins c.args.node.now c.args.slices.now c.args.table.now c.in_ok-search.search c.note.new.self c.note_all.new.self (among c.deref.result.now)
          c.in_ok-search.ensures.found c.in_ok-search.ensures.pending c.in_ok-note.ensures c.in_ok-note_all.ensures
          (λ u. ap (λ (xs : List ℕ). among xs u) c.deref.ensures.value ∙ c.in_ok-names.ensures.all u);
    }

pub loop-rows-preserved : goal.loop-rows-preserved
loop-rows-preserved g c =
    let t = c.args.table.now in
    let with = c.in-Some.ensures in
    let u = with.node in
    let noted = found_same c.take.new.self c.note_rows.new.self _ (names_in_rows_of t u) (λ w. ap₂ (λ (a b : Option Sent). names_in_row a w || names_in_row b w) with.theirs.ballot with.theirs.nomination) c.in_ok-note_rows.ensures in
    record {
      search = noted.search;
      known = subst (λ (k : KnownNodes). AreKnown t k) (sym (noted.known ∙ with.taken.known)) c.loop-rows.invariant.known;
      way = goes_on c.args.node.now c.args.slices.now t c.loop-rows.search c.take.new.self c.note_rows.new.self u c.loop-rows.invariant.way with.taken noted;
    }

pub loop-rows-smaller : goal.loop-rows-smaller
loop-rows-smaller g c =
    let own = c.args.node.now in
    let q = c.args.slices.now in
    let t = c.args.table.now in
    let with = c.in-Some.ensures in
    let u = with.node in
    let noted = found_same c.take.new.self c.note_rows.new.self _ (names_in_rows_of t u) (λ w. ap₂ (λ (a b : Option Sent). names_in_row a w || names_in_row b w) with.theirs.ballot with.theirs.nomination) c.in_ok-note_rows.ensures in
    let way = goes_on own q t c.loop-rows.search c.take.new.self c.note_rows.new.self u c.loop-rows.invariant.way with.taken noted in
    let bound = found_bound own q t c.note_rows.new.self noted.search way in
    omega (arith, bound, with.taken.counted, ap (λ (xs : List ℕ). length xs) with.taken.same, noted.marks, noted.counted)

pub returns : goal.returns
returns g c =
    let over = c.in_default.ensures in
    let s = c.loop-rows.search in
    is_reach c.args.node.now c.args.slices.now c.args.table.now s c.in_ok-nodes.nodes.items c.loop-rows.invariant.way over.over c.are_single.ensures
    c.in_ok-nodes.ensures.ascending (λ u. c.in_ok-nodes.ensures.all u ∙ over.found u)
