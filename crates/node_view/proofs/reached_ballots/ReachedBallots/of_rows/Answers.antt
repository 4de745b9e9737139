use Rattle.std.proofs.Common.{◌∙◌, ◌<◌, ◌≤◌, Bor, IfSome, List, ℕ, Option, ap, arith, length, option_map, subst, sym}
use Rattle.scp_types.specs.declared.kind.Kind.{Kind}
use Rattle.scp_types.specs.declared.statement.Statement.{Statement}
use Rattle.scp_spec.specs.Candidates.{committed_by, committed_in, named_by, named_in}
use Rattle.scp_spec.specs.Rows.{row}
use Rattle.node_view.specs.Grouping.{AreGrouped}
use Rattle.node_view.specs.Listing.{AreListed}
use Rattle.node_view.specs.Watching.{rows_of_others, said_by_another}
use Rattle.node_view.proofs.ListedLaws.{HasListed, all_listed, has_added, none_listed, one_listed}
use Rattle.node_view.proofs.reached_ballots.ReachedBallots.of_rows.Goals as goal

pub loop-place-preserved-in_default : goal.loop-place-preserved-in_default
loop-place-preserved-in_default g c =
    let rows = c.args.rows.now in
    let before = c.loop-place in
    let said : ℕ → Option Statement = λ u. said_by_another c.args.own.now (row rows.table u rows.kind) in
    record {
      named = none_listed said named_by rows.nodes before.place before.named (omega (arith, c.loop-place-test.true, ap (λ (us : List ℕ). length us) c.nodes-place-end.ensures)) (ap (option_map (λ (s : Bor Statement). s.now)) (sym c.in_default.is) ∙ c.said_by_another.ensures) before.invariant.named;
      committed = none_listed said committed_by rows.nodes before.place before.committed (omega (arith, c.loop-place-test.true, ap (λ (us : List ℕ). length us) c.nodes-place-end.ensures)) (ap (option_map (λ (s : Bor Statement). s.now)) (sym c.in_default.is) ∙ c.said_by_another.ensures) before.invariant.committed;
      last_named = before.invariant.last_named;
      last_committed = before.invariant.last_committed;
    }

pub loop-place-preserved-then-says : goal.loop-place-preserved-then-says
loop-place-preserved-then-says g c =
    let rows = c.args.rows.now in
    let before = c.loop-place in
    let said : ℕ → Option Statement = λ u. said_by_another c.args.own.now (row rows.table u rows.kind) in
    let s = c.in-Some.statement.now in
    let last = c.says.ensures c.if-says.true in
    let within : before.place < length rows.nodes = omega (arith, c.loop-place-test.true, ap (λ (us : List ℕ). length us) c.nodes-place-end.ensures) in
    let is = ap (option_map (λ (s : Bor Statement). s.now)) (sym c.in-Some.is) ∙ c.said_by_another.ensures in
    record {
      named = one_listed said named_by rows.nodes before.place s before.named before.named within is before.invariant.named (subst (HasListed named_by before.named) last before.invariant.last_named);
      committed = one_listed said committed_by rows.nodes before.place s before.committed before.committed within is before.invariant.committed (subst (HasListed committed_by before.committed) last before.invariant.last_committed);
      last_named = before.invariant.last_named;
      last_committed = before.invariant.last_committed;
    }

pub loop-place-preserved : goal.loop-place-preserved
loop-place-preserved g c =
    let rows = c.args.rows.now in
    let before = c.loop-place in
    let said : ℕ → Option Statement = λ u. said_by_another c.args.own.now (row rows.table u rows.kind) in
    let s = c.in-Some.statement.now in
    let named = c.add_mentioned.new.self in
    let committed = c.add_mentioned-in-loop-place.new.self in
    let within : before.place < length rows.nodes =
    omega (arith, c.loop-place-test.true, ap (λ (us : List ℕ). length us) c.nodes-place-end.ensures) in
    let is = ap (option_map (λ (s : Bor Statement). s.now)) (sym c.in-Some.is) ∙ c.said_by_another.ensures in
    record {
      named = one_listed said named_by rows.nodes before.place s before.named named within is
          before.invariant.named c.in_ok-add_mentioned.ensures;
      committed = one_listed said committed_by rows.nodes before.place s before.committed committed within is
          before.invariant.committed c.in_ok-add_mentioned-2.ensures;
      last_named = has_added named_by s before.named named c.in_ok-add_mentioned.ensures;
      last_committed = has_added committed_by s before.committed committed c.in_ok-add_mentioned-2.ensures;
    }

pub returns : goal.returns
returns g c =
    let rows = c.args.rows.now in
    let last = c.loop-place in
    let own = c.args.own.now in
    let said : ℕ → Option Statement = λ u. said_by_another own (row rows.table u rows.kind) in
    let end : length rows.nodes ≤ last.place = omega (arith, c.loop-place-test.false, ap (λ (us : List ℕ). length us) c.nodes-place-end.ensures) in
    record {
      named = subst (λ k. AreListed last.named (named_in (rows_of_others own k rows.table rows.nodes))) c.requires (all_listed said named_by rows.nodes last.place last.named end last.invariant.named);
      committed = subst (λ k. AreListed last.committed (committed_in (rows_of_others own k rows.table rows.nodes))) c.requires (all_listed said committed_by rows.nodes last.place last.committed end last.invariant.committed);
      alike = subst (λ (k : Kind). IfSome c.in_ok-alike.alike (λ a. AreGrouped own (record { nodes = rows.nodes; table = rows.table; kind = k }) a)) c.requires c.in_ok-alike.ensures;
    }
