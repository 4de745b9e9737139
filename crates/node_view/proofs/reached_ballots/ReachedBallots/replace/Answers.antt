use Rattle.std.proofs.Common.{◌++◌, Bor, IfSome, IsTrue, ap, filter, option_map, subst}
use Rattle.scp_types.specs.declared.kind.Kind.{Kind}
use Rattle.scp_types.specs.declared.statement.Statement.{Statement}
use Rattle.scp_spec.specs.Candidates.{committed_by, committed_in, has_positive_counter, named_by, named_in}
use Rattle.node_view.specs.Grouping.{AreGrouped}
use Rattle.node_view.specs.Knowing.{IsHeard, is_heard}
use Rattle.node_view.specs.Listing.{AreLeft, AreListed}
use Rattle.node_view.specs.Watching.{rows_of_others}
use Rattle.node_view.proofs.Following.{first_followed, other_followed}
use Rattle.node_view.proofs.reached_ballots.ReachedBallots.replace.Goals as goal

pub returns-in-Some : goal.returns-in-Some
returns-in-Some g c = λ old heard are.
    let rows = c.args.rows.now in
    let own = c.args.own.now in
    let e = c.args.row.now in
    let before = c.in-Some.before.now in
    let listed = c.args.self.now in
    let named = c.add_mentioned.new.self in
    let committed = c.add_mentioned-2.new.self in
    let left_named = c.leave_mentioned.new.listed in
    let left_committed = c.leave_mentioned-in-Some.new.listed in
    let others = λ (k : Kind). rows_of_others own k rows.table rows.nodes in
    let there = subst (IsHeard own rows.nodes old rows.table e)
    (ap (option_map (λ (s : Bor Statement). s.now)) c.in-Some.is) heard in
    record {
      named = other_followed own rows.nodes old rows.table e named_by listed.named named before left_named there
          are.named (subst (λ s. AreListed named (listed.named ++ filter has_positive_counter (named_by s))) c.body-now.ensures.value c.in_ok-add_mentioned.ensures)
          (subst (λ k. AreLeft (named_in (others k)) (named_by before) named left_named) c.requires.kind
          c.leave_mentioned.ensures);
      committed = other_followed own rows.nodes old rows.table e committed_by listed.committed committed before
          left_committed there are.committed (subst (λ s. AreListed committed (listed.committed ++ filter has_positive_counter (committed_by s))) c.body-now.ensures.value c.in_ok-add_mentioned-2.ensures)
          (subst (λ k. AreLeft (committed_in (others k)) (committed_by before) committed left_committed) c.requires.kind
          c.leave_mentioned-in-Some.ensures);
      alike = subst (λ (k : Kind). IsTrue (is_heard k own rows.nodes e) → IfSome listed.alike (λ a. AreGrouped own (record { nodes = rows.nodes; table = old; kind = k }) a) → IfSome c.follow.new.alike (λ a. AreGrouped own (record { nodes = rows.nodes; table = rows.table; kind = k }) a))
          c.requires.kind (c.follow.ensures old there.taken.now) there.heard are.alike;
    }

pub returns-in_default : goal.returns-in_default
returns-in_default g c = λ old heard are.
    let rows = c.args.rows.now in
    let own = c.args.own.now in
    let e = c.args.row.now in
    let listed = c.args.self.now in
    let named = c.add_mentioned.new.self in
    let committed = c.add_mentioned-2.new.self in
    let there = subst (IsHeard own rows.nodes old rows.table e)
    (ap (option_map (λ (s : Bor Statement). s.now)) c.in_default.is) heard in
    record {
      named = first_followed own rows.nodes old rows.table e named_by listed.named named there are.named
          (subst (λ s. AreListed named (listed.named ++ filter has_positive_counter (named_by s))) c.body-now.ensures.value c.in_ok-add_mentioned.ensures);
      committed = first_followed own rows.nodes old rows.table e committed_by listed.committed committed there
          are.committed (subst (λ s. AreListed committed (listed.committed ++ filter has_positive_counter (committed_by s))) c.body-now.ensures.value c.in_ok-add_mentioned-2.ensures);
      alike = subst (λ (k : Kind). IsTrue (is_heard k own rows.nodes e) → IfSome listed.alike (λ a. AreGrouped own (record { nodes = rows.nodes; table = old; kind = k }) a) → IfSome c.follow.new.alike (λ a. AreGrouped own (record { nodes = rows.nodes; table = rows.table; kind = k }) a))
          c.requires.kind (c.follow.ensures old there.taken.now) there.heard are.alike;
    }
