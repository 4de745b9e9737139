use Rattle.std.proofs.Common.{◌≡◌, ◌∙◌, IfSome, IsTrue, subst}
use Rattle.std.proofs.lemmas.Result.{on_ok_weaker}
use Rattle.scp_types.specs.declared.kind.Kind.{Kind}
use Rattle.scp_spec.specs.Candidates.{all_with, values_by}
use Rattle.node_view.specs.Grouping.{AreGrouped}
use Rattle.node_view.specs.Knowing.{is_heard}
use Rattle.node_view.proofs.Widening.{heard_values}
use Rattle.node_view.proofs.reached_values.ReachedValues.add.Goals as goal

pub returns : goal.returns
returns g c =
    let own = c.args.own.now in
    let rows = c.args.rows.now in
    let e = c.args.row.now in
    let listed = c.args.self.now in
    on_ok_weaker c.insert_values.result (λ (is : c.insert_values.new.values ≡ all_with (values_by c.body.result.now) listed.values) old before heard taken are. record {
      values = is ∙ (λ i. all_with (values_by (c.body.ensures.value i)) (are.values i)) ∙ heard_values own rows.nodes old rows.table e before heard taken;
      alike = subst (λ (k : Kind). IsTrue (is_heard k own rows.nodes e) → IfSome listed.alike (λ a. AreGrouped own (record { nodes = rows.nodes; table = old; kind = k }) a) → IfSome c.follow.new.alike (λ a. AreGrouped own (record { nodes = rows.nodes; table = rows.table; kind = k }) a))
          c.requires.kind (c.follow.ensures old taken.now) heard are.alike;
    }) c.insert_values.ensures
