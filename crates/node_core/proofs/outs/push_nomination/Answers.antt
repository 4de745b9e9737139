use Rattle.std.proofs.Common.{◌≡◌, ◌∙◌, ◌++◌, List, Option, OnOk, sym, ap, subst}
use Rattle.std.proofs.lemmas.Bool.{false≢true}
use Rattle.std.proofs.lemmas.List.{append-nil}
use Rattle.scp_types.specs.declared.event.Out.{Out}
use Rattle.scp_types.specs.declared.statement.Statement.{Statement}
use Rattle.scp_spec.specs.States.{sent_nomination}
use Rattle.node_core.specs.NodeParts.{emitted_by}
use Rattle.node_core.proofs.Emissions.{emitted-same, nomination-same, nomination-sets}
use Rattle.node_core.proofs.outs.push_nomination.Goals as goal

pub returns-then-nominates_same : goal.returns-then-nominates_same
returns-then-nominates_same c =
    let xs = c.args.given_out.now.items in
    let sets = c.nominates_same.ensures.0 c.if-nominates_same.true in
    let none = emitted-same c.args.configured.now (sent_nomination c.args.old.now) (sent_nomination c.args.new.now) (nomination-same c.args.old.now c.args.new.now sets.0 sets.1) in
    sym (ap (λ (ys : List Out). xs ++ ys) none ∙ append-nil xs)

pub returns : goal.returns
returns c =
    let before = sent_nomination c.args.old.now in
    let after : c.in_ok-after.after ≡ sent_nomination c.args.new.now = c.in_ok-after.ensures in
    let other : before ≡ c.in_ok-after.after → ⊥ = λ e. false≢true (sym c.if-nominates_same.false ∙ c.nominates_same.ensures.1 (nomination-sets c.args.old.now c.args.new.now (e ∙ after))) in
    subst (λ (o : Option Statement). OnOk c.push_new.result (c.push_new.new.given_out.items ≡ c.args.given_out.now.items ++ emitted_by c.args.configured.now before o)) after (c.push_new.ensures before other)
