use Rattle.std.proofs.Common.{◌≡◌, ◌∙◌, ◌++◌, List, Option, OnOk, sym, ap, subst}
use Rattle.std.proofs.lemmas.Bool.{false≢true}
use Rattle.std.proofs.lemmas.List.{append-nil}
use Rattle.scp_types.specs.declared.event.Out.{Out}
use Rattle.scp_types.specs.declared.statement.Statement.{Statement}
use Rattle.scp_spec.specs.States.{sent_vote}
use Rattle.node_core.specs.NodeParts.{emitted_by}
use Rattle.node_core.proofs.Emissions.{emitted-same}
use Rattle.node_core.proofs.outs.push_changed.Goals as goal

pub returns-then-is_same_sent : goal.returns-then-is_same_sent
returns-then-is_same_sent c =
    let xs = c.args.given_out.now.items in
    let none = emitted-same c.args.configured.now c.args.before.now (sent_vote c.args.new.now) (c.is_same_sent.ensures.0 c.if-is_same_sent.true ∙ c.in_ok-after.ensures ∙ c.sent_vote.ensures) in
    sym (ap (λ (ys : List Out). xs ++ ys) none ∙ append-nil xs)

pub returns : goal.returns
returns c =
    let other : c.args.before.now ≡ c.in_ok-after.after → ⊥ = λ e. false≢true (sym c.if-is_same_sent.false ∙ c.is_same_sent.ensures.1 e) in
    subst (λ (o : Option Statement). OnOk c.push_new.result (c.push_new.new.given_out.items ≡ c.args.given_out.now.items ++ emitted_by c.args.configured.now c.args.before.now o)) (c.in_ok-after.ensures ∙ c.sent_vote.ensures) (c.push_new.ensures c.args.before.now other)
