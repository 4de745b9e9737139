use Rattle.std.proofs.Common.{◌≡◌, ◌∙◌, Option, IfOk, sym, subst}
use Rattle.std.proofs.lemmas.Bool.{false≢true}
use Rattle.scp_types.specs.declared.state.Votes.{Votes}
use Rattle.node_core.specs.Differences.{some_if}
use Rattle.node_core.proofs.StirredPasses.{after-same, after-other}
use Rattle.node_core.proofs.settling.settle_after.Goals as goal

pub returns-then-is_same : goal.returns-then-is_same
returns-then-is_same g c = sym (after-same (g.S.Sight.seen c.args.context.now.sight.now) c.args.context.now.inputs.now c.args.before.now c.args.votes.now (c.is_same.ensures.0 c.if-is_same.true))

pub returns : goal.returns
returns g c =
    let other : c.args.votes.now ≡ c.args.before.now → ⊥ = λ e. false≢true (sym c.if-is_same.false ∙ c.is_same.ensures.1 e) in
    subst (λ (o : Option Votes). IfOk c.settle_on.result (λ b. some_if b c.settle_on.new.votes ≡ o)) (sym (after-other (g.S.Sight.seen c.args.context.now.sight.now) c.args.context.now.inputs.now c.args.before.now c.args.votes.now other)) c.settle_on.ensures
