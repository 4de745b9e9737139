use Rattle.std.proofs.Common.{◌≡◌, ◌∙◌, Option, IfOk, sym, subst}
use Rattle.std.proofs.lemmas.Bool.{false≢true}
use Rattle.scp_types.specs.declared.state.Votes.{Votes}
use Rattle.node_core.specs.Differences.{some_if}
use Rattle.node_core.proofs.StirredPasses.{confirms-none, confirms-more}
use Rattle.node_core.proofs.settling.settle_nominated.Goals as goal

pub returns-then-is_same : goal.returns-then-is_same
returns-then-is_same g c = sym (confirms-none c.args.context.now.own.now (g.S.Sight.seen c.args.context.now.sight.now) c.args.context.now.inputs.now c.args.before.now c.args.votes.now c.requires (c.is_same.ensures.0 c.if-is_same.true))

pub returns : goal.returns
returns g c =
    let other : c.args.votes.now.confirms ≡ c.args.before.now.confirms → ⊥ = λ e. false≢true (sym c.if-is_same.false ∙ c.is_same.ensures.1 e) in
    let all = confirms-more c.args.context.now.own.now (g.S.Sight.seen c.args.context.now.sight.now) c.args.context.now.inputs.now c.args.before.now c.args.votes.now c.ballot_from.new.votes c.requires other c.in_ok-ballot_from.ensures in
    subst (λ (o : Option Votes). IfOk c.settle_after.result (λ b. some_if b c.settle_after.new.votes ≡ o)) (sym all) c.settle_after.ensures
