use Rattle.std.proofs.Common.{Bool, true, ◌||◌, ap, sym, ◌∙◌}
use Rattle.std.proofs.lemmas.Result.{IfOk-weaker}
use Rattle.scp_spec.specs.Views.{passes}
use Rattle.scp_voting.specs.Questions.{accepts, backs, kind_of_claim}
use Rattle.scp_voting.proofs.SeenVotes.{accepts_claim}
use Rattle.scp_voting.proofs.sight.is_accepted.Goals as goal

pub returns-then-branch-clause-exists : goal.returns-then-branch-clause-exists
returns-then-branch-clause-exists g c =
    let sight = c.args.sight.now in
    let claim = c.args.claim.now in
    let seen = g.S.Sight.seen sight in
    let kind = kind_of_claim claim in
    let position = g.P.Position.position c.args.position.now in
    let blocking = seen.blocking kind (passes (accepts claim) position) (accepts claim) in
    let quorum = sym c.if-branch.true ∙ c.in_ok-quorum.ensures ∙ ap (λ (own : Bool). seen.quorum kind own (backs claim)) c.passes.ensures in
    accepts_claim seen (g.S.Sight.standpoint sight) (g.met.S.Sight.tied sight) position claim true (ap (λ q. q || blocking) quorum)

pub returns-clause-exists : goal.returns-clause-exists
returns-clause-exists g c =
    let sight = c.args.sight.now in
    let claim = c.args.claim.now in
    let seen = g.S.Sight.seen sight in
    let kind = kind_of_claim claim in
    let position = g.P.Position.position c.args.position.now in
    let blocking = seen.blocking kind (passes (accepts claim) position) (accepts claim) in
    let no_quorum = sym c.if-branch.false ∙ c.in_ok-quorum.ensures ∙ ap (λ (own : Bool). seen.quorum kind own (backs claim)) c.passes.ensures in
    IfOk-weaker c.blocking.result _ _ (λ b h.
    accepts_claim seen (g.S.Sight.standpoint sight) (g.met.S.Sight.tied sight) position claim b
    (h ∙ ap (λ (own : Bool). seen.blocking kind own (accepts claim)) c.passes-2.ensures ∙ ap (λ q. q || blocking) no_quorum)) c.blocking.ensures
