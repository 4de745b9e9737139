use Rattle.std.proofs.Common.{Bool, ap, ◌∙◌}
use Rattle.std.proofs.lemmas.Result.{IfOk-weaker}
use Rattle.scp_voting.specs.Questions.{accepts, kind_of_claim}
use Rattle.scp_voting.proofs.SeenVotes.{confirms_claim}
use Rattle.scp_voting.proofs.sight.is_confirmed.Goals as goal

pub returns-clause-exists : goal.returns-clause-exists
returns-clause-exists g c =
    let sight = c.args.sight.now in
    let claim = c.args.claim.now in
    let seen = g.S.Sight.seen sight in
    IfOk-weaker c.quorum.result _ _ (λ b h.
    confirms_claim seen (g.S.Sight.standpoint sight) (g.met.S.Sight.tied sight) (g.P.Position.position c.args.position.now) claim b
    (h ∙ ap (λ (own : Bool). seen.quorum (kind_of_claim claim) own (accepts claim)) c.passes.ensures)) c.quorum.ensures
