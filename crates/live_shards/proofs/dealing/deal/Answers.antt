use Rattle.std.proofs.Common.{◌∙◌, ◌%◌, ℕ, ap}
use Rattle.std.specs.Prelude.{Option, unwrap_or}
use Rattle.live_shards.proofs.DealingLaws.{dealt_by_cut}
use Rattle.live_shards.proofs.dealing.deal.Goals as goal

pub returns-in-Some-clause-dealt : goal.returns-in-Some-clause-dealt
returns-in-Some-clause-dealt c =
    let named = ap (λ (o : Option ℕ). unwrap_or o 0) c.network_in.ensures in
    rw c.in-Some.is (dealt_by_cut c.args.count c.in-Some.line.now _ c.requires (ap (λ (g : ℕ). g % c.args.count) (c.unwrap_or.ensures ∙ named)) c.is_net.ensures)
