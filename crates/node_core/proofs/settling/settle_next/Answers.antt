use Rattle.node_core.proofs.StirredPasses.{all-arm, ballots-arm, nominated-arm, nominations-arm}
use Rattle.node_core.proofs.settling.settle_next.Goals as goal

pub returns-in-All : goal.returns-in-All
returns-in-All g c =
    let w = c.args.before.now in
    let seen = g.S.Sight.seen c.args.context.now.sight.now in
    all-arm c.args.stirred c.args.context.now.own.now seen c.args.context.now.inputs.now w c.args.votes.now c.settle_on.new.votes c.settle_on.result c.in-All.is c.requires.stirs c.requires.next c.settle_on.ensures

pub returns-in-Ballots : goal.returns-in-Ballots
returns-in-Ballots g c =
    let w = c.args.before.now in
    let seen = g.S.Sight.seen c.args.context.now.sight.now in
    ballots-arm c.args.stirred c.args.context.now.own.now seen c.args.context.now.inputs.now w c.args.votes.now c.settle_on-in-Ballots.new.votes c.settle_on-in-Ballots.result c.in-Ballots.is c.requires.stirs c.requires.next c.settle_on-in-Ballots.ensures

pub returns-in-Nominations : goal.returns-in-Nominations
returns-in-Nominations g c = nominations-arm c.args.stirred c.args.context.now.own.now (g.S.Sight.seen c.args.context.now.sight.now) c.args.context.now.inputs.now c.args.before.now c.settle_nominated.new.votes c.settle_nominated.result c.in-Nominations.is c.requires.stirs c.settle_nominated.ensures

pub settle_nominated-requires : goal.settle_nominated-requires
settle_nominated-requires g c =
    let w = c.args.before.now in
    let seen = g.S.Sight.seen c.args.context.now.sight.now in
    nominated-arm c.args.stirred c.args.context.now.own.now seen c.args.context.now.inputs.now w c.args.votes.now c.in-Nominations.is c.requires.next.0
