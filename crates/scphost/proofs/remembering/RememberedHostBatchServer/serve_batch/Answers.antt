use Rattle.std.proofs.Common.{◌+◌, map, subst}
use Rattle.live_feed.specs.Reading.{given_of}
use Rattle.live_feed.specs.Served.{AreAnswered, reply_of}
use Rattle.live_host.specs.Hosts.{Remembers}
use Rattle.scphost.proofs.RememberingLaws.{remembered_batch}
use Rattle.scphost.proofs.remembering.RememberedHostBatchServer.serve_batch.Goals as goal

pub returns : goal.returns
returns g c =
    let done = remembered_batch c.self.inside.host c.serve_batch-answers.new.self (c.args.count + 1) c.told_of-told.result c.args.lines.now c.serve_batch-answers.result.items c.truncate.new.self.items c.truncate.ensures.items
    c.serve_batch-answers.ensures c.told_of-told.ensures.all in
    (done.0, subst (λ s. AreAnswered Remembers s (c.args.count + 1) (map given_of c.args.lines.now) (map reply_of c.truncate.new.self.items) done.0) c.self.view_is done.1, done.2)
