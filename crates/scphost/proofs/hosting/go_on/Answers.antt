use Rattle.std.proofs.Common.{rules}
use Rattle.scphost.proofs.HostingLaws.{served_on}
use Rattle.scphost.proofs.hosting.go_on.Goals as goal

pub returns : goal.returns
returns g c =
    let gone = rw c.in-Ok.is at c.start.ensures in
    served_on c.args.form.bytes c.args.journal.name.now _ _ _ _ _ _ _ _ _ _ _ _ c.serve-ran.result _ gone c.new-feed.ensures.server c.new-feed.ensures.count (search rules) c.serve-ran.ensures c.print_end_of_host.ensures
