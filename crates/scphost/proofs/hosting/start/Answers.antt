use Rattle.scphost.proofs.HostingLaws.{gone_on}
use Rattle.scphost.proofs.hosting.start.Goals as goal

pub returns : goal.returns
returns g c =
    gone_on _ _ _ _ _ _ _ c.in_ok-from.from c.requires (rw c.in_ok-from.was at c.first_told.ensures) (rw c.in_ok-count.was at c.resume.ensures)
