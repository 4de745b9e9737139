use Rattle.std.proofs.Common.{Ok, Err, refl, rules}
use Rattle.scphost.proofs.HostingLaws.{made_shorter}
use Rattle.scphost.proofs.hosting.make_shorter_by.Goals as goal

pub returns-in-Ok : goal.returns-in-Ok
returns-in-Ok g c =
    made_shorter _ _ _ c.args.host (Ok c.in-Ok.field-0) _ c.requires (rw c.in-Ok.is at c.compact.ensures) refl

pub returns-in-Err : goal.returns-in-Err
returns-in-Err g c =
    made_shorter _ _ _ c.args.host (Err c.in-Err.stop) _ c.requires (rw c.in-Err.is at c.compact.ensures) (search rules)
