use Rattle.std.proofs.Common.{None}
use Rattle.scphost.proofs.HostingLaws.{not_begun}
use Rattle.scphost.proofs.hosting.serve_without_journal.Goals as goal

pub returns-in_default : goal.returns-in_default
returns-in_default g c = not_begun c.args.form.bytes None _ _ _ c.print_end_of_host.ensures
