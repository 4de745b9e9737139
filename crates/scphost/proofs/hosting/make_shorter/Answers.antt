use Rattle.std.proofs.Common.{Err, refl}
use Rattle.line_script.specs.declared.run.Stop.TheVariants as stop
use Rattle.scphost.proofs.hosting.make_shorter.Goals as goal

pub returns-in_default : goal.returns-in_default
returns-in_default g c = (Err stop.NoMemory, c.print_stop.ensures, refl)
