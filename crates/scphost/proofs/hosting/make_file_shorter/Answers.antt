use Rattle.std.proofs.Common.{Err, refl}
use Rattle.std.specs.Io.Buffered.{reader_remaining}
use Rattle.line_script.specs.declared.run.Stop.TheVariants as stop
use Rattle.scphost.proofs.HostingLaws.{holds_the_same, shorter_by_reader}
use Rattle.scphost.proofs.hosting.make_file_shorter.Goals as goal

pub returns-in_default : goal.returns-in_default
returns-in_default g c = (Err stop.NoMemory, c.print_stop.ensures, refl)

pub returns : goal.returns
returns g c =
    let same = holds_the_same (λ r. g.R.Read.remaining r.now) c.in-Ok.reader _ c.in-Ok.ensures.inner c.in-Ok.ensures.empty c.in-Ok.ensures.capacity in
    shorter_by_reader (g.R.Read.remaining c.args.journal.now) (reader_remaining (λ r. g.R.Read.remaining r.now) c.in-Ok.reader) _ _ _ same c.make_shorter-ended.ensures
