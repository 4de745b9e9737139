use Rattle.std.proofs.Common.{◌≡◌, take}
use Rattle.std.specs.Prelude.{filter}
use Rattle.scp_spec.specs.Sets.{among}
use Rattle.line_report.proofs.Hosting.{blocks_alone}
use Rattle.line_report.proofs.hosted.blockers_in.Given as goal

abbrev pub invariant-loop-name : goal.invariant-loop-name
invariant-loop-name l = l.lone.items ≡ filter (blocks_alone l.slices (among l.names)) (take l.name-index l.named)
