use Rattle.scphost.proofs.PrintingLaws.{performed-as}
use Rattle.scphost.proofs.perform.perform.Goals as goal

pub returns-in-Closure : goal.returns-in-Closure
returns-in-Closure g c = performed-as _ _ _ _ _ _ _ c.in-Closure.is c.perform_closure.ensures

pub returns-in-Compact : goal.returns-in-Compact
returns-in-Compact g c = performed-as _ _ _ _ _ _ _ c.in-Compact.is c.make_file_shorter.ensures

pub returns-in-Compare : goal.returns-in-Compare
returns-in-Compare g c = performed-as _ _ _ _ _ _ _ c.in-Compare.is c.perform_compare.ensures

pub returns-in-Crowd : goal.returns-in-Crowd
returns-in-Crowd g c = performed-as _ _ _ _ _ _ _ c.in-Crowd.is c.perform_crowd.ensures
