use Rattle.line_run.proofs.MarkedEmissions.{emissions_stay}
use Rattle.line_run.proofs.host_run.marks_name_emissions.Goals as goal

pub returns-clause-later : goal.returns-clause-later
returns-clause-later c = emissions_stay
