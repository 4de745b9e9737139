use Rattle.host_network.proofs.Readings.{readings_are_exact}
use Rattle.host_network.proofs.reading.readings_are_exact.Goals as goal

pub returns : goal.returns
returns c = readings_are_exact
