use Rattle.scp_spec.proofs.Networks.Room.{stays_in_room}
use Rattle.scp_spec.proofs.rosters.room_is_counted.Goals as goal

pub returns-clause-stays : goal.returns-clause-stays
returns-clause-stays c = stays_in_room
