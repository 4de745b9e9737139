-- A world is seen across threads where its journals are.
use denote.RattleType.{RattleType}
use denote.Param.Send.{IsSync, sendable}
use Rattle.std.proofs.Crossing.{crosses}
use Rattle.node_store.specs.declared.shelf.Places.{Ghosts}
use Rattle.host_journal.specs.declared.keeping.Keeping.{Ghosts as Keeps}
use Rattle.host_journal.proofs.Crossing.{journal_sync, kept_entries_sync}
use Rattle.host_journal.specs.contracts.kept_entries.Kept as Kept
use Rattle.host_journal.specs.contracts.kept_entries.KeptKeeping.TheImpl.{ghosts}
use Rattle.host_world.specs.contracts.world.World as World

pub world_sync : (S K P : RattleType) (g : Ghosts S.Denot P.Denot) (k : Keeps K.Denot) → IsSync S → IsSync K → IsSync P → IsSync (World.the_row S K P g k)
world_sync S K P g k s h p = let a = journal_sync S K P g k s h p in search (sendable, crosses) depth 40

-- such a world whose entries are kept
pub kept_world_sync : (S P : RattleType) (g : Ghosts S.Denot P.Denot) → IsSync S → IsSync P → IsSync (World.the_row S Kept.the_row P g ghosts)
kept_world_sync S P g s p = world_sync S Kept.the_row P g ghosts s kept_entries_sync p
