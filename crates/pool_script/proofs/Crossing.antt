-- Errands may cross threads: each owns and shows only memory, and names no thread.
use denote.RattleType.{RattleType}
use denote.Param.Send.{IsSend, IsSync, sendable}
use Rattle.std.proofs.Crossing.{crosses}
use Rattle.host_journal.proofs.Crossing.{config_send, config_sync, event_send, event_sync}
use Rattle.pool_script.specs.contracts.dealing.Share as Share
use Rattle.pool_script.specs.contracts.errand.Errand as Errand
use Rattle.pool_script.specs.contracts.running.Told as Told

share_send : IsSend Share.the_row
share_send = search (sendable, crosses, config_send, event_send) depth 40

share_sync : IsSync Share.the_row
share_sync = search (sendable, crosses, config_sync, event_sync) depth 40

told_send : IsSend Told.the_row
told_send = search (sendable, crosses) depth 40

told_sync : IsSync Told.the_row
told_sync = search (sendable, crosses) depth 40

pub errand_send : (R : RattleType) → IsSend R → IsSend (Errand.the_row R)
errand_send R s = search (sendable, crosses, share_send, told_send) depth 40

pub errand_sync : (R : RattleType) → IsSync R → IsSync (Errand.the_row R)
errand_sync R y = search (sendable, crosses, share_sync, told_sync) depth 40
