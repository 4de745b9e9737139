-- Entries are kept still if the archive has more.
use Rattle.std.specs.Prelude.{List, get_or}
use Rattle.std.specs.List.{All}
use Rattle.scp_spec.specs.Networks.{HostedNode}
use Rattle.node_store.specs.Archives.{Archived, Keeps}
use Rattle.node_core.specs.Filings.{AreFiledOuts, IsFiledOut}
use Rattle.node_core.specs.declared.filed.FiledOut.{FiledOut}
use Rattle.host_journal.specs.declared.kept.StoredEntry.{StoredEntry}
use Rattle.host_journal.specs.declared.kept.KeptEvent.{KeptEvent}
use Rattle.host_journal.specs.declared.kept.KeptEvent.TheVariants as events
use Rattle.host_journal.specs.declared.outs_list.EntryOuts.{EntryOuts}
use Rattle.host_journal.specs.Giving.{kept_outs}
use Rattle.host_journal.specs.Keeping.{AreKept, IsKeptEvent}

event-stays : (nodes : List HostedNode) (old new : Archived) (x : KeptEvent) → Keeps old new → IsKeptEvent nodes old x → IsKeptEvent nodes new x
event-stays nodes old new (events.OpenSlot i) kept h = tt
event-stays nodes old new (events.CloseSlot i) kept h = tt
event-stays nodes old new (events.Deliver u size f) kept h = (h.0, kept f h.1, h.2)
event-stays nodes old new (events.Hear u from kind i k) kept h = h
event-stays nodes old new (events.NominationTimer u r i) kept h = h
event-stays nodes old new (events.BallotTimer u n i) kept h = h
event-stays nodes old new (events.Large b) kept h = h

out-stays : (old new : Archived) (x : FiledOut) → Keeps old new → IsFiledOut old x → IsFiledOut new x
out-stays old new (FiledOut.ArmNomination r) kept h = tt
out-stays old new (FiledOut.ArmBallot n) kept h = tt
out-stays old new (FiledOut.Emit f) kept h = (kept f h.0, h.1)
out-stays old new (FiledOut.Externalized x) kept h = tt

-- an entry is kept, and the archive has what it gave out
abbrev pub IsKeptIn : List HostedNode → Archived → StoredEntry → Type 0
IsKeptIn nodes archive x = IsKeptEvent nodes archive x.event × AreFiledOuts archive (kept_outs x.outs)

kept-still : (nodes : List HostedNode) (old new : Archived) (xs : List StoredEntry) → Keeps old new → All (IsKeptIn nodes old) xs → All (IsKeptIn nodes new) xs
kept-still nodes old new xs kept all =
    λ k d l. (event-stays nodes old new (get_or xs k d).event kept (all k d l).0, λ j c m. out-stays old new (get_or (kept_outs (get_or xs k d).outs) j c) kept ((all k d l).1 j c m))

-- entries are kept still, with what they gave out, if the archive has all that it had
pub kept-stay : (nodes : List HostedNode) (old new : Archived) (lists : List EntryOuts) (xs : List StoredEntry) → Keeps old new → AreKept nodes old lists xs → AreKept nodes new lists xs
kept-stay nodes old new lists xs kept all = (kept-still nodes old new xs kept all.0, all.1)
