-- Entries of a journal as they are kept, and what they stand for.
use Rattle.std.specs.Prelude.{◌≡◌, ◌<◌, ℕ, true, List, box_value, get_or, length, map, ⊤}
use Rattle.std.specs.List.{All}
use Rattle.scp_types.specs.Statements.{Sent}
use Rattle.scp_codec.specs.Spelling.{spelling}
use Rattle.scp_spec.specs.Hosts.{Entry}
use Rattle.scp_spec.specs.Networks.{HostedNode, Step}
use Rattle.scp_spec.specs.Networks.Reading.{Read, Fault}
use Rattle.scp_spec.specs.Networks.Step.{Opens, Closes, Delivers, Hears, NominationTimerFires, BallotTimerFires}
use Rattle.node_store.specs.Archives.{Archived, IsFiled, sent_of}
use Rattle.node_core.specs.Filings.{AreFiledOuts, whole_outs}
use Rattle.scp_spec.specs.Sets.{IsAscending}
use Rattle.host_network.specs.Decoding.{step_of}
use Rattle.host_journal.specs.Hosting.{IsNodePlace, node_name}
use Rattle.host_journal.specs.Boxing.{is_large}
use Rattle.host_journal.specs.Giving.{entry_number, kept_outs, listed_at}
use Rattle.host_journal.specs.declared.kept.StoredEntry.{StoredEntry}
use Rattle.host_journal.specs.declared.kept.LentEntry.{LentEntry}
use Rattle.host_journal.specs.declared.outs_list.EntryOuts.{EntryOuts}
use Rattle.host_journal.specs.declared.kept.KeptEvent.{KeptEvent}
use Rattle.host_journal.specs.declared.kept.KeptEvent.TheVariants.{OpenSlot, CloseSlot, Deliver, Hear, NominationTimer, BallotTimer, Large}

-- an event that is kept, with the whole envelope and with names; bytes that are no envelope are never applied
abbrev pub step_in : KeptEvent → Step
step_in (OpenSlot i) = Opens i
step_in (CloseSlot i) = Closes i
step_in (Deliver u size f) = Delivers (node_name u) size (Read (sent_of f))
step_in (Hear u from kind i k) = Hears i (node_name u) (node_name from) kind k
step_in (NominationTimer u r i) = NominationTimerFires i (node_name u) r
step_in (BallotTimer u n i) = BallotTimerFires i (node_name u) n
step_in (Large b) = step_of (box_value b)

-- an entry that is kept, with whole envelopes and with names
abbrev pub entry_of : StoredEntry → Entry
entry_of x = record { event = step_in x.event; outs = whole_outs (kept_outs x.outs) }

-- the bytes of a delivery are an envelope
abbrev pub IsReadable : Step → Type 0
IsReadable (Delivers u size (Fault n)) = ⊥
IsReadable _ = ⊤

-- how many bytes the one spelling of an envelope has
unfoldable pub spelled_size : Sent → ℕ
spelled_size e = length (spelling e)

-- An event is kept: its nodes stand at their places among the hosted ones. The archive has the envelope that was
-- delivered, and as many bytes came as its spelling has. What lies in a box is large.
abbrev pub IsKeptEvent : List HostedNode → Archived → KeptEvent → Type 0
IsKeptEvent nodes archive (OpenSlot i) = ⊤
IsKeptEvent nodes archive (CloseSlot i) = ⊤
IsKeptEvent nodes archive (Deliver u size f) =
    IsNodePlace nodes u × IsFiled archive f × (size ≡ spelled_size (sent_of f))
IsKeptEvent nodes archive (Hear u from kind i k) = IsNodePlace nodes u × IsNodePlace nodes from
IsKeptEvent nodes archive (NominationTimer u r i) = IsNodePlace nodes u
IsKeptEvent nodes archive (BallotTimer u n i) = IsNodePlace nodes u
IsKeptEvent nodes archive (Large b) = is_large (box_value b) ≡ true

-- what each entry gave out is listed by its number: the lists ascend, and are of these entries
pub record AreOutsListed (lists : List EntryOuts) (xs : List StoredEntry) : Type 0 where
  pub ascending : IsAscending (map entry_number lists)
  pub earlier : All (λ x. x.entry < length xs) lists
  pub listed : (k : ℕ) (d : StoredEntry) → k < length xs → listed_at lists k ≡ kept_outs (get_or xs k d).outs

-- a journal is kept: each entry with its event; the archive has what was emitted, and what was given out is listed
abbrev pub AreKept : List HostedNode → Archived → List EntryOuts → List StoredEntry → Type 0
AreKept nodes archive lists xs =
    All (λ x. IsKeptEvent nodes archive x.event × AreFiledOuts archive (kept_outs x.outs)) xs × AreOutsListed lists xs

-- an entry that is lent, in the words of the definitions
abbrev pub lent_entry : LentEntry → Entry
lent_entry x = record { event = step_in x.event.now; outs = whole_outs x.outs.now }

-- the archive has the envelopes of an entry that is lent, and its nodes stand at their places
abbrev pub IsLentEntry : List HostedNode → Archived → LentEntry → Type 0
IsLentEntry nodes archive x = IsKeptEvent nodes archive x.event.now × AreFiledOuts archive x.outs.now
