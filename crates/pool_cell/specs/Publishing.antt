-- What watches are shown of the decisions of a journal.
use Rattle.std.specs.Prelude.{◌≡◌, ℕ, ◌≤◌, List, ◌++◌, length, map}
use Rattle.scp_spec.specs.Hosts.{Entry}
use Rattle.pool_cell.specs.declared.decision.Decision.{Decision}
use Rattle.host_journal.specs.Deciding.{ExternalizedValue, decisions_by, decisions_from}

-- a decision, as it is published
abbrev pub as_published : ExternalizedValue → Decision
as_published d = record { slot = d.slot; node = d.node; value = d.value }

-- all that these entries decided, in order
abbrev pub decisions_known : List Entry → List Decision
decisions_known entries = map as_published (decisions_by entries)

-- what is published, then what waits, then what the entries from this number on decided, is all that was decided
pub record IsPublished (entries : List Entry) (from : ℕ) (p : List Decision × List Decision) : Type 0 where
  pub within : from ≤ length entries
  pub all : p.0 ++ p.1 ++ map as_published (decisions_from entries from) ≡ decisions_known entries

-- what was told, followed by this many decisions more, is all that was decided
pub record IsToldBut (entries : List Entry) (count : ℕ) (told : List Decision) : Type 0 where
  pub rest : List Decision
  pub all : told ++ rest ≡ decisions_known entries
  pub counted : length rest ≡ count
