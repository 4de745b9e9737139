-- What lies under the lock of a cell, and what each pass knows of it.
use Rattle.std.specs.Prelude.{ℕ, Bool, false, List, [], None}
use Rattle.scp_types.specs.declared.event.Event.{Event}
use Rattle.scp_spec.specs.Hosts.{Config, Entry}
use Rattle.host_journal.specs.Logs.{Log}
use Rattle.pool_cell.specs.declared.refusal.CellRefusal.{CellRefusal}
use Rattle.pool_cell.specs.Receipts.{AppliedEvent}

-- what lies under the lock of a cell: the journal, the stop mark, and how many seats the cell has
pub record CellStateSight : Type 0 where
  pub log : Log
  pub stopped : Bool
  pub seats : ℕ

-- a refused event, with the number of entries that the seat had seen
pub record Denial : Type 0 where
  pub event : Event
  pub refusal : CellRefusal
  pub length : ℕ

-- What a pass knows. It may be the one that a cell begins with (opening), the one that makes the seats (opens), a seat
-- (live), or a note of one (claims). It may also have the cell state (holding).
pub record Knowledge : Type 0 where
  pub opening : Bool
  pub opens : Bool
  pub known : Bool
  pub live : Bool
  pub claims : Bool
  pub holding : Bool
  pub closed : Bool
  pub made : ℕ
  pub number : ℕ
  pub seats : ℕ
  pub config : Config
  -- of a seat: the journal and the mark as it left them last, its receipts and denials, and how often it set the mark
  pub seen : List Entry
  pub stopped : Bool
  pub receipts : List AppliedEvent
  pub denials : List Denial
  pub stops : ℕ
  -- of who has the cell state: the journal, whose each entry is, the mark, and who set it first
  pub all : List Entry
  pub owners : List ℕ
  pub over : Bool
  pub stopper : ℕ

abbrev pub no_config : Config
no_config = record { number = 0; nodes = []; budgets = record { events = 0; bytes = 0; slots = 0 }; roster = None }

-- what a pass knows that knows nothing
abbrev pub nothing_known : Knowledge
nothing_known = record {
  opening = false;
  opens = false;
  known = false;
  live = false;
  claims = false;
  holding = false;
  closed = false;
  made = 0;
  number = 0;
  seats = 0;
  config = no_config;
  seen = [];
  stopped = false;
  receipts = [];
  denials = [];
  stops = 0;
  all = [];
  owners = [];
  over = false;
  stopper = 0;
}
