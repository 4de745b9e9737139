-- A live host in a program of another language: what is kept between two calls, and what a call makes of that.
use Rattle.std.specs.Prelude.{◌≡◌, ◌+◌, ◌^◌, ◌++◌, ℕ, Bool, true, false, [], length, drop, nat_le, Option, Some, None, if◌then◌else◌}
use Rattle.line_script.specs.Script.{Bytes}
use Rattle.live_feed.specs.WholeLines.{given}
use Rattle.live_feed.specs.Served.{LineReply, is_kept}
use Rattle.live_feed.specs.declared.reading.TheConstants.{LONGEST_LINE}
use Rattle.live_host.specs.Hosts.{Live, Serves, new_live}
use Rattle.live_embed.specs.declared.status.Status.{Status}
use Rattle.live_embed.specs.declared.status.Status.TheVariants.{Done, Kept, NoMemory, NoHost, NoNumber}

-- a live host between two calls: its networks, how many lines it was given, and the block of the last of them
pub record Host : Type 0 where
  pub live : Live
  pub count : ℕ
  pub block : Bytes

-- a host without networks that was given no line
abbrev pub just_made : Bool → Host
just_made bytes = record { live = new_live bytes; count = 0; block = [] }

-- the number that stands for what became of a call
abbrev pub code_of : Status → ℕ
code_of Done = 0
code_of Kept = 1
code_of NoMemory = 2
code_of NoHost = 3
code_of NoNumber = 4

-- the host answered its next line as a live host answers the line with that number, and has its block; and whether a
-- journal keeps the line
abbrev pub IsNextLineAnswered : Bool → Bytes → Host → Host → Type 0
IsNextLineAnswered kept line old new =
    (a : LineReply) × Serves old.live new.count (given LONGEST_LINE line) a new.live
    × (new.count ≡ old.count + 1) × (new.block ≡ a.text) × (kept ≡ is_kept a)

-- what a host makes of a line. If it is out of memory, what is left of the host is not said.
abbrev pub HostHasAnswered : Status → Bytes → Host → Host → Type 0
HostHasAnswered Done line old new = IsNextLineAnswered false line old new
HostHasAnswered Kept line old new = IsNextLineAnswered true line old new
HostHasAnswered NoMemory line old new = Unit {0}
HostHasAnswered NoHost line old new = ⊥
HostHasAnswered NoNumber line old new = (old.count + 1 ≡ 2 ^ 64) × (new ≡ old)

-- a line is handed to what a handle holds. A host that was out of memory is held no more.
abbrev pub HasLine : Status → Bytes → Option Host → Option Host → Type 0
HasLine status line None new = (status ≡ NoHost) × (new ≡ None)
HasLine NoMemory line (Some old) new = new ≡ None
HasLine status line (Some old) None = ⊥
HasLine status line (Some old) (Some new) = HostHasAnswered status line old new

-- a handle holds a new host, unless it is out of memory: then it holds what it held
abbrev pub HasMade : Status → Bool → Option Host → Option Host → Type 0
HasMade Done bytes old new = new ≡ Some (just_made bytes)
HasMade NoMemory bytes old new = new ≡ old
HasMade _ bytes old new = ⊥

-- the block of the last line that the host was given
abbrev pub last_block : Option Host → Bytes
last_block None = []
last_block (Some host) = host.block

-- room with a block at its front, if it fits
abbrev pub filled : Bytes → Bytes → Bytes
filled block room = if nat_le (length block) (length room) then block ++ drop (length block) room else room
