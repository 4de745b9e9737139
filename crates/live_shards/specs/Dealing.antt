-- To which shard a line goes.
use Rattle.std.specs.Prelude.{◌≡◌, ◌<◌, ◌≤◌, ℕ, true, false, Option, Some, None}
use Rattle.line_script.specs.Script.{Bytes}
use Rattle.live_feed.specs.Served.{LineReply}
use Rattle.live_host.specs.Hosts.{Live, Serves}
use Rattle.live_shards.specs.Asked.{cut_at_spaces, is_net}
use Rattle.live_shards.specs.Parts.{HasRoomForLine, IsOfPlace, networks_of}
use Rattle.live_shards.specs.declared.dealing.Dealt.{Dealt}

-- a line goes to the shard of the network of which it asks something, and it may declare a network, or does not
pub record IsDealt (count : ℕ) (line : Option Bytes) (dealt : Dealt) : Type 0 where
  pub within : dealt.place < count
  pub place : IsOfPlace count dealt.place line
  pub quiet : dealt.declares ≡ false → (l : Live) → HasRoomForLine line l

-- the line begins with `net`
abbrev pub IsNetLine : Option Bytes → Type 0
IsNetLine None = ⊥
IsNetLine (Some line) = is_net (cut_at_spaces line) ≡ true

-- if as many networks are declared as may be, a line is answered so, and changes nothing
abbrev pub IsAnsweredInVain : ℕ → Option Bytes → LineReply → Type 0
IsAnsweredInVain n line a = (l : Live) → 4096 ≤ networks_of l → Serves l n line a l
