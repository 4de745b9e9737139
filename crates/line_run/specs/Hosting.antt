-- The networks of one script, and what events make of them.
use Rattle.std.specs.Prelude.{◌≡◌, ℕ, Bool, not, ◌&&◌, nat_lt, is_some, length, List, [], if◌then◌else◌}
use Rattle.host_journal.specs.Logs.{Log}
use Rattle.host_world.specs.Worlds.{log_at, logs_with}
use Rattle.line_request.specs.Outlines.{Waiting, waiting_at}
use Rattle.line_run.specs.Unheard.{Unheard}
use Rattle.line_run.specs.Joining.{HaveJoined, NetworkIsNamed, Joins}
use Rattle.line_request.specs.Naming.{Named, named_with, new_named}

-- The networks that wait for an event that names them, and which numbers are named, run and served. Then what waits to
-- be handed on by lines that settle, and the journals of the networks that joined.
pub record Hosting : Type 0 where
  pub waiting : Waiting
  pub named : Named
  pub unheard : Unheard
  pub logs : List Log

-- no network is there, as before the first line
abbrev pub new_hosting : Hosting
new_hosting = record { waiting = []; named = new_named; unheard = []; logs = [] }

-- ---- networks that join

-- there is no network of the number, and there are fewer than 4,096
abbrev pub has_room : List Log → ℕ → Bool
has_room logs g = not (is_some (log_at logs g)) && nat_lt (length logs) 4096

-- the journals with that of a network that joins, to which nothing has happened; it is left out, if there is no room
-- for it
abbrev pub logs_joined : Joins (List Log)
logs_joined c logs = if has_room logs c.number then logs_with (record { config = c; entries = [] }) logs else logs

-- the network of a number is named: if it waits, it joins
abbrev pub IsNetworkBegun : ℕ → Hosting → Hosting → Type 0
IsNetworkBegun g old new =
    NetworkIsNamed logs_joined g old.waiting new.waiting old.logs new.logs × (new.unheard ≡ old.unheard)
    × (new.named ≡ named_with g (waiting_at old.waiting g) old.named)

-- after the last line all networks that wait and have nodes have joined
abbrev pub IsFinished : Hosting → Hosting → Type 0
IsFinished old new = HaveJoined logs_joined old.waiting old.logs new.logs

-- the networks that wait stay, and so do the numbers that are named: nothing is declared
abbrev pub DeclaresNothing : Hosting → Hosting → Type 0
DeclaresNothing old new = (new.waiting ≡ old.waiting) × (new.named ≡ old.named)
