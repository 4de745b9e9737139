-- The histories of hosts that scripts of networks leave.
use Rattle.std.specs.Prelude.{List, Option}
use Rattle.line_script.specs.Script.{Bytes}
use Rattle.scp_spec.specs.Hosts.{History}
use Rattle.host_journal.specs.Logs.{Log}
use Rattle.host_world.specs.Worlds.{AreJournalsOf}
use Rattle.line_run.specs.Hosting.{new_hosting}
use Rattle.line_run.specs.Unprinted.{IsFinishedUnprinted, TellsUnprinted, Unprinted}

-- the journals are those of a history of a host
abbrev pub HaveHistory : List Log → Type 0
HaveHistory logs = (h : History) × AreJournalsOf h logs

-- The journals of a script that prints nothing are those of a history of a host. This is so before the first line,
-- after each line that is run, and after the last one.
pub record ScriptsHaveHistories : Type 0 where
  pub first : HaveHistory new_hosting.logs
  pub next : (old new : Unprinted) (fields : List Bytes) (printed : Option Bytes) → HaveHistory old.hosting.logs
      → TellsUnprinted old fields printed new → HaveHistory new.hosting.logs
  pub last : (old new : Unprinted) → HaveHistory old.hosting.logs → IsFinishedUnprinted old new
      → HaveHistory new.hosting.logs
