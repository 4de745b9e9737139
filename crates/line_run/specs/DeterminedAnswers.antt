-- What becomes of the networks of a script that is run to its end is determined.
use Rattle.std.specs.Prelude.{◌≡◌}
use Rattle.line_script.specs.Script.{Bytes}
use Rattle.line_run.specs.Unprinted.{Unprinted}
use Rattle.line_run.specs.Scripts.{HasEnded}

-- What becomes of a script is determined. Let one text be run to its end twice, from the same networks. Then the
-- journals of both ends are the same, and so are the traces of the lines.
abbrev pub ScriptsHaveOneEnd : Type 0
ScriptsHaveOneEnd =
    (text : Bytes) (start one other : Unprinted) → HasEnded start text one → HasEnded start text other
    → (one.hosting.logs ≡ other.hosting.logs) × (one.trace ≡ other.trace)
