-- From which line on a journal is replayed.
use Rattle.std.specs.Prelude.{◌^◌, ℕ, codes, Option, Some, None, option_and_then, if◌then◌else◌, nat_lt}
use Rattle.std.specs.Str.{bytes_eq}
use Rattle.line_script.specs.Words.{word_number}
use Rattle.scphost_words.specs.Words.{Text}
use Rattle.scphost_words.specs.declared.replay.ReplayFrom.{ReplayFrom}
use Rattle.scphost_words.specs.declared.replay.ReplayFrom.TheVariants.{Line, Open}

-- a replay from the line of this number on; lines are numbered from 1
abbrev pub replay_of_line : ℕ → Option ReplayFrom
replay_of_line n = if nat_lt 0 n then Some (Line n) else None

-- from which line on a word asks for the blocks: `open`, or the number of a line, as a number in scripts
abbrev pub replay_in : Text → Option ReplayFrom
replay_in word = if bytes_eq word (codes "open") then Some Open
    else option_and_then replay_of_line (word_number (2 ^ 64) word)
