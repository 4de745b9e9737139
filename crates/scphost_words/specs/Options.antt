-- The words behind a command: its operands, with options before or behind them.
use Rattle.std.specs.Prelude.{◌≡◌, ◌⊎◌, ◌^◌, ◌==◌, ◌++◌, ◌&&◌, ℕ, true, false, not, List, [], ◌∷◌, codes, length, take, drop, nat_lt}
use Rattle.std.specs.Prelude.{Bool, Option, Some, None, option_and_then, option_map, is_none, is_some, if◌then◌else◌}
use Rattle.std.specs.List.{list_all}
use Rattle.std.specs.Option.{option_or}
use Rattle.std.specs.Str.{bytes_eq}
use Rattle.line_script.specs.Words.{word_number}
use Rattle.scphost_words.specs.Words.{Text, AreOperands, is_no_option}
use Rattle.scphost_words.specs.Subjects.{format_in}
use Rattle.scphost_words.specs.Replays.{replay_in}
use Rattle.scphost_words.specs.declared.command.Command.{Command}
use Rattle.scphost_words.specs.declared.command.Command.TheVariants as command
use Rattle.scphost_words.specs.declared.options.Options.{Options}

-- no option is given
abbrev pub no_options : Options
no_options = record { workers = None; format = None; journal = None; from = None; bytes = false; explain = false }

-- ---- one option

-- what stands behind these bytes at the beginning of a word
abbrev pub behind_front : Text → Text → Option Text
behind_front front word = if bytes_eq (take (length front) word) front then Some (drop (length front) word) else None

-- the first word, and the words behind it
abbrev pub next_in : List Text → Option (Text × List Text)
next_in [] = None
next_in (value ∷ rest) = Some (value, rest)

-- the value of an option, if this stands behind its name, and the words behind that: the next word, or in the same word
-- what stands behind `=` (61)
abbrev pub value_behind : Option Text → List Text → Option (Text × List Text)
value_behind None rest = None
value_behind (Some []) rest = next_in rest
value_behind (Some (x ∷ value)) rest = if x == 61 then Some (value, rest) else None

-- the value that the first words give to the option of this name, and the words behind it
abbrev pub option_value_in : Text → List Text → Option (Text × List Text)
option_value_in name [] = None
option_value_in name (word ∷ rest) = value_behind (behind_front name word) rest

-- the number of workers, if it is from 1 to 64
abbrev pub worker_count : ℕ → Option ℕ
worker_count n = if nat_lt 0 n && nat_lt n 65 then Some n else None

-- the number of workers that a word asks for
abbrev pub workers_in : Text → Option ℕ
workers_in word = option_and_then worker_count (word_number (2 ^ 64) word)

-- the options with a number of workers too, if there was none, and the words behind it
abbrev pub with_workers : Options → Text × List Text → Option (Options × List Text)
with_workers asked given = if is_none asked.workers
    then option_map (λ n. (record asked { workers = Some n }, given.1)) (workers_in given.0) else None

-- the options with a form of report too, if there was none, and the words behind it
abbrev pub with_format : Options → Text × List Text → Option (Options × List Text)
with_format asked given = if is_none asked.format
    then option_map (λ f. (record asked { format = Some f }, given.1)) (format_in given.0) else None

-- the options with the name of a journal too, if there was none, and the words behind it
abbrev pub with_journal : Options → Text × List Text → Option (Options × List Text)
with_journal asked given = if is_none asked.journal
    then Some (record asked { journal = Some given.0 }, given.1) else None

-- the options with the line from which a journal is replayed, if there was none, and the words behind it
abbrev pub with_from : Options → Text × List Text → Option (Options × List Text)
with_from asked given = if is_none asked.from
    then option_map (λ f. (record asked { from = Some f }, given.1)) (replay_in given.0) else None

-- the options with envelopes as bytes, if that was not asked for yet, and the words behind it
abbrev pub with_bytes : Options → List Text → Option (Options × List Text)
with_bytes asked [] = None
with_bytes asked (word ∷ rest) = if bytes_eq word (codes "--bytes") && not asked.bytes
    then Some (record asked { bytes = true }, rest) else None

-- the options with an explanation, if that was not asked for yet, and the words behind it
abbrev pub with_explanation : Options → List Text → Option (Options × List Text)
with_explanation asked [] = None
with_explanation asked (word ∷ rest) = if bytes_eq word (codes "--explain") && not asked.explain
    then Some (record asked { explain = true }, rest) else None

-- the options with a number of workers, as its option is spelled
abbrev pub workers_option : Options → List Text → Option (Options × List Text)
workers_option asked words = option_and_then (with_workers asked) (option_value_in (codes "--workers") words)

-- the options with a form of report, as its option is spelled
abbrev pub format_option : Options → List Text → Option (Options × List Text)
format_option asked words = option_and_then (with_format asked) (option_value_in (codes "--format") words)

-- the options with a journal, as its options are spelled: its name, or the line from which it is replayed
abbrev pub journal_option : Options → List Text → Option (Options × List Text)
journal_option asked words = option_or (option_and_then (with_journal asked) (option_value_in (codes "--journal") words))
    (option_and_then (with_from asked) (option_value_in (codes "--from") words))

-- the options with one more of `serve`: a number of workers, a journal, envelopes as bytes or an explanation
abbrev pub serving_in : Options → List Text → Option (Options × List Text)
serving_in asked words = option_or (workers_option asked words) (option_or (journal_option asked words)
    (option_or (with_bytes asked words) (with_explanation asked words)))

-- the options with one more of a command, which is the one that the first words are, each once, and the words behind it
abbrev pub option_in : Command → Options → List Text → Option (Options × List Text)
option_in command.Table asked words = with_explanation asked words
option_in command.Run asked words = option_or (workers_option asked words) (with_explanation asked words)
option_in command.Closure asked words = option_or (format_option asked words) (with_explanation asked words)
option_in command.Compare asked words = with_explanation asked words
option_in command.Crowd asked words = with_explanation asked words
option_in command.Serve asked words = serving_in asked words
option_in command.Compact asked words = None
option_in command.Encode asked words = None
option_in command.Decode asked words = None

-- ---- all of them

-- a journal is to be replayed, and none is named
abbrev pub lack_journal : Options → Bool
lack_journal asked = is_some asked.from && is_none asked.journal

-- behind what was asked for, words are options of the command, one after the other, down to these last words
pub data AreOptions (c : Command) : Options → List Text → Options → List Text → Type 0 where
  none : {asked : Options} {words : List Text} → AreOptions c asked words asked words
  more : {asked next all : Options} {words rest last : List Text} → option_in c asked words ≡ Some (next, rest)
      → AreOptions c next rest all last → AreOptions c asked words all last

-- the words behind a command are options and then operands, or operands that are no options and then options
abbrev pub HasForm : Command → List Text → Options → List Text → Type 0
HasForm c words asked operands =
    ((rest : List Text) × AreOptions c no_options words asked rest × AreOperands rest operands)
    ⊎ ((rest : List Text) × (words ≡ operands ++ rest) × (list_all is_no_option operands ≡ true)
    × AreOptions c no_options rest asked [])
