-- The command line: which words are which call.
use Rattle.std.specs.Prelude.{◌≡◌, List, [], ◌∷◌, Option, Some, None, option_map, if◌then◌else◌}
use Rattle.scphost_words.specs.Words.{Text}
use Rattle.scphost_words.specs.Commands.{command_in}
use Rattle.scphost_words.specs.Options.{HasForm, lack_journal}
use Rattle.scphost_words.specs.Subjects.{format_or_text, subject_in}
use Rattle.scphost_words.specs.declared.call.Call.{Call}
use Rattle.scphost_words.specs.declared.call.PairCall.{PairCall}
use Rattle.scphost_words.specs.declared.call.Call.TheVariants.{Table, Run, Closure, Compare, Crowd, Serve, Compact, Encode, Decode}
use Rattle.scphost_words.specs.declared.command.Command.{Command}
use Rattle.scphost_words.specs.declared.command.Command.TheVariants as command
use Rattle.scphost_words.specs.declared.options.Options.{Options}

-- what operands ask for of two scripts with these options, if they are two scripts and a subject
abbrev pub pair_asked : Options → List Text → Option PairCall
pair_asked asked (one ∷ other ∷ net ∷ slot ∷ node ∷ []) =
    option_map (λ v. record { first = one; second = other; subject = v; explain = asked.explain }) (subject_in net slot node)
pair_asked asked operands = None

-- what a command asks for with these options and operands, if it takes them
abbrev pub call_of : Command → Options → List Text → Option Call
call_of command.Table asked (file ∷ []) = Some (Table (record { file = file; explain = asked.explain }))
call_of command.Run asked (script ∷ []) =
    Some (Run (record { script = script; workers = asked.workers; explain = asked.explain }))
call_of command.Closure asked (script ∷ net ∷ slot ∷ node ∷ []) = option_map (λ v. Closure (record {
  script = script;
  subject = v;
  format = format_or_text asked.format;
  explain = asked.explain;
})) (subject_in net slot node)
call_of command.Compare asked operands = option_map Compare (pair_asked asked operands)
call_of command.Crowd asked operands = option_map Crowd (pair_asked asked operands)
call_of command.Serve asked [] = if lack_journal asked then None else Some (Serve (record {
  workers = asked.workers;
  bytes = asked.bytes;
  explain = asked.explain;
  journal = asked.journal;
  from = asked.from;
}))
call_of command.Compact asked (file ∷ []) = Some (Compact file)
call_of command.Encode asked (from ∷ slot ∷ slices ∷ statement ∷ []) =
    Some (Encode (record { from = from; slot = slot; slices = slices; statement = statement }))
call_of command.Decode asked (digits ∷ []) = Some (Decode digits)
call_of c asked operands = None

-- the words are this call: the name of a command, and behind it options and operands of which it makes the call
abbrev pub IsCall : List Text → Call → Type 0
IsCall [] call = ⊥
IsCall (name ∷ rest) call =
    (c : Command) × (asked : Options) × (operands : List Text) × (command_in name ≡ Some c)
    × HasForm c rest asked operands × (call_of c asked operands ≡ Some call)
