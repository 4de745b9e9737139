use Rattle.std.proofs.Common.{rules, ◌≡◌, false}
use Rattle.line_script.specs.Script.{is_ascii}
use Rattle.line_script.proofs.ScriptLemmas.{not_ascii_is_bad}
use Rattle.line_script.proofs.script.fields_of.Goals as goal

pub returns-else-is_ascii-clause-bad : goal.returns-else-is_ascii-clause-bad
returns-else-is_ascii-clause-bad c e =
    let no_ascii : is_ascii c.args.line.now ≡ false = search rules in
    not_ascii_is_bad c.args.line.now no_ascii
