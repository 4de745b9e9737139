use Rattle.std.proofs.Common.{refl}
use Rattle.line_script.specs.Script.{lines_of}
use Rattle.line_script.proofs.ScriptLemmas.{lines_are_lines}
use Rattle.line_script.proofs.script.Lines.new.Goals as goal

pub returns : goal.returns
returns c = (lines_of c.args.text.now, lines_are_lines c.args.text.now, refl)
