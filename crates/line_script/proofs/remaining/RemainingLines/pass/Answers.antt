use Rattle.std.proofs.Common.{◌≡◌, ◌+◌, ◌-◌, ◌∙◌, [], drop, length, ap, sym, arith, drop-drop}
use Rattle.std.proofs.lemmas.List.{length-drop}
use Rattle.std.proofs.Math.ListN.{drop_of_length-le}
use Rattle.line_script.specs.Script.{numbered_lines}
use Rattle.line_script.proofs.ScriptLemmas.{behind_first, behind_last}
use Rattle.line_script.proofs.remaining.RemainingLines.pass.Goals as goal
use Rattle.line_script.proofs.remaining.RemainingLines.pass.Goals.{then-bytes-len, else-bytes-len}

pub returns-clause-passed : goal.returns-clause-passed
returns-clause-passed c n line more e count =
    let text = c.self.inside.text.items in
    let at = c.self.inside.at in
    let left : length (drop at text) ≡ c.len.result - at = length-drop at text ∙ omega (arith, c.len.ensures, c.self.inside.text.ok.0) in
    let is = ap numbered_lines c.self.view_is ∙ e in
    elim c.if-bytes-len.branch [
      | then-bytes-len w ↦ ap numbered_lines (c.let_go.ensures ∙ w.self-is)
          ∙ ap (λ rest. numbered_lines (c.self.inside.number + 1, rest)) (sym (drop-drop (c.args.bytes + 1) at text))
          ∙ behind_first (drop at text) line c.self.inside.number n c.args.bytes more is count (omega (arith, left, w.if-bytes-len.true))
      | else-bytes-len w ↦
          let none : drop w.len-self-inside.result text ≡ [] = drop_of_length-le text (omega (arith, w.len-self-inside.ensures, c.self.inside.text.ok.0)) in
          ap numbered_lines (c.let_go.ensures ∙ w.self-is) ∙ ap (λ rest. numbered_lines (c.self.inside.number, rest)) none
          ∙ behind_last (drop at text) line c.self.inside.number n c.args.bytes more is count (omega (arith, left, w.if-bytes-len.false))
    ]
