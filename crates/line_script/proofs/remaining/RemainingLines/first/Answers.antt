use Rattle.std.proofs.Common.{rules, ◌<◌, ◌-◌, ◌∙◌, ap, arith, drop, length, sym}
use Rattle.std.proofs.lemmas.List.{length-drop, take_all}
use Rattle.line_script.specs.Script.{lines_of}
use Rattle.line_script.proofs.ScriptLemmas.{first_numbered}
use Rattle.line_script.proofs.remaining.RemainingLines.first.Goals as goal

pub returns-clause-some : goal.returns-clause-some
returns-clause-some c =
    let at = c.self.inside.at in
    let text = c.deref.result.now in
    let some : 0 < length c.args.self.now.1 = search rules in
    let whole = take_all (length text - at) (drop at text) (omega (arith, length-drop at text)) in
    let left = sym (ap (λ v. v.1) c.self.view_is) ∙ ap (drop at) (sym c.deref.ensures.value) ∙ sym whole in
    let more = first_numbered c.args.self.now c.self.inside.number _ c.first_line.result.1.now (sym (ap (λ v. v.0) c.self.view_is)) (ap lines_of left ∙ c.first_line.ensures.cut) in
    (some, more.0, more.1)
