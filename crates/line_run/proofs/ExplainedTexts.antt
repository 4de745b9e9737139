-- The lines of a verdict, with an explanation behind them or without.
use Rattle.std.proofs.Common.{◌≡◌, ◌∙◌, ◌++◌, ◌&&◌, [], Bool, true, refl, sym, ap}
use Rattle.std.proofs.lemmas.Bool.{true≢false}
use Rattle.std.proofs.lemmas.List.{append-nil}
use Rattle.line_script.specs.Script.{Bytes}
use Rattle.host_compare.specs.declared.verdict.Verdict.{Verdict}
use Rattle.line_run.specs.Comparisons.{IsExplained, is_difference, text_of_verdict}

pub with_explanation : (explain : Bool) (verdict : Verdict) (text lines more : Bytes) → explain && is_difference verdict ≡ true
    → lines ≡ text_of_verdict verdict → text ≡ lines ++ more → IsExplained explain verdict text
with_explanation explain verdict text lines more wanted are is =
    (more, is ∙ ap (λ (xs : Bytes). xs ++ more) are, λ not_wanted. absurd (true≢false (sym wanted ∙ not_wanted)))

pub without_explanation : (explain : Bool) (verdict : Verdict) (text : Bytes) → text ≡ text_of_verdict verdict
    → IsExplained explain verdict text
without_explanation explain verdict text is = ([], is ∙ sym (append-nil (text_of_verdict verdict)), λ not_wanted. refl)
