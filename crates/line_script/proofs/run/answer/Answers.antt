use Rattle.std.proofs.Common.{ap, refl}
use Rattle.std.specs.Prelude.{map}
use Rattle.line_script.specs.Runs.{Passes, LineFails}
use Rattle.line_script.proofs.RunLaws.{told_line, refused_line}
use Rattle.line_script.proofs.run.answer.Goals as goal

pub returns-in-Ok-Some-clause-passes : goal.returns-in-Ok-Some-clause-passes
returns-in-Ok-Some-clause-passes g c =
    let found = rw c.in-Ok-Some.field-0-is at c.in-Ok-Some.ensures in
    told_line _ _ _ _ _ _ _ _ (λ skipped. let none = found.skipped.1 skipped in cc) found.fields (ap (map (λ field. field.now)) c.as_slice.ensures.value) c.line.ensures.told

pub returns-in-Ok-Some-clause-fails : goal.returns-in-Ok-Some-clause-fails
returns-in-Ok-Some-clause-fails g c e =
    let found = rw c.in-Ok-Some.field-0-is at c.in-Ok-Some.ensures in
    refused_line _ _ _ _ _ (λ skipped. let none = found.skipped.1 skipped in cc) found.fields (ap (map (λ field. field.now)) c.as_slice.ensures.value) (c.line.ensures.bad e)

pub returns-in-Ok-None-clause-passes : goal.returns-in-Ok-None-clause-passes
returns-in-Ok-None-clause-passes g c =
    let found = rw c.in-Ok-None.field-0-is at c.in-Ok-None.ensures in
    Passes.skipped (found.skipped.0 refl)

pub returns-in-Err-clause-fails : goal.returns-in-Err-clause-fails
returns-in-Err-clause-fails g c e = LineFails.no_fields (c.in-Err.ensures.bad cc)
