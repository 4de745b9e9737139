use Rattle.std.proofs.Common.{◌∙◌, sym, subst}
use Rattle.std.specs.Prelude.{map}
use Rattle.line_table.specs.TableLines.{RefusesTableLine}
use Rattle.line_table.proofs.table_run.TableRunLineRunner.line.Goals as goal

pub returns-in-Some-clause-bad : goal.returns-in-Some-clause-bad
returns-in-Some-clause-bad c e =
    subst (λ s. RefusesTableLine s (map (λ field. field.now) c.args.fields.now)) (sym c.in-Some.is ∙ c.self.view_is) (c.run.ensures.bad e)
