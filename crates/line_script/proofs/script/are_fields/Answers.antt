use Rattle.std.proofs.Common.{rules, ◌∙◌, sym}
use borrow.Author.Tests.{tests}
use Rattle.std.proofs.lemmas.Iterator.{YieldsList-from_slice}
use Rattle.std.proofs.lemmas.Iterator.Search.{all_from_yields_List}
use Rattle.std.proofs.lemmas.List.Folds.{list_all-map}
use Rattle.line_script.specs.Script.{is_field}
use Rattle.line_script.proofs.script.are_fields.Goals as goal

pub returns : goal.returns
returns c =
    all_from_yields_List (λ part. is_field part.now) _ _ _ c.all.ensures.ran
    (YieldsList-from_slice c.args.parts.now cc) (λ x b q k. search (rules, tests))
    ∙ sym (list_all-map is_field (λ part. part.now) c.args.parts.now)
