use Rattle.std.proofs.Common.{rules, ◌∙◌, sym}
use borrow.Author.Tests.{tests}
use Rattle.std.proofs.lemmas.Iterator.{YieldsList-from_slice}
use Rattle.std.proofs.lemmas.Iterator.Search.{all_from_yields_List}
use Rattle.std.proofs.lemmas.List.Folds.{list_all-map}
use Rattle.scphost_words.specs.Words.{is_no_option}
use Rattle.scphost_words.proofs.operands.are_plain.Goals as goal

pub returns : goal.returns
returns g c =
    all_from_yields_List (λ word. is_no_option (g.S.AsStr.text word)) _ _ _ c.all.ensures.ran
    (YieldsList-from_slice c.args.words.now cc) (λ x b q k. search (rules, tests))
    ∙ sym (list_all-map is_no_option g.S.AsStr.text c.args.words.now)
