use Rattle.std.proofs.Common.{rules}
use borrow.Author.Tests.{tests}
use Rattle.line_script.specs.Values.{is_lower_digit}
use Rattle.std.proofs.lemmas.Iterator.{YieldsList-from_slice}
use Rattle.std.proofs.lemmas.Iterator.Search.{all_from_yields_List}
use Rattle.line_script.proofs.hexadecimal.is_lower_hex.Goals as goal

pub returns : goal.returns
returns c =
    all_from_yields_List is_lower_digit _ _ _ c.all.ensures.ran
    (YieldsList-from_slice c.args.word.now cc) (λ x b q k. search (rules, tests))
