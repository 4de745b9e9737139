use Rattle.std.proofs.Common.{rules, ◌==◌}
use Rattle.std.specs.Prelude.{not}
use borrow.Author.Tests.{tests}
use Rattle.std.proofs.lemmas.Fn.{filter_same}
use Rattle.pool_script.proofs.decided.forget.Goals as goal

pub returns : goal.returns
returns c = filter_same _ (λ d. not (d.slot == c.args.slot)) _ (λ x b q k. search (rules, tests)) _ _ c.retain.ensures.filtered
