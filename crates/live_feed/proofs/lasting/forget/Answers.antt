use Rattle.std.proofs.Common.{◌∙◌, sym, ap}
use Rattle.std.proofs.Math.ListN.{drop_of_length-le}
use Rattle.live_feed.specs.Lasting.{without_all}
use Rattle.live_feed.proofs.LastingLines.{one_gone}
use Rattle.live_feed.proofs.lasting.forget.Goals as goal

pub loop-number-preserved : goal.loop-number-preserved
loop-number-preserved g c =
    one_gone c.args.numbers.now c.loop-number.number-index _ _ _ c.loop-number-test.true c.remove-forgotten.ensures.entries c.loop-number.invariant

pub returns : goal.returns
returns g c =
    sym (ap (λ ns. without_all ns c.loop-number.entries.entries) (drop_of_length-le c.args.numbers.now c.loop-number-test.false))
    ∙ c.loop-number.invariant
