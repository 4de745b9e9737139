use Rattle.std.proofs.Common.{arith, length, ◌≤◌, subst}
use Rattle.pool_workers.specs.Spares.{HaveSpareSeats}
use Rattle.pool_workers.proofs.Deals.{have_at, have_more}
use Rattle.std.proofs.lemmas.List.{take_all}
use Rattle.pool_workers.proofs.deal.fewest_seats.Goals as goal

pub loop-spare-preserved : goal.loop-spare-preserved
loop-spare-preserved g c =
    let i = c.loop-spare.invariant in
    let bs = c.args.spares.now in
    let n = c.loop-spare.spare-index in
    let x = c.spare-item.result in
    let least = c.min-least.ensures in
    let many = c.len.ensures in
    let ok = x.seats.ok.0 in
    let have = have_at 1 bs n x c.requires.seats c.loop-spare-test.true c.spare-item.is in
    let some = i.0 in
    let most = i.1 in
    (omega arith, omega arith, have_more c.loop-spare.least c.min-least.result bs n x i.2 (omega arith) c.loop-spare-test.true c.spare-item.is (omega arith))

pub returns-clause-seats : goal.returns-clause-seats
returns-clause-seats g c =
    let le : length c.args.spares.now ≤ c.loop-spare.spare-index = let t = c.loop-spare-test.false in omega arith in
    subst (HaveSpareSeats c.loop-spare.least) (take_all c.loop-spare.spare-index c.args.spares.now le) c.loop-spare.invariant.2
