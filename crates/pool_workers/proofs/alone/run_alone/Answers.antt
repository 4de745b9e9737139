use Rattle.std.proofs.Common.{refl, rules}
use Rattle.pool_workers.proofs.AloneLaws.{alone, one_let_go}
use Rattle.pool_workers.proofs.alone.run_alone.Goals as goal

pub returns-clause-run : goal.returns-clause-run
returns-clause-run g c =
    let s = c.requires.0 in
    alone c.args.cell _ c.args.seats.items s c.args.jobs.items _ c.serve_all.new.self _ (search rules) c.requires.1 (one_let_go c.args.seats.items s c.index_mut.result.now _ c.requires.1 c.index_mut.ensures.value c.let_go_receipts.ensures)
    refl refl refl c.serve_all.ensures.ready c.serve_all.ensures.kept refl refl refl
