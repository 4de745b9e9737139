use Rattle.std.specs.Prelude.{string_bytes}
use Rattle.pool_script.proofs.ErrandLaws.{IsPartlyTold}
use Rattle.pool_script.proofs.pool.text_of.Given as goal

abbrev pub invariant-loop-errand : goal.invariant-loop-errand
invariant-loop-errand g l = IsPartlyTold l.fn.errands.items l.errand-iterator.rest.items l.lacking (string_bytes l.decided) (string_bytes l.lengths) l.report
