use Rattle.std.proofs.Common.{rules}
use Rattle.std.specs.Prelude.{string_bytes}
use Rattle.pool_script.proofs.ErrandLaws.{all_told, one_told}
use Rattle.pool_script.proofs.pool.text_of.Goals as goal

pub loop-errand-preserved-in_ok-push_str-2 : goal.loop-errand-preserved-in_ok-push_str-2
loop-errand-preserved-in_ok-push_str-2 g c =
    one_told c.args.errands.items c.loop-errand.errand-iterator.rest.items c.next.new.self.rest.items c.args.lacking (string_bytes c.loop-errand.decided) (string_bytes c.loop-errand.lengths)
    (string_bytes c.push_str.new.self) (string_bytes c.push_str-in-loop-errand.new.self) c.loop-errand.report c.plus-report.result c.in-Some.errand c.in-Some-told.told
    (search rules) (search rules) (search rules) (search rules) c.plus-report.ensures c.loop-errand.invariant

pub loop-errand-preserved : goal.loop-errand-preserved
loop-errand-preserved g c =
    one_told c.args.errands.items c.loop-errand.errand-iterator.rest.items c.next.new.self.rest.items c.args.lacking (string_bytes c.loop-errand.decided) (string_bytes c.loop-errand.lengths)
    (string_bytes c.push_str.new.self) (string_bytes c.push_str-in-loop-errand.new.self) c.loop-errand.report c.plus-report.result c.in-Some.errand c.in-Some-told.told
    (search rules) (search rules) (search rules) (search rules) c.plus-report.ensures c.loop-errand.invariant

pub returns : goal.returns
returns g c =
    all_told c.args.errands.items c.loop-errand.errand-iterator.rest.items c.args.lacking (string_bytes c.loop-errand.decided) (string_bytes c.loop-errand.lengths) (string_bytes c.push_report.new.text) c.loop-errand.report
    (search rules) (search rules) c.loop-errand.invariant
