use Rattle.std.proofs.Common.{◌∙◌}
use Rattle.std.proofs.lemmas.Result.{IfOk-weaker}
use Rattle.scp_bits.proofs.Moves.{compiled_again}
use Rattle.scp_bits.proofs.form.Form.relocate.Goals as goal

pub returns-clause-compiled : goal.returns-clause-compiled
returns-clause-compiled c =
    let moved = c.in_ok-set.ensures in
    IfOk-weaker c.of.result _ _ (λ f is us vs q are named still compiled.
    compiled_again us vs c.args.places.now q c.args.self.now.set f.set are named still (λ ws bs before. is.1 bs ∙ moved ws bs before) compiled) c.of.ensures
