use Rattle.std.proofs.Common.{◌≡◌, take}
use Rattle.node_view.proofs.region.copy_of_all.Given as goal

abbrev pub invariant-loop-form : goal.invariant-loop-form
invariant-loop-form l = l.copies.items ≡ take l.form-index l.forms
