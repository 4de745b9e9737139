use Rattle.std.proofs.Common.{◌≡◌}
use Rattle.node_view.proofs.region.share_forms.Given as goal

abbrev pub invariant-loop-place : goal.invariant-loop-place
invariant-loop-place l = l.forms ≡ l.fn.forms
