use Rattle.std.proofs.Common.{◌∙◌, ℕ, List, ap, subst}
use Rattle.std.proofs.Math.Path.{fun_ext}
use Rattle.scp_spec.specs.Sets.{Names, among}
use Rattle.host_closure.specs.Announcing.{slices_then}
use Rattle.line_report.specs.Reports.{AreHosted}
use Rattle.line_report.proofs.report.report_of.Goals as goal

pub returns-clause-hosted : goal.returns-clause-hosted
returns-clause-hosted g c =
    let same = fun_ext (λ u. ap (λ (xs : List ℕ). among xs u) c.deref.ensures.value ∙ c.in_ok-names.ensures.all u) in
    subst (λ (set : Names). AreHosted (slices_then (g.J.Announcements.nodes c.args.journal.now) c.args.slot (g.J.Announcements.entries c.args.journal.now)) set c.in_ok-hosted.hosted.items) same c.in_ok-hosted.ensures
