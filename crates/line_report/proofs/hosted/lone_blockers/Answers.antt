use Rattle.std.proofs.Common.{◌∙◌, List, ℕ, sym, ap, subst}
use Rattle.std.specs.Prelude.{filter}
use Rattle.scp_spec.specs.Sets.{among}
use Rattle.line_report.specs.Reports.{AreBlockers}
use Rattle.line_report.proofs.Hosting.{blocks_alone, blockers_found}
use Rattle.line_report.proofs.hosted.lone_blockers.Goals as goal

pub returns : goal.returns
returns c =
    let test = blocks_alone c.args.slices.now (among c.args.names.now) in
    let whole = c.in_ok-lone.ensures ∙ ap (λ (xs : List ℕ). filter test xs) c.deref.ensures.value in
    subst (λ (xs : List ℕ). AreBlockers c.args.slices.now (among c.args.names.now) xs) (sym whole) (blockers_found c.args.slices.now (among c.args.names.now) c.in_ok-named.named.items c.set-set.ensures.rules c.in_ok-named.ensures.ascending c.in_ok-named.ensures.all)
