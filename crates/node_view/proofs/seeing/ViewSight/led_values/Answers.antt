use Rattle.std.proofs.Common.{◌∙◌, ℕ, List, ap, sym}
use Rattle.scp_types.specs.declared.kind.Kind.TheVariants.{Nomination}
use Rattle.node_view.specs.Watching.{rows_by, values_in}
use Rattle.node_view.proofs.Sightings.{leaders_rows, seen_led}
use Rattle.node_view.proofs.seeing.ViewSight.led_values.Goals as goal

pub returns : goal.returns
returns g c =
    let view = c.args.self.now in
    c.in_ok-values.ensures
    ∙ ap values_in
    (ap (λ (us : List ℕ). rows_by Nomination view.table.now us) c.as_slice.ensures
    ∙ leaders_rows view.leaders.now view.table.now
    ∙ sym (seen_led view.own.now view.slices.now view.leaders.now view.table.now))
