use Rattle.std.proofs.Common.{List, ℕ, filter, ◌∙◌, ap}
use Rattle.scp_spec.specs.Candidates.{all_with}
use Rattle.scp_spec.specs.Nominating.{confirm_values, is_value_confirmed}
use Rattle.node_rules.proofs.Chosen.{all_chosen}
use Rattle.node_rules.proofs.rules.values_to_confirm.Goals as goal

pub returns : goal.returns
unfolding confirm_values
returns g c =
    let w = c.args.votes.now in
    let passes = is_value_confirmed (g.S.Sight.seen c.args.sight.now) w in
    let new = c.as_slice.ensures.value ∙ c.in_ok-new.ensures ∙ all_chosen passes c.as_slice-accepted.result.now ∙ ap (filter passes) c.as_slice-accepted.ensures.value in
    ap (λ (xs : List (List ℕ)). record w { confirms = xs }) (c.in_ok-larger.ensures ∙ ap (λ (xs : List (List ℕ)). all_with xs w.confirms) new)
