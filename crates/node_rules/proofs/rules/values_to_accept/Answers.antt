use Rattle.std.proofs.Common.{◌-◌, not, ◌&&◌, List, ℕ, length, take, filter, flat_map, ◌∙◌, ap}
use Rattle.scp_types.specs.declared.kind.Kind.TheVariants.{Nomination}
use Rattle.scp_types.specs.Nominations.{most_nominated}
use Rattle.scp_types.specs.Votes.{has_value}
use Rattle.scp_spec.specs.Candidates.{all_with, with_up_to_sixteen, values_by}
use Rattle.scp_spec.specs.Nominating.{accept_values, is_value_accepted}
use Rattle.scp_spec.proofs.Nominating.ValueSets.{new_ones}
use Rattle.node_rules.proofs.rules.values_to_accept.Goals as goal

pub returns : goal.returns
unfolding accept_values with_up_to_sixteen
returns g c =
    let w = c.args.votes.now in
    let seen = g.S.Sight.seen c.args.sight.now in
    let rows = flat_map values_by (seen.rows Nomination) in
    let passes = λ (x : List ℕ). not (has_value w.accepts x) && is_value_accepted seen w x in
    let room = most_nominated - length w.accepts in
    let candidates = c.as_slice.ensures.value ∙ c.in_ok-candidates.ensures in
    let new = c.as_slice-2.ensures.value ∙ c.in_ok-new.ensures ∙ ap (λ (n : ℕ). take n (filter passes c.as_slice.result.now)) c.room_in-room.ensures
    ∙ ap (λ (xs : List (List ℕ)). take room (filter passes xs)) candidates ∙ ap (take room) (new_ones (is_value_accepted seen w) rows w.voted w.accepts) in
    ap (λ (xs : List (List ℕ)). record w { accepts = xs }) (c.in_ok-larger.ensures ∙ ap (λ (xs : List (List ℕ)). all_with xs w.accepts) new)
