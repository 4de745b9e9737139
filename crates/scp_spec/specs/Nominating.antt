-- Nomination: what a pass votes for, accepts and confirms as nominated.
use Rattle.std.specs.Prelude.{ℕ, Bool, not, ◌&&◌, nat_lt, length, List, [], ◌++◌, filter, flat_map, option_to_list, if◌then◌else◌, is_none}
use Rattle.scp_types.specs.declared.kind.Kind.TheVariants.{Nomination}
use Rattle.scp_types.specs.Votes.{accepts_nominate, votes_or_accepts_nominate}
use Rattle.scp_spec.specs.Sets.{among}
use Rattle.scp_spec.specs.Views.{Seen, accepted, confirmed}
use Rattle.scp_types.specs.declared.state.Inputs.{Inputs}
use Rattle.scp_types.specs.declared.state.Votes.{Votes}
use Rattle.scp_spec.specs.States.{nomination_position}
use Rattle.scp_spec.specs.Candidates.{values_by, all_with, with_up_to_sixteen}

-- the node's own proposal, if the node is one of its leaders: what a leader proposes counts for itself too
abbrev pub own_proposal : ℕ → Inputs → List (List ℕ)
own_proposal own g = if among g.leaders own then option_to_list g.proposal else []

-- Echo: from round 1 on, while nothing is confirmed, the node votes for the values of its leaders' nominations. If it
-- is a leader, it votes for its own proposal too. Values are added until there are sixteen.
unfoldable pub echo : ℕ → Seen → Inputs → Votes → Votes
echo own seen g w =
    if nat_lt 0 g.round && not (nat_lt 0 (length w.confirms))
    then record w { voted = with_up_to_sixteen w.voted (flat_map values_by seen.led ++ own_proposal own g) }
    else w

-- nominating the value is accepted
abbrev pub is_value_accepted : Seen → Votes → List ℕ → Bool
is_value_accepted seen w x =
    accepted seen Nomination (nomination_position w) (λ s. votes_or_accepts_nominate s x) (λ s. accepts_nominate s x)

-- nominating the value is confirmed
abbrev pub is_value_confirmed : Seen → Votes → List ℕ → Bool
is_value_confirmed seen w x = confirmed seen Nomination (nomination_position w) (λ s. accepts_nominate s x)

-- Accept: values of reached nominations and of the node itself that are accepted are added, until there are sixteen. It
-- needs neither a proposal nor a vote of one's own.
unfoldable pub accept_values : Seen → Votes → Votes
accept_values seen w = record w {
  accepts =
      with_up_to_sixteen w.accepts
      (filter (is_value_accepted seen w) (flat_map values_by (seen.rows Nomination) ++ w.voted ++ w.accepts));
}

-- Confirm: of the accepted values those that are confirmed are added.
unfoldable pub confirm_values : Seen → Votes → Votes
confirm_values seen w = record w { confirms = all_with (filter (is_value_confirmed seen w) w.accepts) w.confirms }

-- The rules of nomination, in order, each with what the one before it made; while no ballot is confirmed as prepared.
unfoldable pub nominate : ℕ → Seen → Inputs → Votes → Votes
nominate own seen g w =
    if is_none w.confirmed_prepared then confirm_values seen (accept_values seen (echo own seen g w)) else w
