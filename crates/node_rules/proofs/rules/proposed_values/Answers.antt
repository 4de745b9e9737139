use Rattle.std.proofs.Common.{◌++◌, Bor, List, ℕ, Option, flat_map, option_map, option_to_list, sym, ◌∙◌, ap}
use Rattle.std.proofs.lemmas.List.{append-nil}
use Rattle.scp_types.specs.Nominations.{with_value}
use Rattle.scp_spec.specs.Candidates.{as_set, values_by}
use Rattle.scp_spec.proofs.Nominating.ValueSets.{set_and_one}
use Rattle.node_rules.proofs.rules.proposed_values.Goals as goal
use Rattle.node_rules.proofs.rules.proposed_values.Goals.{in-Some+in_ok-try_copy+in_ok-insert, in_default}

pub returns : goal.returns
returns g c =
    let led = flat_map values_by (g.S.Sight.seen c.args.sight.now).led in
    let gathered = c.in_ok-proposed.ensures in
    let and_input = λ (xs : List (List ℕ)). as_set (led ++ xs) in
    let values_of = λ (o : Option (Bor (List ℕ))). option_to_list (option_map (λ v. v.now) o) in
    elim c.match-own_proposal.branch [
      | in-Some+in_ok-try_copy+in_ok-insert w ↦ w.proposed-is ∙ (simp w.in_ok-try_copy.ensures at w.in_ok-insert.ensures.ok) ∙ ap (with_value w.in-Some.proposal.now) gathered ∙ set_and_one w.in-Some.proposal.now led ∙ ap and_input (ap values_of (sym w.in-Some.is) ∙ c.own_proposal.ensures)
      | in_default w ↦ w.proposed-is ∙ gathered ∙ ap as_set (sym (append-nil led)) ∙ ap and_input (ap values_of (sym w.in_default.is) ∙ c.own_proposal.ensures)
    ]
