-- Nomination keeps sets that a nomination may have. `SendableBallots` stands on it.
use Rattle.std.proofs.Common.{ℕ, zero, suc, ◌+◌, ◌-◌, ◌≤◌, Bool, true, false, not, length, take, List, [], ◌∷◌, if◌then◌else◌, filter, arith}
use Rattle.scp_types.specs.declared.state.Inputs.{Inputs}
use Rattle.scp_types.specs.Nominations.{IsNominationSet}
use Rattle.scp_types.specs.Votes.{has_value}
use Rattle.scp_spec.specs.Views.{Seen}
use Rattle.scp_spec.specs.Candidates.{with_up_to_sixteen, all_with, as_set}
use Rattle.scp_spec.proofs.Nominating.Ascending.{all-ascending}
use Rattle.scp_spec.proofs.Nominating.Lengths.{all-longer}
use Rattle.scp_spec.proofs.Nominating.Sets.{new_voted, echoes, sources}

take-few : (n : ℕ) (xs : List (List ℕ)) → length (take n xs) ≤ n
take-few zero xs = omega arith
take-few (suc n) [] = omega arith
take-few (suc n) (x ∷ xs) = let k = take-few n xs in omega (arith, k)

pub with_up_to_sixteen-set : (old new : List (List ℕ)) → IsNominationSet old
    → IsNominationSet (with_up_to_sixteen old new)
unfolding with_up_to_sixteen
with_up_to_sixteen-set old new h =
    let more = take (16 - length old) (filter (λ x. not (has_value old x)) (as_set new)) in
    record {
      few = upto (length (all_with more old)) (length old) (length more) (all-longer more old).1
          (take-few (16 - length old) (filter (λ x. not (has_value old x)) (as_set new))) h.few;
      ascending = all-ascending more old h.ascending;
    }
  where
    upto : (n old more : ℕ) → n ≤ old + more → more ≤ 16 - old → old ≤ 16 → n ≤ 16
    upto n old more h k l = omega (arith, h, k, l)

pub voted-set : (v : ℕ) (s : Seen) (g : Inputs) (vo co : List (List ℕ)) → IsNominationSet vo
    → IsNominationSet (new_voted v s g vo co)
voted-set v s g vo co h = go (echoes g co)
  where
    go : (b : Bool) → IsNominationSet (if b then with_up_to_sixteen vo (sources v s g) else vo)
    go true = with_up_to_sixteen-set vo (sources v s g) h
    go false = h
