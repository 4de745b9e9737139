-- The three sets of nomination after a pass, and where a pass changes none of them. `Passes` and `Sending` stand on it.
use Rattle.std.proofs.Common.{◌≡◌, ℕ, Bool, true, false, not, ◌&&◌, nat_lt, length, List, [], ◌++◌, Some, if◌then◌else◌, filter, flat_map, option_to_list, is_none, refl, sym, ◌∙◌, ap, subst, inl, inr}
use Rattle.std.proofs.lemmas.Bool.{cases_Bool}
use Rattle.scp_spec.specs.Sets.{among}
use Rattle.scp_spec.proofs.Balloting.Tests.{backs_value, takes_value}
use Rattle.scp_types.specs.declared.statement.Statement.TheVariants.{Nominate}
use Rattle.scp_types.specs.declared.kind.Kind.TheVariants.{Nomination}
use Rattle.scp_spec.specs.Views.{Seen, accepted, confirmed}
use Rattle.scp_types.specs.declared.state.Inputs.{Inputs}
use Rattle.scp_types.specs.declared.state.Votes.{Votes}
use Rattle.scp_spec.specs.States.{nomination_position}
use Rattle.scp_spec.specs.Candidates.{all_with, with_up_to_sixteen, values_by}
use Rattle.scp_spec.specs.Nominating.{echo, accept_values, confirm_values, nominate}

-- the three sets after a pass
abbrev pub sources : ℕ → Seen → Inputs → List (List ℕ)
sources v s g = flat_map values_by s.led ++ (if among g.leaders v then option_to_list g.proposal else [])

abbrev pub echoes : Inputs → List (List ℕ) → Bool
echoes g co = nat_lt 0 g.round && not (nat_lt 0 (length co))

abbrev pub new_voted : ℕ → Seen → Inputs → List (List ℕ) → List (List ℕ) → List (List ℕ)
new_voted v s g vo co = if echoes g co then with_up_to_sixteen vo (sources v s g) else vo

abbrev pub new_accepts : Seen → List (List ℕ) → List (List ℕ) → List (List ℕ)
new_accepts s vo ac =
    with_up_to_sixteen ac
    (filter (λ x. accepted s Nomination (Some (Nominate vo ac)) (backs_value x) (takes_value x))
    (flat_map values_by (s.rows Nomination) ++ vo ++ ac))

abbrev pub new_confirms : Seen → List (List ℕ) → List (List ℕ) → List (List ℕ) → List (List ℕ)
new_confirms s vo ac co = all_with (filter (λ x. confirmed s Nomination (Some (Nominate vo ac)) (takes_value x)) ac) co

echo-is : (v : ℕ) (s : Seen) (g : Inputs) (w : Votes)
    → echo v s g w ≡ record w { voted = new_voted v s g w.voted w.confirms }
unfolding echo
echo-is v s g w = go (echoes g w.confirms)
  where
    go : (b : Bool)
        → (if b then record w { voted = with_up_to_sixteen w.voted (sources v s g) } else w)
        ≡ record w { voted = if b then with_up_to_sixteen w.voted (sources v s g) else w.voted }
    go true = refl
    go false = refl

rest-is : (s : Seen) (w : Votes)
    → confirm_values s (accept_values s w) ≡ record w {
      accepts = new_accepts s w.voted w.accepts;
      confirms = new_confirms s w.voted (new_accepts s w.voted w.accepts) w.confirms;
    }
unfolding confirm_values accept_values nomination_position
rest-is s w = refl

pub nominate-is : (v : ℕ) (s : Seen) (g : Inputs) (w : Votes) → is_none w.confirmed_prepared ≡ true
    → let vo = new_voted v s g w.voted w.confirms in let ac = new_accepts s vo w.accepts in
    nominate v s g w ≡ record w { voted = vo; accepts = ac; confirms = new_confirms s vo ac w.confirms }
unfolding nominate
nominate-is v s g w e =
    ap (λ b. if b then confirm_values s (accept_values s (echo v s g w)) else w) e
    ∙ (ap (λ x. confirm_values s (accept_values s x)) (echo-is v s g w)
    ∙ rest-is s (record w { voted = new_voted v s g w.voted w.confirms }))

pub nominate-not : (v : ℕ) (s : Seen) (g : Inputs) (w : Votes) → is_none w.confirmed_prepared ≡ false
    → nominate v s g w ≡ w
unfolding nominate
nominate-not v s g w e = ap (λ b. if b then confirm_values s (accept_values s (echo v s g w)) else w) e

-- nomination changes nothing at these sets
abbrev pub NominationRestsAt : ℕ → Seen → Inputs → List (List ℕ) → List (List ℕ) → List (List ℕ) → Type 0
NominationRestsAt v s g vo ac co = (u : Votes) → u.voted ≡ vo → u.accepts ≡ ac → u.confirms ≡ co → nominate v s g u ≡ u

pub rests-from : (v : ℕ) (s : Seen) (g : Inputs) (vo ac co : List (List ℕ)) → new_voted v s g vo co ≡ vo
    → new_accepts s vo ac ≡ ac → new_confirms s vo ac co ≡ co → NominationRestsAt v s g vo ac co
rests-from v s g vo ac co a b c u i j k = elim (cases_Bool (is_none u.confirmed_prepared)) [
  | inr e ↦ nominate-not v s g u e
  | inl e ↦ nominate-is v s g u e
      ∙ (λ t. record u { voted = (x ∙ sym i) t; accepts = (y ∙ sym j) t; confirms = (z ∙ sym k) t })
]
  where
    x : new_voted v s g u.voted u.confirms ≡ vo
    x = subst (λ m. new_voted v s g m u.confirms ≡ vo) (sym i) (subst (λ m. new_voted v s g vo m ≡ vo) (sym k) a)

    y : new_accepts s (new_voted v s g u.voted u.confirms) u.accepts ≡ ac
    y = subst (λ m. new_accepts s m u.accepts ≡ ac) (sym x) (subst (λ m. new_accepts s vo m ≡ ac) (sym j) b)

    z : new_confirms s (new_voted v s g u.voted u.confirms)
        (new_accepts s (new_voted v s g u.voted u.confirms) u.accepts) u.confirms ≡ co
    z = subst (λ m. new_confirms s m (new_accepts s (new_voted v s g u.voted u.confirms) u.accepts) u.confirms ≡ co)
        (sym x) (subst (λ m. new_confirms s vo m u.confirms ≡ co) (sym y)
        (subst (λ m. new_confirms s vo ac m ≡ co) (sym k) c))
