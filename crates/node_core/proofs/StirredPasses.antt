-- The votes after passes that begin with certain rules, as the code finds them.
use Rattle.std.proofs.Common.{◌≡◌, ℕ, Bool, true, Option, Some, Result, IfOk, if◌then◌else◌, refl, sym, ◌∙◌, ap, subst, inl, inr, ◌-◌}
use Rattle.std.proofs.lemmas.Bool.{cases_Bool}
use Rattle.scp_types.specs.declared.state.Inputs.{Inputs}
use Rattle.scp_types.specs.declared.state.Votes.{Votes}
use Rattle.scp_spec.specs.Nodes.{settle, most_passes}
use Rattle.scp_spec.specs.Passes.{balloted_in, nominated_in, pass}
use Rattle.scp_spec.specs.Sameness.{same_values, same_votes}
use Rattle.scp_spec.specs.Stirring.{settle_after, settle_all, settle_ballots, settle_nominations}
use Rattle.scp_spec.specs.Views.{Seen}
use Rattle.scp_spec.proofs.Equality.Sameness.{same_values-refl, same_values-true, same_votes-refl, same_votes-true}
use Rattle.node_core.specs.declared.stirring.Stirred.{Stirred}
use Rattle.node_core.specs.declared.stirring.Stirred.TheVariants.{All, Ballots, Nominations}
use Rattle.node_core.specs.Differences.{some_if}
use Rattle.node_core.specs.Stirrings.{Stirs, part_of_pass}

-- ---- after a first pass
pub after-same : (s : Seen) (g : Inputs) (before after : Votes) → after ≡ before → settle_after s g before after ≡ Some after
unfolding settle_after
after-same s g before after e = ap (λ b. if b then Some after else settle (most_passes - 1) (balloted_in s g) after) (ap (λ (w : Votes). same_votes w before) e ∙ same_votes-refl before)

pub after-other : (s : Seen) (g : Inputs) (before after : Votes) → (after ≡ before → ⊥) → settle_after s g before after ≡ settle (most_passes - 1) (balloted_in s g) after
unfolding settle_after
after-other s g before after other = elim (cases_Bool (same_votes after before)) [
  | inl e ↦ absurd (other (same_votes-true after before e))
  | inr e ↦ ap (λ b. if b then Some after else settle (most_passes - 1) (balloted_in s g) after) e
]

-- ---- after nomination
pub confirms-none : (v : ℕ) (s : Seen) (g : Inputs) (w x : Votes) → x ≡ nominated_in v s g w → x.confirms ≡ w.confirms → settle_nominations v s g w ≡ Some x
unfolding settle_nominations
confirms-none v s g w x is e =
    let test : same_values x.confirms w.confirms ≡ true = ap (λ ys. same_values ys w.confirms) e ∙ same_values-refl w.confirms in
    ap (λ (y : Votes). if same_values y.confirms w.confirms then Some y else settle_after s g w (balloted_in s g y)) (sym is) ∙ ap (λ b. if b then Some x else settle_after s g w (balloted_in s g x)) test

pub confirms-more : (v : ℕ) (s : Seen) (g : Inputs) (w x y : Votes) → x ≡ nominated_in v s g w → (x.confirms ≡ w.confirms → ⊥) → y ≡ balloted_in s g x → settle_nominations v s g w ≡ settle_after s g w y
unfolding settle_nominations
confirms-more v s g w x y is other made =
    ap (λ (y : Votes). if same_values y.confirms w.confirms then Some y else settle_after s g w (balloted_in s g y)) (sym is)
    ∙ (elim (cases_Bool (same_values x.confirms w.confirms)) [
      | inl e ↦ absurd (other (same_values-true x.confirms w.confirms e))
      | inr e ↦ ap (λ b. if b then Some x else settle_after s g w (balloted_in s g x)) e
    ]
    ∙ ap (settle_after s g w) (sym made))

-- ---- by the rules that are stirred
-- a first pass that changes nothing is the last
pub no-arm : (t : Stirred) (v : ℕ) (s : Seen) (g : Inputs) (w : Votes) → Stirs t v s g w → part_of_pass t v s g w ≡ w → settle most_passes (pass v s g) w ≡ Some w
unfolding settle_all settle_ballots
no-arm All v s g w stirs e = sym stirs ∙ after-same s g w (pass v s g w) e ∙ ap {B = Option Votes} Some e
no-arm Ballots v s g w stirs e = sym stirs ∙ after-same s g w (balloted_in s g w) e ∙ ap {B = Option Votes} Some e
no-arm Nominations v s g w stirs e = sym stirs ∙ confirms-none v s g w w (sym e) refl

pub all-arm : {E : Type 0} (t : Stirred) (v : ℕ) (s : Seen) (g : Inputs) (w x y : Votes) (r : Result Bool E) → t ≡ All → Stirs t v s g w → (x ≡ part_of_pass t v s g w) × (part_of_pass t v s g w ≡ w → ⊥) → IfOk r (λ b. some_if b y ≡ settle (most_passes - 1) (balloted_in s g) x) → IfOk r (λ b. some_if b y ≡ settle most_passes (pass v s g) w)
unfolding settle_all
all-arm t v s g w x y r is stirs made done =
    let stirred : Stirs All v s g w = subst (λ u. Stirs u v s g w) is stirs in
    let next : x ≡ pass v s g w = made.0 ∙ ap (λ u. part_of_pass u v s g w) is in
    let other : x ≡ w → ⊥ = λ e. made.1 (sym made.0 ∙ e) in
    subst (λ (e : Option Votes). IfOk r (λ b. some_if b y ≡ e)) (sym (after-other s g w x other) ∙ ap (settle_after s g w) next ∙ stirred) done

pub ballots-arm : {E : Type 0} (t : Stirred) (v : ℕ) (s : Seen) (g : Inputs) (w x y : Votes) (r : Result Bool E) → t ≡ Ballots → Stirs t v s g w → (x ≡ part_of_pass t v s g w) × (part_of_pass t v s g w ≡ w → ⊥) → IfOk r (λ b. some_if b y ≡ settle (most_passes - 1) (balloted_in s g) x) → IfOk r (λ b. some_if b y ≡ settle most_passes (pass v s g) w)
unfolding settle_ballots
ballots-arm t v s g w x y r is stirs made done =
    let stirred : Stirs Ballots v s g w = subst (λ u. Stirs u v s g w) is stirs in
    let next : x ≡ balloted_in s g w = made.0 ∙ ap (λ u. part_of_pass u v s g w) is in
    let other : x ≡ w → ⊥ = λ e. made.1 (sym made.0 ∙ e) in
    subst (λ (e : Option Votes). IfOk r (λ b. some_if b y ≡ e)) (sym (after-other s g w x other) ∙ ap (settle_after s g w) next ∙ stirred) done

pub nominations-arm : {E : Type 0} (t : Stirred) (v : ℕ) (s : Seen) (g : Inputs) (w y : Votes) (r : Result Bool E) → t ≡ Nominations → Stirs t v s g w → IfOk r (λ b. some_if b y ≡ settle_nominations v s g w) → IfOk r (λ b. some_if b y ≡ settle most_passes (pass v s g) w)
nominations-arm t v s g w y r is stirs done =
    let stirred : Stirs Nominations v s g w = subst (λ u. Stirs u v s g w) is stirs in
    subst (λ (e : Option Votes). IfOk r (λ b. some_if b y ≡ e)) stirred done

pub nominated-arm : (t : Stirred) (v : ℕ) (s : Seen) (g : Inputs) (w x : Votes) → t ≡ Nominations → x ≡ part_of_pass t v s g w → x ≡ nominated_in v s g w
nominated-arm t v s g w x is made = made ∙ ap (λ u. part_of_pass u v s g w) is
