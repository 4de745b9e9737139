-- There is one leader, and it is the best of the neighbours.
use Rattle.std.proofs.Common.{◌≡◌, ℕ, Bool, true, false, ◌==◌, ◌⊎◌, List, [], ◌∷◌, cond, refl, subst, inl, inr}
use Rattle.std.proofs.lemmas.Bool.{cases_Bool, or_cases, or_left, or_right, eqb-true, eq-eqb, false≢true}
use Rattle.scp_types.specs.Trees.{Slices}
use Rattle.scp_spec.specs.Sets.{Names, among}
use Rattle.scp_spec.specs.Leaders.{neighbours, beats, best, leader}
use Rattle.node_leaders.specs.Leaders.{IsLeader, LeadersAreUnique, LeadersAreKnown}
use Rattle.node_leaders.proofs.Order.{Beats, IsOrder, rounds_are_orders}
use Rattle.node_leaders.proofs.Near.{own_neighbour, near_names}

pub unique : LeadersAreUnique
unique slot round v q u w h k = (rounds_are_orders slot round).same u w (k.unbeaten u h.neighbour) (h.unbeaten w k.neighbour)

pub known : LeadersAreKnown
known slot round v q u h = near_names slot round v q u h.neighbour

-- ---- the list that is gone through
-- the best is one of a set that has them all
kept : (beats : Beats) (set : Names) (u : ℕ) (ws : List ℕ) → set u ≡ true → ((w : ℕ) → among ws w ≡ true → set w ≡ true) → set (best beats u ws) ≡ true
unfolding best
kept beats set u [] h all = h
kept beats set u (w ∷ ws) h all = kept beats set (cond (beats w u) w u) ws (either (beats w u)) (λ x i. all x (or_right (w == x) (among ws x) i))
  where
    either : (b : Bool) → set (cond b w u) ≡ true
    either true = all w (or_left (w == w) (among ws w) (eq-eqb w w refl))
    either false = h

stays : (beats : Beats) (o : IsOrder beats) (x u : ℕ) (ws : List ℕ) → beats x u ≡ false → beats x (best beats u ws) ≡ false
unfolding best
stays beats o x u [] h = h
stays beats o x u (w ∷ ws) h = stays beats o x (cond (beats w u) w u) ws (next (cases_Bool (beats w u)))
  where
    next : (beats w u ≡ true) ⊎ (beats w u ≡ false) → beats x (cond (beats w u) w u) ≡ false
    next (inl g) = rw g (o.behind x w u h g)
    next (inr g) = rw g h

covers : (beats : Beats) (o : IsOrder beats) (x u : ℕ) (ws : List ℕ) → among ws x ≡ true → beats x (best beats u ws) ≡ false
unfolding best
covers beats o x u [] h = absurd (false≢true h)
covers beats o x u (w ∷ ws) h = elim (or_cases (w == x) (among ws x) h) [
  | inl s ↦ stays beats o x (cond (beats w u) w u) ws (subst (λ (y : ℕ). beats y (cond (beats w u) w u) ≡ false) (eqb-true w x s) (next (cases_Bool (beats w u))))
  | inr s ↦ covers beats o x (cond (beats w u) w u) ws s
]
  where
    next : (beats w u ≡ true) ⊎ (beats w u ≡ false) → beats w (cond (beats w u) w u) ≡ false
    next (inl g) = rw g (o.itself w)
    next (inr g) = rw (g, g) refl

-- the best of the neighbours is the leader
pub best_leads : (slot round v : ℕ) (q : Slices) → IsLeader slot round v q (leader slot round v q)
unfolding leader
best_leads slot round v q = record {
  neighbour = kept (beats slot round) (among (neighbours slot round v q)) v (neighbours slot round v q) (own_neighbour slot round v q) (λ w i. i);
  unbeaten = λ w i. covers (beats slot round) (rounds_are_orders slot round) w v (neighbours slot round v q) i;
}

-- and so the leader is the best of the neighbours
pub leader_is : (slot round v : ℕ) (q : Slices) (u : ℕ) → IsLeader slot round v q u → u ≡ leader slot round v q
leader_is slot round v q u h = unique slot round v q u (leader slot round v q) h (best_leads slot round v q)
