-- `greatest` gives the greatest, and a greatest is one. The law `extremes_are_exact` and the crate `node_view` stand on
-- it.
use Rattle.std.proofs.Common.{◌≡◌, Bool, true, false, List, [], ◌∷◌, Some, None, if◌then◌else◌, refl, sym, subst, inl, inr}
use Rattle.scp_types.specs.declared.ballot.Ballot.{Ballot}
use Rattle.scp_spec.specs.States.{below}
use Rattle.scp_spec.specs.Candidates.{greatest}
use Rattle.scp_spec.proofs.Ballots.Order.{below-self, below-trans, below-asym, one_ballot}
use Rattle.scp_spec.specs.Extremes.{IsIn, IsGreatest, IsGreatestIn, GreatestIsExact, GreatestIsUnique}
use Rattle.scp_spec.specs.Extremes.IsGreatestIn.{nothing, this}

from_some : (m : Ballot) (ts : List Ballot) → (g : Ballot) × (greatest (Some m) ts ≡ Some g) × IsGreatest (m ∷ ts) g
unfolding greatest
from_some m [] = (m, refl, record { has = inl refl; above = λ t i. only t i })
  where
    only : (t : Ballot) → IsIn t (m ∷ []) → below m t ≡ false
    only t (inl e) = subst (λ x. below m x ≡ false) (sym e) (below-self m)
    only t (inr i) = absurd i
from_some m (t ∷ ts) = go (below m t) refl (from_some t ts) (from_some m ts)
  where
    go : (b : Bool) → below m t ≡ b → (g : Ballot) × (greatest (Some t) ts ≡ Some g) × IsGreatest (t ∷ ts) g
        → (g : Ballot) × (greatest (Some m) ts ≡ Some g) × IsGreatest (m ∷ ts) g
        → (g : Ballot) × (greatest (Some (if b then t else m)) ts ≡ Some g) × IsGreatest (m ∷ t ∷ ts) g
    go true e up on = (up.0, up.1, record { has = inr up.2.has; above = λ x i. rest x i })
      where
        rest : (x : Ballot) → IsIn x (m ∷ t ∷ ts) → below up.0 x ≡ false
        rest x (inl q) =
            subst (λ y. below up.0 y ≡ false) (sym q)
            (below-trans up.0 t m (up.2.above t (inl refl)) (below-asym m t e))
        rest x (inr i) = up.2.above x i
    go false e up on = (on.0, on.1, record { has = has on.2.has; above = λ x i. rest x i })
      where
        has : IsIn on.0 (m ∷ ts) → IsIn on.0 (m ∷ t ∷ ts)
        has (inl q) = inl q
        has (inr i) = inr (inr i)

        rest : (x : Ballot) → IsIn x (m ∷ t ∷ ts) → below on.0 x ≡ false
        rest x (inl q) = on.2.above x (inl q)
        rest x (inr (inl q)) =
            subst (λ y. below on.0 y ≡ false) (sym q) (below-trans on.0 m t (on.2.above m (inl refl)) e)
        rest x (inr (inr i)) = on.2.above x (inr i)

-- the function gives a greatest
pub greatest_is_exact : GreatestIsExact
unfolding greatest
greatest_is_exact None [] = nothing refl
greatest_is_exact None (t ∷ ts) = let r = from_some t ts in subst (λ o. IsGreatestIn (t ∷ ts) o) (sym r.1) (this r.2)
greatest_is_exact (Some b) ts = let r = from_some b ts in subst (λ o. IsGreatestIn (b ∷ ts) o) (sym r.1) (this r.2)

-- and a greatest is alone
pub greatest_is_alone : GreatestIsUnique
greatest_is_alone ts g h a b = one_ballot g h (a.above h b.has) (b.above g a.has)
