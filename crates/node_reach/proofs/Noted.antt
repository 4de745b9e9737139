-- Names that are noted one after another.
use Rattle.std.proofs.Common.{◌≡◌, ℕ, ◌+◌, ◌<◌, Bool, cond, true, false, not, ◌&&◌, ◌||◌, ◌==◌, List, [], ◌∷◌, ◌++◌, length, get_or, refl, sym, ◌∙◌, ap, arith, length-append, ap₂}
use Rattle.std.specs.List.{list_any}
use Rattle.std.specs.List.Sorted.{IsStrictlySortedBy}
use Rattle.std.specs.Ordering.{is_eq, nat_cmp}
use Rattle.std.specs.declared.cmp.Ordering.TheVariants.{Less}
use Rattle.std.specs.BTreeMap.{is_at}
use Rattle.std.proofs.Math.Path.{fun_ext}
use Rattle.std.proofs.lemmas.Bool.Decides.{nat_tests}
use Rattle.std.proofs.lemmas.Map.Keys.{Less-from_sorted}
use Rattle.scp_types.specs.contracts.node_id.NodeIdOrd.TheImpl.{ghosts as ord}
use Rattle.scp_types.proofs.NameOrder.{name_cmp_is}
use Rattle.std.proofs.lemmas.Bool.{and_parts, false≢true}
use Rattle.std.proofs.lemmas.List.Folds.{list_any-append}
use Rattle.scp_spec.specs.Sets.{among, IsAscending}
use Rattle.node_reach.specs.Sweeps.{Swept, just, AreNamesNoted}

-- ---- two lists as one
pub among_append : (xs ys : List ℕ) (u : ℕ) → among (xs ++ ys) u ≡ (among xs u || among ys u)
among_append xs ys u = list_any-append (λ x. x == u) xs ys

-- ---- one name
-- a set looks a name up by its order
looked_up : (xs : List ℕ) (u : ℕ) → list_any (is_at (ord.cmp u)) xs ≡ among xs u
looked_up xs u = ap (λ (test : ℕ → Bool). list_any test xs) (fun_ext (λ x. ap is_eq (name_cmp_is u x) ∙ same x))
  where
    same : (x : ℕ) → is_eq (nat_cmp u x) ≡ (x == u)
    same x = grind (arith, nat_tests)

-- the set with one more name, as it answers for each
pub found_with : (xs ys : List ℕ) (x : ℕ) → ((u : ℕ) → list_any (is_at (ord.cmp u)) ys ≡ cond (is_at (ord.cmp x) u) true (list_any (is_at (ord.cmp u)) xs)) → (u : ℕ) → among ys u ≡ ((x == u) || among xs u)
found_with xs ys x is u =
    sym (looked_up ys u) ∙ (is u ∙ (ap₂ (λ a b. cond a true b) (ap is_eq (name_cmp_is x u) ∙ same) (looked_up xs u) ∙ either (x == u) (among xs u)))
  where
    either : (a b : Bool) → cond a true b ≡ (a || b)
    either true b = refl
    either false b = refl

    same : is_eq (nat_cmp x u) ≡ (x == u)
    same = grind (arith, nat_tests)

-- its names ascend
pub ascends : (xs : List ℕ) → IsStrictlySortedBy ord.cmp xs → IsAscending xs
ascends xs up i j d l h = below (get_or xs i d) (get_or xs j d) (sym (name_cmp_is (get_or xs i d) (get_or xs j d)) ∙ Less-from_sorted ord.cmp xs i j d up l h)
  where
    below : (x y : ℕ) → nat_cmp x y ≡ Less → x < y
    below x y h = grind (arith, nat_tests)

done_before : (b f p : Bool) → ((b || f) && not (p || (b || false))) ≡ true → (f && not p) ≡ true
done_before true f true h = absurd (false≢true h)
done_before true f false h = absurd (false≢true h)
done_before false f true h = absurd (false≢true (and_parts f false h).1)
done_before false f false h = h

-- a name that is new is found and pending
pub noted_first : (s t : Swept) (x : ℕ) → IsAscending t.found → ((u : ℕ) → among t.found u ≡ ((x == u) || among s.found u)) → length t.found ≡ length s.found + 1 → t.pending ≡ s.pending ++ x ∷ [] → AreNamesNoted s t (just x)
noted_first s t x up is one pending =
    let waits : (u : ℕ) → among t.pending u ≡ (among s.pending u || ((x == u) || false)) = λ u. ap (λ (xs : List ℕ). among xs u) pending ∙ among_append s.pending (x ∷ []) u in
    record {
      ascending = up;
      found = is;
      pending = λ u h. swap (x == u) (among s.pending u) (sym (waits u) ∙ h);
      done = λ u h. done_before (x == u) (among s.found u) (among s.pending u) (sym (ap₂ (λ a b. a && not b) (is u) (waits u)) ∙ h);
      counted = omega (arith, one, ap length pending, length-append s.pending (x ∷ []));
    }
  where
    swap : (b p : Bool) → (p || (b || false)) ≡ true → (b || p) ≡ true
    swap true p h = refl
    swap false true h = refl
    swap false false h = h
