-- What the place of a network in a list of configurations tells, and what one configuration more makes of it.
use Rattle.std.proofs.Common.{◌≡◌, ℕ, suc, Bool, true, false, cond, ◌==◌, List, [], ◌∷◌, ◌++◌, length, Option, Some, None, option_map, get_or, ◌<◌, if◌then◌else◌, refl, sym, ◌∙◌, ap, subst, arith}
use Rattle.std.specs.Ordering.{nat_cmp}
use Rattle.std.specs.BTreeMap.{BTreeMap, Updates, get, is_at}
use Rattle.std.proofs.lemmas.Bool.{eqb-true, eq-eqb}
use Rattle.std.proofs.lemmas.Bool.Decides.{nat_tests}
use Rattle.scp_spec.specs.Hosts.{Config, nodes_of}
use Rattle.scp_spec.specs.Submissions.{config_of}
use Rattle.host_compare.specs.Indexed.{AreConfigsIndexed, config_place}

-- what stands at the place
stands : (cs : List Config) (g i : ℕ) → config_place cs g ≡ Some i → (i < length cs) × ((d : Config) → Some (get_or cs i d) ≡ config_of cs g)
stands [] g i h = absurd (cc)
stands (c ∷ cs) g i h = go (c.number == g) (config_place cs g) refl h (stands cs g)
  where
    go : (b : Bool) (o : Option ℕ) → config_place cs g ≡ o → (if b then Some 0 else option_map suc o) ≡ Some i
        → ((j : ℕ) → config_place cs g ≡ Some j → (j < length cs) × ((d : Config) → Some (get_or cs j d) ≡ config_of cs g))
        → (i < length (c ∷ cs)) × ((d : Config) → Some (get_or (c ∷ cs) i d) ≡ (if b then Some c else config_of cs g))
    go true o e f ih = let z : i ≡ 0 = cc in (omega arith, λ d. ap (λ k. Some (get_or (c ∷ cs) k d)) z)
    go false None e f ih = absurd (cc)
    go false (Some j) e f ih =
        let z : i ≡ suc j = cc in
        let r = ih j e in
        let l = r.0 in (omega arith, λ d. ap (λ k. Some (get_or (c ∷ cs) k d)) z ∙ r.1 d)

-- a number without a place has no configuration
unplaced : (cs : List Config) (g : ℕ) → config_place cs g ≡ None → config_of cs g ≡ None
unplaced [] g h = refl
unplaced (c ∷ cs) g h = go (c.number == g) (config_place cs g) refl h (unplaced cs g)
  where
    go : (b : Bool) (o : Option ℕ) → config_place cs g ≡ o → (if b then Some 0 else option_map suc o) ≡ None → (config_place cs g ≡ None → config_of cs g ≡ None) → (if b then Some c else config_of cs g) ≡ None
    go true o e f ih = absurd (cc)
    go false None e f ih = ih e
    go false (Some j) e f ih = absurd (cc)

-- what the code reads
pub found : (cs now : List Config) (places : BTreeMap ℕ ℕ) (g i : ℕ) → cs ≡ now → AreConfigsIndexed cs places → Some i ≡ get nat_cmp places g → (i < length cs) × ((d : Config) → Some (get_or cs i d) ≡ config_of now g)
found cs now places g i view is h = let r = stands cs g i (sym (is.at g) ∙ sym h) in (r.0, λ d. r.1 d ∙ ap (λ ds. config_of ds g) view)

pub absent : (cs now : List Config) (places : BTreeMap ℕ ℕ) (g : ℕ) → cs ≡ now → AreConfigsIndexed cs places → None ≡ get nat_cmp places g → None ≡ config_of now g
absent cs now places g view is h = sym (unplaced cs g (sym (is.at g) ∙ sym h)) ∙ ap (λ ds. config_of ds g) view

-- one configuration more, the first of its number
place-more : (cs : List Config) (c : Config) (q : ℕ) → config_of cs c.number ≡ None → config_place (cs ++ c ∷ []) q ≡ cond (c.number == q) (Some (length cs)) (config_place cs q)
place-more [] c q h = refl
place-more (d ∷ cs) c q h = go (d.number == c.number) (d.number == q) (c.number == q) refl refl refl h (place-more cs c q)
  where
    go : (same own new : Bool) → (d.number == c.number) ≡ same → (d.number == q) ≡ own → (c.number == q) ≡ new → (if same then Some d else config_of cs c.number) ≡ None
        → (config_of cs c.number ≡ None → config_place (cs ++ c ∷ []) q ≡ cond (c.number == q) (Some (length cs)) (config_place cs q))
        → (if own then Some 0 else option_map suc (config_place (cs ++ c ∷ []) q)) ≡ cond new (Some (suc (length cs))) (if own then Some 0 else option_map suc (config_place cs q))
    go true own new e f n h ih = absurd (cc)
    go false true true e f n h ih =
        let twice = sym e ∙ eq-eqb d.number c.number (eqb-true d.number q f ∙ sym (eqb-true c.number q n)) in absurd (cc)
    go false true false e f n h ih = refl
    go false false true e f n h ih = ap (option_map suc) (ih h ∙ ap (λ b. cond b (Some (length cs)) (config_place cs q)) n)
    go false false false e f n h ih = ap (option_map suc) (ih h ∙ ap (λ b. cond b (Some (length cs)) (config_place cs q)) n)

at-is : (e u : ℕ) → is_at (nat_cmp u) e ≡ (u == e)
at-is e u = grind (arith, nat_tests)

pub indexed_more : (cs : List Config) (c : Config) (old new : BTreeMap ℕ ℕ) → AreConfigsIndexed cs old → config_of cs c.number ≡ None
    → ((q : ℕ) → get nat_cmp new q ≡ cond (is_at (nat_cmp c.number) q) (Some (length cs)) (get nat_cmp old q)) → AreConfigsIndexed (cs ++ c ∷ []) new
indexed_more cs c old new is fresh put = record {
  at = λ q.
      put q ∙ (λ i. cond (at-is q c.number i) (Some (length cs)) (is.at q i)) ∙ sym (place-more cs c q fresh);
}

pub indexed_read : (cs room now : List Config) (c : Config) (old new : BTreeMap ℕ ℕ) (g place : ℕ) → AreConfigsIndexed cs old → room ≡ cs → now ≡ room ++ c ∷ [] → place ≡ length room → g ≡ c.number → config_of cs g ≡ None
    → Updates nat_cmp old new g (Some place) → AreConfigsIndexed now new
indexed_read cs room now c old new g place is kept more last number fresh put =
    subst (λ ds. AreConfigsIndexed ds new) (sym (more ∙ ap (λ ds. ds ++ c ∷ []) kept))
    (indexed_more cs c old new is (ap (config_of cs) (sym number) ∙ fresh) (λ q. put.0 q ∙ (λ i. cond (is_at (nat_cmp (number i)) q) (Some ((last ∙ ap (λ ds. length ds) kept) i)) (get nat_cmp old q))))

-- a network without a configuration has no hosted nodes
pub no-nodes : (cs : List Config) (g : ℕ) → config_of cs g ≡ None → nodes_of cs g ≡ []
no-nodes [] g h = refl
no-nodes (k ∷ ks) g h = go (k.number == g) refl h (no-nodes ks g)
  where
    go : (b : Bool) → (k.number == g) ≡ b → (if b then Some k else config_of ks g) ≡ None → (config_of ks g ≡ None → nodes_of ks g ≡ []) → nodes_of (k ∷ ks) g ≡ []
    go true y e ih = absurd (cc)
    go false y e ih = rw y (ih e)
