-- What a report says of hosted members, found name by name.
use Rattle.std.proofs.Common.{◌≡◌, ◌<◌, ℕ, Bool, true, false, ◌&&◌, List, [], ◌∷◌, ◌++◌, map, cond, Option, Some, None, refl, sym, ◌∙◌, ap, subst}
use Rattle.std.specs.Prelude.{All, filter, is_some}
use Rattle.std.proofs.lemmas.Bool.{and_parts, and_from}
use Rattle.std.proofs.lemmas.List.{append-nil, map-append}
use Rattle.std.proofs.lemmas.List.Elements.{All-push, filter-append}
use Rattle.std.proofs.lemmas.List.Kept.{AllPairs-filter}
use Rattle.scp_types.specs.Trees.{Slices, IsNested}
use Rattle.scp_spec.specs.Sets.{Names, among, IsAscending}
use Rattle.scp_spec.specs.Satisfaction.{is_blocked, names}
use Rattle.scp_spec.proofs.Slices.Satisfaction.{blocking_counted}
use Rattle.line_report.specs.Reports.{AreBlockers, IsBlockedBy, AreHosted}
use Rattle.line_report.proofs.Names.{among-filter}
use Rattle.line_report.proofs.Alone.{alone_is_named}

-- a member of a set that blocks the slices by itself
abbrev pub blocks_alone : Slices → Names → ℕ → Bool
blocks_alone q set w = set w && is_blocked q (among (w ∷ []))

-- of the names in the slices, those that pass that test are all who block
pub blockers_found : (q : Slices) (set : Names) (named : List ℕ) → IsNested q → IsAscending named → ((u : ℕ) → among named u ≡ among (names q) u) → AreBlockers q set (filter (blocks_alone q set) named)
blockers_found q set named nested ascending same = record {
  ascending = AllPairs-filter (λ x y. x < y) (blocks_alone q set) named ascending;
  exactly = λ w. (
    (λ h.
        let passes = (and_parts (blocks_alone q set w) (among named w) (sym (among-filter (blocks_alone q set) named w) ∙ h)).0 in
        let both = and_parts (set w) (is_blocked q (among (w ∷ []))) passes in
        (both.0, (blocking_counted q (among (w ∷ []))).0 both.1)),
    (λ h.
        let blocks = (blocking_counted q (among (w ∷ []))).1 h.1 in
        let passes = and_from (set w) (is_blocked q (among (w ∷ []))) h.0 blocks in
        among-filter (blocks_alone q set) named w ∙ and_from (blocks_alone q set w) (among named w) passes (same w ∙ alone_is_named q w nested blocks)),
  );
}

-- the names of those that were found
abbrev pub hosted_names : List (ℕ × List ℕ) → List ℕ
hosted_names hosted = map (λ h. h.0) hosted

-- those of the names so far that have slices, each with those of a set that block it
pub record AreFound (slices : ℕ → Option Slices) (set : Names) (done : List ℕ) (hosted : List (ℕ × List ℕ)) : Type 0 where
  pub names : hosted_names hosted ≡ filter (λ u. is_some (slices u)) done
  pub blockers : All (IsBlockedBy slices set) hosted

flips : (a b : Bool) → (a && b) ≡ (b && a)
flips true true = refl
flips true false = refl
flips false true = refl
flips false false = refl

module _ (slices : ℕ → Option Slices) (set : Names) where
  -- one more name, which has no slices
  pub one_passed : (done : List ℕ) (hosted : List (ℕ × List ℕ)) (u : ℕ) → slices u ≡ None → AreFound slices set done hosted → AreFound slices set (done ++ u ∷ []) hosted
  one_passed done hosted u e found = record {
    names = found.names ∙ (sym (append-nil (filter (λ w. is_some (slices w)) done))
        ∙ (ap (λ (o : Option Slices). filter (λ w. is_some (slices w)) done ++ cond (is_some o) (u ∷ []) []) (sym e)
        ∙ sym (filter-append (λ w. is_some (slices w)) done (u ∷ []))));
    blockers = found.blockers;
  }

  -- one more name, which has
  pub one_found : (done : List ℕ) (hosted : List (ℕ × List ℕ)) (u : ℕ) (q : Slices) (blockers : List ℕ) → slices u ≡ Some q → AreBlockers q set blockers
      → AreFound slices set done hosted → AreFound slices set (done ++ u ∷ []) (hosted ++ (u, blockers) ∷ [])
  one_found done hosted u q blockers e are found = record {
    names = map-append (λ (h : ℕ × List ℕ). h.0) hosted ((u, blockers) ∷ [])
        ∙ (ap (λ (us : List ℕ). us ++ u ∷ []) found.names
        ∙ (ap (λ (o : Option Slices). filter (λ w. is_some (slices w)) done ++ cond (is_some o) (u ∷ []) []) (sym e)
        ∙ sym (filter-append (λ w. is_some (slices w)) done (u ∷ []))));
    blockers = All-push (IsBlockedBy slices set) hosted (u, blockers) found.blockers (λ r i. let same : q ≡ r = cc in subst (λ s. AreBlockers s set blockers) same are);
  }

  -- all names of a list, ascending
  pub all_found : (names : List ℕ) (hosted : List (ℕ × List ℕ)) → IsAscending names → ((u : ℕ) → among names u ≡ set u) → AreFound slices set names hosted → AreHosted slices set hosted
  all_found names hosted ascending same found = record {
    ascending = subst IsAscending (sym found.names) (AllPairs-filter (λ x y. x < y) (λ w. is_some (slices w)) names ascending);
    exactly = λ u. ap (λ (us : List ℕ). among us u) found.names ∙ (among-filter (λ w. is_some (slices w)) names u ∙ (flips (is_some (slices u)) (among names u) ∙ ap (λ b. b && is_some (slices u)) (same u)));
    blockers = found.blockers;
  }
