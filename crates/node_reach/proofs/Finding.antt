-- KnownNodes nodes that are has_mark, and what a step of a search finds.
use Rattle.std.proofs.Common.{◌≡◌, ℕ, zero, suc, ◌+◌, ◌<◌, Bool, true, false, not, ◌&&◌, ◌||◌, ◌==◌, List, [], ◌∷◌, ◌++◌, get_or, set, length, length-set, length-append, drop, map, replicate, if◌then◌else◌, refl, sym, ◌∙◌, ap, ap₂, subst, inl, inr, arith, ◌⊎◌}
use Rattle.std.proofs.Math.Path.{fun_ext}
use Rattle.std.proofs.lemmas.Bool.{cases_Bool, or_cases, or_left, or_right, and_from, and_parts, eqb-true, eq-eqb, false≢true, true≢false, false_from_ne_true}
use Rattle.std.proofs.lemmas.List.{map-append}
use Rattle.std.proofs.lemmas.List.Folds.{list_any_at}
use Rattle.scp_spec.specs.Sets.{Names, among, IsAscending}
use Rattle.node_reach.specs.declared.search.KnownNodes.{KnownNodes}
use Rattle.node_reach.specs.declared.search.Search.{Search}
use Rattle.node_reach.specs.Searching.{Finds, IsOver, IsSearch, IsSearchOf, IsTakenFrom, done_in, found_in, has_mark, pending_in, with_marks, at_places, count_unmarked}
use Rattle.node_reach.specs.Sweeps.{Swept, is_done, just, AreNamesNoted, IsNameTaken}
use Rattle.scp_bits.proofs.Moves.{place_among}
use Rattle.node_reach.proofs.Noted.{among_append}

-- ---- marks
either_again : (a b m : Bool) → (a || m) ≡ (a || ((b && a) || m))
either_again true b m = refl
either_again false true m = refl
either_again false false m = refl

later_first : (a y m : Bool) → (a || (y || m)) ≡ (y || (a || m))
later_first true true m = refl
later_first true false m = refl
later_first false y m = refl

-- one mark more
pub marked_set : (nodes : List ℕ) (marks : List Bool) (i u : ℕ) → i < length nodes → i < length marks → has_mark nodes (set marks i true) u ≡ ((get_or nodes i 0 == u) || has_mark nodes marks u)
marked_set [] marks i u h k = absurd (omega arith)
marked_set (x ∷ xs) [] i u h k = absurd (omega arith)
marked_set (x ∷ xs) (b ∷ bs) zero u h k = either_again (x == u) b (has_mark xs bs u)
marked_set (x ∷ xs) (b ∷ bs) (suc i) u h k =
    ap (λ m. (b && x == u) || m) (marked_set xs bs i u (omega arith) (omega arith)) ∙ later_first (b && x == u) (get_or xs i 0 == u) (has_mark xs bs u)

pub marked_at : (nodes : List ℕ) (marks : List Bool) (i : ℕ) → i < length nodes → i < length marks → get_or marks i false ≡ true → has_mark nodes marks (get_or nodes i 0) ≡ true
marked_at [] marks i h k is = absurd (omega arith)
marked_at (x ∷ xs) [] i h k is = absurd (omega arith)
marked_at (x ∷ xs) (b ∷ bs) zero h k is = or_left (b && x == x) (has_mark xs bs x) (and_from b (x == x) is (eq-eqb x x refl))
marked_at (x ∷ xs) (b ∷ bs) (suc i) h k is = or_right (b && x == get_or xs i 0) (has_mark xs bs (get_or xs i 0)) (marked_at xs bs i (omega arith) (omega arith) is)

pub marked_within : (nodes : List ℕ) (marks : List Bool) (u : ℕ) → has_mark nodes marks u ≡ true → among nodes u ≡ true
marked_within [] marks u h = h
marked_within (x ∷ xs) [] u h = absurd (false≢true h)
marked_within (x ∷ xs) (b ∷ bs) u h = elim (or_cases (b && x == u) (has_mark xs bs u) h) [
  | inl i ↦ or_left (x == u) (among xs u) (and_parts b (x == u) i).1
  | inr i ↦ or_right (x == u) (among xs u) (marked_within xs bs u i)
]

pub none_marked : (nodes : List ℕ) (n u : ℕ) → has_mark nodes (replicate n false) u ≡ false
none_marked [] n u = refl
none_marked (x ∷ xs) zero u = refl
none_marked (x ∷ xs) (suc n) u = none_marked xs n u

pub unmarked_set : (marks : List Bool) (i : ℕ) → i < length marks → get_or marks i false ≡ false → count_unmarked (set marks i true) + 1 ≡ count_unmarked marks
unmarked_set [] i h is = absurd (omega arith)
unmarked_set (true ∷ bs) zero h is = absurd (true≢false is)
unmarked_set (false ∷ bs) zero h is = omega arith
unmarked_set (b ∷ bs) (suc i) h is = omega (arith, unmarked_set bs i (omega arith) is)

-- the list of those that are has_mark
pub picked_among : (nodes : List ℕ) (marks : List Bool) (u : ℕ) → among (with_marks nodes marks) u ≡ has_mark nodes marks u
picked_among [] marks u = refl
picked_among (x ∷ xs) [] u = refl
picked_among (x ∷ xs) (true ∷ bs) u = ap (λ m. (x == u) || m) (picked_among xs bs u)
picked_among (x ∷ xs) (false ∷ bs) u = picked_among xs bs u

pub picked_ascends : (nodes : List ℕ) (marks : List Bool) → IsAscending nodes → IsAscending (with_marks nodes marks)
picked_ascends [] marks up i j d l h = absurd (omega arith)
picked_ascends (x ∷ xs) [] up i j d l h = absurd (omega arith)
picked_ascends (x ∷ xs) (false ∷ bs) up i j d l h = picked_ascends xs bs (λ a b e m n. up (suc a) (suc b) e (omega arith) (omega arith)) i j d l h
picked_ascends (x ∷ xs) (true ∷ bs) up zero zero d l h = absurd (omega arith)
picked_ascends (x ∷ xs) (true ∷ bs) up (suc i) zero d l h = absurd (omega arith)
picked_ascends (x ∷ xs) (true ∷ bs) up (suc i) (suc j) d l h = picked_ascends xs bs (λ a b e m n. up (suc a) (suc b) e (omega arith) (omega arith)) i j d (omega arith) (omega arith)
picked_ascends (x ∷ xs) (true ∷ bs) up zero (suc j) d l h =
    let y = get_or (with_marks xs bs) j d in
    let room : j < length (with_marks xs bs) = omega arith in
    let there : among xs y ≡ true = marked_within xs bs y (sym (picked_among xs bs y) ∙ list_any_at (λ z. z == y) (with_marks xs bs) j d room (eq-eqb y y refl)) in
    let at = place_among xs y there in
    let low : x < get_or xs at.0 0 = up 0 (suc at.0) 0 (omega arith) (let k = at.1 in omega arith) in
    omega (arith, low, at.2)

pub pick_one : (nodes : List ℕ) (marks : List Bool) (i : ℕ) (b : Bool) (x : ℕ) → i < length nodes → length marks ≡ length nodes → b ≡ get_or marks i b → x ≡ get_or nodes i x
    → with_marks (drop i nodes) (drop i marks) ≡ (if b then x ∷ with_marks (drop (i + 1) nodes) (drop (i + 1) marks) else with_marks (drop (i + 1) nodes) (drop (i + 1) marks))
pick_one nodes marks i b x h k is at =
    let next : suc i ≡ i + 1 = omega arith in
    go nodes marks i h k is at ∙ ap (λ j. if b then x ∷ with_marks (drop j nodes) (drop j marks) else with_marks (drop j nodes) (drop j marks)) next
  where
    go : (nodes : List ℕ) (marks : List Bool) (i : ℕ) → i < length nodes → length marks ≡ length nodes → b ≡ get_or marks i b → x ≡ get_or nodes i x
        → with_marks (drop i nodes) (drop i marks) ≡ (if b then x ∷ with_marks (drop (suc i) nodes) (drop (suc i) marks) else with_marks (drop (suc i) nodes) (drop (suc i) marks))
    go [] marks i h k is at = absurd (omega arith)
    go (y ∷ ys) [] i h k is at = absurd (omega (arith, k))
    go (y ∷ ys) (c ∷ cs) zero h k is at = λ j. if (sym is j) then (sym at j) ∷ with_marks ys cs else with_marks ys cs
    go (y ∷ ys) (c ∷ cs) (suc i) h k is at = go ys cs i (omega arith) (omega (arith, k)) is at

-- ---- one name
done_before : (b f p q : Bool) → ((b || f) && not ((p || (b || false)) || q)) ≡ true → (f && not (p || q)) ≡ true
done_before true f true q h = absurd (false≢true h)
done_before true f false q h = absurd (false≢true h)
done_before false f true q h = absurd (false≢true (and_parts f false h).1)
done_before false f false q h = h

both_found : (a b c : Bool) → ((a || b) || c) ≡ (a || (b || c))
both_found true b c = refl
both_found false b c = refl

waits : (nodes places : List ℕ) (i u : ℕ) → at_places nodes (places ++ i ∷ []) u ≡ (at_places nodes places u || ((get_or nodes i 0 == u) || false))
waits nodes places i u =
    let at : ℕ → ℕ = λ j. get_or nodes j 0 in
    ap (λ (xs : List ℕ). among xs u) (map-append at places (i ∷ [])) ∙ among_append (map at places) (at i ∷ []) u

swapped : (b p q : Bool) → ((p || (b || false)) || q) ≡ true → (b || (p || q)) ≡ true
swapped true p q h = refl
swapped false true q h = refl
swapped false false q h = h

module _ (s : Search) (are : IsSearch s) where
  nodes : List ℕ
  nodes = s.known.nodes.now

  -- a known node that is not has_mark yet
  pub marks_one : (t : Search) (i : ℕ) → i < length s.known.nodes.now → get_or s.marks.items i false ≡ false → t.known ≡ s.known → t.others ≡ s.others
      → t.marks.items ≡ set s.marks.items i true → t.places.items ≡ s.places.items ++ i ∷ [] → Finds s t (just (get_or s.known.nodes.now i 0))
  unfolding nodes
  marks_one t i inside unset known others marks places =
      let y = get_or nodes i 0 in
      let room : i < length s.marks.items = omega (arith, inside, are.sized) in
      let us : t.known.nodes.now ≡ nodes = ap (λ k. k.nodes.now) known in
      let now_marked : (u : ℕ) → has_mark t.known.nodes.now t.marks.items u ≡ ((y == u) || has_mark nodes s.marks.items u) = λ u.
      (λ j. has_mark (us j) (marks j) u) ∙ marked_set nodes s.marks.items i u inside room in
      let now_waits : (u : ℕ) → at_places t.known.nodes.now t.places.items u ≡ (at_places nodes s.places.items u || ((y == u) || false)) = λ u.
      (λ j. at_places (us j) (places j) u) ∙ waits nodes s.places.items i u in
      let other_found : (u : ℕ) → among t.others.found u ≡ among s.others.found u = λ u. ap (λ (o : Swept). among o.found u) others in
      let other_pending : (u : ℕ) → among t.others.pending u ≡ among s.others.pending u = λ u. ap (λ (o : Swept). among o.pending u) others in
      let found : (u : ℕ) → found_in t u ≡ ((y == u) || found_in s u) = λ u.
      ap₂ (λ a b. a || b) (now_marked u) (other_found u) ∙ both_found (y == u) (has_mark nodes s.marks.items u) (among s.others.found u) in
      let pending : (u : ℕ) → pending_in t u ≡ ((at_places nodes s.places.items u || ((y == u) || false)) || among s.others.pending u) = λ u.
      ap₂ (λ a b. a || b) (now_waits u) (other_pending u) in
      record {
        known = known;
        search = record {
          known = subst (λ (xs : List ℕ). IsAscending xs) (sym us) are.known;
          sized = ap (λ (bs : List Bool). length bs) marks ∙ length-set s.marks.items i true ∙ are.sized ∙ sym (ap (λ (xs : List ℕ). length xs) us);
          places = λ j h. subst (λ (xs : List ℕ). j < length xs) (sym us) (elim (or_cases (among s.places.items j) ((i == j) || false) (sym (ap (λ (xs : List ℕ). among xs j) places ∙ among_append s.places.items (i ∷ []) j) ∙ h)) [
            | inl old ↦ are.places j old
            | inr new ↦ elim (or_cases (i == j) false new) [
              | inl same ↦ subst (λ n. n < length s.known.nodes.now) (eqb-true i j same) inside
              | inr never ↦ absurd (false≢true never)
            ]
          ]);
          ascending = subst (λ (o : Swept). IsAscending o.found) (sym others) are.ascending;
          apart = λ u h. ap (λ (xs : List ℕ). among xs u) us ∙ are.apart u (sym (other_found u) ∙ h);
          within = λ u h. other_found u ∙ are.within u (sym (other_pending u) ∙ h);
        };
        found = found;
        pending = λ u h. swapped (y == u) (at_places nodes s.places.items u) (among s.others.pending u) (sym (pending u) ∙ h);
        done = λ u h. done_before (y == u) (found_in s u) (at_places nodes s.places.items u) (among s.others.pending u) (sym (ap₂ (λ a b. a && not b) (found u) (pending u)) ∙ h);
        marks = omega (arith, ap count_unmarked marks, unmarked_set s.marks.items i room unset, ap (λ (xs : List ℕ). length xs) places, length-append s.places.items (i ∷ []));
        counted = omega (arith, ap (λ (o : Swept). length o.found) others, ap (λ (o : Swept). length o.pending) others);
      }

  -- one that is has_mark
  pub marks_none : (i : ℕ) → i < length s.known.nodes.now → get_or s.marks.items i false ≡ true → Finds s s (just (get_or s.known.nodes.now i 0))
  marks_none i inside is = record {
    known = refl;
    search = are;
    found = λ u. again u (cases_Bool (get_or s.known.nodes.now i 0 == u));
    pending = λ u h. or_right (get_or s.known.nodes.now i 0 == u) (pending_in s u) h;
    done = λ u h. h;
    marks = refl;
    counted = refl;
  }
    where
      again : (u : ℕ) → ((get_or s.known.nodes.now i 0 == u) ≡ true) ⊎ ((get_or s.known.nodes.now i 0 == u) ≡ false) → found_in s u ≡ ((get_or s.known.nodes.now i 0 == u) || found_in s u)
      again u (inl e) =
          let here = marked_at s.known.nodes.now s.marks.items i inside (omega (arith, inside, are.sized)) is in
          or_left (has_mark s.known.nodes.now s.marks.items u) (among s.others.found u) (subst (λ w. has_mark s.known.nodes.now s.marks.items w ≡ true) (eqb-true (get_or s.known.nodes.now i 0) u e) here)
          ∙ sym (ap (λ b. b || found_in s u) e)
      again u (inr e) = sym (ap (λ b. b || found_in s u) e)

  -- a node that is not known
  pub notes_other : (t : Search) (x : ℕ) → among s.known.nodes.now x ≡ false → t.known ≡ s.known → t.marks.items ≡ s.marks.items → t.places.items ≡ s.places.items → AreNamesNoted s.others t.others (just x) → Finds s t (just x)
  notes_other t x stranger known marks places noted =
      let us : t.known.nodes.now ≡ s.known.nodes.now = ap (λ k. k.nodes.now) known in
      let now_marked : (u : ℕ) → has_mark t.known.nodes.now t.marks.items u ≡ has_mark s.known.nodes.now s.marks.items u = λ u j. has_mark (us j) (marks j) u in
      let now_waits : (u : ℕ) → at_places t.known.nodes.now t.places.items u ≡ at_places s.known.nodes.now s.places.items u = λ u j. at_places (us j) (places j) u in
      let found : (u : ℕ) → found_in t u ≡ ((x == u) || found_in s u) = λ u.
      ap₂ (λ a b. a || b) (now_marked u) (noted.found u) ∙ later_first (has_mark s.known.nodes.now s.marks.items u) (x == u) (among s.others.found u) in
      record {
        known = known;
        search = record {
          known = subst (λ (xs : List ℕ). IsAscending xs) (sym us) are.known;
          sized = ap (λ (bs : List Bool). length bs) marks ∙ are.sized ∙ sym (ap (λ (xs : List ℕ). length xs) us);
          places = λ j h. subst (λ (xs : List ℕ). j < length xs) (sym us) (are.places j (ap (λ (xs : List ℕ). among xs j) (sym places) ∙ h));
          ascending = noted.ascending;
          apart = λ u h. ap (λ (xs : List ℕ). among xs u) us ∙ elim (or_cases (x == u) (among s.others.found u) (sym (noted.found u) ∙ h)) [
            | inl e ↦ subst (λ w. among s.known.nodes.now w ≡ false) (eqb-true x u e) stranger
            | inr i ↦ are.apart u i
          ];
          within = λ u h. noted.found u ∙ elim (or_cases (x == u) (among s.others.pending u) (noted.pending u h)) [
            | inl e ↦ or_left (x == u) (among s.others.found u) e
            | inr i ↦ or_right (x == u) (among s.others.found u) (are.within u i)
          ];
        };
        found = found;
        pending = λ u h. elim (or_cases (at_places t.known.nodes.now t.places.items u) (among t.others.pending u) h) [
          | inl i ↦ or_right (x == u) (pending_in s u) (or_left (at_places s.known.nodes.now s.places.items u) (among s.others.pending u) (sym (now_waits u) ∙ i))
          | inr i ↦ elim (or_cases (x == u) (among s.others.pending u) (noted.pending u i)) [
            | inl e ↦ or_left (x == u) (pending_in s u) e
            | inr k ↦ or_right (x == u) (pending_in s u) (or_right (at_places s.known.nodes.now s.places.items u) (among s.others.pending u) k)
          ]
        ];
        done = λ u h. done_then u (and_parts (found_in t u) (not (pending_in t u)) h).0 (not_pending u (and_parts (found_in t u) (not (pending_in t u)) h).1) (cases_Bool (among t.others.found u));
        marks = omega (arith, ap count_unmarked marks, ap (λ (xs : List ℕ). length xs) places);
        counted = noted.counted;
      }
    where
      off : (b : Bool) → not b ≡ true → b ≡ false
      off true e = absurd (false≢true e)
      off false e = refl

      parts : (a b : Bool) → (a || b) ≡ false → (a ≡ false) × (b ≡ false)
      parts true b h = absurd (true≢false h)
      parts false b h = (refl, h)

      not_pending : (u : ℕ) → not (pending_in t u) ≡ true → (at_places s.known.nodes.now s.places.items u ≡ false) × (among t.others.pending u ≡ false)
      not_pending u h =
          let p = parts (at_places t.known.nodes.now t.places.items u) (among t.others.pending u) (off (pending_in t u) h) in
          (sym (λ j. at_places (ap (λ k. k.nodes.now) known j) (places j) u) ∙ p.0, p.1)

      clear : (u : ℕ) → at_places s.known.nodes.now s.places.items u ≡ false → among s.others.pending u ≡ false → not (pending_in s u) ≡ true
      clear u a b = ap₂ (λ p q. not (p || q)) a b

      done_then : (u : ℕ) → found_in t u ≡ true → (at_places s.known.nodes.now s.places.items u ≡ false) × (among t.others.pending u ≡ false)
          → (among t.others.found u ≡ true) ⊎ (among t.others.found u ≡ false) → done_in s u ≡ true
      done_then u f p (inl i) =
          let d = noted.done u (and_from (among t.others.found u) (not (among t.others.pending u)) i (ap not p.1)) in
          let e = and_parts (among s.others.found u) (not (among s.others.pending u)) d in
          and_from (found_in s u) (not (pending_in s u)) (or_right (has_mark s.known.nodes.now s.marks.items u) (among s.others.found u) e.0) (clear u p.0 (off (among s.others.pending u) e.1))
      done_then u f p (inr n) = elim (or_cases (has_mark t.known.nodes.now t.marks.items u) (among t.others.found u) f) [
        | inl m ↦
            let old : has_mark s.known.nodes.now s.marks.items u ≡ true = sym (λ j. has_mark (ap (λ k. k.nodes.now) known j) (marks j) u) ∙ m in
            let idle : among s.others.pending u ≡ false = false_from_ne_true (among s.others.pending u) (λ w. true≢false (sym (marked_within s.known.nodes.now s.marks.items u old) ∙ are.apart u (are.within u w))) in
            and_from (found_in s u) (not (pending_in s u)) (or_left (has_mark s.known.nodes.now s.marks.items u) (among s.others.found u) old) (clear u p.0 idle)
        | inr i ↦ absurd (true≢false (sym i ∙ n))
      ]

-- ---- sets one after another
pub found_then : (r s t : Search) (a b : Names) → Finds r s a → Finds s t b → Finds r t (λ u. b u || a u)
found_then r s t a b first second = record {
  known = second.known ∙ first.known;
  search = second.search;
  found = λ u. second.found u ∙ (ap (λ f. b u || f) (first.found u) ∙ sym (both_found (b u) (a u) (found_in r u)));
  pending = λ u h. both_found (b u) (a u) (pending_in r u) ∙ elim (or_cases (b u) (pending_in s u) (second.pending u h)) [
    | inl i ↦ or_left (b u) (a u || pending_in r u) i
    | inr i ↦ or_right (b u) (a u || pending_in r u) (first.pending u i)
  ];
  done = λ u h. first.done u (second.done u h);
  marks = second.marks ∙ first.marks;
  counted = omega (arith, first.counted, second.counted);
}

pub found_same : (s t : Search) (a b : Names) → ((u : ℕ) → a u ≡ b u) → Finds s t a → Finds s t b
found_same s t a b same are = subst (λ (set : Names). Finds s t set) (fun_ext same) are

pub found_none : (s : Search) → IsSearch s → Finds s s (λ u. false)
found_none s are = record { known = refl; search = are; found = λ u. refl; pending = λ u h. h; done = λ u h. h; marks = refl; counted = refl }

-- ---- a pending node that is taken
module _ (s t : Search) (are : IsSearch s) (known : t.known ≡ s.known) (marks : t.marks.items ≡ s.marks.items) where
  us : t.known.nodes.now ≡ s.known.nodes.now
  us = ap (λ k. k.nodes.now) known

  now_marked : (u : ℕ) → has_mark t.known.nodes.now t.marks.items u ≡ has_mark s.known.nodes.now s.marks.items u
  now_marked u = λ j. has_mark (us j) (marks j) u

  -- a known one
  pub takes_place : (i : ℕ) → s.places.items ≡ t.places.items ++ i ∷ [] → t.others ≡ s.others → IsTakenFrom s t (get_or s.known.nodes.now i 0)
  takes_place i places others =
      let y = get_or s.known.nodes.now i 0 in
      let other_found : (u : ℕ) → among t.others.found u ≡ among s.others.found u = λ u. ap (λ (o : Swept). among o.found u) others in
      let other_pending : (u : ℕ) → among t.others.pending u ≡ among s.others.pending u = λ u. ap (λ (o : Swept). among o.pending u) others in
      let waiting : (u : ℕ) → pending_in s u ≡ ((at_places s.known.nodes.now t.places.items u || ((y == u) || false)) || among s.others.pending u) = λ u.
      ap (λ b. b || among s.others.pending u) (ap (λ (xs : List ℕ). at_places s.known.nodes.now xs u) places ∙ waits s.known.nodes.now t.places.items i u) in
      let left : (u : ℕ) → pending_in t u ≡ (at_places s.known.nodes.now t.places.items u || among s.others.pending u) = λ u.
      ap₂ (λ a b. a || b) (ap (λ (ns : List ℕ). at_places ns t.places.items u) us) (other_pending u) in
      let found : (u : ℕ) → found_in t u ≡ found_in s u = λ u. ap₂ (λ a b. a || b) (now_marked u) (other_found u) in
      record {
        known = known;
        search = record {
          known = subst (λ (xs : List ℕ). IsAscending xs) (sym us) are.known;
          sized = ap (λ (bs : List Bool). length bs) marks ∙ are.sized ∙ sym (ap (λ (xs : List ℕ). length xs) us);
          places = λ j h. subst (λ (xs : List ℕ). j < length xs) (sym us) (are.places j (ap (λ (xs : List ℕ). among xs j) places ∙ (among_append t.places.items (i ∷ []) j ∙ or_left (among t.places.items j) ((i == j) || false) h)));
          ascending = subst (λ (o : Swept). IsAscending o.found) (sym others) are.ascending;
          apart = λ u h. ap (λ (xs : List ℕ). among xs u) us ∙ are.apart u (sym (other_found u) ∙ h);
          within = λ u h. other_found u ∙ are.within u (sym (other_pending u) ∙ h);
        };
        found = found;
        pending = waiting y ∙ was_there (at_places s.known.nodes.now t.places.items y) (among s.others.pending y) (y == y) (eq-eqb y y refl);
        others = λ u h. waiting u ∙ still_there (at_places s.known.nodes.now t.places.items u) (among s.others.pending u) (y == u) (sym (left u) ∙ h);
        done = λ u h. this_or (y == u) (found_in s u) (at_places s.known.nodes.now t.places.items u) (among s.others.pending u) (pending_in s u) (waiting u) (sym (ap₂ (λ a b. a && not b) (found u) (left u)) ∙ h);
        same = ap (λ (o : Swept). o.found) others;
        counted = omega (arith, ap count_unmarked marks, ap (λ (xs : List ℕ). length xs) places, length-append t.places.items (i ∷ []), ap (λ (o : Swept). length o.pending) others);
      }
    where
      was_there : (p q b : Bool) → b ≡ true → ((p || (b || false)) || q) ≡ true
      was_there true q b e = refl
      was_there false q true e = refl
      was_there false q false e = absurd (false≢true e)

      still_there : (p q b : Bool) → (p || q) ≡ true → ((p || (b || false)) || q) ≡ true
      still_there true q b h = refl
      still_there false q true h = refl
      still_there false q false h = h

      this_or : (b f p q w : Bool) → w ≡ ((p || (b || false)) || q) → (f && not (p || q)) ≡ true → (b || (f && not w)) ≡ true
      this_or true f p q w is h = refl
      this_or false f p q w is h = ap (λ x. f && not x) (is ∙ ap (λ x. x || q) (plain p)) ∙ h
        where
          plain : (p : Bool) → (p || (false || false)) ≡ p
          plain true = refl
          plain false = refl

  -- another one, where no known one is pending
  pub takes_other : (u : ℕ) → s.places.items ≡ [] → t.places.items ≡ [] → IsNameTaken s.others t.others u → IsTakenFrom s t u
  takes_other u none still taken =
      let other_found : (w : ℕ) → among t.others.found w ≡ among s.others.found w = λ w. ap (λ (xs : List ℕ). among xs w) taken.found in
      let waiting : (w : ℕ) → pending_in s w ≡ among s.others.pending w = λ w. ap (λ (xs : List ℕ). at_places s.known.nodes.now xs w || among s.others.pending w) none in
      let left : (w : ℕ) → pending_in t w ≡ among t.others.pending w = λ w. ap (λ (xs : List ℕ). at_places t.known.nodes.now xs w || among t.others.pending w) still in
      let found : (w : ℕ) → found_in t w ≡ found_in s w = λ w. ap₂ (λ a b. a || b) (now_marked w) (other_found w) in
      record {
        known = known;
        search = record {
          known = subst (λ (xs : List ℕ). IsAscending xs) (sym us) are.known;
          sized = ap (λ (bs : List Bool). length bs) marks ∙ are.sized ∙ sym (ap (λ (xs : List ℕ). length xs) us);
          places = λ j h. absurd (false≢true (sym (ap (λ (xs : List ℕ). among xs j) still) ∙ h));
          ascending = subst (λ (xs : List ℕ). IsAscending xs) (sym taken.found) are.ascending;
          apart = λ w h. ap (λ (xs : List ℕ). among xs w) us ∙ are.apart w (sym (other_found w) ∙ h);
          within = λ w h. other_found w ∙ are.within w (taken.others w h);
        };
        found = found;
        pending = waiting u ∙ taken.pending;
        others = λ w h. waiting w ∙ taken.others w (sym (left w) ∙ h);
        done = λ w h. this_one w (and_parts (found_in t w) (not (pending_in t w)) h).0 (ap not (sym (left w)) ∙ (and_parts (found_in t w) (not (pending_in t w)) h).1) (found w) (waiting w);
        same = taken.found;
        counted = omega (arith, ap count_unmarked marks, ap (λ (xs : List ℕ). length xs) none, ap (λ (xs : List ℕ). length xs) still, taken.counted);
      }
    where
      this_one : (w : ℕ) → found_in t w ≡ true → not (among t.others.pending w) ≡ true → found_in t w ≡ found_in s w → pending_in s w ≡ among s.others.pending w → ((u == w) || done_in s w) ≡ true
      this_one w f p same waiting = elim (cases_Bool (among t.others.found w)) [
        | inl i ↦ elim (or_cases (u == w) (is_done s.others w) (taken.done w (and_from (among t.others.found w) (not (among t.others.pending w)) i p))) [
          | inl e ↦ or_left (u == w) (done_in s w) e
          | inr d ↦ or_right (u == w) (done_in s w) (and_from (found_in s w) (not (pending_in s w)) (sym same ∙ f) (ap not waiting ∙ (and_parts (among s.others.found w) (not (among s.others.pending w)) d).1))
        ]
        | inr n ↦
            let idle : among s.others.pending w ≡ false = false_from_ne_true (among s.others.pending w) (λ h. true≢false (sym (ap (λ (xs : List ℕ). among xs w) taken.found ∙ are.within w h) ∙ n)) in
            or_right (u == w) (done_in s w) (and_from (found_in s w) (not (pending_in s w)) (sym same ∙ f) (ap not (waiting ∙ idle)))
      ]

-- ---- none is left
pub is_over : (s t : Search) → IsSearch s → t.known ≡ s.known → t.marks.items ≡ s.marks.items → t.places.items ≡ s.places.items → t.others ≡ s.others → s.places.items ≡ [] → s.others.pending ≡ [] → IsOver s t
is_over s t are known marks places others none idle = record {
  over = λ u. ap₂ (λ (xs ys : List ℕ). at_places s.known.nodes.now xs u || among ys u) none idle;
  search = subst (λ (x : KnownNodes × List Bool × List ℕ × Swept). IsSearchOf x.0 x.1 x.2 x.3) (λ i. (sym known i, sym marks i, sym places i, sym others i)) are;
  found = λ u i. has_mark (known i).nodes.now (marks i) u || among (others i).found u;
}
