-- The order of members: what a turn gives joins ascending, and turn follows upon turn.
use Rattle.std.proofs.Common.{◌≡◌, ◌≢◌, ℕ, ◌+◌, ◌<◌, ◌≤◌, Bool, true, false, ◌||◌, ◌==◌, List, [], ◌∷◌, ◌++◌, length, take, get_or, map, slice_get, Some, if◌then◌else◌, refl, sym, ◌∙◌, ap, subst, inl, inr, arith, append_assoc}
use Rattle.std.specs.List.Sorted.{IsPermutation, IsSorted}
use Rattle.std.proofs.Math.Path.{fun_ext}
use Rattle.std.proofs.lemmas.Bool.{or_cases, or_left, or_right, eqb-true, true≢false, false≢true}
use Rattle.std.proofs.lemmas.List.{append-nil, take_more, map_push}
use Rattle.std.proofs.lemmas.List.Quantifiers.{all_pairs_push}
use Rattle.std.proofs.lemmas.List.Sorted.{IsNonDecreasingBy-from_sort, list_any-IsPermutation}
use Rattle.std.proofs.lemmas.Option.{slice_get_within, slice_get-get_or, get_or_from_slice_get}
use Rattle.scp_types.specs.contracts.node_id.NodeIdOrd.TheImpl.{ghosts as ord}
use Rattle.scp_types.proofs.NameOrder.{name_cmp_is}
use Rattle.scp_spec.specs.Sets.{among, AreApart, AreWithin, IsAscending}
use Rattle.scp_spec.specs.Networks.{HostedNode}
use Rattle.scp_spec.specs.Hosts.{Entry}
use Rattle.scp_spec.proofs.Sets.Finite.{among_head}
use Rattle.host_closure.specs.Announcing.{IsTurn, MemberList, member_names}
use Rattle.host_closure.specs.Turns.{AreInOrder, IsGiven, with_member}
use Rattle.host_closure.proofs.NameLookups.{among_append}
use Rattle.host_closure.proofs.ClosureSteps.{among_at, place_taken}

-- what a sort of names gives is in order, and has the same names
pub sorted_in_order : (xs : List ℕ) → IsSorted ord.cmp xs → AreInOrder xs
sorted_in_order xs sorted i j d l m =
    let by_number = subst (λ f. IsSorted f xs) (fun_ext (λ x. fun_ext (λ y. name_cmp_is x y))) sorted in
    IsNonDecreasingBy-from_sort (λ x. x) xs by_number i j d (omega (arith, l)) m

pub sorted_same : (xs ys : List ℕ) (u : ℕ) → IsPermutation xs ys → among ys u ≡ among xs u
sorted_same xs ys u moved = sym (list_any-IsPermutation (λ x. x == u) xs ys moved)

-- names that join stand behind those that were there
names_with : (list : MemberList) (place : ℕ) (joined : List ℕ) → member_names (list ++ map (λ u. (u, place)) joined) ≡ member_names list ++ joined
names_with [] place [] = refl
names_with [] place (u ∷ us) = ap (λ (xs : List ℕ). u ∷ xs) (names_with [] place us)
names_with (m ∷ list) place us = ap (λ (xs : List ℕ). m.0 ∷ xs) (names_with list place us)

-- the names that were given so far have joined, ascending, where they were missing
pub record IsTurning (place : ℕ) (initial now : MemberList) (given : List ℕ) : Type 0 where
  pub joined : List ℕ
  pub ascending : IsAscending joined
  pub of_given : AreWithin (among joined) (among given)
  pub missing : AreApart (among joined) (among (member_names initial))
  pub held : AreWithin (among given) (among (member_names now))
  pub is : now ≡ initial ++ map (λ u. (u, place)) joined

pub turning_begins : (place : ℕ) (list : MemberList) → IsTurning place list list []
turning_begins place list = record {
  joined = [];
  ascending = λ i j d l m. absurd (omega (arith, m));
  of_given = λ u h. h;
  missing = λ u h. absurd (false≢true h);
  held = λ u h. absurd (false≢true h);
  is = sym (append-nil list);
}

names_now : (place : ℕ) (initial now : MemberList) (given : List ℕ) (way : IsTurning place initial now given) (u : ℕ) → among (member_names now) u ≡ (among (member_names initial) u || among way.joined u)
names_now place initial now given way u =
    ap (λ (list : MemberList). among (member_names list) u) way.is ∙ (ap (λ (xs : List ℕ). among xs u) (names_with initial place way.joined) ∙ among_append (member_names initial) way.joined u)

-- with one more
module _ (place x : ℕ) (initial now : MemberList) (given : List ℕ) (way : IsTurning place initial now given)
    (last : (y : ℕ) → among given y ≡ true → y ≤ x) where
  more : AreWithin (among given) (among (given ++ x ∷ []))
  more u h = among_append given (x ∷ []) u ∙ or_left (among given u) (among (x ∷ []) u) h

  this : among (given ++ x ∷ []) x ≡ true
  this = among_append given (x ∷ []) x ∙ or_right (among given x) (among (x ∷ []) x) (among_head x [])

  -- each is held that was, and the one more
  both : (new : MemberList) → AreWithin (among (member_names now)) (among (member_names new)) → among (member_names new) x ≡ true → AreWithin (among (given ++ x ∷ [])) (among (member_names new))
  both new f h u m = elim (or_cases (among given u) (among (x ∷ []) u) (sym (among_append given (x ∷ []) u) ∙ m)) [
    | inl k ↦ f u (way.held u k)
    | inr k ↦ elim (or_cases (x == u) false k) [ inl e ↦ subst (λ y. among (member_names new) y ≡ true) (eqb-true x u e) h | inr e ↦ absurd (false≢true e) ]
  ]

  -- a name that joined is less than one that is missing still
  less : among (member_names now) x ≡ false → (k d : ℕ) → k < length way.joined → get_or way.joined k d < x
  less none k d l =
      let at = slice_get-get_or way.joined k d l in
      let there : among way.joined (get_or way.joined k d) ≡ true = among_at way.joined k (get_or way.joined k d) at in
      let most : get_or way.joined k d ≤ x = last (get_or way.joined k d) (way.of_given (get_or way.joined k d) there) in
      let held : among (member_names now) (get_or way.joined k d) ≡ true = way.held (get_or way.joined k d) (way.of_given (get_or way.joined k d) there) in
      let other : get_or way.joined k d ≢ x = λ e. true≢false (sym (subst (λ y. among (member_names now) y ≡ true) e held) ∙ none) in
      omega (arith, most, other)

  goes_on : (b : Bool) → among (member_names now) x ≡ b → IsTurning place initial (if b then now else now ++ (x, place) ∷ []) (given ++ x ∷ [])
  goes_on true e = record { joined = way.joined; ascending = way.ascending; of_given = λ u h. more u (way.of_given u h); missing = way.missing; held = both now (λ u h. h) e; is = way.is }
  goes_on false e = record {
    joined = way.joined ++ x ∷ [];
    ascending = all_pairs_push (λ y z. y < z) way.joined x way.ascending (λ k d l. less e k d l);
    of_given = λ u h. elim (or_cases (among way.joined u) (among (x ∷ []) u) (sym (among_append way.joined (x ∷ []) u) ∙ h)) [
      | inl k ↦ more u (way.of_given u k)
      | inr k ↦ elim (or_cases (x == u) false k) [ inl f ↦ subst (λ y. among (given ++ x ∷ []) y ≡ true) (eqb-true x u f) this | inr f ↦ absurd (false≢true f) ]
    ];
    missing = λ u h. elim (or_cases (among way.joined u) (among (x ∷ []) u) (sym (among_append way.joined (x ∷ []) u) ∙ h)) [
      | inl k ↦ way.missing u k
      | inr k ↦ elim (or_cases (x == u) false k) [ inl f ↦ subst (λ y. among (member_names initial) y ≡ false) (eqb-true x u f) missing_then | inr f ↦ absurd (false≢true f) ]
    ];
    held = both (now ++ (x, place) ∷ []) (λ u h. ap (λ (xs : List ℕ). among xs u) names_more ∙ (among_append (member_names now) (x ∷ []) u ∙ or_left (among (member_names now) u) (among (x ∷ []) u) h))
        (ap (λ (xs : List ℕ). among xs x) names_more ∙ (among_append (member_names now) (x ∷ []) x ∙ or_right (among (member_names now) x) (among (x ∷ []) x) (among_head x [])));
    is = ap (λ (list : MemberList). list ++ (x, place) ∷ []) way.is
        ∙ (append_assoc initial (map (λ u. (u, place)) way.joined) ((x, place) ∷ []) ∙ ap (λ (list : MemberList). initial ++ list) (sym (map_push (λ u. (u, place)) way.joined x)));
  }
    where
      names_more : member_names (now ++ (x, place) ∷ []) ≡ member_names now ++ x ∷ []
      names_more = map_push (λ m. m.0) now (x, place)

      missing_then : among (member_names initial) x ≡ false
      missing_then = go (among (member_names initial) x) refl
        where
          go : (b : Bool) → among (member_names initial) x ≡ b → b ≡ false
          go false q = refl
          go true q = absurd (true≢false (sym (names_now place initial now given way x ∙ or_left (among (member_names initial) x) (among way.joined x) q) ∙ e))

-- the name at an index joins
pub turning_goes_on : (place n x : ℕ) (initial now : MemberList) (given : List ℕ) → AreInOrder given → slice_get given n ≡ Some x → IsTurning place initial now (take n given)
    → IsTurning place initial (with_member now x place) (take (n + 1) given)
turning_goes_on place n x initial now given up at way =
    let within : n < length given = slice_get_within given n x at in
    let taken : take (n + 1) given ≡ take n given ++ x ∷ [] = take_more given n x within ∙ ap (λ y. take n given ++ y ∷ []) (get_or_from_slice_get given n x x at) in
    subst (λ (xs : List ℕ). IsTurning place initial (with_member now x place) xs) (sym taken)
    (goes_on place x initial now (take n given) way (λ y h.
    let before = place_taken given n y h in
    let below = before.1 in
    let rises = up before.0 n x below within in
    let this : get_or given before.0 x ≡ y = get_or_from_slice_get given before.0 y x before.2 in
    let that : get_or given n x ≡ x = get_or_from_slice_get given n x x at in
    omega (arith, rises, this, that))
    (among (member_names now) x) refl)

-- where all that was given has joined, that was the turn
pub turn_is_made : (nodes : List HostedNode) (i : ℕ) (run : List Entry) (w place : ℕ) (old new : MemberList) (given : List ℕ) → IsTurning place old new given → IsGiven nodes i run (member_names old) w given
    → IsTurn nodes i run w place old new
turn_is_made nodes i run w place old new given way sound = record {
  joined = way.joined;
  ascending = way.ascending;
  named = λ u h. sound.sound u (way.of_given u h);
  missing = way.missing;
  all = λ u named missing. elim (sound.complete u named) [
    | inl m ↦ absurd (true≢false (sym m ∙ missing))
    | inr g ↦ elim (or_cases (among (member_names old) u) (among way.joined u) (sym (names_now place old new given way u) ∙ way.held u g)) [
      | inl m ↦ absurd (true≢false (sym m ∙ missing))
      | inr k ↦ k
    ]
  ];
  is = way.is;
}
