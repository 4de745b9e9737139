-- A sweep from the rows of one sender: what holds before it, at each of its steps and at its end; and what a narrow reach is with all that it finds.
use Rattle.std.proofs.Common.{◌≡◌, ◌≢◌, ℕ, ◌<◌, ◌≤◌, ◌-◌, Bool, true, false, not, ◌==◌, ◌||◌, List, [], ◌∷◌, ◌++◌, flat_map, map, length, length-append, get_or, refl, sym, ◌∙◌, ap, subst, inl, inr, arith, IsTrue}
use Rattle.std.specs.Prelude.{AllPairs}
use Rattle.std.proofs.Math.Path.{fun_ext}
use Rattle.std.proofs.lemmas.List.{get_or_append_left, get_or-append_right}
use Rattle.std.proofs.lemmas.List.Folds.{list_any_at}
use Rattle.std.proofs.lemmas.Bool.{cases_Bool, cases_lt, or_cases, or_left, or_right, and_from, and_parts, eqb-true, eq-eqb, false≢true, true≢false}
use Rattle.scp_types.specs.Statements.{Sent, kind_of}
use Rattle.scp_types.specs.Trees.{Slices}
use Rattle.scp_spec.specs.Sets.{Names, among, AreApart, AreWithin, IsAscending}
use Rattle.scp_spec.specs.Satisfaction.{names}
use Rattle.scp_spec.specs.Quorums.{NamesWithin}
use Rattle.scp_spec.specs.Backing.{slices_by}
use Rattle.scp_spec.specs.Rows.{has_single_rows}
use Rattle.scp_spec.specs.Reach.{reach_of, rule_of, HoldsReach, IsReach}
use Rattle.scp_spec.proofs.Sets.Finite.{among_head, among_tail, same_test}
use Rattle.scp_spec.proofs.Sets.Least.{given_by_rule}
use Rattle.scp_spec.proofs.Sets.Mapped.{mapped_to}
use Rattle.scp_spec.proofs.Reach.Chains.{reached-holds, reached-in, reach_names}
use Rattle.scp_spec.proofs.Statements.Found.{row_found}
use Rattle.node_reach.specs.Sweeps.{Swept, is_done, AreNamesNoted, IsNameTaken, names_in_rows_of, unknown}
use Rattle.node_reach.specs.Widening.{AreLedTo, HoldsRows, IsNarrow, in_either}
use Rattle.node_reach.proofs.Dropped.{named_held}
use Rattle.node_reach.proofs.Underway.{in_one_row, no_longer}

module _ (table : List Sent) (known : List ℕ) (sender : ℕ) where
  -- between two steps: what was looked at names nothing but known and found nodes, none of these is known, and all of them are led to
  pub record IsWidening (s : Swept) : Type 0 where
    pub ascending : IsAscending s.found
    pub within : AreWithin (among s.pending) (among s.found)
    pub others : AreApart (among s.found) (among known)
    pub first : AreWithin (names_in_rows_of table sender) (in_either known s.found)
    pub rows : (u : ℕ) → IsTrue (is_done s u) → AreWithin (names_in_rows_of table u) (in_either known s.found)
    pub least : (u : ℕ) → IsTrue (among s.found u) → (set : Names) → HoldsRows table set → IsTrue (set sender) → IsTrue (set u)

  -- what is named is known, or is noted
  now_there : (s t : Swept) (set : Names) → AreNamesNoted s t (unknown known set) → AreWithin set (in_either known t.found)
  now_there s t set a u h = elim (cases_Bool (among known u)) [
    | inl k ↦ or_left (among known u) (among t.found u) k
    | inr n ↦ or_right (among known u) (among t.found u) (a.found u ∙ or_left (unknown known set u) (among s.found u) (and_from (not (among known u)) (set u) (ap not n) h))
  ]

  still_there : (s t : Swept) (set : Names) → AreNamesNoted s t set → AreWithin (in_either known s.found) (in_either known t.found)
  still_there s t set a u h = elim (or_cases (among known u) (among s.found u) h) [
    | inl k ↦ or_left (among known u) (among t.found u) k
    | inr f ↦ or_right (among known u) (among t.found u) (a.found u ∙ or_right (set u) (among s.found u) f)
  ]

  -- a noted name is not known, and it is one of the set
  parts_of : (set : Names) (u : ℕ) → unknown known set u ≡ true → (among known u ≡ false) × (set u ≡ true)
  parts_of set u h = let p = and_parts (not (among known u)) (set u) h in (off (among known u) p.0, p.1)
    where
      off : (b : Bool) → not b ≡ true → b ≡ false
      off true e = absurd (false≢true e)
      off false e = refl

  pub begins : (t : Swept) → AreNamesNoted (record { found = []; pending = [] }) t (unknown known (names_in_rows_of table sender)) → IsWidening t
  begins t a =
      let nothing : Swept = record { found = []; pending = [] } in
      let new : (u : ℕ) → IsTrue (among t.found u) → unknown known (names_in_rows_of table sender) u ≡ true = λ u h. elim (or_cases (unknown known (names_in_rows_of table sender) u) false (sym (a.found u) ∙ h)) [
        | inl i ↦ i
        | inr i ↦ absurd (false≢true i)
      ] in
      record {
        ascending = a.ascending;
        within = λ u h. elim (or_cases (unknown known (names_in_rows_of table sender) u) false (a.pending u h)) [
          | inl i ↦ a.found u ∙ or_left (unknown known (names_in_rows_of table sender) u) false i
          | inr i ↦ absurd (false≢true i)
        ];
        others = λ u h. (parts_of (names_in_rows_of table sender) u (new u h)).0;
        first = now_there nothing t (names_in_rows_of table sender) a;
        rows = λ u h. absurd (false≢true (a.done u h));
        least = λ u h set holds s. named_held table sender u set holds s (parts_of (names_in_rows_of table sender) u (new u h)).1;
      }

  pub goes_on : (s t r : Swept) (u : ℕ) → IsWidening s → IsNameTaken s t u → AreNamesNoted t r (unknown known (names_in_rows_of table u)) → IsWidening r
  goes_on s t r u way taken noted =
      let was : (w : ℕ) → among t.found w ≡ among s.found w = λ w. ap (λ (xs : List ℕ). among xs w) taken.found in
      let still : AreWithin (in_either known s.found) (in_either known r.found) = λ w h. still_there t r (unknown known (names_in_rows_of table u)) noted w (ap (λ b. among known w || b) (was w) ∙ h) in
      let here = way.within u taken.pending in
      record {
        ascending = noted.ascending;
        within = λ w h. noted.found w ∙ elim (or_cases (unknown known (names_in_rows_of table u) w) (among t.pending w) (noted.pending w h)) [
          | inl i ↦ or_left (unknown known (names_in_rows_of table u) w) (among t.found w) i
          | inr i ↦ or_right (unknown known (names_in_rows_of table u) w) (among t.found w) (was w ∙ way.within w (taken.others w i))
        ];
        others = λ w h. elim (or_cases (unknown known (names_in_rows_of table u) w) (among t.found w) (sym (noted.found w) ∙ h)) [
          | inl i ↦ (parts_of (names_in_rows_of table u) w i).0
          | inr i ↦ way.others w (sym (was w) ∙ i)
        ];
        first = λ w h. still w (way.first w h);
        rows = λ w h. elim (or_cases (u == w) (is_done s w) (taken.done w (noted.done w h))) [
          | inl e ↦ λ x i. now_there t r (names_in_rows_of table u) noted x (subst (λ v. IsTrue (names_in_rows_of table v x)) (sym (eqb-true u w e)) i)
          | inr d ↦ λ x i. still x (way.rows w d x i)
        ];
        least = λ w h set holds s. elim (or_cases (unknown known (names_in_rows_of table u) w) (among t.found w) (sym (noted.found w) ∙ h)) [
          | inl i ↦ named_held table u w set holds (way.least u here set holds s) (parts_of (names_in_rows_of table u) w i).1
          | inr i ↦ way.least w (sym (was w) ∙ i) set holds s
        ];
      }

  -- ---- the end: nothing is pending
  pub led_to : (s : Swept) → IsWidening s → s.pending ≡ [] → AreLedTo table known sender s.found
  led_to s way over = record {
    ascending = way.ascending;
    others = way.others;
    first = way.first;
    rows = λ u h. way.rows u (and_from (among s.found u) (not (among s.pending u)) h (ap (λ (xs : List ℕ). not (among xs u)) over));
    least = way.least;
  }

  -- ---- how many names can be found: no more than the sender and all rows name
  pub all_names : List ℕ
  all_names = sender ∷ flat_map (λ r. r.gives) (map rule_of table)

  pub widening_bound : (s : Swept) → IsWidening s → length s.found ≤ length all_names
  unfolding all_names
  widening_bound s way =
      let rest = flat_map (λ r. r.gives) (map rule_of table) in
      no_longer s.found (sender ∷ rest) way.ascending
      (λ u h. way.least u h (among (sender ∷ rest)) (λ e c s w i. among_tail sender w rest (given_by_rule (map rule_of table) (rule_of e) w (mapped_to rule_of table e c) i)) (among_head sender rest))

-- ---- a narrow reach, with the nodes to which the sender's rows lead
module _ (own : ℕ) (configured : Slices) (table : List Sent) (sender : ℕ) (known found : List ℕ) (single : has_single_rows table ≡ true) (narrow : IsNarrow own configured table sender known) (led : AreLedTo table known sender found) where
  holds_all : HoldsReach own configured table (in_either known found)
  holds_all = record {
    itself = or_left (among known own) (among found own) narrow.itself;
    configuration = λ u h. or_left (among known u) (among found u) (narrow.configuration u h);
    rows = λ e c h w i.
        let named = in_one_row own configured table e (kind_of e.body) w (row_found table e single c) i in
        elim (or_cases (among known e.sender) (among found e.sender) h) [
          | inl k ↦ elim (cases_Bool (e.sender == sender)) [
            | inl its ↦ led.first w (subst (λ v. IsTrue (names_in_rows_of table v w)) (eqb-true e.sender sender its) named)
            | inr other ↦ or_left (among known w) (among found w) (narrow.rows e.sender k (λ same. true≢false (sym (eq-eqb e.sender sender same) ∙ other)) w named)
          ]
          | inr f ↦ led.rows e.sender f w named
        ];
  }

  all_reached : AreWithin (in_either known found) (reach_of own configured table)
  all_reached u h = elim (or_cases (among known u) (among found u) h) [
    | inl k ↦ narrow.sound u k
    | inr f ↦ led.least u f (reach_of own configured table) (reached-holds own configured table).rows (narrow.sound sender narrow.there)
  ]

  -- as one ascending list they are the reach
  pub reach_of_all : (all : List ℕ) → IsAscending all → ((u : ℕ) → among all u ≡ in_either known found u) → IsReach own configured table all
  reach_of_all all up is =
      let exactly : (u : ℕ) → among all u ≡ reach_of own configured table u = λ u. is u ∙ same_test (in_either known found u) (reach_of own configured table u) (all_reached u) (reached-in own configured table (in_either known found) holds_all u) in
      record {
        ascending = up;
        exactly = exactly;
        closed = λ kind. subst (λ (set : Names). NamesWithin names (slices_by own configured table kind) set) (sym (fun_ext exactly)) (reach_names own configured table kind);
      }

-- ---- two ascending lists of other names, put together
pub names_differ : (xs ys : List ℕ) → IsAscending xs → IsAscending ys → AreApart (among ys) (among xs) → AllPairs (λ x y. x ≢ y) (xs ++ ys)
names_differ xs ys up vp apart i j d l h same = elim (cases_lt j (length xs)) [
  | inl within ↦
      let low : get_or xs i d < get_or xs j d = up i j d l within in
      let e : get_or xs i d ≡ get_or xs j d = sym (get_or_append_left xs ys d i (omega (arith, l, within))) ∙ (same ∙ get_or_append_left xs ys d j within) in
      absurd (omega (arith, low, e))
  | inr past ↦
      let k = j - length xs in
      let room : k < length ys = omega (arith, h, past, length-append xs ys) in
      let second : get_or (xs ++ ys) j d ≡ get_or ys k d = get_or-append_right xs ys (length xs) j d refl past in
      elim (cases_lt i (length xs)) [
        | inl within ↦
            let e : get_or xs i d ≡ get_or ys k d = sym (get_or_append_left xs ys d i within) ∙ (same ∙ second) in
            let x = get_or xs i d in
            let there : among xs x ≡ true = list_any_at (λ y. y == x) xs i d within (eq-eqb x x refl) in
            let also_there : among ys x ≡ true = list_any_at (λ y. y == x) ys k d room (eq-eqb (get_or ys k d) x (sym e)) in
            true≢false (sym there ∙ apart x also_there)
        | inr beyond ↦
            let m = i - length xs in
            let first : get_or (xs ++ ys) i d ≡ get_or ys m d = get_or-append_right xs ys (length xs) i d refl beyond in
            let low : get_or ys m d < get_or ys k d = vp m k d (omega (arith, l, beyond, past)) room in
            let e : get_or ys m d ≡ get_or ys k d = sym first ∙ (same ∙ second) in
            absurd (omega (arith, low, e))
      ]
]
