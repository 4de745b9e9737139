-- The index of a list of rows, and what one row more and one row replaced make of it.
use Rattle.std.proofs.Common.{◌≡◌, ◌≢◌, ℕ, zero, suc, ◌<◌, ◌≤◌, Bool, true, false, cond, ◌&&◌, ◌||◌, ◌==◌, ltb, List, [], ◌∷◌, ◌++◌, length, get_or, set, map, Option, Some, None, option_map, is_some, if◌then◌else◌, refl, sym, ◌∙◌, ap, ap₂, arith, subst}
use Rattle.std.specs.List.{All, AllPairs, list_all, list_any, fold, find}
use Rattle.std.proofs.lemmas.Bool.{and_parts, and_from, or_parts, ltb-true, ltb-false, lt-ltb, eqb-true, eqb-false, eq-eqb, ne_eqb}
use Rattle.std.proofs.lemmas.List.Elements.{All-nil, All-cons}
use Rattle.std.proofs.lemmas.List.Kept.{AllPairs-cons}
use Rattle.std.proofs.lemmas.List.Sums.{fold-append}
use Rattle.scp_types.specs.declared.kind.Kind.{Kind}
use Rattle.scp_types.specs.declared.kind.Kind.TheVariants.{Nomination}
use Rattle.scp_types.specs.Statements.{Sent, kind_of}
use Rattle.scp_spec.specs.Rows.{is_kind, is_row_of, row, with_row}
use Rattle.scp_spec.proofs.Statements.Offers.{is_row_of-parts, is_row_of-alike}
use Rattle.node_table.specs.Senders.{with_name, senders}
use Rattle.node_table.specs.Places.{Places, place_by, place_of_row, places_of, index_of, ascends, place_in_index, index_with_place, place_in, only_place, with_place}

-- ---- places in a list
pub place-within : {X : Type 0} (p : X → Bool) (xs : List X) (i : ℕ) (d : X) → place_by p xs ≡ Some i → (i < length xs) × (find p xs ≡ Some (get_or xs i d)) × (p (get_or xs i d) ≡ true)
place-within p [] i d h = cc
place-within {X} p (x ∷ xs) i d h = go (p x) (place_by p xs) refl refl h (λ j. place-within p xs j d)
  where
    go : (b : Bool) (o : Option ℕ) → p x ≡ b → place_by p xs ≡ o → cond b (Some 0) (option_map suc o) ≡ Some i → ((j : ℕ) → place_by p xs ≡ Some j → (j < length xs) × (find p xs ≡ Some (get_or xs j d)) × (p (get_or xs j d) ≡ true)) → (i < length (x ∷ xs)) × (find p (x ∷ xs) ≡ Some (get_or (x ∷ xs) i d)) × (p (get_or (x ∷ xs) i d) ≡ true)
    go true o e f g ih =
        let z : i ≡ 0 = cc in
        subst (λ k. (k < length (x ∷ xs)) × (find p (x ∷ xs) ≡ Some (get_or (x ∷ xs) k d)) × (p (get_or (x ∷ xs) k d) ≡ true)) (sym z) (omega arith, ap (λ b. cond b (Some x) (find p xs)) e, e)
    go false None e f g ih = cc
    go false (Some j) e f g ih =
        let z : i ≡ suc j = cc in
        let r = ih j f in
        subst (λ k. (k < length (x ∷ xs)) × (find p (x ∷ xs) ≡ Some (get_or (x ∷ xs) k d)) × (p (get_or (x ∷ xs) k d) ≡ true)) (sym z) (omega arith, ap (λ b. cond b (Some x) (find p xs)) e ∙ r.1, r.2)

pub place-nowhere : {X : Type 0} (p : X → Bool) (xs : List X) → place_by p xs ≡ None → find p xs ≡ None
place-nowhere p [] h = refl
place-nowhere p (x ∷ xs) h = go (p x) (place_by p xs) refl h (place-nowhere p xs)
  where
    go : (b : Bool) (o : Option ℕ) → place_by p xs ≡ o → cond b (Some 0) (option_map suc o) ≡ None → (place_by p xs ≡ None → find p xs ≡ None) → cond b (Some x) (find p xs) ≡ None
    go true o f g ih = cc
    go false None f g ih = ih f
    go false (Some j) f g ih = cc

-- an element more that fails
place-past : {X : Type 0} (p : X → Bool) (xs : List X) (y : X) → p y ≡ false → place_by p (xs ++ y ∷ []) ≡ place_by p xs
place-past p [] y h = ap (λ b. cond b (Some 0) None) h
place-past p (x ∷ xs) y h = ap (λ o. cond (p x) (Some 0) (option_map suc o)) (place-past p xs y h)

-- an element more that is the first to pass
place-new : {X : Type 0} (p : X → Bool) (xs : List X) (y : X) → p y ≡ true → place_by p xs ≡ None → place_by p (xs ++ y ∷ []) ≡ Some (length xs)
place-new p [] y h n = ap (λ b. cond b (Some 0) None) h
place-new p (x ∷ xs) y h n = go (p x) (place_by p xs) refl n (place-new p xs y h)
  where
    go : (b : Bool) (o : Option ℕ) → place_by p xs ≡ o → cond b (Some 0) (option_map suc o) ≡ None → (place_by p xs ≡ None → place_by p (xs ++ y ∷ []) ≡ Some (length xs)) → cond b (Some 0) (option_map suc (place_by p (xs ++ y ∷ []))) ≡ Some (length (x ∷ xs))
    go true o f g ih = cc
    go false None f g ih = ap (option_map suc) (ih f)
    go false (Some j) f g ih = cc

-- an element replaced by one that passes alike
pub place-set : {X : Type 0} (p : X → Bool) (xs : List X) (i : ℕ) (y d : X) → p (get_or xs i d) ≡ p y → place_by p (set xs i y) ≡ place_by p xs
place-set p [] i y d h = refl
place-set p (x ∷ xs) zero y d h = ap (λ b. cond b (Some 0) (option_map suc (place_by p xs))) (sym h)
place-set p (x ∷ xs) (suc i) y d h = ap (λ o. cond (p x) (Some 0) (option_map suc o)) (place-set p xs i y d h)

-- ---- names
abbrev rises : List ℕ → Bool
rises [] = true
rises (w ∷ ws) = list_all (λ v. ltb w v) ws && rises ws

all_above-with : (v u : ℕ) (ws : List ℕ) → ltb v u ≡ true → list_all (λ w. ltb v w) ws ≡ true → list_all (λ w. ltb v w) (with_name ws u) ≡ true
all_above-with v u [] l h = and_from (ltb v u) true l refl
all_above-with v u (w ∷ ws) l h =
    let p = and_parts (ltb v w) (list_all (λ w. ltb v w) ws) h in
    go (ltb w u) (w == u) p.0 p.1 (all_above-with v u ws l p.1)
  where
    go : (a b : Bool) → ltb v w ≡ true → list_all (λ w. ltb v w) ws ≡ true → list_all (λ w. ltb v w) (with_name ws u) ≡ true → list_all (λ w. ltb v w) (if a then w ∷ with_name ws u else (if b then w ∷ ws else u ∷ w ∷ ws)) ≡ true
    go true b x y ih = and_from (ltb v w) (list_all (λ w. ltb v w) (with_name ws u)) x ih
    go false true x y ih = and_from (ltb v w) (list_all (λ w. ltb v w) ws) x y
    go false false x y ih = and_from (ltb v u) (ltb v w && list_all (λ w. ltb v w) ws) l (and_from (ltb v w) (list_all (λ w. ltb v w) ws) x y)

all_above-further : (u w : ℕ) → u < w → (ws : List ℕ) → list_all (λ v. ltb w v) ws ≡ true → list_all (λ v. ltb u v) ws ≡ true
all_above-further u w l [] h = refl
all_above-further u w l (v ∷ vs) h =
    let p = and_parts (ltb w v) (list_all (λ v. ltb w v) vs) h in
    let m : w < v = ltb-true w v p.0 in
    and_from (ltb u v) (list_all (λ v. ltb u v) vs) (lt-ltb u v (omega arith)) (all_above-further u w l vs p.1)

rises-with : (ws : List ℕ) (u : ℕ) → rises ws ≡ true → rises (with_name ws u) ≡ true
rises-with [] u h = refl
rises-with (w ∷ ws) u h =
    let p = and_parts (list_all (λ v. ltb w v) ws) (rises ws) h in
    go (ltb w u) (w == u) refl refl p.0 p.1 (rises-with ws u p.1)
  where
    go : (a b : Bool) → ltb w u ≡ a → (w == u) ≡ b → list_all (λ v. ltb w v) ws ≡ true → rises ws ≡ true → rises (with_name ws u) ≡ true → rises (if a then w ∷ with_name ws u else (if b then w ∷ ws else u ∷ w ∷ ws)) ≡ true
    go true b e f x y ih = and_from (list_all (λ v. ltb w v) (with_name ws u)) (rises (with_name ws u)) (all_above-with w u ws e x) ih
    go false true e f x y ih = and_from (list_all (λ v. ltb w v) ws) (rises ws) x y
    go false false e f x y ih =
        let l : u ≤ w = ltb-false w u e in
        let n : w ≢ u = eqb-false w u f in
        let m : u < w = omega arith in
        and_from (list_all (λ v. ltb u v) (w ∷ ws)) (rises (w ∷ ws)) (and_from (ltb u w) (list_all (λ v. ltb u v) ws) (lt-ltb u w m) (all_above-further u w m ws x)) (and_from (list_all (λ v. ltb w v) ws) (rises ws) x y)

rises-all : (es : List Sent) (ws : List ℕ) → rises ws ≡ true → rises (fold (λ names (e : Sent). with_name names e.sender) ws es) ≡ true
rises-all [] ws h = h
rises-all (e ∷ es) ws h = rises-all es (with_name ws e.sender) (rises-with ws e.sender h)

pub senders-rise : (rows : List Sent) → rises (senders rows) ≡ true
unfolding senders
senders-rise rows = rises-all rows [] refl

-- ---- who is a sender
abbrev pub has_name : List ℕ → ℕ → Bool
has_name ws u = list_any (λ w. w == u) ws

has_name-with : (ws : List ℕ) (v u : ℕ) → has_name (with_name ws v) u ≡ (has_name ws u || (v == u))
has_name-with [] v u = flip (v == u)
  where
    flip : (b : Bool) → (b || false) ≡ (false || b)
    flip true = refl
    flip false = refl
has_name-with (w ∷ ws) v u = go (ltb w v) (w == v) refl (has_name-with ws v u)
  where
    assoc : (a b c : Bool) → (a || (b || c)) ≡ ((a || b) || c)
    assoc true b c = refl
    assoc false b c = refl

    twice : (a b : Bool) → (a || b) ≡ ((a || b) || a)
    twice true b = refl
    twice false true = refl
    twice false false = refl

    turn : (a b c : Bool) → (c || (a || b)) ≡ ((a || b) || c)
    turn true b true = refl
    turn true b false = refl
    turn false true true = refl
    turn false true false = refl
    turn false false true = refl
    turn false false false = refl

    go : (a b : Bool) → (w == v) ≡ b → has_name (with_name ws v) u ≡ (has_name ws u || (v == u)) → has_name (if a then w ∷ with_name ws v else (if b then w ∷ ws else v ∷ w ∷ ws)) u ≡ (((w == u) || has_name ws u) || (v == u))
    go true b e ih = ap (λ c. (w == u) || c) ih ∙ assoc (w == u) (has_name ws u) (v == u)
    go false true e ih = twice (w == u) (has_name ws u) ∙ ap (λ x. ((w == u) || has_name ws u) || (x == u)) (eqb-true w v e)
    go false false e ih = turn (w == u) (has_name ws u) (v == u)

has_name-all : (es : List Sent) (ws : List ℕ) (u : ℕ) → has_name (fold (λ names (e : Sent). with_name names e.sender) ws es) u ≡ (has_name ws u || list_any (λ (e : Sent). e.sender == u) es)
has_name-all [] ws u = unit (has_name ws u)
  where
    unit : (b : Bool) → b ≡ (b || false)
    unit true = refl
    unit false = refl
has_name-all (e ∷ es) ws u =
    has_name-all es (with_name ws e.sender) u ∙ (ap (λ b. b || list_any (λ (x : Sent). x.sender == u) es) (has_name-with ws e.sender u) ∙ assoc (has_name ws u) (e.sender == u) (list_any (λ (x : Sent). x.sender == u) es))
  where
    assoc : (a b c : Bool) → ((a || b) || c) ≡ (a || (b || c))
    assoc true b c = refl
    assoc false b c = refl

pub senders-have : (rows : List Sent) (u : ℕ) → has_name (senders rows) u ≡ list_any (λ (e : Sent). e.sender == u) rows
unfolding senders
senders-have rows u = has_name-all rows [] u

-- each name is below all later ones
all_of : (w : ℕ) (ws : List ℕ) → list_all (λ v. ltb w v) ws ≡ true → All (λ v. w < v) ws
all_of w [] h = All-nil (λ v. w < v)
all_of w (v ∷ vs) h = let p = and_parts (ltb w v) (list_all (λ v. ltb w v) vs) h in All-cons (λ v. w < v) v vs (ltb-true w v p.0) (all_of w vs p.1)

pairs_of : (ws : List ℕ) → rises ws ≡ true → AllPairs (λ u w. u < w) ws
pairs_of [] h = λ i j d lt l. absurd (omega arith)
pairs_of (w ∷ ws) h = let p = and_parts (list_all (λ v. ltb w v) ws) (rises ws) h in AllPairs-cons (λ u w. u < w) w ws (all_of w ws p.0) (pairs_of ws p.1)

pub senders-ascend : (rows : List Sent) → AllPairs (λ u w. u < w) (senders rows)
senders-ascend rows = pairs_of (senders rows) (senders-rise rows)

-- who is a sender has a row of one kind or the other
either : (rows : List Sent) (u : ℕ) → list_any (λ (e : Sent). e.sender == u) rows ≡ (is_some (find (is_row_of u Nomination) rows) || is_some (find (is_row_of u Kind.Ballot) rows))
either [] u = refl
either (e ∷ es) u = go (e.sender == u) (kind_of e.body) (either es u)
  where
    right : (b : Bool) → (b || true) ≡ true
    right true = refl
    right false = refl

    go : (b : Bool) (k : Kind) → list_any (λ (x : Sent). x.sender == u) es ≡ (is_some (find (is_row_of u Nomination) es) || is_some (find (is_row_of u Kind.Ballot) es))
        → (b || list_any (λ (x : Sent). x.sender == u) es) ≡ (is_some (cond (b && is_kind Nomination k) (Some e) (find (is_row_of u Nomination) es)) || is_some (cond (b && is_kind Kind.Ballot k) (Some e) (find (is_row_of u Kind.Ballot) es)))
    go true Nomination ih = refl
    go true Kind.Ballot ih = sym (right (is_some (find (is_row_of u Nomination) es)))
    go false k ih = ih

pub senders-exactly : (rows : List Sent) (u : ℕ) → has_name (senders rows) u ≡ (is_some (row rows u Nomination) || is_some (row rows u Kind.Ballot))
unfolding row
senders-exactly rows u = senders-have rows u ∙ either rows u

-- where no envelope is the sender's, there is no place
no_place : (rows : List Sent) (u : ℕ) (k : Kind) → list_any (λ (e : Sent). e.sender == u) rows ≡ false → place_of_row rows u k ≡ None
no_place [] u k h = refl
no_place (e ∷ es) u k h =
    let p = or_parts (e.sender == u) (list_any (λ (x : Sent). x.sender == u) es) h in
    ap₂ (λ b o. cond (b && is_kind k (kind_of e.body)) (Some 0) (option_map suc o)) p.0 (no_place es u k p.1)

absent : (rows : List Sent) (u : ℕ) (k : Kind) → has_name (senders rows) u ≡ false → place_of_row rows u k ≡ None
absent rows u k h = no_place rows u k (sym (senders-have rows u) ∙ h)

-- ---- the index of rows
ascends-map : (rows : List Sent) (ws : List ℕ) → rises ws ≡ true → ascends (map (places_of rows) ws) ≡ true
ascends-map rows [] h = refl
ascends-map rows (w ∷ ws) h =
    let p = and_parts (list_all (λ v. ltb w v) ws) (rises ws) h in
    and_from (list_all (λ (q : Places). ltb w q.sender) (map (places_of rows) ws)) (ascends (map (places_of rows) ws)) (same ws ∙ p.0) (ascends-map rows ws p.1)
  where
    same : (vs : List ℕ) → list_all (λ (q : Places). ltb w q.sender) (map (places_of rows) vs) ≡ list_all (λ v. ltb w v) vs
    same [] = refl
    same (v ∷ vs) = ap (λ b. ltb w v && b) (same vs)

pub index-ascends : (rows : List Sent) → ascends (index_of rows) ≡ true
unfolding index_of
index-ascends rows = ascends-map rows (senders rows) (senders-rise rows)

place_in-of : (rows : List Sent) (u : ℕ) (k : Kind) → place_in (places_of rows u) k ≡ place_of_row rows u k
place_in-of rows u Nomination = refl
place_in-of rows u Kind.Ballot = refl

found-map : (rows : List Sent) (u : ℕ) (k : Kind) (ws : List ℕ) → (has_name ws u ≡ false → place_of_row rows u k ≡ None) → place_in_index (map (places_of rows) ws) u k ≡ place_of_row rows u k
found-map rows u k [] h = sym (h refl)
found-map rows u k (w ∷ ws) h = go (w == u) refl h (found-map rows u k ws)
  where
    go : (b : Bool) → (w == u) ≡ b → ((b || has_name ws u) ≡ false → place_of_row rows u k ≡ None) → ((has_name ws u ≡ false → place_of_row rows u k ≡ None) → place_in_index (map (places_of rows) ws) u k ≡ place_of_row rows u k)
        → (if b then place_in (places_of rows w) k else place_in_index (map (places_of rows) ws) u k) ≡ place_of_row rows u k
    go true e f ih = place_in-of rows w k ∙ ap (λ v. place_of_row rows v k) (eqb-true w u e)
    go false e f ih = ih f

pub found-index : (rows : List Sent) (u : ℕ) (k : Kind) → place_in_index (index_of rows) u k ≡ place_of_row rows u k
unfolding index_of
found-index rows u k = found-map rows u k (senders rows) (absent rows u k)

-- ---- one row more
not_of : (e : Sent) (w : ℕ) (k : Kind) → w ≢ e.sender → is_row_of w k e ≡ false
not_of e w k n = ap (λ b. b && is_kind k (kind_of e.body)) (ne_eqb e.sender w (λ q. n (sym q)))

others : (rows : List Sent) (e : Sent) (w : ℕ) → w ≢ e.sender → places_of rows w ≡ places_of (rows ++ e ∷ []) w
others rows e w n =
    ap₂ (λ a b. let p : Places = record { sender = w; nomination = a; ballot = b } in p)
    (sym (place-past (is_row_of w Nomination) rows e (not_of e w Nomination n)))
    (sym (place-past (is_row_of w Kind.Ballot) rows e (not_of e w Kind.Ballot n)))

-- the sender's own places, where it had no row of this kind
own : (rows : List Sent) (e : Sent) → place_of_row rows e.sender (kind_of e.body) ≡ None → with_place (places_of rows e.sender) (kind_of e.body) (length rows) ≡ places_of (rows ++ e ∷ []) e.sender
own rows e n = go (kind_of e.body) refl n
  where
    go : (k : Kind) → kind_of e.body ≡ k → place_of_row rows e.sender k ≡ None → with_place (places_of rows e.sender) k (length rows) ≡ places_of (rows ++ e ∷ []) e.sender
    go Nomination h n =
        ap₂ (λ a b. let p : Places = record { sender = e.sender; nomination = a; ballot = b } in p)
        (sym (place-new (is_row_of e.sender Nomination) rows e (and_from (e.sender == e.sender) (is_kind Nomination (kind_of e.body)) (eq-eqb e.sender e.sender refl) (ap (is_kind Nomination) h)) n))
        (sym (place-past (is_row_of e.sender Kind.Ballot) rows e (ap (λ b. b && is_kind Kind.Ballot (kind_of e.body)) (eq-eqb e.sender e.sender refl) ∙ ap (is_kind Kind.Ballot) h)))
    go Kind.Ballot h n =
        ap₂ (λ a b. let p : Places = record { sender = e.sender; nomination = a; ballot = b } in p)
        (sym (place-past (is_row_of e.sender Nomination) rows e (ap (λ b. b && is_kind Nomination (kind_of e.body)) (eq-eqb e.sender e.sender refl) ∙ ap (is_kind Nomination) h)))
        (sym (place-new (is_row_of e.sender Kind.Ballot) rows e (and_from (e.sender == e.sender) (is_kind Kind.Ballot (kind_of e.body)) (eq-eqb e.sender e.sender refl) (ap (is_kind Kind.Ballot) h)) n))

same_above : (rows : List Sent) (e : Sent) (ws : List ℕ) → list_all (λ v. ltb e.sender v) ws ≡ true → map (places_of rows) ws ≡ map (places_of (rows ++ e ∷ [])) ws
same_above rows e [] h = refl
same_above rows e (w ∷ ws) h =
    let p = and_parts (ltb e.sender w) (list_all (λ v. ltb e.sender v) ws) h in
    let l : e.sender < w = ltb-true e.sender w p.0 in
    ap₂ (λ (x : Places) xs. x ∷ xs) (others rows e w (λ q. omega arith)) (same_above rows e ws p.1)

none_above : (u : ℕ) (ws : List ℕ) → list_all (λ v. ltb u v) ws ≡ true → has_name ws u ≡ false
none_above u [] h = refl
none_above u (w ∷ ws) h =
    let p = and_parts (ltb u w) (list_all (λ v. ltb u v) ws) h in
    let l : u < w = ltb-true u w p.0 in
    ap₂ (λ a b. a || b) (ne_eqb w u (λ q. omega arith)) (none_above u ws p.1)

noted-map : (rows : List Sent) (e : Sent) → place_of_row rows e.sender (kind_of e.body) ≡ None → (ws : List ℕ) → rises ws ≡ true
    → (has_name ws e.sender ≡ false → only_place e.sender (kind_of e.body) (length rows) ≡ places_of (rows ++ e ∷ []) e.sender)
    → index_with_place (map (places_of rows) ws) e.sender (kind_of e.body) (length rows) ≡ map (places_of (rows ++ e ∷ [])) (with_name ws e.sender)
noted-map rows e n [] r h = ap (λ (x : Places). x ∷ []) (h refl)
noted-map rows e n (w ∷ ws) r h =
    let p = and_parts (list_all (λ v. ltb w v) ws) (rises ws) r in
    go (ltb w e.sender) (w == e.sender) refl refl p.0 h (noted-map rows e n ws p.1)
  where
    after : List Sent
    after = rows ++ e ∷ []

    go : (a b : Bool) → ltb w e.sender ≡ a → (w == e.sender) ≡ b → list_all (λ v. ltb w v) ws ≡ true
        → ((b || has_name ws e.sender) ≡ false → only_place e.sender (kind_of e.body) (length rows) ≡ places_of (rows ++ e ∷ []) e.sender)
        → ((has_name ws e.sender ≡ false → only_place e.sender (kind_of e.body) (length rows) ≡ places_of (rows ++ e ∷ []) e.sender) → index_with_place (map (places_of rows) ws) e.sender (kind_of e.body) (length rows) ≡ map (places_of (rows ++ e ∷ [])) (with_name ws e.sender))
        → (if a then places_of rows w ∷ index_with_place (map (places_of rows) ws) e.sender (kind_of e.body) (length rows) else (if b then with_place (places_of rows w) (kind_of e.body) (length rows) ∷ map (places_of rows) ws else only_place e.sender (kind_of e.body) (length rows) ∷ places_of rows w ∷ map (places_of rows) ws))
        ≡ map (places_of (rows ++ e ∷ [])) (if a then w ∷ with_name ws e.sender else (if b then w ∷ ws else e.sender ∷ w ∷ ws))
    go true true l q up h ih = let m : w < e.sender = ltb-true w e.sender l in let s : w ≡ e.sender = eqb-true w e.sender q in absurd (omega arith)
    go true false l q up h ih = let m : w < e.sender = ltb-true w e.sender l in ap₂ (λ (x : Places) xs. x ∷ xs) (others rows e w (λ s. omega arith)) (ih h)
    go false true l q up h ih =
        let s : w ≡ e.sender = eqb-true w e.sender q in
        ap₂ (λ (x : Places) xs. x ∷ xs)
        (ap (λ v. with_place (places_of rows v) (kind_of e.body) (length rows)) s ∙ (own rows e n ∙ ap (places_of (rows ++ e ∷ [])) (sym s)))
        (same_above rows e ws (subst (λ v. list_all (λ x. ltb v x) ws ≡ true) s up))
    go false false l q up h ih =
        let m : e.sender ≤ w = ltb-false w e.sender l in
        let d : w ≢ e.sender = eqb-false w e.sender q in
        let k : e.sender < w = omega arith in
        let far = all_above-further e.sender w k ws up in
        ap₂ (λ (x : Places) xs. x ∷ xs) (h (none_above e.sender ws far)) (ap₂ (λ (x : Places) xs. x ∷ xs) (others rows e w d) (same_above rows e ws far))

-- a sender's places where it has no row
lone : (rows : List Sent) (e : Sent) → place_of_row rows e.sender (kind_of e.body) ≡ None → has_name (senders rows) e.sender ≡ false → only_place e.sender (kind_of e.body) (length rows) ≡ places_of (rows ++ e ∷ []) e.sender
lone rows e n h =
    ap (λ (p : Places). with_place p (kind_of e.body) (length rows)) (ap₂ (λ a b. let p : Places = record { sender = e.sender; nomination = a; ballot = b } in p) (sym (absent rows e.sender Nomination h)) (sym (absent rows e.sender Kind.Ballot h)))
    ∙ own rows e n

pub index-push : (rows : List Sent) (e : Sent) → place_of_row rows e.sender (kind_of e.body) ≡ None → index_with_place (index_of rows) e.sender (kind_of e.body) (length rows) ≡ index_of (rows ++ e ∷ [])
unfolding index_of senders
index-push rows e n =
    noted-map rows e n (senders rows) (senders-rise rows) (lone rows e n)
    ∙ ap (map (places_of (rows ++ e ∷ []))) (sym (fold-append (λ names (x : Sent). with_name names x.sender) [] rows (e ∷ [])))

-- ---- one row replaced
senders-set : (rows : List Sent) (i : ℕ) (e d : Sent) → (get_or rows i d).sender ≡ e.sender → (ws : List ℕ) → fold (λ names (x : Sent). with_name names x.sender) ws (set rows i e) ≡ fold (λ names (x : Sent). with_name names x.sender) ws rows
senders-set [] i e d h ws = refl
senders-set (x ∷ xs) zero e d h ws = ap (λ u. fold (λ names (x : Sent). with_name names x.sender) (with_name ws u) xs) (sym h)
senders-set (x ∷ xs) (suc i) e d h ws = senders-set xs i e d h (with_name ws x.sender)

map_agree : (f g : ℕ → Places) → ((w : ℕ) → f w ≡ g w) → (ws : List ℕ) → map f ws ≡ map g ws
map_agree f g h [] = refl
map_agree f g h (w ∷ ws) = ap₂ (λ (x : Places) xs. x ∷ xs) (h w) (map_agree f g h ws)

pub index-set : (rows : List Sent) (i : ℕ) (e d : Sent) → is_row_of e.sender (kind_of e.body) (get_or rows i d) ≡ true → index_of (set rows i e) ≡ index_of rows
unfolding index_of senders
index-set rows i e d h =
    let p = is_row_of-parts e.sender (kind_of e.body) (get_or rows i d) h in
    ap (map (places_of (set rows i e))) (senders-set rows i e d p.0 [])
    ∙ map_agree (places_of (set rows i e)) (places_of rows) (λ w.
    ap₂ (λ a b. let q : Places = record { sender = w; nomination = a; ballot = b } in q)
    (place-set (is_row_of w Nomination) rows i e d (is_row_of-alike w Nomination (get_or rows i d) e h))
    (place-set (is_row_of w Kind.Ballot) rows i e d (is_row_of-alike w Kind.Ballot (get_or rows i d) e h))) (senders rows)

-- ---- a table with a row, by its place
pub with_row-set : (rows : List Sent) (e : Sent) (i : ℕ) → place_of_row rows e.sender (kind_of e.body) ≡ Some i → with_row e rows ≡ set rows i e
unfolding with_row
with_row-set [] e i h = cc
with_row-set (x ∷ xs) e i h = go (is_row_of e.sender (kind_of e.body) x) (place_of_row xs e.sender (kind_of e.body)) refl h (with_row-set xs e)
  where
    go : (b : Bool) (o : Option ℕ) → place_of_row xs e.sender (kind_of e.body) ≡ o → cond b (Some 0) (option_map suc o) ≡ Some i → ((j : ℕ) → place_of_row xs e.sender (kind_of e.body) ≡ Some j → with_row e xs ≡ set xs j e) → (if b then e ∷ xs else x ∷ with_row e xs) ≡ set (x ∷ xs) i e
    go true o f g ih = let z : 0 ≡ i = cc in subst (λ j. e ∷ xs ≡ set (x ∷ xs) j e) z refl
    go false None f g ih = cc
    go false (Some j) f g ih = let z : suc j ≡ i = cc in subst (λ k. x ∷ with_row e xs ≡ set (x ∷ xs) k e) z (ap (λ ys. x ∷ ys) (ih j f))

pub with_row-push : (rows : List Sent) (e : Sent) → place_of_row rows e.sender (kind_of e.body) ≡ None → with_row e rows ≡ rows ++ e ∷ []
unfolding with_row
with_row-push [] e h = refl
with_row-push (x ∷ xs) e h = go (is_row_of e.sender (kind_of e.body) x) (place_of_row xs e.sender (kind_of e.body)) refl h (with_row-push xs e)
  where
    go : (b : Bool) (o : Option ℕ) → place_of_row xs e.sender (kind_of e.body) ≡ o → cond b (Some 0) (option_map suc o) ≡ None → (place_of_row xs e.sender (kind_of e.body) ≡ None → with_row e xs ≡ xs ++ e ∷ []) → (if b then e ∷ xs else x ∷ with_row e xs) ≡ (x ∷ xs) ++ e ∷ []
    go true o f g ih = cc
    go false None f g ih = ap (λ ys. x ∷ ys) (ih f)
    go false (Some j) f g ih = cc
