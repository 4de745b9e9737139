-- Where the rows of the nodes stand in a table: what is read there, and what an envelope that the table takes leaves of it.
use Rattle.std.proofs.Common.{◌≡◌, ◌≢◌, ◌⊎◌, ℕ, suc, ◌<◌, ◌≤◌, ◌==◌, ◌+◌, ◌++◌, drop, append_assoc, Bool, true, false, cond, List, [], ◌∷◌, get_or, set, length, length-set, map, Option, Some, None, option_map, unwrap_or, if◌then◌else◌, refl, sym, ◌∙◌, ap, ap₂, arith, inl, inr}
use Rattle.std.proofs.lemmas.Bool.{cases_Bool, eqb-true, eq-eqb, true≢false}
use Rattle.std.proofs.lemmas.List.{append-nil, drop_all, drop_more, get_or-map, get_or-set_same, get_or-set_other, length-map}
use Rattle.scp_types.specs.declared.kind.Kind.{Kind}
use Rattle.scp_types.specs.declared.kind.Kind.TheVariants.{Nomination}
use Rattle.scp_types.specs.Statements.{Sent, kind_of}
use Rattle.scp_spec.specs.Rows.{is_row_of, row, with_row}
use Rattle.node_table.specs.Places.{place_of_row}
use Rattle.node_table.specs.declared.places.RowPlaces.{RowPlaces}
use Rattle.scp_spec.proofs.Statements.Offers.{is_row_of-own}
use Rattle.node_table.proofs.Placing.{place-of_others, place-of_replaced, row-at_place}
use Rattle.node_table.proofs.Tabled.{row-nowhere}
use Rattle.node_view.specs.Regions.{AreRowPlaces, row_places}
use Rattle.node_view.specs.Watching.{row_where, rows_at}
use Rattle.node_view.specs.declared.region.KindPlaces.{KindPlaces}

-- what stands at the place of a row is the row
pub one_where : (table : List Sent) (u : ℕ) (k : Kind) (o : Option ℕ) → place_of_row table u k ≡ o → row_where table o ≡ row table u k
one_where table u k None is = sym (row-nowhere table u k is)
one_where table u k (Some i) is = row-at_place table u k i is

-- and so for all nodes
pub rows_where_placed : (table : List Sent) (k : Kind) (us : List ℕ) → map (row_where table) (row_places table k us) ≡ rows_at k table us
rows_where_placed table k [] = refl
rows_where_placed table k (u ∷ us) = ap₂ (λ x xs. x ∷ xs) (one_where table u k (place_of_row table u k) refl) (rows_where_placed table k us)

-- the place of one node more
place_more : (f : ℕ → Option ℕ) (us : List ℕ) (i u : ℕ) (o : Option ℕ) (xs ys : List (Option ℕ)) → i < length us → u ≡ get_or us i u → o ≡ f u → ys ≡ xs ++ o ∷ []
    → xs ++ map f (drop i us) ≡ map f us → ys ++ map f (drop (i + 1) us) ≡ map f us
place_more f us i u o xs ys within at is pushed so_far =
    ap (λ ps. ps ++ map f (drop (i + 1) us)) pushed
    ∙ append_assoc xs (o ∷ []) (map f (drop (i + 1) us))
    ∙ ap (λ p. xs ++ p ∷ map f (drop (i + 1) us)) (is ∙ ap f at)
    ∙ ap (λ ws. xs ++ map f ws) (sym (drop_more us i u within))
    ∙ so_far

-- the places of all, where none is left
places_all : (f : ℕ → Option ℕ) (us : List ℕ) (i : ℕ) (xs : List (Option ℕ)) → length us ≤ i → xs ++ map f (drop i us) ≡ map f us → xs ≡ map f us
places_all f us i xs done so_far =
    sym (append-nil xs) ∙ ap (λ ws. xs ++ map f ws) (sym (drop_all i us done)) ∙ so_far

-- the places of both kinds that were found are those of the first nodes
pub record AreSoFar (table : List Sent) (us : List ℕ) (i : ℕ) (found : KindPlaces) : Type 0 where
  pub ballots : found.ballots.items ++ row_places table Kind.Ballot (drop i us) ≡ row_places table Kind.Ballot us
  pub nominations : found.nominations.items ++ row_places table Nomination (drop i us) ≡ row_places table Nomination us

module _ (table : List Sent) (us : List ℕ) (i : ℕ) (found : KindPlaces) (so_far : AreSoFar table us i found) where
  -- those of one node more
  pub both_more : (u : ℕ) (places : RowPlaces) (now : KindPlaces) → i < length us → u ≡ get_or us i u → places.ballot ≡ place_of_row table u Kind.Ballot → places.nomination ≡ place_of_row table u Nomination
      → now.ballots.items ≡ found.ballots.items ++ places.ballot ∷ [] → now.nominations.items ≡ found.nominations.items ++ places.nomination ∷ [] → AreSoFar table us (i + 1) now
  both_more u places now within at ballot nomination ballots nominations = record {
    ballots = place_more (λ w. place_of_row table w Kind.Ballot) us i u places.ballot found.ballots.items now.ballots.items within at ballot ballots so_far.ballots;
    nominations = place_more (λ w. place_of_row table w Nomination) us i u places.nomination found.nominations.items now.nominations.items within at nomination nominations so_far.nominations;
  }

  -- those of all, where none is left
  pub both_all : length us ≤ i → AreRowPlaces table us found
  both_all done = record {
    ballots = places_all (λ w. place_of_row table w Kind.Ballot) us i found.ballots.items done so_far.ballots;
    nominations = places_all (λ w. place_of_row table w Nomination) us i found.nominations.items done so_far.nominations;
  }

-- lists that are the same place by place
same_lists : {X : Type 0} (d : X) (xs ys : List X) → length xs ≡ length ys → ((i : ℕ) → i < length xs → get_or xs i d ≡ get_or ys i d) → xs ≡ ys
same_lists d [] [] l h = refl
same_lists d [] (y ∷ ys) l h = absurd (omega (arith, l))
same_lists d (x ∷ xs) [] l h = absurd (omega (arith, l))
same_lists d (x ∷ xs) (y ∷ ys) l h = ap₂ (λ z zs. z ∷ zs) (h 0 (omega arith)) (same_lists d xs ys (omega (arith, l)) (λ i within. h (suc i) (omega (arith, within))))

-- a row that is none of a node's, or replaces one, leaves the place of the node's row
abbrev pub LeavesPlace : List Sent → Sent → Kind → ℕ → Type 0
LeavesPlace table e k u = (is_row_of u k e ≡ false) ⊎ ((r : Sent) × (row table u k ≡ Some r))

place_kept : (table : List Sent) (e : Sent) (k : Kind) (u : ℕ) → LeavesPlace table e k u → place_of_row (with_row e table) u k ≡ place_of_row table u k
place_kept table e k u (inl other) = place-of_others e table u k other
place_kept table e k u (inr there) = elim (cases_Bool (is_row_of u k e)) [
  | inl its ↦ place-of_replaced e table u k there.0 there.1 its
  | inr other ↦ place-of_others e table u k other
]

pub places_kept : (table : List Sent) (e : Sent) (k : Kind) (us : List ℕ) → ((i : ℕ) → i < length us → LeavesPlace table e k (get_or us i 0)) → row_places table k us ≡ row_places (with_row e table) k us
places_kept table e k [] leaves = refl
places_kept table e k (u ∷ us) leaves = ap₂ (λ x xs. x ∷ xs) (sym (place_kept table e k u (leaves 0 (omega arith)))) (places_kept table e k us (λ i within. leaves (suc i) (omega (arith, within))))

-- a row that comes stands in the place of the one before it, or behind all others
stands_at : (e : Sent) (table : List Sent) → place_of_row (with_row e table) e.sender (kind_of e.body) ≡ Some (unwrap_or (place_of_row table e.sender (kind_of e.body)) (length table))
unfolding with_row
stands_at e [] = rw (is_row_of-own e) refl
stands_at e (x ∷ xs) = go (is_row_of e.sender (kind_of e.body) x) refl (place_of_row xs e.sender (kind_of e.body)) (stands_at e xs)
  where
    later : (o : Option ℕ) → suc (unwrap_or o (length xs)) ≡ unwrap_or (option_map suc o) (suc (length xs))
    later None = refl
    later (Some i) = refl

    go : (b : Bool) → is_row_of e.sender (kind_of e.body) x ≡ b → (o : Option ℕ) → place_of_row (with_row e xs) e.sender (kind_of e.body) ≡ Some (unwrap_or o (length xs))
        → place_of_row (if b then e ∷ xs else x ∷ with_row e xs) e.sender (kind_of e.body) ≡ Some (unwrap_or (cond b (Some 0) (option_map suc o)) (suc (length xs)))
    go true its o ih = rw (is_row_of-own e) refl
    go false its o ih = rw its (ap (option_map suc) ih ∙ ap Some (later o))

-- as the code reads it
pub stands_behind : (e : Sent) (table : List Sent) → None ≡ place_of_row table e.sender (kind_of e.body) → place_of_row (with_row e table) e.sender (kind_of e.body) ≡ Some (length table)
stands_behind e table none = stands_at e table ∙ ap (λ o. Some (unwrap_or o (length table))) (sym none)

pub stands_there : (e : Sent) (table : List Sent) (i : ℕ) → Some i ≡ place_of_row table e.sender (kind_of e.body) → place_of_row (with_row e table) e.sender (kind_of e.body) ≡ Some i
stands_there e table i there = stands_at e table ∙ ap (λ o. Some (unwrap_or o (length table))) (sym there)

-- where the row of one node then stands, while those of all others keep their places
pub place_set : (table : List Sent) (e : Sent) (k : Kind) (us : List ℕ) (p : ℕ) (n : Option ℕ) → p < length us → get_or us p 0 ≡ e.sender → place_of_row (with_row e table) e.sender k ≡ n
    → ((i : ℕ) → i < length us → i ≢ p → is_row_of (get_or us i 0) k e ≡ false) → set (row_places table k us) p n ≡ row_places (with_row e table) k us
place_set table e k us p n within sender stands others =
    let old = λ (u : ℕ). place_of_row table u k in
    let new = λ (u : ℕ). place_of_row (with_row e table) u k in
    same_lists None (set (map old us) p n) (map new us) (length-set (map old us) p n ∙ length-map us old ∙ sym (length-map us new))
    (λ i inside.
    let here : i < length us = omega (arith, inside, length-set (map old us) p n, length-map us old) in
    elim (cases_Bool (i == p)) [
      | inl same ↦
          let is : i ≡ p = eqb-true i p same in
          ap (λ j. get_or (set (map old us) p n) j None) is
          ∙ get_or-set_same (map old us) p n None (omega (arith, within, length-map us old))
          ∙ sym (get_or-map new us i 0 None here ∙ ap new (ap (λ j. get_or us j 0) is ∙ sender) ∙ stands)
      | inr apart ↦
          let other : i ≢ p = λ is. true≢false (sym (eq-eqb i p is) ∙ apart) in
          get_or-set_other (map old us) p i n None other
          ∙ get_or-map old us i 0 None here
          ∙ sym (place-of_others e table (get_or us i 0) k (others i here other))
          ∙ sym (get_or-map new us i 0 None here)
    ])
