-- What a binary search among ascending names says of a name's place.
use Rattle.std.proofs.Common.{◌≡◌, ℕ, zero, suc, ◌<◌, ◌≤◌, Bool, true, false, not, ◌||◌, ◌&&◌, ◌==◌, length, get_or, List, [], ◌∷◌, Some, None, Ok, Err, option_map, if◌then◌else◌, refl, ◌∙◌, ap, subst, arith}
use Rattle.std.specs.Ordering.{nat_cmp}
use Rattle.std.specs.List.{list_any}
use Rattle.std.specs.List.Sorted.{IsBinarySearchResult}
use Rattle.std.proofs.lemmas.List.Sorted.{searched}
use Rattle.std.proofs.lemmas.Bool.Decides.{nat_tests}
use Rattle.scp_types.specs.Trees.{all_differ}
use Rattle.scp_spec.specs.Sets.{IsAscending}
use Rattle.host_config.specs.Configs.{index_in}

apart : (a b : ℕ) → a < b → (a == b) ≡ false
apart a b h = grind (arith, nat_tests, h)

other : (a b : ℕ) → a < b → (b == a) ≡ false
other a b h = grind (arith, nat_tests, h)

pub index-first : (xs : List ℕ) (x k : ℕ) → k < length xs → get_or xs k 0 ≡ x → ((j : ℕ) → j < k → get_or xs j 0 < x) → index_in xs x ≡ Some k
index-first [] x k l e h = absurd (omega (arith, l))
index-first (y ∷ ys) x zero l e h = ap (λ b. if b then Some 0 else option_map suc (index_in ys x)) (same y x e)
  where
    same : (a b : ℕ) → a ≡ b → (a == b) ≡ true
    same a b e = grind (arith, nat_tests, e)
index-first (y ∷ ys) x (suc k) l e h =
    ap (λ b. if b then Some 0 else option_map suc (index_in ys x)) (apart y x (h 0 (omega arith)))
    ∙ ap (option_map suc) (index-first ys x k (omega (arith, l)) e (λ j m. h (suc j) (omega (arith, m))))

pub index-nowhere : (xs : List ℕ) (x i : ℕ) → ((k : ℕ) → k < i → k < length xs → get_or xs k 0 < x) → ((k : ℕ) → i ≤ k → k < length xs → x < get_or xs k 0) → index_in xs x ≡ None
index-nowhere [] x i below above = refl
index-nowhere (y ∷ ys) x zero below above =
    ap (λ b. if b then Some 0 else option_map suc (index_in ys x)) (other x y (above 0 (omega arith) (omega arith)))
    ∙ ap (option_map suc) (index-nowhere ys x zero (λ k l m. absurd (omega (arith, l))) (λ k l m. above (suc k) (omega arith) (omega (arith, m))))
index-nowhere (y ∷ ys) x (suc i) below above =
    ap (λ b. if b then Some 0 else option_map suc (index_in ys x)) (apart y x (below 0 (omega arith) (omega arith)))
    ∙ ap (option_map suc) (index-nowhere ys x i (λ k l m. below (suc k) (omega (arith, l)) (omega (arith, m))) (λ k l m. above (suc k) (omega (arith, l)) (omega (arith, m))))

rising : (xs : List ℕ) → IsAscending xs → (i j : ℕ) → i ≤ j → j < length xs → get_or xs i 0 ≤ get_or xs j 0
rising xs up i j l m = grind (arith, up)

pub place-there : (xs : List ℕ) (x k : ℕ) → IsAscending xs → k < length xs → get_or xs k 0 ≡ x → index_in xs x ≡ Some k
place-there xs x k up l e = index-first xs x k l e (λ j m. subst (λ n. get_or xs j 0 < n) e (up j k 0 m l))

pub place-found : (xs : List ℕ) (x : ℕ) (k : ℕ) → IsAscending xs → IsBinarySearchResult (λ y. nat_cmp y x) xs (Ok k) → index_in xs x ≡ Some k
place-found xs x k up h =
    let s = searched xs x (Ok k) h (rising xs up) in
    place-there xs x k up s.0 s.1

pub place-nowhere : (xs : List ℕ) (x : ℕ) (i : ℕ) → IsAscending xs → IsBinarySearchResult (λ y. nat_cmp y x) xs (Err i) → index_in xs x ≡ None
place-nowhere xs x i up h =
    let s = searched xs x (Err i) h (rising xs up) in
    index-nowhere xs x i (λ k l m. s.1 k l) (λ k l m. s.2 k l m)

-- ascending names differ
absent : (x : ℕ) (xs : List ℕ) → ((k d : ℕ) → k < length xs → x < get_or xs k d) → list_any (λ w. w == x) xs ≡ false
absent x [] h = refl
absent x (w ∷ ws) h = go (w == x) (other x w (h 0 0 (omega arith))) (absent x ws (λ k d l. h (suc k) d (omega (arith, l))))
  where
    go : (b : Bool) → b ≡ false → list_any (λ w. w == x) ws ≡ false → (b || list_any (λ w. w == x) ws) ≡ false
    go true e h = absurd (cc)
    go false e h = h

pub names-differ : (xs : List ℕ) → IsAscending xs → all_differ xs ≡ true
names-differ [] up = refl
names-differ (x ∷ xs) up =
    go (list_any (λ w. w == x) xs) (absent x xs (λ k d l. up 0 (suc k) d (omega arith) (omega (arith, l)))) (names-differ xs (λ i j d l m. up (suc i) (suc j) d (omega (arith, l)) (omega (arith, m))))
  where
    go : (b : Bool) → b ≡ false → all_differ xs ≡ true → (not b && all_differ xs) ≡ true
    go true e h = absurd (cc)
    go false e h = h
