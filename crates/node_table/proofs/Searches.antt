-- What a map from senders to places gives, and what a place noted or forgotten makes of it.
use Rattle.std.proofs.Common.{◌≡◌, ℕ, ◌<◌, ◌==◌, Bool, true, false, cond, ltb, List, [], ◌∷◌, map, Option, Some, None, Result, Ok, Err, if◌then◌else◌, refl, sym, ◌∙◌, ap, ap₂, arith}
use Rattle.std.specs.Prelude.{OnOk, OnErr}
use Rattle.std.specs.List.{list_all}
use Rattle.std.specs.Ordering.{nat_cmp, match_ordering}
use Rattle.std.specs.declared.cmp.Ordering.TheVariants.{Less, Equal, Greater}
use Rattle.std.specs.BTreeMap.{insert_entry, is_at}
use Rattle.std.specs.Map.{keys_of, lookup, remove_entry}
use Rattle.std.proofs.Math.Path.{fun_ext}
use Rattle.std.proofs.lemmas.Bool.{and_parts, and_from, eqb-true, false≢true, lt-ltb, ltb-true, ne_eqb}
use Rattle.std.proofs.lemmas.Bool.Decides.{nat_tests}
use Rattle.scp_types.specs.contracts.node_id.NodeIdOrd.TheImpl.{ghosts as ord}
use Rattle.scp_types.proofs.NameOrder.{name_cmp_is}
use Rattle.scp_types.specs.declared.kind.Kind.{Kind}
use Rattle.scp_types.specs.declared.kind.Kind.TheVariants.{Nomination}
use Rattle.node_table.specs.declared.places.RowPlaces.{RowPlaces}
use Rattle.node_table.specs.Places.{Places, ascends, index_without_place, place_in_index, places_in_index, is_vacant, index_of_entries, index_with_place, of_sender, only_place, place_in, with_place, without_place}

-- ---- the order of names
pub cmps : ord.cmp ≡ nat_cmp
cmps = fun_ext (λ a. fun_ext (λ b. name_cmp_is a b))

cmp-below : (e u : ℕ) → ltb e u ≡ true → nat_cmp u e ≡ Greater
cmp-below e u h = grind (arith, nat_tests)

cmp-same : (e u : ℕ) → (e == u) ≡ true → nat_cmp u e ≡ Equal
cmp-same e u h = grind (arith, nat_tests)

cmp-above : (e u : ℕ) → ltb e u ≡ false → (e == u) ≡ false → nat_cmp u e ≡ Less
cmp-above e u h n = grind (arith, nat_tests)

at-is : (e u : ℕ) → is_at (nat_cmp u) e ≡ (e == u)
at-is e u = grind (arith, nat_tests)

-- ---- found
pub place-found : (ps : List Places) (u : ℕ) (k : Kind) → place_in (places_in_index ps u) k ≡ place_in_index ps u k
place-found [] u Nomination = refl
place-found [] u Kind.Ballot = refl
place-found (p ∷ ps) u k = go (p.sender == u) (place-found ps u k)
  where
    go : (b : Bool) → place_in (places_in_index ps u) k ≡ place_in_index ps u k → place_in (if b then p else places_in_index ps u) k ≡ (if b then place_in p k else place_in_index ps u k)
    go true ih = refl
    go false ih = ih

-- the places of a sender that the map does not have
abbrev pub no_places : ℕ → Places
no_places u = record { sender = u; nomination = None; ballot = None }

pub got : (es : List (ℕ × RowPlaces)) (u : ℕ) (p : RowPlaces) → lookup (is_at (nat_cmp u)) es ≡ Some p → of_sender u p ≡ places_in_index (index_of_entries es) u
got [] u p h = cc
got (e ∷ es) u p h = go (e.0 == u) refl (ap (λ b. cond b (Some e.1) (lookup (is_at (nat_cmp u)) es)) (sym (at-is e.0 u)) ∙ h) (got es u p)
  where
    go : (b : Bool) → (e.0 == u) ≡ b → cond b (Some e.1) (lookup (is_at (nat_cmp u)) es) ≡ Some p → (lookup (is_at (nat_cmp u)) es ≡ Some p → of_sender u p ≡ places_in_index (index_of_entries es) u) → of_sender u p ≡ (if b then of_sender e.0 e.1 else places_in_index (index_of_entries es) u)
    go true q h ih = let s : e.1 ≡ p = cc in ap₂ of_sender (sym (eqb-true e.0 u q)) (sym s)
    go false q h ih = ih h

pub absent : (es : List (ℕ × RowPlaces)) (u : ℕ) → lookup (is_at (nat_cmp u)) es ≡ None → places_in_index (index_of_entries es) u ≡ no_places u
absent [] u h = refl
absent (e ∷ es) u h = go (e.0 == u) (ap (λ b. cond b (Some e.1) (lookup (is_at (nat_cmp u)) es)) (sym (at-is e.0 u)) ∙ h) (absent es u)
  where
    go : (b : Bool) → cond b (Some e.1) (lookup (is_at (nat_cmp u)) es) ≡ None → (lookup (is_at (nat_cmp u)) es ≡ None → places_in_index (index_of_entries es) u ≡ no_places u) → (if b then of_sender e.0 e.1 else places_in_index (index_of_entries es) u) ≡ no_places u
    go true h ih = cc
    go false h ih = ih h

-- a sender below all others is not among them
above-nowhere : (u : ℕ) (ps : List Places) → list_all (λ q. ltb u q.sender) ps ≡ true → places_in_index ps u ≡ no_places u
above-nowhere u [] h = refl
above-nowhere u (p ∷ ps) h =
    let a = and_parts (ltb u p.sender) (list_all (λ q. ltb u q.sender) ps) h in
    let l : u < p.sender = ltb-true u p.sender a.0 in
    ap (λ b. if b then p else places_in_index ps u) (ne_eqb p.sender u (λ e. omega arith)) ∙ above-nowhere u ps a.1

above-further : (u w : ℕ) → u < w → (ps : List Places) → list_all (λ q. ltb w q.sender) ps ≡ true → list_all (λ q. ltb u q.sender) ps ≡ true
above-further u w l [] h = refl
above-further u w l (p ∷ ps) h =
    let a = and_parts (ltb w p.sender) (list_all (λ q. ltb w q.sender) ps) h in
    let m : w < p.sender = ltb-true w p.sender a.0 in
    and_from (ltb u p.sender) (list_all (λ q. ltb u q.sender) ps) (lt-ltb u p.sender (omega arith)) (above-further u w l ps a.1)

between-nowhere : (p : Places) (ps : List Places) (u : ℕ) → ltb p.sender u ≡ false → (p.sender == u) ≡ false → list_all (λ q. ltb p.sender q.sender) ps ≡ true → places_in_index ps u ≡ no_places u
between-nowhere p ps u l n h =
    let m : u < p.sender = grind (arith, nat_tests) in above-nowhere u ps (above-further u p.sender m ps h)

-- a sender without rows has no place to lose
vacant-none : (u : ℕ) (k : Kind) → is_vacant (without_place (no_places u) k) ≡ true
vacant-none u Nomination = refl
vacant-none u Kind.Ballot = refl

pub absent-vacant : (es : List (ℕ × RowPlaces)) (u : ℕ) (k : Kind) → lookup (is_at (nat_cmp u)) es ≡ None → is_vacant (without_place (places_in_index (index_of_entries es) u) k) ≡ true
absent-vacant es u k h = ap (λ p. is_vacant (without_place p k)) (absent es u h) ∙ vacant-none u k

-- ---- put
-- the entries with one put, as they are listed, by where its key is
put-below : (e : ℕ × RowPlaces) (es : List (ℕ × RowPlaces)) (u : ℕ) (p : RowPlaces) → ltb e.0 u ≡ true → index_of_entries (insert_entry nat_cmp (e ∷ es) u p) ≡ of_sender e.0 e.1 ∷ index_of_entries (insert_entry nat_cmp es u p)
put-below e es u p l = ap (λ c. index_of_entries (match_ordering c ((u, p) ∷ e ∷ es) ((e.0, p) ∷ es) (e ∷ insert_entry nat_cmp es u p))) (cmp-below e.0 u l)

put-same : (e : ℕ × RowPlaces) (es : List (ℕ × RowPlaces)) (u : ℕ) (p : RowPlaces) → (e.0 == u) ≡ true → index_of_entries (insert_entry nat_cmp (e ∷ es) u p) ≡ of_sender u p ∷ index_of_entries es
put-same e es u p q =
    ap (λ c. index_of_entries (match_ordering c ((u, p) ∷ e ∷ es) ((e.0, p) ∷ es) (e ∷ insert_entry nat_cmp es u p))) (cmp-same e.0 u q)
    ∙ ap (λ w. of_sender w p ∷ index_of_entries es) (eqb-true e.0 u q)

put-above : (e : ℕ × RowPlaces) (es : List (ℕ × RowPlaces)) (u : ℕ) (p : RowPlaces) → ltb e.0 u ≡ false → (e.0 == u) ≡ false → index_of_entries (insert_entry nat_cmp (e ∷ es) u p) ≡ of_sender u p ∷ index_of_entries (e ∷ es)
put-above e es u p l n = ap (λ c. index_of_entries (match_ordering c ((u, p) ∷ e ∷ es) ((e.0, p) ∷ es) (e ∷ insert_entry nat_cmp es u p))) (cmp-above e.0 u l n)

below-other : (e u : ℕ) → ltb e u ≡ true → (e == u) ≡ false
below-other e u h = grind (arith, nat_tests)

pub noted-put : (es : List (ℕ × RowPlaces)) (u : ℕ) (k : Kind) (n : ℕ) (p : RowPlaces) → ascends (index_of_entries es) ≡ true → of_sender u p ≡ with_place (places_in_index (index_of_entries es) u) k n → index_of_entries (insert_entry nat_cmp es u p) ≡ index_with_place (index_of_entries es) u k n
noted-put [] u k n p a h = ap (λ (q : Places). q ∷ []) h
noted-put (e ∷ es) u k n p a h =
    let parts = and_parts (list_all (λ q. ltb e.0 q.sender) (index_of_entries es)) (ascends (index_of_entries es)) a in
    go (ltb e.0 u) (e.0 == u) refl refl parts.0 h (noted-put es u k n p parts.1)
  where
    first : Places
    first = of_sender e.0 e.1

    go : (b c : Bool) → ltb e.0 u ≡ b → (e.0 == u) ≡ c → list_all (λ q. ltb e.0 q.sender) (index_of_entries es) ≡ true → of_sender u p ≡ with_place (if c then first else places_in_index (index_of_entries es) u) k n
        → (of_sender u p ≡ with_place (places_in_index (index_of_entries es) u) k n → index_of_entries (insert_entry nat_cmp es u p) ≡ index_with_place (index_of_entries es) u k n)
        → index_of_entries (insert_entry nat_cmp (e ∷ es) u p) ≡ (if b then first ∷ index_with_place (index_of_entries es) u k n else (if c then with_place first k n ∷ index_of_entries es else only_place u k n ∷ first ∷ index_of_entries es))
    go true true l q up h ih = absurd (false≢true (sym (below-other e.0 u l) ∙ q))
    go true false l q up h ih = put-below e es u p l ∙ ap (λ (ps : List Places). first ∷ ps) (ih h)
    go false true l q up h ih = put-same e es u p q ∙ ap (λ (x : Places). x ∷ index_of_entries es) h
    go false false l q up h ih = put-above e es u p l q ∙ ap (λ (x : Places). x ∷ first ∷ index_of_entries es) (h ∙ ap (λ x. with_place x k n) (between-nowhere first (index_of_entries es) u l q up))

pub forgotten-put : (es : List (ℕ × RowPlaces)) (u : ℕ) (k : Kind) (p : RowPlaces) → ascends (index_of_entries es) ≡ true → of_sender u p ≡ without_place (places_in_index (index_of_entries es) u) k → is_vacant (of_sender u p) ≡ false → index_of_entries (insert_entry nat_cmp es u p) ≡ index_without_place (index_of_entries es) u k
forgotten-put [] u k p a h v = absurd (false≢true (sym v ∙ (ap is_vacant h ∙ vacant-none u k)))
forgotten-put (e ∷ es) u k p a h v =
    let parts = and_parts (list_all (λ q. ltb e.0 q.sender) (index_of_entries es)) (ascends (index_of_entries es)) a in
    go (ltb e.0 u) (e.0 == u) refl refl parts.0 h (λ i. forgotten-put es u k p parts.1 i v)
  where
    first : Places
    first = of_sender e.0 e.1

    go : (b c : Bool) → ltb e.0 u ≡ b → (e.0 == u) ≡ c → list_all (λ q. ltb e.0 q.sender) (index_of_entries es) ≡ true → of_sender u p ≡ without_place (if c then first else places_in_index (index_of_entries es) u) k
        → (of_sender u p ≡ without_place (places_in_index (index_of_entries es) u) k → index_of_entries (insert_entry nat_cmp es u p) ≡ index_without_place (index_of_entries es) u k)
        → index_of_entries (insert_entry nat_cmp (e ∷ es) u p) ≡ (if c then (if is_vacant (without_place first k) then index_of_entries es else without_place first k ∷ index_of_entries es) else first ∷ index_without_place (index_of_entries es) u k)
    go true true l q up h ih = absurd (false≢true (sym (below-other e.0 u l) ∙ q))
    go true false l q up h ih = put-below e es u p l ∙ ap (λ (ps : List Places). first ∷ ps) (ih h)
    go false true l q up h ih =
        put-same e es u p q
        ∙ (ap (λ (x : Places). x ∷ index_of_entries es) h
        ∙ ap (λ b. if b then index_of_entries es else without_place first k ∷ index_of_entries es) (sym (ap is_vacant (sym h) ∙ v)))
    go false false l q up h ih = absurd (false≢true (sym v ∙ (ap is_vacant h ∙ (ap (λ x. is_vacant (without_place x k)) (between-nowhere first (index_of_entries es) u l q up) ∙ vacant-none u k))))

-- ---- removed
pub forgotten-removed : (es : List (ℕ × RowPlaces)) (u : ℕ) (k : Kind) → is_vacant (without_place (places_in_index (index_of_entries es) u) k) ≡ true → index_of_entries (remove_entry (is_at (nat_cmp u)) es) ≡ index_without_place (index_of_entries es) u k
forgotten-removed [] u k v = refl
forgotten-removed (e ∷ es) u k v =
    ap (λ b. index_of_entries (cond b es (e ∷ remove_entry (is_at (nat_cmp u)) es))) (at-is e.0 u) ∙ go (e.0 == u) v (forgotten-removed es u k)
  where
    first : Places
    first = of_sender e.0 e.1

    go : (c : Bool) → is_vacant (without_place (if c then first else places_in_index (index_of_entries es) u) k) ≡ true
        → (is_vacant (without_place (places_in_index (index_of_entries es) u) k) ≡ true → index_of_entries (remove_entry (is_at (nat_cmp u)) es) ≡ index_without_place (index_of_entries es) u k)
        → index_of_entries (cond c es (e ∷ remove_entry (is_at (nat_cmp u)) es)) ≡ (if c then (if is_vacant (without_place first k) then index_of_entries es else without_place first k ∷ index_of_entries es) else first ∷ index_without_place (index_of_entries es) u k)
    go true v ih = ap (λ b. if b then index_of_entries es else without_place first k ∷ index_of_entries es) (sym v)
    go false v ih = ap (λ (ps : List Places). first ∷ ps) (ih v)

-- ---- as the code reads them: by the derived order of names, which is that of the numbers
looked_up : (es : List (ℕ × RowPlaces)) (u : ℕ) (o : Option RowPlaces) → o ≡ lookup (is_at (ord.cmp u)) es → lookup (is_at (nat_cmp u)) es ≡ o
looked_up es u o h = ap (λ c. lookup (is_at (c u)) es) (sym cmps) ∙ sym h

pub got-read : (es : List (ℕ × RowPlaces)) (now : List Places) (u : ℕ) (p : RowPlaces) → index_of_entries es ≡ now → Some p ≡ lookup (is_at (ord.cmp u)) es → of_sender u p ≡ places_in_index now u
got-read es now u p v h = got es u p (looked_up es u (Some p) h) ∙ ap (λ ps. places_in_index ps u) v

pub absent-read : (es : List (ℕ × RowPlaces)) (now : List Places) (u : ℕ) (p : RowPlaces) → index_of_entries es ≡ now → None ≡ lookup (is_at (ord.cmp u)) es → p.nomination ≡ None → p.ballot ≡ None → of_sender u p ≡ places_in_index now u
absent-read es now u p v h a b =
    ap₂ (λ m n. let q : Places = record { sender = u; nomination = m; ballot = n } in q) a b
    ∙ (sym (absent es u (looked_up es u None h)) ∙ ap (λ ps. places_in_index ps u) v)

pub noted-read : (es : List (ℕ × RowPlaces)) (now : List Places) (u : ℕ) (k : Kind) (n : ℕ) (q p : RowPlaces)
    → index_of_entries es ≡ now → ascends now ≡ true → of_sender u q ≡ places_in_index now u → of_sender u p ≡ with_place (of_sender u q) k n
    → index_of_entries (insert_entry ord.cmp es u p) ≡ index_with_place now u k n
noted-read es now u k n q p v a f h =
    ap (λ c. index_of_entries (insert_entry c es u p)) cmps
    ∙ (noted-put es u k n p (ap ascends v ∙ a) (h ∙ ap (λ x. with_place x k n) (f ∙ ap (λ ps. places_in_index ps u) (sym v))) ∙ ap (λ ps. index_with_place ps u k n) v)

pub removed-read : (es : List (ℕ × RowPlaces)) (now : List Places) (u : ℕ) (k : Kind) (q p : RowPlaces)
    → index_of_entries es ≡ now → of_sender u q ≡ places_in_index now u → of_sender u p ≡ without_place (of_sender u q) k → is_vacant (of_sender u p) ≡ true
    → index_of_entries (remove_entry (is_at (ord.cmp u)) es) ≡ index_without_place now u k
removed-read es now u k q p v f h w =
    ap (λ c. index_of_entries (remove_entry (is_at (c u)) es)) cmps
    ∙ (forgotten-removed es u k (ap (λ ps. is_vacant (without_place (places_in_index ps u) k)) v ∙ (ap (λ x. is_vacant (without_place x k)) (sym f) ∙ (ap is_vacant (sym h) ∙ w)))
    ∙ ap (λ ps. index_without_place ps u k) v)

pub kept-read : {A B : Type 0} (r : Result A B) (es new : List (ℕ × RowPlaces)) (now : List Places) (u : ℕ) (k : Kind) (q p : RowPlaces)
    → OnOk r (new ≡ insert_entry ord.cmp es u p) → OnErr r (lookup (is_at (ord.cmp u)) es ≡ None)
    → index_of_entries es ≡ now → ascends now ≡ true → of_sender u q ≡ places_in_index now u → of_sender u p ≡ without_place (of_sender u q) k → is_vacant (of_sender u p) ≡ false
    → index_of_entries new ≡ index_without_place now u k
kept-read {A} {B} r es new now u k q p put none v a f h w = go r put none
  where
    left : of_sender u p ≡ without_place (places_in_index (index_of_entries es) u) k
    left = h ∙ ap (λ x. without_place x k) (f ∙ ap (λ ps. places_in_index ps u) (sym v))

    go : (r : Result A B) → OnOk r (new ≡ insert_entry ord.cmp es u p) → OnErr r (lookup (is_at (ord.cmp u)) es ≡ None) → index_of_entries new ≡ index_without_place now u k
    go (Ok x) put none =
        ap index_of_entries put ∙ (ap (λ c. index_of_entries (insert_entry c es u p)) cmps ∙ (forgotten-put es u k p (ap ascends v ∙ a) left w ∙ ap (λ ps. index_without_place ps u k) v))
    go (Err x) put none = absurd (false≢true (sym w ∙ (ap is_vacant left ∙ absent-vacant es u k (looked_up es u None (sym none)))))

pub listed-keys : (es : List (ℕ × RowPlaces)) → keys_of es ≡ map (λ (p : Places). p.sender) (index_of_entries es)
listed-keys [] = refl
listed-keys (e ∷ es) = ap (λ us. e.0 ∷ us) (listed-keys es)
