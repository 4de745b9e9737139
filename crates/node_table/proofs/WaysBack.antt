-- What leads a table back: a row that is added and removed, a row that is replaced and restored.
use Rattle.std.proofs.Common.{◌≡◌, ℕ, suc, ◌<◌, Bool, true, false, not, cond, ◌&&◌, ◌==◌, ltb, List, [], ◌∷◌, ◌++◌, length, get_or, set, map, Option, Some, None, option_map, is_none, if◌then◌else◌, refl, sym, ◌∙◌, ap, ap₂, arith, subst, inl, inr}
use Rattle.std.specs.List.{list_all}
use Rattle.std.proofs.lemmas.Bool.{and_parts, and_from, cases_Bool, eq-eqb, eqb-true, ltb-true, not-true, or_left, or_right, true≢false}
use Rattle.scp_types.specs.declared.kind.Kind.{Kind}
use Rattle.scp_types.specs.declared.kind.Kind.TheVariants.{Nomination}
use Rattle.scp_types.specs.Statements.{Sent, kind_of}
use Rattle.node_store.specs.declared.filed.Filed.{Filed}
use Rattle.node_store.specs.Archives.{sent_of, sents_of}
use Rattle.scp_spec.specs.Newer.{is_newer}
use Rattle.scp_spec.specs.Rows.{has_single_rows, is_row_of, is_taken, row, with_row}
use Rattle.scp_spec.proofs.Statements.Offers.{is_row_of-parts, is_row_of-own, is_row_of-both}
use Rattle.node_table.specs.Senders.{senders}
use Rattle.node_table.specs.Places.{Places, IsIndexed, index_without_place, place_in_index, index_of, is_vacant, index_with_place, only_place, place_in, place_of_row, places_of, with_place, without_place}
use Rattle.node_table.specs.Puts.{with_known_row, with_row_at, without_last}
use Rattle.node_table.proofs.Filings.{sents-at, sents-push, sents-set}
use Rattle.node_table.proofs.Indexes.{found-index, has_name, index-push, place-nowhere, place-set, place-within, senders-exactly, with_row-push, with_row-set}
use Rattle.node_table.proofs.Searches.{no_places}
use Rattle.node_table.proofs.Tabled.{row-placed, set-read, taken-read}
use Rattle.std.proofs.lemmas.List.{set-get_or, set-set}

-- ---- a place that is noted and forgotten
no_places-in : (u : ℕ) (k : Kind) → place_in (no_places u) k ≡ None
no_places-in u Nomination = refl
no_places-in u Kind.Ballot = refl

with-sender : (p : Places) (k : Kind) (n : ℕ) → (with_place p k n).sender ≡ p.sender
with-sender p Nomination n = refl
with-sender p Kind.Ballot n = refl

without-with : (p : Places) (k : Kind) (n : ℕ) → place_in p k ≡ None → without_place (with_place p k n) k ≡ p
without-with p Nomination n e = λ i. record p { nomination = sym e i }
without-with p Kind.Ballot n e = λ i. record p { ballot = sym e i }

first-forgotten : (p : Places) (ps : List Places) (u : ℕ) (k : Kind) (n : ℕ) → p.sender ≡ u → place_in p k ≡ None → index_without_place (with_place p k n ∷ ps) u k ≡ (if is_vacant p then ps else p ∷ ps)
first-forgotten p ps u k n s e =
    ap (λ b. if b then (if is_vacant (without_place (with_place p k n) k) then ps else without_place (with_place p k n) k ∷ ps) else with_place p k n ∷ index_without_place ps u k) (eq-eqb (with_place p k n).sender u (with-sender p k n ∙ s))
    ∙ ap (λ q. if is_vacant q then ps else q ∷ ps) (without-with p k n e)

forgotten-noted : (ps : List Places) (u : ℕ) (k : Kind) (n : ℕ) → list_all (λ p. not (is_vacant p)) ps ≡ true → place_in_index ps u k ≡ None → index_without_place (index_with_place ps u k n) u k ≡ ps
forgotten-noted [] u k n v h = first-forgotten (no_places u) [] u k n refl (no_places-in u k)
forgotten-noted (p ∷ ps) u k n v h =
    let a = and_parts (not (is_vacant p)) (list_all (λ p. not (is_vacant p)) ps) v in
    go (ltb p.sender u) (p.sender == u) refl refl h (not-true (is_vacant p) a.0) (λ f. forgotten-noted ps u k n a.1 f)
  where
    go : (a b : Bool) → ltb p.sender u ≡ a → (p.sender == u) ≡ b → (if b then place_in p k else place_in_index ps u k) ≡ None → is_vacant p ≡ false → (place_in_index ps u k ≡ None → index_without_place (index_with_place ps u k n) u k ≡ ps)
        → index_without_place (if a then p ∷ index_with_place ps u k n else (if b then with_place p k n ∷ ps else only_place u k n ∷ p ∷ ps)) u k ≡ p ∷ ps
    go true true l q f v ih = let m : p.sender < u = ltb-true p.sender u l in let s : p.sender ≡ u = eqb-true p.sender u q in absurd (omega arith)
    go true false l q f v ih = ap (λ b. if b then (if is_vacant (without_place p k) then index_with_place ps u k n else without_place p k ∷ index_with_place ps u k n) else p ∷ index_without_place (index_with_place ps u k n) u k) q ∙ ap (λ qs. p ∷ qs) (ih f)
    go false true l q f v ih = first-forgotten p ps u k n (eqb-true p.sender u q) f ∙ ap (λ b. if b then ps else p ∷ ps) v
    go false false l q f v ih = first-forgotten (no_places u) (p ∷ ps) u k n refl (no_places-in u k)

-- ---- each sender of an index has a row
has-place : (rows : List Sent) (u : ℕ) → has_name (senders rows) u ≡ true → is_vacant (places_of rows u) ≡ false
unfolding row
has-place rows u h = go (place_of_row rows u Nomination) (place_of_row rows u Kind.Ballot) refl refl
  where
    go : (m n : Option ℕ) → place_of_row rows u Nomination ≡ m → place_of_row rows u Kind.Ballot ≡ n → (is_none m && is_none n) ≡ false
    go (Some i) n e f = refl
    go None (Some j) e f = refl
    go None None e f = absurd (true≢false (sym h ∙ (senders-exactly rows u ∙ rw (place-nowhere (is_row_of u Nomination) rows e, place-nowhere (is_row_of u Kind.Ballot) rows f) refl)))

all-placed : (rows : List Sent) (ws : List ℕ) → ((w : ℕ) → has_name ws w ≡ true → is_vacant (places_of rows w) ≡ false) → list_all (λ (p : Places). not (is_vacant p)) (map (places_of rows) ws) ≡ true
all-placed rows [] h = refl
all-placed rows (w ∷ ws) h =
    and_from (not (is_vacant (places_of rows w))) (list_all (λ (p : Places). not (is_vacant p)) (map (places_of rows) ws)) (ap not (h w (or_left (w == w) (has_name ws w) (eq-eqb w w refl))))
    (all-placed rows ws (λ v i. h v (or_right (w == v) (has_name ws v) i)))

index-placed : (rows : List Sent) → list_all (λ (p : Places). not (is_vacant p)) (index_of rows) ≡ true
unfolding index_of
index-placed rows = all-placed rows (senders rows) (has-place rows)

index-pop : (rows : List Sent) (e : Sent) → place_of_row rows e.sender (kind_of e.body) ≡ None → index_without_place (index_of (rows ++ e ∷ [])) e.sender (kind_of e.body) ≡ index_of rows
index-pop rows e n =
    ap (λ ps. index_without_place ps e.sender (kind_of e.body)) (sym (index-push rows e n))
    ∙ forgotten-noted (index_of rows) e.sender (kind_of e.body) (length rows) (index-placed rows) (found-index rows e.sender (kind_of e.body) ∙ n)

-- ---- rows without the last
all-ends : (p : Sent → Bool) (xs : List Sent) (y : Sent) → list_all p (xs ++ y ∷ []) ≡ true → (list_all p xs ≡ true) × (p y ≡ true)
all-ends p [] y h = (refl, (and_parts (p y) true h).0)
all-ends p (x ∷ xs) y h = let a = and_parts (p x) (list_all p (xs ++ y ∷ [])) h in let r = all-ends p xs y a.1 in (and_from (p x) (list_all p xs) a.0 r.0, r.1)

-- the last of single rows is the first of its sender and kind
single-ends : (xs : List Sent) (e : Sent) → has_single_rows (xs ++ e ∷ []) ≡ true → (has_single_rows xs ≡ true) × (place_of_row xs e.sender (kind_of e.body) ≡ None)
single-ends [] e h = (refl, refl)
single-ends (x ∷ xs) e h =
    let a = and_parts (list_all (λ y. not (is_row_of x.sender (kind_of x.body) y)) (xs ++ e ∷ [])) (has_single_rows (xs ++ e ∷ [])) h in
    let b = all-ends (λ y. not (is_row_of x.sender (kind_of x.body) y)) xs e a.0 in
    let r = single-ends xs e a.1 in (
      and_from (list_all (λ y. not (is_row_of x.sender (kind_of x.body) y)) xs) (has_single_rows xs) b.0 r.0,
      elim (cases_Bool (is_row_of e.sender (kind_of e.body) x)) [
        | inl i ↦ absurd (true≢false (sym (is_row_of-both e.sender (kind_of e.body) e x (is_row_of-own e) i) ∙ not-true (is_row_of x.sender (kind_of x.body) e) b.1))
        | inr i ↦ ap (λ c. cond c (Some 0) (option_map suc (place_of_row xs e.sender (kind_of e.body)))) i ∙ ap (option_map suc) r.1
      ],
    )

pub last-pushed : (xs : List Filed) (e : Filed) → without_last (xs ++ e ∷ []) ≡ xs
last-pushed [] e = refl
last-pushed (x ∷ []) e = refl
last-pushed (x ∷ y ∷ ys) e = ap (λ zs. x ∷ zs) (last-pushed (y ∷ ys) e)

-- ---- a row that is replaced and restored
-- the row at a place is of that sender and kind
row_at-parts : (rows : List Filed) (u : ℕ) (k : Kind) (i : ℕ) (r : Filed) → place_of_row (sents_of rows) u k ≡ Some i → r ≡ get_or rows i r → ((sent_of r).sender ≡ u) × (kind_of (sent_of r).body ≡ k)
row_at-parts rows u k i r p e =
    let at = (place-within (is_row_of u k) (sents_of rows) i (sent_of r) p).2 in
    is_row_of-parts u k (sent_of r) (subst (λ x. is_row_of u k x ≡ true) (sents-at rows i r ∙ ap sent_of (sym e)) at)

-- another row of that sender and kind leaves the place
place-stays : (rows : List Filed) (i : ℕ) (f r : Filed) → place_of_row (sents_of rows) (sent_of f).sender (kind_of (sent_of f).body) ≡ Some i → r ≡ get_or rows i r
    → place_of_row (sents_of (set rows i f)) (sent_of r).sender (kind_of (sent_of r).body) ≡ Some i
place-stays rows i f r p e =
    let u = (sent_of f).sender in
    let k = kind_of (sent_of f).body in
    let parts = row_at-parts rows u k i r p e in
    let at = (place-within (is_row_of u k) (sents_of rows) i (sent_of r) p).2 in
    ap₂ (λ w j. place_of_row (sents_of (set rows i f)) w j) parts.0 parts.1
    ∙ (ap (λ xs. place_of_row xs u k) (sents-set rows i f)
    ∙ (place-set (is_row_of u k) (sents_of rows) i (sent_of f) (sent_of r) (at ∙ sym (is_row_of-own (sent_of f))) ∙ p))

pub row-restored : (old new : List Filed) (i : ℕ) (f r : Filed) → place_of_row (sents_of old) (sent_of f).sender (kind_of (sent_of f).body) ≡ Some i → r ≡ get_or old i r → new ≡ set old i f → with_known_row r new ≡ old
row-restored old new i f r p e n =
    ap (with_known_row r) n
    ∙ (ap (λ o. with_row_at o r (set old i f)) (place-stays old i f r p e)
    ∙ (set-set old i f r ∙ (ap (set old i) e ∙ set-get_or old i r)))

-- ---- as the code reads them
pub popped-read : (rows left : List Filed) (index less : List Places) (r : Filed) (e : Sent) → IsIndexed (sents_of rows) index → rows ≡ left ++ r ∷ [] → e ≡ sent_of r → less ≡ index_without_place index e.sender (kind_of e.body) → IsIndexed (sents_of left) less
popped-read rows left index less r e h p q f =
    let parted = ap sents_of p ∙ sents-push left r in
    let s = single-ends (sents_of left) (sent_of r) (subst (λ xs. has_single_rows xs ≡ true) parted h.single) in
    record {
      single = s.0;
      indexed = f ∙ (ap (λ (x : Sent). index_without_place index x.sender (kind_of x.body)) q ∙ (ap (λ ps. index_without_place ps (sent_of r).sender (kind_of (sent_of r).body)) (h.indexed ∙ ap index_of parted) ∙ index-pop (sents_of left) (sent_of r) s.1));
    }

pub left-last : (rows now left : List Filed) (r : Filed) → rows ≡ now → rows ≡ left ++ r ∷ [] → left ≡ without_last now
left-last rows now left r v e = sym (last-pushed left r) ∙ ap without_last (sym e ∙ v)

pub added-last : (old new : List Filed) (f : Filed) → new ≡ old ++ f ∷ [] → without_last new ≡ old
added-last old new f h = ap without_last h ∙ last-pushed old f

-- a row put in its place, or added, is the table with the envelope
pub replaced-filed : (old new : List Filed) (i : ℕ) (f : Filed) → place_of_row (sents_of old) (sent_of f).sender (kind_of (sent_of f).body) ≡ Some i → new ≡ set old i f → sents_of new ≡ with_row (sent_of f) (sents_of old)
replaced-filed old new i f p n = ap sents_of n ∙ (sents-set old i f ∙ sym (with_row-set (sents_of old) (sent_of f) i p))

pub added-filed : (old new : List Filed) (f : Filed) → place_of_row (sents_of old) (sent_of f).sender (kind_of (sent_of f).body) ≡ None → new ≡ old ++ f ∷ [] → sents_of new ≡ with_row (sent_of f) (sents_of old)
added-filed old new f p n = ap sents_of n ∙ (sents-push old f ∙ sym (with_row-push (sents_of old) (sent_of f) p))

-- the row at a place
pub row-filed : (now : List Filed) (u : ℕ) (k : Kind) (i : ℕ) (x : Filed) → place_of_row (sents_of now) u k ≡ Some i → x ≡ get_or now i x → row (sents_of now) u k ≡ Some (sent_of x)
row-filed now u k i x p e = row-placed (sents_of now) u k i (sent_of x) p (ap sent_of e ∙ sym (sents-at now i x))

pub taken-filed : (rows now : List Filed) (e : Sent) (i : ℕ) (x : Filed) → rows ≡ now → place_of_row (sents_of now) e.sender (kind_of e.body) ≡ Some i → x ≡ get_or rows i x → is_newer e.body (sent_of x).body ≡ is_taken (sents_of now) e
taken-filed rows now e i x v p h = taken-read (sents_of rows) (sents_of now) e (sent_of x) i (ap sents_of v) p (ap sent_of h ∙ sym (sents-at rows i x))

pub set-filed : (rows now : List Filed) (index : List Places) (f : Filed) (i : ℕ) → IsIndexed (sents_of rows) index → rows ≡ now → place_of_row (sents_of now) (sent_of f).sender (kind_of (sent_of f).body) ≡ Some i → IsIndexed (sents_of (set rows i f)) index
set-filed rows now index f i h v p = subst (λ xs. IsIndexed xs index) (sym (sents-set rows i f)) (set-read (sents_of rows) (sents_of now) index (sent_of f) i h (ap sents_of v) p)
