-- What the code of a table rests on: its rows with their index.
use Rattle.std.proofs.Common.{◌≡◌, ◌≢◌, ◌↔◌, ℕ, ◌<◌, true, false, List, [], ◌∷◌, ◌++◌, length, get_or, set, map, Option, Some, None, if◌then◌else◌, refl, sym, ◌∙◌, ap, subst}
use Rattle.std.specs.Prelude.{IfSome}
use Rattle.std.proofs.lemmas.Bool.{true≢false}
use Rattle.std.proofs.lemmas.List.{length-map}
use Rattle.scp_types.specs.declared.kind.Kind.{Kind}
use Rattle.scp_types.specs.Statements.{Sent, kind_of}
use Rattle.node_store.specs.declared.filed.Filed.{Filed}
use Rattle.node_store.specs.Archives.{sents_of}
use Rattle.scp_spec.specs.Newer.{is_newer}
use Rattle.scp_spec.specs.Rows.{has_single_rows, is_row_of, row, with_row, replaces, is_taken, table_with_offer, table_after}
use Rattle.scp_spec.proofs.Statements.Offers.{single-with, table_after-push}
use Rattle.node_table.specs.declared.table.Offer.{Offer}
use Rattle.node_table.specs.declared.table.Offer.TheVariants.{Replaced, Stale, NoMemory}
use Rattle.node_table.specs.declared.table.Put.{Put}
use Rattle.node_table.specs.Puts.{IsPut, offer_of}
use Rattle.node_table.specs.Senders.{senders}
use Rattle.node_table.specs.Places.{Places, IsIndexed, ascends, place_in_index, index_of, index_with_place, place_of_row, places_of}
use Rattle.node_table.proofs.Indexes.{place-within, place-nowhere, index-ascends, found-index, index-push, index-set, with_row-set, with_row-push}

pub indexed-empty : IsIndexed [] []
unfolding index_of senders
indexed-empty = record { single = refl; indexed = refl }

pub indexed-ascends : (rows : List Sent) (index : List Places) → IsIndexed rows index → ascends index ≡ true
indexed-ascends rows index h = ap ascends h.indexed ∙ index-ascends rows

pub indexed-found : (rows : List Sent) (index : List Places) (u : ℕ) (k : Kind) → IsIndexed rows index → place_in_index index u k ≡ place_of_row rows u k
indexed-found rows index u k h = ap (λ ps. place_in_index ps u k) h.indexed ∙ found-index rows u k

pub indexed-senders : (rows : List Sent) (index : List Places) → IsIndexed rows index → map (λ (p : Places). p.sender) index ≡ senders rows
unfolding index_of
indexed-senders rows index h = ap (map (λ (p : Places). p.sender)) h.indexed ∙ back (senders rows)
  where
    back : (ws : List ℕ) → map (λ (p : Places). p.sender) (map (places_of rows) ws) ≡ ws
    back [] = refl
    back (w ∷ ws) = ap (λ vs. w ∷ vs) (back ws)

-- ---- a row by its place
pub placed-within : (rows : List Sent) (u : ℕ) (k : Kind) (o : Option ℕ) → o ≡ place_of_row rows u k → IfSome o (λ i. i < length rows)
placed-within rows u k None e = tt
placed-within [] u k (Some i) e = cc
placed-within (x ∷ xs) u k (Some i) e = (place-within (is_row_of u k) (x ∷ xs) i x (sym e)).0

pub row-placed : (rows : List Sent) (u : ℕ) (k : Kind) (i : ℕ) (x : Sent) → place_of_row rows u k ≡ Some i → x ≡ get_or rows i x → row rows u k ≡ Some x
unfolding row
row-placed rows u k i x h e = (place-within (is_row_of u k) rows i x h).1 ∙ ap (λ (y : Sent). Some y) (sym e)

pub row-nowhere : (rows : List Sent) (u : ℕ) (k : Kind) → place_of_row rows u k ≡ None → row rows u k ≡ None
unfolding row
row-nowhere rows u k h = place-nowhere (is_row_of u k) rows h

pub taken-placed : (rows : List Sent) (e : Sent) (i : ℕ) (x : Sent) → place_of_row rows e.sender (kind_of e.body) ≡ Some i → x ≡ get_or rows i x → is_taken rows e ≡ is_newer e.body x.body
unfolding is_taken
taken-placed rows e i x h s = ap (replaces e) (row-placed rows e.sender (kind_of e.body) i x h s)

taken-first : (rows : List Sent) (e : Sent) → row rows e.sender (kind_of e.body) ≡ None → is_taken rows e ≡ true
unfolding is_taken
taken-first rows e h = ap (replaces e) h

pub taken-nowhere : (rows : List Sent) (e : Sent) → place_of_row rows e.sender (kind_of e.body) ≡ None → is_taken rows e ≡ true
unfolding is_taken
taken-nowhere rows e h = ap (replaces e) (row-nowhere rows e.sender (kind_of e.body) h)

pub table_with_offer-taken : (rows : List Sent) (e : Sent) → is_taken rows e ≡ true → table_with_offer rows e ≡ with_row e rows
unfolding table_with_offer
table_with_offer-taken rows e h = ap (λ b. if b then with_row e rows else rows) h

pub table_with_offer-stale : (rows : List Sent) (e : Sent) → is_taken rows e ≡ false → table_with_offer rows e ≡ rows
unfolding table_with_offer
table_with_offer-stale rows e h = ap (λ b. if b then with_row e rows else rows) h

-- ---- what a row more, and a row replaced, leave indexed
pub indexed-set : (rows : List Sent) (index : List Places) (e : Sent) (i : ℕ) → IsIndexed rows index → place_of_row rows e.sender (kind_of e.body) ≡ Some i → IsIndexed (set rows i e) index
indexed-set rows index e i h p = record {
  single = ap has_single_rows (sym (with_row-set rows e i p)) ∙ single-with e rows h.single;
  indexed = h.indexed ∙ sym (index-set rows i e e (place-within (is_row_of e.sender (kind_of e.body)) rows i e p).2);
}

pub indexed-push : (rows : List Sent) (index : List Places) (e : Sent) → IsIndexed rows index → place_of_row rows e.sender (kind_of e.body) ≡ None → IsIndexed (rows ++ e ∷ []) (index_with_place index e.sender (kind_of e.body) (length rows))
indexed-push rows index e h p = record {
  single = ap has_single_rows (sym (with_row-push rows e p)) ∙ single-with e rows h.single;
  indexed = ap (λ ps. index_with_place ps e.sender (kind_of e.body) (length rows)) h.indexed ∙ index-push rows e p;
}

-- ---- as the code reads them, where the rows are what the table is now
pub found-read : (rows now : List Sent) (index : List Places) (u : ℕ) (k : Kind) → IsIndexed rows index → rows ≡ now → place_in_index index u k ≡ place_of_row now u k
found-read rows now index u k h r = indexed-found rows index u k h ∙ ap (λ xs. place_of_row xs u k) r

pub senders-read : (rows now : List Sent) (index : List Places) → IsIndexed rows index → rows ≡ now → map (λ (p : Places). p.sender) index ≡ senders now
senders-read rows now index h r = indexed-senders rows index h ∙ ap senders r

pub taken-read : (rows now : List Sent) (e x : Sent) (i : ℕ) → rows ≡ now → place_of_row now e.sender (kind_of e.body) ≡ Some i → x ≡ get_or rows i x → is_newer e.body x.body ≡ is_taken now e
taken-read rows now e x i r h s = sym (taken-placed now e i x h (s ∙ ap (λ xs. get_or xs i x) r))

pub set-read : (rows now : List Sent) (index : List Places) (e : Sent) (i : ℕ) → IsIndexed rows index → rows ≡ now → place_of_row now e.sender (kind_of e.body) ≡ Some i → IsIndexed (set rows i e) index
set-read rows now index e i h r p = indexed-set rows index e i h (ap (λ xs. place_of_row xs e.sender (kind_of e.body)) r ∙ p)

pub push-read : (rows now more : List Sent) (index noted_index : List Places) (e : Sent) (u : ℕ) (k : Kind) (n : ℕ)
    → IsIndexed rows index → rows ≡ now → place_of_row now e.sender (kind_of e.body) ≡ None
    → u ≡ e.sender → k ≡ kind_of e.body → n ≡ length rows → more ≡ rows ++ e ∷ [] → noted_index ≡ index_with_place index u k n → IsIndexed more noted_index
push-read rows now more index noted_index e u k n h r p a b c d f =
    subst (λ xs. IsIndexed xs noted_index) (sym d) (subst (λ ps. IsIndexed (rows ++ e ∷ []) ps) (sym (f ∙ same)) (indexed-push rows index e h (ap (λ xs. place_of_row xs e.sender (kind_of e.body)) r ∙ p)))
  where
    same : index_with_place index u k n ≡ index_with_place index e.sender (kind_of e.body) (length rows)
    same = ap (λ w. index_with_place index w k n) a ∙ (ap (λ j. index_with_place index e.sender j n) b ∙ ap (index_with_place index e.sender (kind_of e.body)) c)

-- ---- what an answer to an offer says
abbrev pub IsAnswer : List Sent → Sent → Offer → List Sent → Type 0
IsAnswer old e Replaced new = (is_taken old e ≡ true) × (new ≡ with_row e old)
IsAnswer old e Stale new = (is_taken old e ≡ false) × (new ≡ old)
IsAnswer old e NoMemory new = (row old e.sender (kind_of e.body) ≡ None) × (new ≡ old)

pub put-answer : (old : List Filed) (e : Sent) (put : Put) (o : Offer) (new : List Filed) → IsPut old e put new → o ≡ offer_of put → IsAnswer (sents_of old) e o (sents_of new)
put-answer old e put o new h q = subst (λ x. IsAnswer (sents_of old) e x (sents_of new)) (sym q) (go put h)
  where
    go : (put : Put) → IsPut old e put new → IsAnswer (sents_of old) e (offer_of put) (sents_of new)
    go Put.Stale h = (h.0, ap sents_of h.1)
    go Put.NoMemory h = (h.0, ap sents_of h.1)
    go Put.Added h = (h.1, h.2)
    go (Put.Replaced r) h = (h.1, h.2)

pub answer-stale : (old : List Sent) (e : Sent) (o : Offer) (new : List Sent) → IsAnswer old e o new → (o ≡ Stale) ↔ (is_taken old e ≡ false)
answer-stale old e Replaced new h = (λ s. cc, λ f. absurd (true≢false (sym h.0 ∙ f)))
answer-stale old e Stale new h = (λ s. h.0, λ f. refl)
answer-stale old e NoMemory new h = (λ s. cc, λ f. absurd (true≢false (sym (taken-first old e h.0) ∙ f)))

pub answer-table : (old : List Sent) (e : Sent) (o : Offer) (new : List Sent) → IsAnswer old e o new → o ≢ NoMemory → new ≡ table_with_offer old e
answer-table old e Replaced new h n = h.1 ∙ sym (table_with_offer-taken old e h.0)
answer-table old e Stale new h n = h.1 ∙ sym (table_with_offer-stale old e h.0)
answer-table old e NoMemory new h n = absurd (n refl)

pub answer-whole : (old : List Sent) (e : Sent) (o : Offer) (new : List Sent) → IsAnswer old e o new → (taken : List Sent) → old ≡ table_after taken → o ≢ NoMemory → new ≡ table_after (taken ++ e ∷ [])
answer-whole old e o new h taken t n = answer-table old e o new h n ∙ (ap (λ es. table_with_offer es e) t ∙ sym (table_after-push taken e))

pub senders-counted : (rows now : List Sent) (index : List Places) → IsIndexed rows index → rows ≡ now → length index ≡ length (senders now)
unfolding index_of
senders-counted rows now index h e = ap length h.indexed ∙ length-map (senders rows) (places_of rows) ∙ ap (λ r. length (senders r)) e
