-- The row that an envelope replaces stands in the table no more, so it can be let go.
use Rattle.std.proofs.Common.{◌≡◌, ◌≢◌, ◌<◌, ◌∙◌, ℕ, zero, suc, true, List, [], ◌∷◌, None, Some, get_or, set, if◌then◌else◌, sym, subst, ap}
use Rattle.std.specs.List.{Contains, slice_get}
use Rattle.std.proofs.lemmas.Bool.{true≢false}
use Rattle.std.proofs.lemmas.List.{get_or-map, length-map}
use Rattle.scp_types.specs.Statements.{Sent, kind_of}
use Rattle.scp_spec.specs.Newer.{is_newer}
use Rattle.scp_spec.specs.Rows.{has_single_rows, is_row_of, is_taken, row, with_row}
use Rattle.scp_spec.proofs.Statements.Found.{row_found}
use Rattle.scp_spec.proofs.Statements.Newer.{newer-itself}
use Rattle.scp_spec.proofs.Statements.Offers.{is_row_of-own, is_row_of-parts, row-with, single-with}
use Rattle.node_store.specs.declared.filed.Filed.{Filed}
use Rattle.node_store.specs.Archives.{AreFiled, Archived, IsFiled, sent_of, sents_of}
use Rattle.node_view.proofs.FoundRows.{row_is}

is-newer : (old : List Sent) (e x : Sent) → row old e.sender (kind_of e.body) ≡ Some x → is_taken old e ≡ true → is_newer e.body x.body ≡ true
unfolding is_taken
is-newer old e x stood taken = rw stood at taken

gone : (old : List Sent) (e x : Sent) → has_single_rows old ≡ true → row old e.sender (kind_of e.body) ≡ Some x → is_taken old e ≡ true → (g : Sent) → Contains (with_row e old) g → g ≢ x
gone old e x single stood taken g there same =
    let found : row (with_row e old) x.sender (kind_of x.body) ≡ Some x = row_found (with_row e old) x (single-with e old single) (subst (λ y. Contains (with_row e old) y) same there) in
    let its = is_row_of-parts e.sender (kind_of e.body) x (row_is old e.sender (kind_of e.body) x stood) in
    let own : is_row_of x.sender (kind_of x.body) e ≡ true = (λ i. is_row_of (its.0 i) (its.1 i) e) ∙ is_row_of-own e in
    let with_it : row (with_row e old) x.sender (kind_of x.body) ≡ Some e = row-with e old x.sender (kind_of x.body) ∙ ap (λ b. if b then Some e else row old x.sender (kind_of x.body)) own in
    let one : e ≡ x = cc in
    true≢false (sym (subst (λ (y : Sent). is_newer y.body x.body ≡ true) one (is-newer old e x stood taken)) ∙ newer-itself x.body)

-- another envelope stays where one is let go
stays : (archive : Archived) (n k : ℕ) (x y : Sent) → slice_get archive n ≡ Some (Some x) → slice_get archive k ≡ Some (Some y) → y ≢ x → slice_get (set archive n None) k ≡ Some (Some y)
stays [] n k x y h q d = absurd (cc)
stays (z ∷ zs) zero zero x y h q d = absurd (d (cc))
stays (z ∷ zs) zero (suc k) x y h q d = q
stays (z ∷ zs) (suc n) zero x y h q d = q
stays (z ∷ zs) (suc n) (suc k) x y h q d = stays zs n k x y h q d

pub rows-stay : (old new : List Filed) (e : Sent) (r : Filed) (archive after : Archived) → has_single_rows (sents_of old) ≡ true → row (sents_of old) e.sender (kind_of e.body) ≡ Some (sent_of r) → is_taken (sents_of old) e ≡ true
    → sents_of new ≡ with_row e (sents_of old) → AreFiled archive new → IsFiled archive r → after ≡ set archive r.number None → AreFiled after new
rows-stay old new e r archive after single stood taken is filed known cleared = λ k d inside.
    let f = get_or new k d in
    let there : Contains (sents_of new) (sent_of f) = (k, subst (λ n. k < n) (sym (length-map new sent_of)) inside, get_or-map sent_of new k d (sent_of f) inside) in
    subst (λ (a : Archived). IsFiled a f) (sym cleared) (stays archive r.number f.number (sent_of r) (sent_of f) known (filed k d inside) (gone (sents_of old) e (sent_of r) single stood taken (sent_of f) (subst (λ es. Contains es (sent_of f)) is there)))
