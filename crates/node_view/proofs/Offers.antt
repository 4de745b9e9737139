-- What a put and an offer make of a table.
use Rattle.std.proofs.Common.{◌≡◌, true, false, List, None, refl, ap, inl, inr, ◌⊎◌}
use Rattle.std.proofs.lemmas.Bool.{false≢true}
use Rattle.scp_types.specs.Statements.{Sent, kind_of}
use Rattle.scp_spec.specs.Rows.{is_taken, table_with_offer, replaces, row, with_row}
use Rattle.node_store.specs.declared.filed.Filed.{Filed}
use Rattle.node_store.specs.Archives.{sents_of}
use Rattle.node_table.specs.declared.table.Put.{Put}
use Rattle.node_table.specs.declared.table.Put.TheVariants.{Stale, NoMemory, Added, Replaced}
use Rattle.node_table.specs.Puts.{IsPut}
use Rattle.node_view.specs.Listening.{is_put}

pub table_with_offer-taken : (table : List Sent) (x : Sent) → is_taken table x ≡ true → table_with_offer table x ≡ with_row x table
unfolding table_with_offer
table_with_offer-taken table x e = rw e refl

pub table_with_offer-stale : (table : List Sent) (x : Sent) → is_taken table x ≡ false → table_with_offer table x ≡ table
unfolding table_with_offer
table_with_offer-stale table x e = rw e refl

-- a put that the table has is what an offer makes of it
pub put-takes : (old new : List Filed) (x : Sent) (p : Put) → IsPut old x p new → (p ≡ Added) ⊎ ((y : Filed) × (p ≡ Replaced y)) → (is_taken (sents_of old) x ≡ true) × (sents_of new ≡ with_row x (sents_of old))
put-takes old new x p put is = go p put (kept is)
  where
    kept : (p ≡ Added) ⊎ ((y : Filed) × (p ≡ Replaced y)) → is_put p ≡ true
    kept (inl q) = ap is_put q
    kept (inr q) = ap is_put q.1

    go : (p : Put) → IsPut old x p new → is_put p ≡ true → (is_taken (sents_of old) x ≡ true) × (sents_of new ≡ with_row x (sents_of old))
    go Stale h k = absurd (false≢true k)
    go NoMemory h k = absurd (false≢true k)
    go Added h k = (h.1, h.2)
    go (Replaced r) h k = (h.1, h.2)

-- the first envelope of its sender and kind is not stale
pub first-taken : (table : List Sent) (x : Sent) → row table x.sender (kind_of x.body) ≡ None → is_taken table x ≡ true
unfolding is_taken
first-taken table x e = ap (replaces x) e
