-- What a table makes of an envelope, and the way back.
use Rattle.std.specs.Prelude.{◌≡◌, ℕ, true, false, List, [], ◌∷◌, Option, Some, None, slice_set, ⊤}
use Rattle.scp_types.specs.Statements.{Sent, kind_of}
use Rattle.node_store.specs.declared.filed.Filed.{Filed}
use Rattle.node_store.specs.Archives.{Archived, IsFiled, sent_of, sents_of}
use Rattle.scp_spec.specs.Rows.{row, with_row, is_taken}
use Rattle.node_table.specs.declared.table.Offer.{Offer}
use Rattle.node_table.specs.declared.table.Put.{Put}
use Rattle.node_table.specs.declared.table.Put.TheVariants.{Stale, NoMemory, Added, Replaced}
use Rattle.node_table.specs.Places.{place_of_row}

-- what the answer to a put says of the table before and after
abbrev pub IsPut : List Filed → Sent → Put → List Filed → Type 0
IsPut old e Stale new = (is_taken (sents_of old) e ≡ false) × (new ≡ old)
IsPut old e NoMemory new = (row (sents_of old) e.sender (kind_of e.body) ≡ None) × (new ≡ old)
IsPut old e Added new =
    (row (sents_of old) e.sender (kind_of e.body) ≡ None) × (is_taken (sents_of old) e ≡ true)
    × (sents_of new ≡ with_row e (sents_of old))
IsPut old e (Replaced r) new =
    (row (sents_of old) e.sender (kind_of e.body) ≡ Some (sent_of r)) × (is_taken (sents_of old) e ≡ true)
    × (sents_of new ≡ with_row e (sents_of old))

-- the archive has the row that a put replaced
abbrev pub IsFiledPut : Archived → Put → Type 0
IsFiledPut archive Stale = ⊤
IsFiledPut archive NoMemory = ⊤
IsFiledPut archive Added = ⊤
IsFiledPut archive (Replaced r) = IsFiled archive r

-- the answer to a put without the way back
abbrev pub offer_of : Put → Offer
offer_of Stale = Offer.Stale
offer_of NoMemory = Offer.NoMemory
offer_of Added = Offer.Replaced
offer_of (Replaced r) = Offer.Replaced

-- all rows but the last
abbrev pub without_last : List Filed → List Filed
without_last [] = []
without_last (x ∷ []) = []
without_last (x ∷ y ∷ ys) = x ∷ without_last (y ∷ ys)

-- a row at a place; without a place, the table as it is
abbrev pub with_row_at : Option ℕ → Filed → List Filed → List Filed
with_row_at None r table = table
with_row_at (Some i) r table = slice_set table i r

-- a row in the place of its sender's row of that kind; if there is none, the table as it is
abbrev pub with_known_row : Filed → List Filed → List Filed
with_known_row r table =
    with_row_at (place_of_row (sents_of table) (sent_of r).sender (kind_of (sent_of r).body)) r table

-- the table before a put, by the one after it
abbrev pub before_put : Put → List Filed → List Filed
before_put Stale table = table
before_put NoMemory table = table
before_put Added table = without_last table
before_put (Replaced r) table = with_known_row r table
