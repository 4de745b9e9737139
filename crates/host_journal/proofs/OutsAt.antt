-- What a journal has at a number, as its code reads it.
use Rattle.std.proofs.Common.{◌≡◌, ℕ, List, map, Option, option_map, slice_get, sym, ap, ◌∙◌}
use Rattle.std.proofs.lemmas.Option.{slice_get-map}
use Rattle.scp_spec.specs.Hosts.{Entry}
use Rattle.host_journal.specs.declared.kept.StoredEntry.{StoredEntry}
use Rattle.host_journal.specs.declared.kept.LentEntry.{LentEntry}
use Rattle.host_journal.specs.Keeping.{entry_of, lent_entry}

-- what is read at a number is the entry with that number
pub looked-up : (kept : List StoredEntry) (entries : List Entry) (n : ℕ) (o : Option LentEntry) → map entry_of kept ≡ entries → option_map lent_entry o ≡ option_map entry_of (slice_get kept n) → slice_get entries n ≡ option_map lent_entry o
looked-up kept entries n o is at = ap (λ (xs : List Entry). slice_get xs n) (sym is) ∙ slice_get-map entry_of kept n ∙ sym at
