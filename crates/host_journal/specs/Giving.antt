-- What entries of a journal gave out, by the numbers of the entries.
use Rattle.std.specs.Prelude.{◌≡◌, ◌==◌, ◌<◌, ℕ, Vec, List, [], ◌∷◌, ◌++◌, length, map, Some, None, Result, Ok, Err, if◌then◌else◌}
use Rattle.std.specs.Global.{Global}
use Rattle.host_config.specs.Configs.{index_in}
use Rattle.node_core.specs.declared.filed.FiledOut.{FiledOut}
use Rattle.host_journal.specs.declared.outs_list.EntryOuts.{EntryOuts}
use Rattle.host_journal.specs.declared.outs_list.KeptOuts.{KeptOuts}

-- what an entry gave out, as it is kept
abbrev pub kept_outs : KeptOuts → List FiledOut
kept_outs p = p.outs.value.items

-- the number of the entry that gave out what a list keeps
abbrev pub entry_number : EntryOuts → ℕ
entry_number x = x.entry

-- what the entry with a number gave out: nothing, if none of these lists is that of the entry
abbrev pub listed_at : List EntryOuts → ℕ → List FiledOut
listed_at [] n = []
listed_at (x ∷ xs) n = if x.entry == n then x.outs.items else listed_at xs n

-- the lists with one more behind them, if something was given out
abbrev pub put_behind : List FiledOut → List EntryOuts → EntryOuts → List EntryOuts
put_behind [] lists x = lists
put_behind (o ∷ os) lists x = lists ++ x ∷ []

-- the lists with what an entry gave out, if that is something
abbrev pub with_outs : ℕ → Vec FiledOut Global → List EntryOuts → List EntryOuts
with_outs n outs lists = put_behind outs.items lists (record { entry = n; outs = outs })

-- the place of the list of an entry, or none
abbrev pub IsFoundAt : List EntryOuts → ℕ → Result ℕ ℕ → Type 0
IsFoundAt lists n (Ok at) = (index_in (map entry_number lists) n ≡ Some at) × (at < length lists)
IsFoundAt lists n (Err at) = index_in (map entry_number lists) n ≡ None
