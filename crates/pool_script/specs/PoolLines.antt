-- What is printed of the journals of a pool.
use Rattle.std.specs.Prelude.{◌≡◌, ◌++◌, ◌∷◌, [], ℕ, List, length, codes}
use Rattle.std.specs.List.{flat_map}
use Rattle.std.specs.Fmt.{decimal}
use Rattle.line_script.specs.Script.{Bytes}
use Rattle.line_script.specs.Names.{text_of_name}
use Rattle.line_script.specs.Values.{text_of_value}
use Rattle.line_script.specs.Words.{space_between}
use Rattle.host_journal.specs.Deciding.{ExternalizedValue}
use Rattle.host_journal.specs.Logs.{Log}
use Rattle.pool_script.specs.Decisions.{IsDecided}

-- the line of what a node of a network has externalized, with its line feed (10)
abbrev pub decided_line : ℕ → ExternalizedValue → Bytes
decided_line g d =
    codes "decided "
    ++ space_between (decimal g)
    (space_between (decimal d.slot) (space_between (text_of_name d.node) (text_of_value d.value ++ 10 ∷ [])))

-- the lines of what the nodes of a network have externalized at open slots
abbrev pub AreDecidedLines : Log → Bytes → Type 0
AreDecidedLines l text =
    (ds : List ExternalizedValue) × IsDecided l.entries ds × (text ≡ flat_map (decided_line l.config.number) ds)

-- the line of how many entries a journal has
abbrev pub length_line : ℕ → ℕ → Bytes
length_line g n = codes "journal " ++ space_between (decimal g) (decimal n ++ 10 ∷ [])

-- the line of how many jobs were applied, refused and not run
abbrev pub report_line : ℕ → ℕ → ℕ → Bytes
report_line applied refused unrun =
    codes "applied "
    ++ space_between (decimal applied)
    (codes "refused " ++ space_between (decimal refused) (codes "unrun " ++ decimal unrun ++ 10 ∷ []))

-- the lines of journals, one after the other
pub data AreAllDecidedLines : List Log → Bytes → Type 0 where
  none : AreAllDecidedLines [] []
  more : {l : Log} {ls : List Log} {lines others : Bytes} → AreDecidedLines l lines → AreAllDecidedLines ls others
      → AreAllDecidedLines (l ∷ ls) (lines ++ others)

-- the lines of how many entries each journal has
abbrev pub length_lines : List Log → Bytes
length_lines ls = flat_map (λ l. length_line l.config.number (length l.entries)) ls
