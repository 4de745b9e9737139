-- What lasts of the lines of a journal: those that declared networks, and those of slots that are still open; and the
-- shorter journal that they make.
use Rattle.std.specs.Prelude.{◌≡◌, ◌++◌, ◌+◌, ◌-◌, ◌∷◌, [], ◌^◌, ◌&&◌, ℕ, Bool, true, false, List, length, min, nat_eq, nat_lt, not, Option, Some, None, option_map, slice_get, codes, if◌then◌else◌}
use Rattle.std.specs.List.{flat_map, starts_with}
use Rattle.std.specs.Fmt.{decimal}
use Rattle.std.specs.Ordering.{nat_cmp}
use Rattle.std.specs.BTreeMap.{insert_entry, is_at}
use Rattle.std.specs.Map.{lookup, remove_entry, set_value, values_of}
use Rattle.line_script.specs.Script.{Bytes, lines_with_feeds}
use Rattle.line_script.specs.Words.{split_once, word_number}
use Rattle.live_feed.specs.Served.{Serving}
use Rattle.live_feed.specs.declared.answering.Deed.{Deed}
use Rattle.live_feed.specs.declared.answering.Deed.TheVariants.{Declared, Refused, Applied, Closed, Dropped}
use Rattle.live_feed.specs.declared.answering.Done.{Done}
use Rattle.live_feed.specs.declared.answering.Drawn.{Drawn}

-- ---- what is known of a journal

-- a line that declares a network, one of its nodes or its roster
pub record Declaration : Type 0 where
  pub network : ℕ
  pub text : Bytes

-- the lines that last, by their numbers: those that declare something, and those of open slots
pub record Lasting : Type 0 where
  pub declarations : List (ℕ × Declaration)
  pub events : List (ℕ × Bytes)

-- an open slot: the numbers of its lines from the one on that opened it, and what they drew
pub record SlotLines : Type 0 where
  pub lines : List ℕ
  pub drawn : Drawn

-- A network that is declared: the numbers of the lines that declared it, and whether an event has named it. Then what
-- events drew that are not of open slots, and its open slots by number.
pub record NetworkLines : Type 0 where
  pub declared : List ℕ
  pub is_named : Bool
  pub lost : Drawn
  pub slots : List (ℕ × SlotLines)

-- the lines that last, and the networks by their numbers
pub record Lines : Type 0 where
  pub lasting : Lasting
  pub networks : List (ℕ × NetworkLines)

-- what answers lines, and what lasts of those that came
pub record Watched (S : Type 0) : Type 0 where
  pub server : S
  pub lines : Lines

-- nothing lasts, as before the first line
abbrev pub no_lines : Lines
no_lines = record { lasting = record { declarations = []; events = [] }; networks = [] }

-- a server that has answered no line yet
abbrev pub unwatched : {S : Type 0} → S → Watched S
unwatched s = record { server = s; lines = no_lines }

-- ---- what was drawn

abbrev pub nothing_drawn : Drawn
nothing_drawn = record { events = 0; bytes = 0; opens = 0 }

-- of two numbers the sum, or the greatest number below 2^64
abbrev pub sum_of : ℕ → ℕ → ℕ
sum_of m n = min (m + n) (2 ^ 64 - 1)

-- two draws together, each number up to the greatest below 2^64
abbrev pub both_drawn : Drawn → Drawn → Drawn
both_drawn a b = record {
  events = sum_of a.events b.events;
  bytes = sum_of a.bytes b.bytes;
  opens = sum_of a.opens b.opens;
}

-- ---- what a line changes

-- a network of which no line is known
abbrev pub new_network : NetworkLines
new_network = record { declared = []; is_named = false; lost = nothing_drawn; slots = [] }

-- the entry of a number in a list
abbrev pub entry_at : {X : Type 0} → List (ℕ × X) → ℕ → Option X
entry_at entries n = lookup (is_at (nat_cmp n)) entries

-- a list without the entry of a number
abbrev pub without : {X : Type 0} → ℕ → List (ℕ × X) → List (ℕ × X)
without n entries = remove_entry (is_at (nat_cmp n)) entries

-- a list without the entries of these numbers
abbrev pub without_all : {X : Type 0} → List ℕ → List (ℕ × X) → List (ℕ × X)
without_all [] entries = entries
without_all (n ∷ ns) entries = without_all ns (without n entries)

-- the open slots of a network without the lines of these slots
abbrev pub without_slots : {X : Type 0} → List SlotLines → List (ℕ × X) → List (ℕ × X)
without_slots [] entries = entries
without_slots (slot ∷ slots) entries = without_slots slots (without_all slot.lines entries)

-- the line with this number, which drew so much, is one more of a slot, or its first
abbrev pub slots_with : Option SlotLines → ℕ → ℕ → Drawn → List (ℕ × SlotLines) → List (ℕ × SlotLines)
slots_with None i n d slots = insert_entry nat_cmp slots i (record { lines = n ∷ []; drawn = d })
slots_with (Some slot) i n d slots =
    set_value (is_at (nat_cmp i)) slots (record { lines = slot.lines ++ n ∷ []; drawn = both_drawn slot.drawn d })

-- what the lines of a slot drew, if it is open
abbrev pub drawn_at : Option SlotLines → Drawn
drawn_at None = nothing_drawn
drawn_at (Some slot) = slot.drawn

-- what is known of a network behind a line with this number
abbrev pub network_after : ℕ → Deed → NetworkLines → NetworkLines
network_after n Declared net = record net { declared = net.declared ++ n ∷ [] }
network_after n Refused net = record net { is_named = true }
network_after n (Applied i d) net = record net { is_named = true; slots = slots_with (entry_at net.slots i) i n d net.slots }
network_after n (Closed i d) net = record net {
  is_named = true;
  lost = both_drawn net.lost (both_drawn (drawn_at (entry_at net.slots i)) d);
  slots = without i net.slots;
}
network_after n Dropped net = net

-- the lines of open slots, without those of a slot, if it is open
abbrev pub events_but : Option SlotLines → List (ℕ × Bytes) → List (ℕ × Bytes)
events_but None events = events
events_but (Some slot) events = without_all slot.lines events

-- what lasts behind a line with this number, by what it did to a network
abbrev pub lasting_after : ℕ → Bytes → ℕ → Deed → NetworkLines → Lasting → Lasting
lasting_after n text g Declared net old =
    record old { declarations = insert_entry nat_cmp old.declarations n (record { network = g; text = text }) }
lasting_after n text g Refused net old = old
lasting_after n text g (Applied i d) net old = record old { events = insert_entry nat_cmp old.events n text }
lasting_after n text g (Closed i d) net old = record old { events = events_but (entry_at net.slots i) old.events }
lasting_after n text g Dropped net old = record {
  declarations = without_all net.declared old.declarations;
  events = without_slots (values_of net.slots) old.events;
}

-- the lines that last behind a line after which its network is there
abbrev pub with_network : Option NetworkLines → ℕ → Bytes → Done → Lines → Lines
with_network None n text done old = record {
  lasting = lasting_after n text done.network done.deed new_network old.lasting;
  networks = insert_entry nat_cmp old.networks done.network (network_after n done.deed new_network);
}
with_network (Some net) n text done old = record {
  lasting = lasting_after n text done.network done.deed net old.lasting;
  networks = set_value (is_at (nat_cmp done.network)) old.networks (network_after n done.deed net);
}

-- the lines that last behind a line after which its network is not there
abbrev pub without_network : Option NetworkLines → ℕ → Bytes → Done → Lines → Lines
without_network None n text done old = old
without_network (Some net) n text done old = record {
  lasting = lasting_after n text done.network done.deed net old.lasting;
  networks = without done.network old.networks;
}

abbrev pub is_drop : Deed → Bool
is_drop Declared = false
is_drop Refused = false
is_drop (Applied i d) = false
is_drop (Closed i d) = false
is_drop Dropped = true

-- what is known behind a line that did this
abbrev pub lines_after : ℕ → Bytes → Done → Lines → Lines
lines_after n text done old =
    if is_drop done.deed then without_network (entry_at old.networks done.network) n text done old
    else with_network (entry_at old.networks done.network) n text done old

-- the lines that last behind one more line; one that did nothing and an empty one change nothing
abbrev pub lasting_behind : ℕ → Option Bytes → Option Done → Lines → Lines
lasting_behind n None did old = old
lasting_behind n (Some []) did old = old
lasting_behind n (Some (b ∷ text)) None old = old
lasting_behind n (Some (b ∷ text)) (Some done) old = lines_after n (b ∷ text) done old

-- a line is answered as it was, and the lines that last are known
abbrev pub Watching : {S : Type 0} → Serving S → Serving (Watched S)
Watching serves old n line a new =
    serves old.server n line a new.server × (new.lines ≡ lasting_behind n line a.done old.lines)

-- the number of the first line of those of open slots
abbrev pub first_line : Lasting → Option ℕ
first_line lasting = option_map (λ (e : ℕ × Bytes). e.0) (slice_get lasting.events 0)

-- ---- the shorter journal

-- the number that a word spells, less another one; a word that spells none stays
abbrev pub less : ℕ → Option ℕ → Bytes → Bytes
less by None word = word
less by (Some n) word = decimal (n - by)

-- the number that a word spells, less another one; a word that spells none stays
abbrev pub lowered_word : ℕ → Bytes → Bytes
lowered_word by word = less by (word_number (2 ^ 64) word) word

-- what is made of a first word, and of what stands behind the space (32) after it
abbrev pub on_words : (Bytes → Bytes) → (Bytes → Bytes) → Option (Bytes × Bytes) → Bytes → Bytes
on_words first others None text = first text
on_words first others (Some parts) text = first parts.0 ++ 32 ∷ others parts.1

-- the first words of a text with these numbers less
abbrev pub lowered_words : List ℕ → Bytes → Bytes
lowered_words [] text = text
lowered_words (by ∷ more) text = on_words (lowered_word by) (lowered_words more) (split_once 32 text) text

-- a line that declares a network, or its roster, with budgets that are so much less:
-- `net N events E bytes B ..`, `roster N own O pair P bytes B opens S ..`
unfoldable pub lowered : Drawn → Bytes → Bytes
lowered d text =
    if starts_with nat_eq text (codes "net ") then lowered_words (0 ∷ 0 ∷ 0 ∷ d.events ∷ 0 ∷ d.bytes ∷ []) text
    else if starts_with nat_eq text (codes "roster ") then lowered_words (0 ∷ 0 ∷ 0 ∷ 0 ∷ 0 ∷ 0 ∷ 0 ∷ 0 ∷ 0 ∷ d.opens ∷ []) text
    else text

-- what was drawn on the budgets of a network by events that are not of open slots
abbrev pub lost_at : Option NetworkLines → Drawn
lost_at None = nothing_drawn
lost_at (Some net) = net.lost

-- a kept line that declares something, with what is left of its budgets, and a line feed (10)
abbrev pub declaration_text : List (ℕ × NetworkLines) → Declaration → Bytes
declaration_text networks d = lowered (lost_at (entry_at networks d.network)) d.text ++ 10 ∷ []

-- `close N 0`, a line that is refused and names a network; nothing if no event has named it, or a slot is open
abbrev pub naming_text : ℕ × NetworkLines → Bytes
naming_text e =
    if e.1.is_named && not (nat_lt 0 (length e.1.slots)) then codes "close " ++ (decimal e.0 ++ 32 ∷ 48 ∷ 10 ∷ []) else []

-- the shorter journal: what declares networks, what names those of which no slot is open, and what concerns open slots
abbrev pub compacted : Lines → Bytes
compacted lines =
    flat_map (declaration_text lines.networks) (values_of lines.lasting.declarations)
    ++ (flat_map naming_text lines.networks ++ lines_with_feeds (values_of lines.lasting.events))
