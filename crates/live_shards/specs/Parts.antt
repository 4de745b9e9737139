-- A live host in parts: each has the networks whose numbers leave its place as their remainder.
use Rattle.std.specs.Prelude.{◌≡◌, ◌≢◌, ◌+◌, ◌%◌, ◌<◌, ℕ, Bool, false, List, [], ◌∷◌, length, slice_index_or, slice_set, Option, Some, None}
use Rattle.std.specs.BTreeMap.{insert_entry}
use Rattle.std.specs.Ordering.{nat_cmp}
use Rattle.line_script.specs.Script.{AreFields, Bytes, IsSkipped}
use Rattle.live_feed.specs.Served.{AreAnswered, LineReply}
use Rattle.line_request.specs.Asking.{IsAskedOf}
use Rattle.line_request.specs.Outlines.{waiting_at}
use Rattle.line_request.specs.declared.ask.Ask.{Ask}
use Rattle.live_host.specs.Apart.{HasRoomToAnswer, IsOrdered}
use Rattle.live_host.specs.Hosts.{Live, Serves, live_at, new_live}

-- ---- parts
-- the entries of both, ascending by number if both ascend
abbrev pub both_of : {X : Type 0} → List (ℕ × X) → List (ℕ × X) → List (ℕ × X)
both_of [] es = es
both_of (d ∷ ds) es = insert_entry nat_cmp (both_of ds es) d.0 d.1

-- the host that has the networks of all parts, and prints envelopes as the first does
abbrev pub joined : List Live → Live
joined [] = new_live false
joined (l ∷ ls) = record {
  bytes = l.bytes;
  waiting = both_of l.waiting (joined ls).waiting;
  running = both_of l.running (joined ls).running;
}

-- at which of `count` places the network of a number is
abbrev pub place_of : ℕ → ℕ → ℕ
place_of count g = g % count

-- the networks of the host at a place, of `count`, ascend by number, and all are of this place
pub record IsHostPart (count place : ℕ) (l : Live) : Type 0 where
  pub ordered : IsOrdered l
  pub own : (g : ℕ) → place_of count g ≢ place → (waiting_at l.waiting g ≡ None) × (live_at l g ≡ None)

-- the part at a place
abbrev pub part_at : Bool → List Live → ℕ → Live
part_at bytes parts k = slice_index_or parts k (new_live bytes)

-- these are the parts of one host, which print envelopes alike
pub record AreParts (bytes : Bool) (parts : List Live) : Type 0 where
  pub some : 0 < length parts
  pub alike : (k : ℕ) → k < length parts → (part_at bytes parts k).bytes ≡ bytes
  pub each : (k : ℕ) → k < length parts → IsHostPart (length parts) k (part_at bytes parts k)

-- how many networks are declared
abbrev pub networks_of : Live → ℕ
networks_of l = length l.waiting + length l.running

-- how many networks are declared in all parts together
abbrev pub networks_of_all : List Live → ℕ
networks_of_all [] = 0
networks_of_all (l ∷ ls) = networks_of l + networks_of_all ls

-- the host has as many networks as its parts together
abbrev pub JoinedHostsHaveAllNetworks : Type 0
JoinedHostsHaveAllNetworks =
    (bytes : Bool) (parts : List Live) → AreParts bytes parts → networks_of (joined parts) ≡ networks_of_all parts

-- ---- one line
-- what a line asks for, it asks of a network of this place, of `count`
abbrev pub IsOfPlace : ℕ → ℕ → Option Bytes → Type 0
IsOfPlace count place None = Unit {0}
IsOfPlace count place (Some line) =
    (IsSkipped line → ⊥) → (fields : List Bytes) (g : ℕ) (asked : Ask) → AreFields line fields
    → IsAskedOf fields (Some (g, asked)) → place_of count g ≡ place

-- if a line declares a network, the host has room for it
abbrev pub HasRoomForLine : Option Bytes → Live → Type 0
HasRoomForLine None l = Unit {0}
HasRoomForLine (Some line) l =
    (IsSkipped line → ⊥) → (fields : List Bytes) (g : ℕ) (asked : Ask) → AreFields line fields
    → IsAskedOf fields (Some (g, asked)) → HasRoomToAnswer asked l

-- what a part answers to a line of its place, the whole host answers, if both have room for the network that it may declare
abbrev pub PartsAnswerForTheWhole : Type 0
PartsAnswerForTheWhole =
    (bytes : Bool) (parts : List Live) (k n : ℕ) (line : Option Bytes) (a : LineReply) (new : Live) → AreParts bytes parts
    → k < length parts → IsOfPlace (length parts) k line → HasRoomForLine line (part_at bytes parts k)
    → HasRoomForLine line (joined parts) → Serves (part_at bytes parts k) n line a new
    → Serves (joined parts) n line a (joined (slice_set parts k new)) × AreParts bytes (slice_set parts k new)

-- ---- many lines
-- Of lines, the first with this number, the host at a place answered those of this place one after the other, until one
-- was not answered. If all were, this is what the host is then; else nothing is said of that.
pub data AreOwnAnswered (k : ℕ) : Live → ℕ → List (Option Bytes) → List ℕ → List LineReply → Live → Type 0 where
  at_end : {s : Live} {n : ℕ} → AreOwnAnswered k s n [] [] [] s
  own : {s u t : Live} {n : ℕ} {line : Option Bytes} {lines : List (Option Bytes)} {places : List ℕ} {answers : List LineReply}
      (a : LineReply) → Serves s n line a u → AreOwnAnswered k u (n + 1) lines places answers t
      → AreOwnAnswered k s n (line ∷ lines) (k ∷ places) (a ∷ answers) t
  not_own : {s t : Live} {n : ℕ} {line : Option Bytes} {lines : List (Option Bytes)} {places : List ℕ}
      {answers : List LineReply} (p : ℕ) → p ≢ k → AreOwnAnswered k s (n + 1) lines places answers t
      → AreOwnAnswered k s n (line ∷ lines) (p ∷ places) answers t
  stops : {s t : Live} {n : ℕ} {line : Option Bytes} {lines : List (Option Bytes)} {places : List ℕ}
      → AreOwnAnswered k s n (line ∷ lines) (k ∷ places) [] t

-- From the answers of all places the next one of each place was taken, in the order of these. That may have ended
-- before the last of them, even if an answer was left there.
pub data AreGathered : List ℕ → List (List LineReply) → List LineReply → Type 0 where
  ends : {places : List ℕ} {all : List (List LineReply)} → AreGathered places all []
  takes : {p : ℕ} {places : List ℕ} {all : List (List LineReply)} {a : LineReply} {rest answers : List LineReply}
      → slice_index_or all p [] ≡ a ∷ rest → AreGathered places (slice_set all p rest) answers
      → AreGathered (p ∷ places) all (a ∷ answers)

-- each line is of its place, of `count`, and declares no network
abbrev pub ArePlaced : ℕ → List (Option Bytes) → List ℕ → Type 0
ArePlaced count [] [] = Unit {0}
ArePlaced count [] (p ∷ places) = ⊥
ArePlaced count (line ∷ lines) [] = ⊥
ArePlaced count (line ∷ lines) (p ∷ places) =
    (p < count) × IsOfPlace count p line × ((l : Live) → HasRoomForLine line l) × ArePlaced count lines places

-- Let each part answer the lines of its place, none of which declares a network. Then the gathered answers may be those
-- of the whole host to the lines one after the other. If none is missing, the host is what the parts are then.
abbrev pub PartsAnswerLinesForTheWhole : Type 0
PartsAnswerLinesForTheWhole =
    (bytes : Bool) (parts now : List Live) (n : ℕ) (lines : List (Option Bytes)) (places : List ℕ) (all : List (List LineReply))
    (answers : List LineReply) → AreParts bytes parts → length now ≡ length parts → length all ≡ length parts
    → ArePlaced (length parts) lines places
    → ((k : ℕ) → k < length parts
    → AreOwnAnswered k (part_at bytes parts k) n lines places (slice_index_or all k []) (part_at bytes now k))
    → AreGathered places all answers
    → (t : Live) × AreAnswered Serves (joined parts) n lines answers t
    × (length answers ≡ length lines → (t ≡ joined now) × AreParts bytes now)
