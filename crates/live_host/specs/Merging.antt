-- Hosts that are put together from their networks: if each network is given with its own lines, there is one host that
-- has them all.
use Rattle.std.specs.Prelude.{◌≡◌, ◌≤◌, ◌==◌, ◌++◌, ℕ, Bool, IsTrue, List, [], ◌∷◌, map, length, Option, Some, None, if◌then◌else◌}
use Rattle.scp_spec.specs.Sets.{among}
use Rattle.host_network.specs.Standing.{Machine}
use Rattle.line_script.specs.Script.{Bytes}
use Rattle.live_feed.specs.Served.{LineReply, ServesAll}
use Rattle.live_feed.specs.WholeLines.{given}
use Rattle.live_feed.specs.declared.answering.Done.{Done}
use Rattle.line_request.specs.Outlines.{waiting_at}
use Rattle.live_host.specs.Apart.{HasRoomForNetwork, IsOrdered, OthersStay, alone, texts_of_lines, lines_of_network}
use Rattle.live_host.specs.Futures.{AreAlike, IsAlike}
use Rattle.live_host.specs.Hosts.{Live, Serves, live_at, new_live}

-- ---- one line
-- if the network of this number is not declared yet, fewer are declared than may be
abbrev pub HasRoomToDeclare : ℕ → Live → Type 0
HasRoomToDeclare g l = waiting_at l.waiting g ≡ None → live_at l g ≡ None → HasRoomForNetwork l

-- What a line is answered if there is only its network, it may be answered next to others, if this network is declared
-- there, or there is room for it.
abbrev pub LinesAreAnsweredWhereRoomIs : Type 0
LinesAreAnsweredWhereRoomIs =
    (l own : Live) (n : ℕ) (line : Option Bytes) (a : LineReply) (d : Done) → IsOrdered l → HasRoomToDeclare d.network l
    → Serves (alone d.network l) n line a own → a.done ≡ Some d
    → (t : Live) × Serves l n line a t × (alone d.network t ≡ own) × OthersStay d.network l t

-- ---- many lines
-- Lines are answered one after the other, each with some number, and each of them does something to the network of this
-- number, so that all of them are kept.
pub data RunsAlone (longest g : ℕ) : Live → List Bytes → Live → Type 0 where
  none_left : {l : Live} → RunsAlone longest g l [] l
  next_line : {l now new : Live} {line : Bytes} {lines : List Bytes} (n : ℕ) (a : LineReply) (d : Done)
      → Serves l n (given longest line) a now → a.done ≡ Some d → d.network ≡ g → RunsAlone longest g now lines new
      → RunsAlone longest g l (line ∷ lines) new

-- lines that each do something to one network may be served from any number on, and a journal has them all
abbrev pub LinesAloneAreServed : Type 0
LinesAloneAreServed =
    (longest g : ℕ) (l new : Live) (lines : List Bytes) → AreAlike l l → RunsAlone longest g l lines new
    → (n : ℕ) → (text : Bytes) × ServesAll Serves longest l n lines lines text new

-- lines that each do something to one network, and then others that do so, may be served as one sequence of lines
abbrev pub LinesAloneInTurn : Type 0
LinesAloneInTurn =
    (longest g : ℕ) (l now new : Live) (lines more : List Bytes) → RunsAlone longest g l lines now
    → RunsAlone longest g now more new → RunsAlone longest g l (lines ++ more) new

-- the lines of a network in a run may be served without the others, and each does something to it
abbrev pub OwnLinesRunAlone : Type 0
OwnLinesRunAlone =
    (longest : ℕ) (bytes : Bool) (n : ℕ) (lines journal : List Bytes) (text : Bytes) (t : Live)
    (run : ServesAll Serves longest (new_live bytes) n lines journal text t) (g : ℕ)
    → RunsAlone longest g (new_live bytes) (texts_of_lines (lines_of_network g run)) (alone g t)

-- of lines, each behind the number of its network, those of one network
abbrev pub lines_for : ℕ → List (ℕ × Bytes) → List Bytes
lines_for g [] = []
lines_for g (e ∷ es) = if e.0 == g then e.1 ∷ lines_for g es else lines_for g es

-- all of them
abbrev pub all_lines : List (ℕ × Bytes) → List Bytes
all_lines es = map (λ (e : ℕ × Bytes). e.1) es

-- the networks of the lines are among these
abbrev pub AreLinesOf : List ℕ → List (ℕ × Bytes) → Type 0
AreLinesOf numbers [] = Unit {0}
AreLinesOf numbers (e ∷ es) = IsTrue (among numbers e.0) × AreLinesOf numbers es

-- Each of at most 4,096 networks may be served its own lines, with no other network there. Then all lines may be served
-- in any order in which those of each network stay in theirs. What becomes of each network is the same.
abbrev pub LinesMayBeMerged : Type 0
LinesMayBeMerged =
    (longest : ℕ) (bytes : Bool) (n : ℕ) (lines : List (ℕ × Bytes)) (numbers : List ℕ) (own : ℕ → Live)
    → AreLinesOf numbers lines → length numbers ≤ 4096
    → ((g : ℕ) → RunsAlone longest g (new_live bytes) (lines_for g lines) (own g))
    → (text : Bytes) × (l : Live) × ServesAll Serves longest (new_live bytes) n (all_lines lines) (all_lines lines) text l
    × ((g : ℕ) → alone g l ≡ own g)

-- ---- hosts by their networks
-- of both there is none, or there are two that are alike
abbrev pub AreBothAlike : Option Machine → Option Machine → Type 0
AreBothAlike None None = Unit {0}
AreBothAlike None (Some n) = ⊥
AreBothAlike (Some m) None = ⊥
AreBothAlike (Some m) (Some n) = IsAlike m n

-- two hosts whose networks are alike, each that of its number, are alike
abbrev pub HostsAreAlikeByParts : Type 0
HostsAreAlikeByParts =
    (l other : Live) → IsOrdered l → IsOrdered other → other.bytes ≡ l.bytes
    → ((g : ℕ) → waiting_at other.waiting g ≡ waiting_at l.waiting g)
    → ((g : ℕ) → AreBothAlike (live_at l g) (live_at other g)) → AreAlike l other
