-- Networks are apart: what a host answers to the lines of one, and what becomes of it, does not depend on the others.
use Rattle.std.specs.Prelude.{◌≡◌, ◌≢◌, ◌⊎◌, ◌+◌, ◌≤◌, ◌<◌, ◌==◌, ℕ, Bool, false, List, [], ◌∷◌, map, length, Option, Some, None, if◌then◌else◌}
use Rattle.line_script.specs.Script.{Bytes}
use Rattle.live_feed.specs.Served.{LineReply, ServesAll}
use Rattle.live_feed.specs.Served.ServesAll.{next, none}
use Rattle.live_feed.specs.declared.answering.Done.{Done}
use Rattle.line_request.specs.Outlines.{waiting_at}
use Rattle.line_request.specs.declared.ask.Ask.{Ask}
use Rattle.live_host.specs.Futures.{AreAlike, behind_number, behind_numbers}
use Rattle.live_host.specs.Hosts.{IsAskAnswered, Live, Serves, live_at, new_live}
use Rattle.line_request.specs.declared.ask.Ask.TheVariants as ask
use Rattle.line_request.specs.declared.request.Declaration.TheVariants as declaration

-- ---- one network of a host
-- only the entry of this number, if there is one
abbrev pub only : {X : Type 0} → ℕ → Option X → List (ℕ × X)
only g None = []
only g (Some x) = (g, x) ∷ []

-- the host that has the network of this number and no other
abbrev pub alone : ℕ → Live → Live
alone g l = record { bytes = l.bytes; waiting = only g (waiting_at l.waiting g); running = only g (live_at l g) }

-- each other network is as it was
abbrev pub OthersStay : ℕ → Live → Live → Type 0
OthersStay g old new = (h : ℕ) → h ≢ g → alone h new ≡ alone h old

-- ---- hosts as lines leave them
-- the numbers ascend, the first of them from this one on, and none stands twice
abbrev pub AreFrom : {X : Type 0} → ℕ → List (ℕ × X) → Type 0
AreFrom k [] = Unit {0}
AreFrom k (e ∷ es) = (k ≤ e.0) × AreFrom (e.0 + 1) es

-- the networks that wait ascend by number, and so do those that run, and none does both
pub record IsOrdered (l : Live) : Type 0 where
  pub waiting : AreFrom 0 l.waiting
  pub running : AreFrom 0 l.running
  pub apart : (g : ℕ) → (waiting_at l.waiting g ≡ None) ⊎ (live_at l g ≡ None)

-- the networks of a host stay ascending by number with each line, those that wait and those that run
abbrev pub HostsStayOrdered : Type 0
HostsStayOrdered =
    (l t : Live) (n : ℕ) (line : Option Bytes) (a : LineReply) → IsOrdered l → Serves l n line a t → IsOrdered t

-- the networks of a host that lines lead to are ascending by number
abbrev pub ReachedHostsAreOrdered : Type 0
ReachedHostsAreOrdered =
    (longest : ℕ) (bytes : Bool) (n : ℕ) (lines journal : List Bytes) (text : Bytes) (l : Live)
    → ServesAll Serves longest (new_live bytes) n lines journal text l → IsOrdered l

-- ---- one line
-- a line that did nothing to a network changes nothing
abbrev pub IdleLinesChangeNothing : Type 0
IdleLinesChangeNothing =
    (l t : Live) (n : ℕ) (line : Option Bytes) (a : LineReply) → Serves l n line a t → a.done ≡ None → t ≡ l

-- A line did something to a network. The host that has only this network may answer it in the same way, and then has
-- the network as it is now. All other networks are as they were.
abbrev pub LinesAreLocal : Type 0
LinesAreLocal =
    (l t : Live) (n : ℕ) (line : Option Bytes) (a : LineReply) (d : Done) → IsOrdered l → Serves l n line a t
    → a.done ≡ Some d
    → Serves (alone d.network l) n line a (alone d.network t) × OthersStay d.network l t

-- fewer networks are declared than may be
abbrev pub HasRoomForNetwork : Live → Type 0
HasRoomForNetwork l = length l.waiting + length l.running < 4096

-- What a line is answered by the host that has only its network, it may be answered next to others, and it does the
-- same. The others stay. There has to be room for the network that the line may declare.
abbrev pub LinesAreAnsweredNextToOthers : Type 0
LinesAreAnsweredNextToOthers =
    (l own : Live) (n : ℕ) (line : Option Bytes) (a : LineReply) (d : Done) → IsOrdered l → HasRoomForNetwork l
    → Serves (alone d.network l) n line a own → a.done ≡ Some d
    → (t : Live) × Serves l n line a t × (alone d.network t ≡ own) × OthersStay d.network l t

-- there is room for a network, if the line declares one
abbrev pub HasRoomToAnswer : Ask → Live → Type 0
HasRoomToAnswer (ask.Declare (declaration.Net budgets)) l = HasRoomForNetwork l
HasRoomToAnswer _ l = Unit {0}

-- What a line may ask of a network, questions too, is answered as if there were no other, if there is room for one that
-- may be declared.
abbrev pub AnswersAreLocal : Type 0
AnswersAreLocal =
    (l t : Live) (n g : ℕ) (asked : Ask) (a : LineReply) → IsOrdered l → HasRoomToAnswer asked l → IsAskAnswered n g asked l a t
    → IsAskAnswered n g asked (alone g l) a (alone g t) × OthersStay g l t

-- what it is answered if there is no other network, it may be answered next to others
abbrev pub AnswersAreGivenNextToOthers : Type 0
AnswersAreGivenNextToOthers =
    (l own : Live) (n g : ℕ) (asked : Ask) (a : LineReply) → IsOrdered l → HasRoomToAnswer asked l
    → IsAskAnswered n g asked (alone g l) a own
    → (t : Live) × IsAskAnswered n g asked l a t × (alone g t ≡ own) × OthersStay g l t

-- Two hosts have a network that is alike, whatever their others are, and the other host has room for one network more.
-- What the one answers to a line that did something to the network, the other may answer too, but for the number of the
-- line. The network is alike afterwards, and the others stay.
abbrev pub AlikeNetworksAreAnsweredAlike : Type 0
AlikeNetworksAreAnsweredAlike =
    (l other t : Live) (n : ℕ) (line : Option Bytes) (a : LineReply) (d : Done) → IsOrdered l → IsOrdered other
    → HasRoomForNetwork other → AreAlike (alone d.network l) (alone d.network other) → Serves l n line a t → a.done ≡ Some d
    → (rests : List Bytes) × (a.text ≡ behind_number n rests)
    × ((k : ℕ) → (new : Live) × Serves other k line (record { text = behind_number k rests; done = a.done }) new
    × AreAlike (alone d.network t) (alone d.network new) × OthersStay d.network other new)

-- ---- many lines
-- a line that did something to a network, with its number and its answer
pub record NetworkLine : Type 0 where
  pub number : ℕ
  pub line : Bytes
  pub reply : LineReply

-- this was done to the network of a number
abbrev pub is_done_to : ℕ → Option Done → Bool
is_done_to g None = false
is_done_to g (Some d) = d.network == g

-- the lines of a run that did something to the network of a number
abbrev pub lines_of_network : {longest n : ℕ} {s t : Live} {lines journal : List Bytes} {text : Bytes} → ℕ
    → ServesAll Serves longest s n lines journal text t → List NetworkLine
lines_of_network g none = []
lines_of_network g (next {n} {line} a serves others) =
    if is_done_to g a.done then record { number = n; line = line; reply = a } ∷ lines_of_network g others else lines_of_network g others

abbrev pub texts_of_lines : List NetworkLine → List Bytes
texts_of_lines owns = map (λ o. o.line) owns

-- the answer of each of these lines is its number in front of these, the one block behind the other
abbrev pub AreTheirBlocks : List NetworkLine → List (List Bytes) → Type 0
AreTheirBlocks [] [] = Unit {0}
AreTheirBlocks [] (block ∷ blocks) = ⊥
AreTheirBlocks (o ∷ owns) [] = ⊥
AreTheirBlocks (o ∷ owns) (block ∷ blocks) = (o.reply.text ≡ behind_number o.number block) × AreTheirBlocks owns blocks

-- these are the same line, which did the same and is answered alike but for its number
pub record AreSameButForNumbers (o p : NetworkLine) : Type 0 where
  pub line : p.line ≡ o.line
  pub done : p.reply.done ≡ o.reply.done
  pub rests : List Bytes
  pub one_text : o.reply.text ≡ behind_number o.number rests
  pub other_text : p.reply.text ≡ behind_number p.number rests

abbrev pub AreAllSameButForNumbers : List NetworkLine → List NetworkLine → Type 0
AreAllSameButForNumbers [] [] = Unit {0}
AreAllSameButForNumbers [] (p ∷ ps) = ⊥
AreAllSameButForNumbers (o ∷ os) [] = ⊥
AreAllSameButForNumbers (o ∷ os) (p ∷ ps) = AreSameButForNumbers o p × AreAllSameButForNumbers os ps

-- What becomes of a network among others becomes of it by only its own lines, all of which are kept. They do the same
-- and are answered alike but for their numbers. It is so from any host on, if its networks are in order and each stands
-- for one of the definitions.
abbrev pub NetworksGoOnByTheirOwnLines : Type 0
NetworksGoOnByTheirOwnLines =
    (longest : ℕ) (l : Live) (n : ℕ) (lines journal : List Bytes) (text : Bytes) (t : Live)
    (run : ServesAll Serves longest l n lines journal text t) (g : ℕ) → IsOrdered l → AreAlike l l
    → (blocks : List (List Bytes)) × AreTheirBlocks (lines_of_network g run) blocks
    × ((k : ℕ)
    → (again : ServesAll Serves longest (alone g l) k (texts_of_lines (lines_of_network g run)) (texts_of_lines (lines_of_network g run))
    (behind_numbers k blocks) (alone g t))
    × AreAllSameButForNumbers (lines_of_network g run) (lines_of_network g again))

-- what becomes of a network among others, from a host without networks on, becomes of it by only its own lines
abbrev pub NetworksFollowTheirOwnLines : Type 0
NetworksFollowTheirOwnLines =
    (longest : ℕ) (bytes : Bool) (n : ℕ) (lines journal : List Bytes) (text : Bytes) (t : Live)
    (run : ServesAll Serves longest (new_live bytes) n lines journal text t) (g : ℕ)
    → (blocks : List (List Bytes)) × AreTheirBlocks (lines_of_network g run) blocks
    × ((k : ℕ)
    → (again : ServesAll Serves longest (new_live bytes) k (texts_of_lines (lines_of_network g run)) (texts_of_lines (lines_of_network g run))
    (behind_numbers k blocks) (alone g t))
    × AreAllSameButForNumbers (lines_of_network g run) (lines_of_network g again))

-- ---- many networks
-- the host has room for two more networks
abbrev pub HasRoomToSpare : Live → Type 0
HasRoomToSpare l = length l.waiting + length l.running + 1 < 4096

-- the host has that room before each line of a run
abbrev pub KeepsRoom : {longest n : ℕ} {s t : Live} {lines journal : List Bytes} {text : Bytes}
    → ServesAll Serves longest s n lines journal text t → Type 0
KeepsRoom none = Unit {0}
KeepsRoom (next {s} a serves others) = HasRoomToSpare s × KeepsRoom others

-- Two hosts had the same lines of a network, and any others, and the other host had room for two more networks before
-- each line. Then its journal may be served with that network as it became in the one. The lines of the network are
-- answered as there but for the numbers. All other networks, and the answers to their lines, are as they were in the
-- other.
abbrev pub NetworksAreApart : Type 0
NetworksAreApart =
    (longest : ℕ) (bytes : Bool) (g n : ℕ) (lines journal : List Bytes) (text : Bytes) (t : Live)
    (run : ServesAll Serves longest (new_live bytes) n lines journal text t)
    (m : ℕ) (other_lines other_journal : List Bytes) (other_text : Bytes) (u : Live)
    (other : ServesAll Serves longest (new_live bytes) m other_lines other_journal other_text u)
    → KeepsRoom other → texts_of_lines (lines_of_network g run) ≡ texts_of_lines (lines_of_network g other)
    → (told : Bytes) × (new : Live) × (again : ServesAll Serves longest (new_live bytes) m other_journal other_journal told new)
    × (alone g new ≡ alone g t) × OthersStay g u new × AreAllSameButForNumbers (lines_of_network g run) (lines_of_network g again)
    × ((h : ℕ) → h ≢ g → lines_of_network h again ≡ lines_of_network h other)

-- this number is none of these
abbrev pub IsNoneOf : ℕ → List ℕ → Type 0
IsNoneOf h [] = Unit {0}
IsNoneOf h (g ∷ gs) = (h ≢ g) × IsNoneOf h gs

-- Two hosts had the same lines of each network, in whatever order those of different networks came. They had lines of
-- fewer networks than may be declared at once. Then the journal of the one may lead to what the other is, with the same
-- answers but for the numbers.
abbrev pub OrderAmongNetworksDoesNotCount : Type 0
OrderAmongNetworksDoesNotCount =
    (longest : ℕ) (bytes : Bool) (n : ℕ) (lines journal : List Bytes) (text : Bytes) (t : Live)
    (run : ServesAll Serves longest (new_live bytes) n lines journal text t)
    (m : ℕ) (other_lines other_journal : List Bytes) (other_text : Bytes) (u : Live)
    (other : ServesAll Serves longest (new_live bytes) m other_lines other_journal other_text u)
    (gs : List ℕ) → length gs < 4096 → ((h : ℕ) → IsNoneOf h gs → lines_of_network h other ≡ [])
    → ((g : ℕ) → texts_of_lines (lines_of_network g run) ≡ texts_of_lines (lines_of_network g other))
    → (told : Bytes) × (again : ServesAll Serves longest (new_live bytes) m other_journal other_journal told t)
    × ((g : ℕ) → AreAllSameButForNumbers (lines_of_network g run) (lines_of_network g again))

-- ---- hosts by their networks
-- hosts whose networks are in order are alike, if each network by itself is alike
abbrev pub HostsAreAlikeByNetworks : Type 0
HostsAreAlikeByNetworks =
    (l other : Live) → IsOrdered l → IsOrdered other → ((g : ℕ) → AreAlike (alone g l) (alone g other)) → AreAlike l other

-- of alike hosts each network by itself is alike
abbrev pub NetworksOfAlikeHostsAreAlike : Type 0
NetworksOfAlikeHostsAreAlike = (l other : Live) (g : ℕ) → AreAlike l other → AreAlike (alone g l) (alone g other)
