-- Hosts whose networks have as much left of their budgets, though not as much was declared and used up: they answer all
-- further lines alike.
use Rattle.std.specs.Prelude.{◌≡◌, ◌+◌, ◌++◌, ℕ, Bool, List, [], ◌∷◌, Option, option_map}
use Rattle.std.specs.List.{flat_map}
use Rattle.std.specs.Fmt.{decimal}
use Rattle.scp_spec.specs.Hosts.{Config}
use Rattle.scp_spec.specs.Networks.{Budgets, Net, Step, net_step}
use Rattle.scp_spec.specs.Rosters.{Roster, Shares}
use Rattle.host_network.specs.Standing.{IsStood, Machine}
use Rattle.line_script.specs.Script.{Bytes}
use Rattle.live_feed.specs.Served.{LineReply, ServesAll}
use Rattle.live_feed.specs.declared.answering.Drawn.{Drawn}
use Rattle.live_network.specs.Telling.{IsServedBy}
use Rattle.live_network.specs.declared.served.Served.{Served}
use Rattle.live_host.specs.Hosts.{Live, Serves, new_live}

-- ---- so much more is declared, and as much more is used up
abbrev pub moved_budgets : Drawn → Budgets → Budgets
moved_budgets d b = record b { events = b.events + d.events; bytes = b.bytes + d.bytes }

abbrev pub moved_shares : Drawn → Shares → Shares
moved_shares d s = record s { opens = s.opens + d.opens }

abbrev pub moved_roster : Drawn → Roster → Roster
moved_roster d r = record r { shares = moved_shares d r.shares }

-- A network with this many more events and bytes in its budgets, and as many more that are used up. Openings and
-- closings are more too: those that are used up, and those of its roster, if it has one.
abbrev pub moved_net : Drawn → Net → Net
moved_net d net = record net {
  budgets = moved_budgets d net.budgets;
  roster = option_map (moved_roster d) net.roster;
  events = net.events + d.events;
  bytes = net.bytes + d.bytes;
  opens = net.opens + d.opens;
}

abbrev pub moved_config : Drawn → Config → Config
moved_config d c = record c { budgets = moved_budgets d c.budgets; roster = option_map (moved_roster d) c.roster }

-- the same of a network as the host keeps it
abbrev pub moved : Drawn → Machine → Machine
moved d m = record m {
  config = moved_config d m.config;
  events = m.events + d.events;
  bytes = m.bytes + d.bytes;
  opens = m.opens + d.opens;
}

-- ---- what comes of an event is the same
-- A step is answered alike if so much more is declared and used up, and what becomes of the networks differs only by
-- that.
abbrev pub MovedNetsStepAlike : Type 0
MovedNetsStepAlike =
    (d : Drawn) (net : Net) (e : Step)
    → net_step (moved_net d net) e ≡ (moved_net d (net_step net e).0, (net_step net e).1)

-- An event comes to the same, with all that the others hear, if so much more is declared and used up.
abbrev pub MovedMachinesServeAlike : Type 0
MovedMachinesServeAlike =
    (d : Drawn) (old new : Machine) (e : Step) (s : Served)
    → IsServedBy old e new s → IsServedBy (moved d old) e (moved d new) s

-- What an event comes to with so much more, it comes to without, if the network stands for one of the definitions.
abbrev pub MovedMachinesServeNoMore : Type 0
MovedMachinesServeNoMore =
    (d : Drawn) (old moved_new : Machine) (e : Step) (s : Served) → IsStood old → IsServedBy (moved d old) e moved_new s
    → (new : Machine) × IsStood new × (moved_new ≡ moved d new) × IsServedBy old e new s

-- ---- hosts that are alike
-- these are one network, which stands for one of the definitions, the one with so much more and the other with so much
pub record AreBothMoved (more other : Drawn) (m n : Machine) : Type 0 where
  pub common : Machine
  pub stood : IsStood common
  pub one_is : m ≡ moved more common
  pub other_is : n ≡ moved other common

-- they are that for some amounts: they have the same open slots, and as much left
abbrev pub IsAlike : Machine → Machine → Type 0
IsAlike m n = (more : Drawn) × (other : Drawn) × AreBothMoved more other m n

-- networks have the same numbers, and those of each number are alike
pub data AreAllAlike : List (ℕ × Machine) → List (ℕ × Machine) → Type 0 where
  none_runs : AreAllAlike [] []
  both_run : {g : ℕ} {m n : Machine} {ms ns : List (ℕ × Machine)}
      → IsAlike m n → AreAllAlike ms ns → AreAllAlike ((g, m) ∷ ms) ((g, n) ∷ ns)

-- two hosts print envelopes the same way, have the same networks waiting, and those that run are alike
pub record AreAlike (l other : Live) : Type 0 where
  pub bytes : other.bytes ≡ l.bytes
  pub waiting : other.waiting ≡ l.waiting
  pub running : AreAllAlike l.running other.running

-- what a line is answered by one of two alike hosts it is answered by the other, and they are alike after it
abbrev pub AlikeHostsAnswerAlike : Type 0
AlikeHostsAnswerAlike =
    (l other new : Live) (n : ℕ) (line : Option Bytes) (a : LineReply) → AreAlike l other → Serves l n line a new
    → (other_new : Live) × Serves other n line a other_new × AreAlike new other_new

-- all further lines are answered alike by two alike hosts: what may be told, and what journals may have, is the same
abbrev pub FuturesAreAlike : Type 0
FuturesAreAlike =
    (longest : ℕ) (l other new : Live) (n : ℕ) (lines journal : List Bytes) (text : Bytes) → AreAlike l other
    → ServesAll Serves longest l n lines journal text new
    → (other_new : Live) × ServesAll Serves longest other n lines journal text other_new × AreAlike new other_new

-- ---- which hosts are alike
-- a host that is alike another has that one alike it
abbrev pub AlikeBothWays : Type 0
AlikeBothWays = (l other : Live) → AreAlike l other → AreAlike other l

-- a host that is alike one that is alike a third is alike the third
abbrev pub AlikeInTurn : Type 0
AlikeInTurn = (l other third : Live) → AreAlike l other → AreAlike other third → AreAlike l third

-- each host that lines lead to is alike itself
abbrev pub ReachedHostsAreAlike : Type 0
ReachedHostsAreAlike =
    (longest : ℕ) (bytes : Bool) (n : ℕ) (lines journal : List Bytes) (text : Bytes) (l : Live)
    → ServesAll Serves longest (new_live bytes) n lines journal text l → AreAlike l l

-- a network that stands for one of the definitions is alike itself
abbrev pub StandingIsAlike : Type 0
StandingIsAlike = (m : Machine) → IsStood m → IsAlike m m

-- what is alike a network is so with so much more too
abbrev pub MovedIsAlike : Type 0
MovedIsAlike = (d : Drawn) (m n : Machine) → IsAlike m n → IsAlike m (moved d n)

-- ---- numbers of lines
-- these, each behind a number and a space (32)
abbrev pub behind_number : ℕ → List Bytes → Bytes
behind_number n rests = flat_map (λ rest. decimal n ++ 32 ∷ rest) rests

-- the blocks of lines, the first of which has this number
abbrev pub behind_numbers : ℕ → List (List Bytes) → Bytes
behind_numbers n [] = []
behind_numbers n (block ∷ blocks) = behind_number n block ++ behind_numbers (n + 1) blocks

-- What a line is answered that has one number, it is answered with any other, which then begins each line of the block.
abbrev pub NumbersStandInFront : Type 0
NumbersStandInFront =
    (l new : Live) (n : ℕ) (line : Option Bytes) (a : LineReply) → AreAlike l l → Serves l n line a new
    → (rests : List Bytes) × (a.text ≡ behind_number n rests)
    × ((k : ℕ) → Serves l k line (record { text = behind_number k rests; done = a.done }) new)

-- Alike hosts answer all further lines alike but for their numbers, if one of them counts from another number on.
abbrev pub FuturesAreAlikeButForNumbers : Type 0
FuturesAreAlikeButForNumbers =
    (longest : ℕ) (l other new : Live) (n : ℕ) (lines journal : List Bytes) (text : Bytes) → AreAlike l other
    → ServesAll Serves longest l n lines journal text new
    → (blocks : List (List Bytes)) × (other_new : Live) × (text ≡ behind_numbers n blocks) × AreAlike new other_new
    × ((k : ℕ) → ServesAll Serves longest other k lines journal (behind_numbers k blocks) other_new)
