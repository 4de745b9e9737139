-- A shorter journal, of the lines that last, leads to a host that is alike the one to which the whole journal led.
use Rattle.std.specs.Prelude.{◌≡◌, ◌≤◌, ◌<◌, ◌+◌, ◌==◌, ◌&&◌, ◌++◌, ◌^◌, not, ℕ, Bool, true, false, cond, nat_lt, List, [], ◌∷◌, map, filter, length, codes, Option, Some, None, Ok}
use Rattle.std.specs.Fmt.{decimal}
use Rattle.std.specs.Io.KnownBytes.{Appends}
use Rattle.scp_types.specs.declared.event.Event.{Event}
use Rattle.scp_spec.specs.Hosts.{Config}
use Rattle.scp_spec.specs.Rosters.{Shares}
use Rattle.host_network.specs.Decoding.{step_of}
use Rattle.host_network.specs.Standing.{Machine}
use Rattle.live_network.specs.declared.served.Served.{Served}
use Rattle.line_script.specs.Script.{Bytes, lines_with_feeds}
use Rattle.live_feed.specs.Acts.{lines_run}
use Rattle.live_feed.specs.Compacting.{HasCompacted}
use Rattle.live_feed.specs.Lasting.{Declaration, Lines, NetworkLines, SlotLines, Watched, Watching, both_drawn, compacted, entry_at, lost_at, lowered, network_after, new_network, nothing_drawn, unwatched}
use Rattle.live_feed.specs.Served.{LineReply, ServesAll}
use Rattle.live_feed.specs.WholeLines.{given}
use Rattle.live_feed.specs.declared.answering.Deed.{Deed}
use Rattle.live_feed.specs.declared.answering.Deed.TheVariants as deed
use Rattle.live_feed.specs.declared.answering.Done.{Done}
use Rattle.live_feed.specs.declared.answering.Drawn.{Drawn}
use Rattle.line_request.specs.Asking.{IsAskedOf}
use Rattle.line_request.specs.Outlines.{IsConfigOf, Outlined, waiting_at}
use Rattle.line_request.specs.declared.ask.Ask.{Ask}
use Rattle.line_request.specs.declared.ask.Ask.TheVariants as ask
use Rattle.line_request.specs.declared.request.Declaration.{Declaration as DeclarationOf}
use Rattle.line_request.specs.declared.request.Declaration.TheVariants as declaration
use Rattle.live_host.specs.Apart.{AreFrom, IsOrdered, alone}
use Rattle.live_host.specs.Erasing.{AreServedInTurn, IsLineErasable, Line, is_line_at}
use Rattle.live_host.specs.Erasing.Line.{OfBytes, OfEvent}
use Rattle.live_host.specs.Futures.{AreAlike, IsAlike, moved_config}
use Rattle.live_host.specs.Hosts.{IsAskAnswered, Live, Remembers, Serves, begun, deed_of, deed_of_all, live_at, new_live, slot_of_answers}
use Rattle.live_host.specs.Lowering.{less_outline, waits_alone, runs_alone}
use Rattle.live_host.specs.Merging.{AreBothAlike, RunsAlone}
use Rattle.live_host.specs.declared.all.NodeAnswer.{NodeAnswer}

-- ---- the law
-- The shorter journal of a host that lines led to, if no block said that it was out of memory. It is whole lines, each
-- of which is kept, and they may lead to a host that is alike. So that its own lines are not too long, the longest may
-- not be too short: `close N 0` has at most 18 bytes.
abbrev pub ShorterJournalsLeadToAlikeHosts : Type 0
ShorterJournalsLeadToAlikeHosts =
    (longest : ℕ) → 32 ≤ longest → (bytes : Bool) (lines journal : List Bytes) (text : Bytes) (w : Watched Live)
    → ServesAll (Watching Remembers) longest (unwatched (new_live bytes)) 1 lines journal text w
    → (short : List Bytes) × (told : Bytes) × (u : Live) × (compacted w.lines ≡ lines_with_feeds short)
    × ServesAll Serves longest (new_live bytes) 1 short short told u × AreAlike w.server u

-- So is what `compact` writes: the lines that a start runs of the file led to a host, and those that were written may lead to
-- one that is alike.
abbrev pub CompactedFilesLeadToAlikeHosts : Type 0
CompactedFilesLeadToAlikeHosts =
    (longest : ℕ) → 32 ≤ longest → (bytes : Bool) (file : Bytes) (old new : Option Bytes)
    → HasCompacted Remembers longest (new_live bytes) (Some file) old new (Ok tt)
    → (journal : List Bytes) × (text : Bytes) × (l : Live)
    × ServesAll Remembers longest (new_live bytes) 1 (lines_run file) journal text l
    × (short : List Bytes) × (told : Bytes) × (u : Live) × Appends old new (lines_with_feeds short)
    × ServesAll Serves longest (new_live bytes) 1 short short told u × AreAlike l u

-- ---- lines and their deeds
-- a line, and what it does to its network
pub record LineDeed : Type 0 where
  pub line : Bytes
  pub deed : Deed

abbrev pub done_as : ℕ → Deed → Done
done_as g d = record { network = g; deed = d }

-- Lines are answered one after the other, each with some number, and each of them does this to the network of a number.
pub data DoAll (longest g : ℕ) : Live → List LineDeed → Live → Type 0 where
  no_deed : {l : Live} → DoAll longest g l [] l
  one_deed : {l now new : Live} {deeds : List LineDeed} (n : ℕ) (text : Bytes) (first : LineDeed)
      → Serves l n (given longest first.line) (record { text = text; done = Some (done_as g first.deed) }) now
      → DoAll longest g now deeds new → DoAll longest g l (first ∷ deeds) new

-- ---- lines that last
-- a line that was applied: its number and that of its network, and its slot and what it drew
pub record AppliedLine : Type 0 where
  pub number : ℕ
  pub network : ℕ
  pub text : Bytes
  pub slot : ℕ
  pub drawn : Drawn

abbrev pub pair_of : AppliedLine → ℕ × Bytes
pair_of e = (e.number, e.text)

abbrev pub line_deed_of : AppliedLine → LineDeed
line_deed_of e = record { line = e.text; deed = deed.Applied e.slot e.drawn }

abbrev pub declaring : Bytes → LineDeed
declaring text = record { line = text; deed = deed.Declared }

-- it is one of a network, or of a slot
abbrev pub is_of_network : ℕ → AppliedLine → Bool
is_of_network g e = e.network == g

abbrev pub is_at_slot : ℕ → AppliedLine → Bool
is_at_slot i e = e.slot == i

-- the lines of a network, and all others
abbrev pub of_network : ℕ → List AppliedLine → List AppliedLine
of_network g es = filter (is_of_network g) es

abbrev pub but_of_network : ℕ → List AppliedLine → List AppliedLine
but_of_network g es = filter (λ e. not (is_of_network g e)) es

-- the lines of a slot, and all others
abbrev pub lines_at_slot : ℕ → List AppliedLine → List AppliedLine
lines_at_slot i es = filter (is_at_slot i) es

abbrev pub but_at_slot : ℕ → List AppliedLine → List AppliedLine
but_at_slot i es = filter (λ e. not (is_at_slot i e)) es

-- the lines of all networks, without those at a slot of one
abbrev pub but_there : ℕ → ℕ → List AppliedLine → List AppliedLine
but_there g i es = filter (λ e. not (is_of_network g e && is_at_slot i e)) es

abbrev pub declares_of : ℕ → (ℕ × Declaration) → Bool
declares_of g e = e.1.network == g

abbrev pub declarations_of : ℕ → List (ℕ × Declaration) → List (ℕ × Declaration)
declarations_of g ds = filter (declares_of g) ds

abbrev pub declared_text : ℕ × Declaration → Bytes
declared_text e = e.1.text

abbrev pub declared_number : ℕ × Declaration → ℕ
declared_number e = e.0

-- what is noted of the lines of a slot
abbrev pub noted : Option SlotLines → AppliedLine → Option SlotLines
noted None e = Some (record { lines = e.number ∷ []; drawn = e.drawn })
noted (Some s) e = Some (record { lines = s.lines ++ e.number ∷ []; drawn = both_drawn s.drawn e.drawn })

abbrev pub noted_behind : Option SlotLines → List AppliedLine → Option SlotLines
noted_behind o [] = o
noted_behind o (e ∷ es) = noted_behind (noted o e) es

abbrev pub slot_lines : List AppliedLine → Option SlotLines
slot_lines es = noted_behind None es

-- ---- lines that were applied, with memory
-- the line asks for this of the network of a number: whoever answers this answers the line
abbrev pub LineAsks : ℕ → ℕ → Bytes → Ask → Type 0
LineAsks longest g line asked =
    (n : ℕ) (old new : Live) (a : LineReply) → IsAskAnswered n g asked old a new → Serves old n (given longest line) a new

-- A line that was applied asks for what a network serves, an event or bytes for each node, and it did what came of that.
pub data IsAskedBy (longest g : ℕ) (e : AppliedLine) : Line → Type 0 where
  asks_event : (x : Event) (s : Served) (d : Drawn) → LineAsks longest g e.text (ask.Serve x)
      → deed_of x s d ≡ deed.Applied e.slot e.drawn → IsAskedBy longest g e (OfEvent (step_of x) s d)
  asks_for_all : (bytes : Bytes) (answers : List NodeAnswer) (d : Drawn) → LineAsks longest g e.text (ask.ForAll bytes)
      → deed_of_all (slot_of_answers answers) d ≡ deed.Applied e.slot e.drawn
      → IsAskedBy longest g e (OfBytes bytes answers d)

-- it is of the same slot, and memory sufficed for it
pub record IsServedFor (longest g : ℕ) (e : AppliedLine) (l : Line) : Type 0 where
  pub asked : IsAskedBy longest g e l
  pub at : (i : ℕ) → is_line_at i l ≡ is_at_slot i e
  pub kept : IsLineErasable l

-- each of them
pub data AreServedFor (longest g : ℕ) : List AppliedLine → List Line → Type 0 where
  none_served : AreServedFor longest g [] []
  next_served : {e : AppliedLine} {es : List AppliedLine} {l : Line} {lines : List Line}
      → IsServedFor longest g e l → AreServedFor longest g es lines → AreServedFor longest g (e ∷ es) (l ∷ lines)

-- lines that were applied lead from one machine to another, with memory for all that they are answered
pub record AreApplied (longest g : ℕ) (m : Machine) (es : List AppliedLine) (after : Machine) : Type 0 where
  pub lines : List Line
  pub served : AreServedFor longest g es lines
  pub run : AreServedInTurn m lines after

-- what these lines drew, and so much more
abbrev pub all_drawn : List AppliedLine → Drawn → Drawn
all_drawn [] d = d
all_drawn (e ∷ es) d = record {
  events = e.drawn.events + (all_drawn es d).events;
  bytes = e.drawn.bytes + (all_drawn es d).bytes;
  opens = e.drawn.opens + (all_drawn es d).opens;
}

-- ---- what a line changes
abbrev pub network_behind : ℕ → Deed → Option NetworkLines → Option NetworkLines
network_behind n deed.Dropped o = None
network_behind n d None = Some (network_after n d new_network)
network_behind n d (Some net) = Some (network_after n d net)

abbrev pub declarations_behind : ℕ → Bytes → ℕ → Deed → List (ℕ × Declaration) → List (ℕ × Declaration)
declarations_behind n text g deed.Declared ds = ds ++ (n, record { network = g; text = text }) ∷ []
declarations_behind n text g deed.Refused ds = ds
declarations_behind n text g (deed.Applied i d) ds = ds
declarations_behind n text g (deed.Closed i d) ds = ds
declarations_behind n text g deed.Dropped ds = filter (λ e. not (declares_of g e)) ds

abbrev pub applied_behind : ℕ → Bytes → ℕ → Deed → List AppliedLine → List AppliedLine
applied_behind n text g deed.Declared es = es
applied_behind n text g deed.Refused es = es
applied_behind n text g (deed.Applied i d) es =
    es ++ record { number = n; network = g; text = text; slot = i; drawn = d } ∷ []
applied_behind n text g (deed.Closed i d) es = but_there g i es
applied_behind n text g deed.Dropped es = but_of_network g es

-- ---- what is known of a network
-- its numbers are those of its declarations, and of the lines of its slots
pub record AreNumbered (net : NetworkLines) (ds : List (ℕ × Declaration)) (es : List AppliedLine) : Type 0 where
  pub declared : net.declared ≡ map declared_number ds
  pub ascend : AreFrom 0 net.slots
  pub slots : (i : ℕ) → entry_at net.slots i ≡ slot_lines (lines_at_slot i es)

abbrev pub AreLinesNoted : Option NetworkLines → List (ℕ × Declaration) → List AppliedLine → Type 0
AreLinesNoted None ds es = (ds ≡ []) × (es ≡ [])
AreLinesNoted (Some net) ds es = AreNumbered net ds es

abbrev pub AreSmall : Option (List ℕ × Shares) → Type 0
AreSmall None = Unit {0}
AreSmall (Some r) = r.1.opens < 2 ^ 64

-- budgets that fit words
pub record IsSmall (d : Outlined) : Type 0 where
  pub events : d.budgets.events < 2 ^ 64
  pub bytes : d.budgets.bytes < 2 ^ 64
  pub opens : AreSmall d.roster

-- what a line declares has such budgets
abbrev pub IsSmallDeclaration : DeclarationOf → Type 0
IsSmallDeclaration (declaration.Net b) = (b.events < 2 ^ 64) × (b.bytes < 2 ^ 64)
IsSmallDeclaration (declaration.Node u q) = Unit {0}
IsSmallDeclaration (declaration.Roster r) = r.shares.opens < 2 ^ 64

-- what a line declares has budgets, and openings and closings, below 2^64
abbrev pub DeclarationsAreSmall : Type 0
DeclarationsAreSmall =
    (fields : List Bytes) (g : ℕ) (d : DeclarationOf) → IsAskedOf fields (Some (g, ask.Declare d)) → IsSmallDeclaration d

-- its declarations lead to one that waits, of which no line is known yet that concerns a slot
pub record IsUnnamed (longest : ℕ) (bytes : Bool) (g : ℕ) (lost : Drawn) (ds : List (ℕ × Declaration))
    (es : List AppliedLine) (own : Live) : Type 0 where
  pub outlined : Outlined
  pub small : IsSmall outlined
  pub declared : DoAll longest g (new_live bytes) (map declaring (map declared_text ds)) own
  pub none_applied : es ≡ []
  pub none_lost : lost ≡ nothing_drawn
  pub is : own ≡ waits_alone bytes g outlined

-- Its declarations lead to one that waits. With budgets that are less by what was lost it begins, and the lines of its open
-- slots lead to one that is alike.
pub record IsNamedNetwork (longest : ℕ) (bytes : Bool) (g : ℕ) (lost : Drawn) (ds : List (ℕ × Declaration))
    (es : List AppliedLine) (own : Live) : Type 0 where
  pub outlined : Outlined
  pub small : IsSmall outlined
  pub declared :
      DoAll longest g (new_live bytes) (map declaring (map declared_text ds)) (waits_alone bytes g outlined)
  pub config : Config
  pub rest : Config
  pub is_config : IsConfigOf g outlined config
  pub less : config ≡ moved_config lost rest
  pub machine : Machine
  pub left : Machine
  pub applied : AreApplied longest g (begun rest) es left
  pub alike : IsAlike machine left
  pub is : own ≡ runs_alone bytes g machine

abbrev pub IsMadeAs : Bool → ℕ → Bool → ℕ → Drawn → List (ℕ × Declaration) → List AppliedLine → Live → Type 0
IsMadeAs false longest bytes g lost ds es own = IsUnnamed longest bytes g lost ds es own
IsMadeAs true longest bytes g lost ds es own = IsNamedNetwork longest bytes g lost ds es own

-- a network is what its lines that last make of it
abbrev pub IsMade : ℕ → Bool → ℕ → Option NetworkLines → List (ℕ × Declaration) → List AppliedLine → Live → Type 0
IsMade longest bytes g None ds es own = own ≡ new_live bytes
IsMade longest bytes g (Some net) ds es own = IsMadeAs net.is_named longest bytes g net.lost ds es own

-- ---- what is known of a host
-- the numbers ascend, the first of them from this one on, and are below that one
abbrev pub AscendWithin : {X : Type 0} → ℕ → ℕ → List (ℕ × X) → Type 0
AscendWithin k n [] = k ≤ n
AscendWithin k n (e ∷ es) = (k ≤ e.0) × AscendWithin (e.0 + 1) n es

-- what is known, before the line of this number, of the lines that last and of the host
pub record AreLinesKnown (longest : ℕ) (bytes : Bool) (n : ℕ) (l : Live) (lines : Lines) : Type 0 where
  pub applied : List AppliedLine
  pub events : lines.lasting.events ≡ map pair_of applied
  pub events_ascend : AscendWithin 0 n lines.lasting.events
  pub declarations_ascend : AscendWithin 0 n lines.lasting.declarations
  pub networks_ascend : AreFrom 0 lines.networks
  pub ordered : IsOrdered l
  pub few : length lines.networks ≤ 4096
  pub bytes_stay : l.bytes ≡ bytes
  pub noted : (g : ℕ) → AreLinesNoted (entry_at lines.networks g) (declarations_of g lines.lasting.declarations) (of_network g applied)
  pub made : (g : ℕ) → IsMade longest bytes g (entry_at lines.networks g) (declarations_of g lines.lasting.declarations)
      (of_network g applied) (alone g l)

-- ---- laws of one network
-- what its lines that last make of a network, behind one more of its lines
abbrev pub NetworksAreMade : Type 0
NetworksAreMade =
    (longest : ℕ) (bytes : Bool) (g n : ℕ) (line text : Bytes) (d : Deed) (net : Option NetworkLines)
    (ds : List (ℕ × Declaration)) (es : List AppliedLine) (old new : Live) → AreLinesNoted net ds es
    → of_network g es ≡ es → IsMade longest bytes g net ds es old
    → Remembers old n (given longest line) (record { text = text; done = Some (done_as g d) }) new
    → IsMade longest bytes g (network_behind n d net) (declarations_behind n line g d ds) (applied_behind n line g d es) new

-- ---- laws of lines
-- The lines of open slots led to a network, and a slot is closed. Then the lines of all others lead to one that is
-- alike, if it begins with less in its budgets. It is less by what the lines of the slot drew, and its closing.
abbrev pub SlotsMayBeErased : Type 0
SlotsMayBeErased =
    (longest : ℕ) (bytes : Bool) (g n i : ℕ) (line text : Bytes) (d : Drawn) (c : Config) (es : List AppliedLine)
    (m after : Machine) → AreApplied longest g (begun c) es m
    → Serves (runs_alone bytes g m) n (given longest line)
    (record { text = text; done = Some (done_as g (deed.Closed i d)) }) (runs_alone bytes g after)
    → (rest : Config) × (left : Machine) × (c ≡ moved_config (all_drawn (lines_at_slot i es) d) rest)
    × AreApplied longest g (begun rest) (but_at_slot i es) left × IsAlike after left

-- An event that is refused changes nothing that matters. If the lines of open slots led to a network that is alike,
-- they may lead to one that is alike afterwards.
abbrev pub RefusedLinesStayAlike : Type 0
RefusedLinesStayAlike =
    (longest : ℕ) (bytes : Bool) (g n : ℕ) (line text : Bytes) (c : Config) (es : List AppliedLine)
    (m after left : Machine) → AreApplied longest g (begun c) es left → IsAlike m left
    → Serves (runs_alone bytes g m) n (given longest line) (record { text = text; done = Some (done_as g deed.Refused) })
    (runs_alone bytes g after)
    → (next : Machine) × AreApplied longest g (begun c) es next × IsAlike after next

-- Lines that declare a network declare it with budgets that are less, if these are.
abbrev pub DeclarationsMayBeLowered : Type 0
DeclarationsMayBeLowered =
    (longest : ℕ) (bytes : Bool) (g : ℕ) (texts : List Bytes) (d : Drawn) (o : Outlined)
    → DoAll longest g (new_live bytes) (map declaring texts) (waits_alone bytes g o)
    → DoAll longest g (new_live bytes) (map declaring (map (lowered d) texts)) (waits_alone bytes g (less_outline d o))

-- `close N 0`
abbrev pub naming_line : ℕ → Bytes
naming_line g = codes "close " ++ (decimal g ++ 32 ∷ 48 ∷ [])

-- The line that names a network begins it, if lines declared it, and changes nothing more.
abbrev pub NamingLinesBegin : Type 0
NamingLinesBegin =
    (longest : ℕ) → 32 ≤ longest → (bytes : Bool) (g : ℕ) (texts : List Bytes) (o : Outlined) (c : Config)
    → DoAll longest g (new_live bytes) (map declaring texts) (waits_alone bytes g o) → IsConfigOf g o c
    → (text : Bytes)
    × Serves (waits_alone bytes g o) 1 (given longest (naming_line g))
    (record { text = text; done = Some (done_as g deed.Refused) }) (runs_alone bytes g (begun c))

-- ---- the shorter journal
-- its lines, each behind the number of its network
abbrev pub declared_tag : List (ℕ × NetworkLines) → (ℕ × Declaration) → ℕ × Bytes
declared_tag networks e = (e.1.network, lowered (lost_at (entry_at networks e.1.network)) e.1.text)

abbrev pub naming_tags : List (ℕ × NetworkLines) → List (ℕ × Bytes)
naming_tags [] = []
naming_tags (e ∷ networks) =
    cond (e.1.is_named && not (nat_lt 0 (length e.1.slots))) ((e.0, naming_line e.0) ∷ naming_tags networks)
    (naming_tags networks)

abbrev pub applied_tag : AppliedLine → ℕ × Bytes
applied_tag e = (e.network, e.text)

abbrev pub short_tags : Lines → List AppliedLine → List (ℕ × Bytes)
short_tags lines es =
    map (declared_tag lines.networks) lines.lasting.declarations ++ (naming_tags lines.networks ++ map applied_tag es)

-- of one network: its lines of the shorter journal lead to one that is alike
abbrev pub IsShortened : ℕ → Bool → ℕ → Live → List Bytes → Type 0
IsShortened longest bytes g l lines =
    (u : Live) × RunsAlone longest g (new_live bytes) lines u × (u.bytes ≡ bytes)
    × (waiting_at u.waiting g ≡ waiting_at l.waiting g) × AreBothAlike (live_at l g) (live_at u g)
