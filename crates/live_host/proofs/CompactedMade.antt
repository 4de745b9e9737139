-- What the lines that last make of a network, behind one more line of it.
use Rattle.std.specs.Prelude.{◌≡◌, ◌⊎◌, ◌<◌, ◌^◌, ◌&&◌, ◌++◌, ◌∷◌, [], not, ℕ, Bool, true, false, cond, is_some, List, Option, Some, None}
use Rattle.std.specs.Ordering.{is_eq}
use Rattle.std.proofs.Common.{◌∙◌, refl, sym, ap, subst, inl, inr, true≢false}
use Rattle.scp_types.specs.declared.event.Event.{Event}
use Rattle.scp_types.specs.declared.event.Event.TheVariants as event
use Rattle.scp_types.specs.declared.event.Refusal.{Refusal}
use Rattle.host_network.specs.Standing.{Machine}
use Rattle.scp_spec.specs.Hosts.{Config}
use Rattle.scp_spec.specs.Networks.{Budgets}
use Rattle.line_script.specs.Script.{Bytes}
use Rattle.live_feed.specs.Served.{LineReply}
use Rattle.live_feed.specs.WholeLines.{given}
use Rattle.live_feed.specs.declared.answering.Deed.{Deed}
use Rattle.live_feed.specs.declared.answering.Deed.TheVariants as deed
use Rattle.live_feed.specs.declared.answering.Done.{Done}
use Rattle.live_feed.specs.declared.answering.Drawn.{Drawn}
use Rattle.line_request.specs.Asking.{IsAskedOf}
use Rattle.line_request.specs.Outlines.{IsConfigOf, Outlined, bare_outline, waiting_at, waiting_set, with_node, with_roster}
use Rattle.line_request.specs.declared.ask.Ask.{Ask}
use Rattle.line_request.specs.declared.ask.Ask.TheVariants as ask
use Rattle.line_request.specs.declared.request.Declaration.TheVariants as declaration
use Rattle.live_host.specs.Compacted.{DeclarationsAreSmall, DoAll, IsSmall, LineDeed, done_as}
use Rattle.live_host.specs.Lowering.{waits_alone, runs_alone}
use Rattle.live_host.specs.Compacted.DoAll.{no_deed, one_deed}
use Rattle.live_host.specs.Futures.{AreAlike, AreAllAlike, IsAlike}
use Rattle.live_host.specs.Futures.AreAllAlike.{both_run, none_runs}
use Rattle.live_host.specs.Hosts.{AreAllAnswered, IsAnsweredOnceBegun, IsAskAnswered, IsDroppedAt, IsEventAnswered, Live, Serves, begun, deed_at, deed_by, deed_of_all, done_if, live_at, new_live}
use Rattle.live_host.proofs.Alone.{at-itself, same-live}
use Rattle.live_host.proofs.AlikeHosts.{alike_hosts_answer_alike}
use Rattle.live_host.proofs.ApartLines.{not-done}
use Rattle.live_host.proofs.CompactedAsked.{Asks, begins-then, placed, runs-there, waits-there}

-- ---- lines that act
pub do-one-more : (longest g n : ℕ) (text : Bytes) (act : LineDeed) {l now new : Live} {acts : List LineDeed}
    → DoAll longest g l acts now
    → Serves now n (given longest act.line) (record { text = text; done = Some (done_as g act.deed) }) new
    → DoAll longest g l (acts ++ act ∷ []) new
do-one-more longest g n text act no_deed serves = one_deed n text act serves no_deed
do-one-more longest g n text act (one_deed k told first does others) serves =
    one_deed k told first does (do-one-more longest g n text act others serves)

pub do-both : (longest g : ℕ) {l now new : Live} {acts more : List LineDeed} → DoAll longest g l acts now
    → DoAll longest g now more new → DoAll longest g l (acts ++ more) new
do-both longest g no_deed later = later
do-both longest g (one_deed n text act does others) later = one_deed n text act does (do-both longest g others later)

-- ---- what events do
abbrev pub IsEventDeed : Deed → Type 0
IsEventDeed deed.Declared = ⊥
IsEventDeed deed.Refused = Unit {0}
IsEventDeed (deed.Applied i d) = Unit {0}
IsEventDeed (deed.Closed i d) = Unit {0}
IsEventDeed deed.Dropped = ⊥

event-deed : (r : Option Refusal) (e : Event) (i : ℕ) (d : Drawn) → IsEventDeed (deed_by r e i d)
event-deed (Some r) e i d = tt
event-deed None e i d = by e
  where
    by : (e : Event) → IsEventDeed (deed_at e i d)
    by (event.OpenSlot j) = tt
    by (event.CloseSlot j) = tt
    by _ = tt

all-deed : (o : Option ℕ) (d : Drawn) → IsEventDeed (deed_of_all o d)
all-deed None d = tt
all-deed (Some i) d = tt

abbrev deed_in : Deed → Option Done → Deed
deed_in d None = d
deed_in d (Some done) = done.deed

pub same-deed : (g : ℕ) (d e : Deed) (a : LineReply) → a.done ≡ Some (done_as g e) → a.done ≡ Some (done_as g d) → e ≡ d
same-deed g d e a one other = ap (deed_in d) (sym one ∙ other)

-- ---- a network that runs
-- it is served an event, or it is taken back
abbrev pub RunsOn : Bool → ℕ → Deed → Live → Type 0
RunsOn bytes g d new = (IsEventDeed d × ((after : Machine) × (new ≡ runs_alone bytes g after))) ⊎ ((d ≡ deed.Dropped) × (new ≡ new_live bytes))

found-runs : (bytes : Bool) (g : ℕ) (m found : Machine) → live_at (runs_alone bytes g m) g ≡ Some found → found ≡ m
found-runs bytes g m found is =
    let here = sym is ∙ runs-there bytes g m in cc

event-runs-on : (n g : ℕ) (bytes : Bool) (e : Event) (m : Machine) (a : LineReply) (d : Deed) (new : Live)
    → a.done ≡ Some (done_as g d) → IsEventAnswered n g e (runs_alone bytes g m) a new → RunsOn bytes g d new
event-runs-on n g bytes e m a d new some (None, at, (is, same)) = not-done a (done_as g d) (ap (λ x. x.done) is) some
event-runs-on n g bytes e m a d new some (Some found, at, (after, s, serves, is, says)) = inl (
  subst IsEventDeed (same-deed g d _ a (ap (λ x. x.done) says) some) (event-deed s.refused e s.slot _),
  (after, is ∙ placed bytes g m after),
)

all-run-on : (n g : ℕ) (bytes : Bool) (text : Bytes) (m : Machine) (a : LineReply) (d : Deed) (new : Live)
    → a.done ≡ Some (done_as g d) → AreAllAnswered n g text (runs_alone bytes g m) a new → RunsOn bytes g d new
all-run-on n g bytes text m a d new some (None, at, (is, same)) = not-done a (done_as g d) (ap (λ x. x.done) is) some
all-run-on n g bytes text m a d new some (Some found, at, (after, answers, serves, is, says)) = inl (
  subst IsEventDeed (same-deed g d _ a (ap (λ x. x.done) says) some) (all-deed _ _),
  (after, is ∙ placed bytes g m after),
)

once-begun-runs-on : (n g : ℕ) (bytes : Bool) (answers : Live → LineReply → Live → Type 0) (m : Machine) (a : LineReply) (d : Deed)
    (new : Live) → a.done ≡ Some (done_as g d) → (answers (runs_alone bytes g m) a new → RunsOn bytes g d new)
    → IsAnsweredOnceBegun n g answers (runs_alone bytes g m) a new → RunsOn bytes g d new
once-begun-runs-on n g bytes answers m a d new some law (true, now, same, answered) =
    law (subst (λ l. answers l a new) same answered)
once-begun-runs-on n g bytes answers m a d new some law (false, now, begins, (is, same)) =
    not-done a (done_as g d) (ap (λ x. x.done) is) some

not-taken : {X : Type 0} (o : Option Machine) (room : Bool) (m : Machine) → o ≡ Some m → (not (is_some o) && room) ≡ true → X
not-taken None room m is taken = absurd (cc)
not-taken (Some n) room m is taken = absurd (true≢false (sym taken))

pub runs-on : (n g : ℕ) (bytes : Bool) (line : Option Bytes) (m : Machine) (a : LineReply) (d : Deed) (new : Live)
    → a.done ≡ Some (done_as g d) → Asks n g line (runs_alone bytes g m) a new → RunsOn bytes g d new
runs-on n g bytes line m a d new some asks = by asks.asked asks.answered
  where
    by : (asked : Ask) → IsAskAnswered n g asked (runs_alone bytes g m) a new → RunsOn bytes g d new
    by (ask.Declare x) (false, declares, is) = not-done a (done_as g d) (ap (λ x. x.done) is) some
    by (ask.Declare (declaration.Net b)) (true, declares, is) =
        not-taken (live_at (runs_alone bytes g m) g) _ m (runs-there bytes g m) declares.0
    by (ask.Declare (declaration.Node u q)) (true, declares, is) = absurd (true≢false (sym declares.0))
    by (ask.Declare (declaration.Roster r)) (true, declares, is) = absurd (true≢false (sym declares.0))
    by (ask.Serve e) answered =
        once-begun-runs-on n g bytes (IsEventAnswered n g e) m a d new some (event-runs-on n g bytes e m a d new some) answered
    by (ask.ForAll text) answered =
        once-begun-runs-on n g bytes (AreAllAnswered n g text) m a d new some (all-run-on n g bytes text m a d new some)
        answered
    by ask.Left answered = not-done a (done_as g d) answered.1 some
    by (ask.Show i u) answered = not-done a (done_as g d) answered.1 some
    by ask.Drop (false, drops, is) = not-done a (done_as g d) (ap (λ x. x.done) is) some
    by ask.Drop (true, drops, is) = inr (
      sym (same-deed g d deed.Dropped a (ap (λ x. x.done) is) some),
      (subst (λ o. IsDroppedAt None o g (runs_alone bytes g m) true new) (runs-there bytes g m) drops).1
          ∙ ap (λ o. record { bytes = bytes; waiting = []; running = cond (is_eq o) [] ((g, m) ∷ []) }) (at-itself g),
    )

-- ---- a network that waits
-- more of it is declared, it is served its first event, or it is taken back
pub data WaitsOn (longest : ℕ) (bytes : Bool) (g n : ℕ) (line text : Bytes) (o : Outlined) (d : Deed) (new : Live) : Type 0 where
  declares_more : d ≡ deed.Declared → (p : Outlined) → IsSmall p → new ≡ waits_alone bytes g p
      → WaitsOn longest bytes g n line text o d new
  begins : (c : Config) → IsConfigOf g o c
      → Serves (runs_alone bytes g (begun c)) n (given longest line) (record { text = text; done = Some (done_as g d) }) new
      → WaitsOn longest bytes g n line text o d new
  taken_back : d ≡ deed.Dropped → new ≡ new_live bytes → WaitsOn longest bytes g n line text o d new

small-net : (b : Budgets) → (b.events < 2 ^ 64) × (b.bytes < 2 ^ 64) → IsSmall (bare_outline b)
small-net b small = record { events = small.0; bytes = small.1; opens = tt }

revised-there : (bytes : Bool) (g : ℕ) (o p : Outlined) (new : Live)
    → new.waiting ≡ waiting_set ((g, o) ∷ []) g p → new.running ≡ [] → new.bytes ≡ bytes → new ≡ waits_alone bytes g p
revised-there bytes g o p new waiting running is =
    same-live new.bytes bytes new.waiting ((g, p) ∷ []) new.running [] is
    (waiting ∙ ap (λ r. cond (is_eq r) ((g, p) ∷ []) ((g, o) ∷ [])) (at-itself g)) running

found-waits : (g : ℕ) (o found : Outlined) → waiting_at ((g, o) ∷ []) g ≡ Some found → found ≡ o
found-waits g o found is = let here = sym is ∙ waits-there g o in cc

not-new : {X : Type 0} (o : Option Outlined) (room : Bool) (p : Outlined) → o ≡ Some p → (not (is_some o) && room) ≡ true
    → X
not-new None room p is taken = absurd (cc)
not-new (Some q) room p is taken = absurd (true≢false (sym taken))

abbrev pub replied : Bytes → ℕ → Deed → LineReply
replied text g d = record { text = text; done = Some (done_as g d) }

pub waits-on : DeclarationsAreSmall → (longest : ℕ) (bytes : Bool) (g n : ℕ) (line text : Bytes) (o : Outlined) (d : Deed)
    (new : Live) → IsSmall o
    → Asks n g (given longest line) (waits_alone bytes g o) (replied text g d) new
    → WaitsOn longest bytes g n line text o d new
waits-on are_small longest bytes g n line text o d new small asks = by asks.asked asks.is_asked asks.answered asks.back
  where
    by : (asked : Ask) → IsAskedOf asks.fields (Some (g, asked))
        → IsAskAnswered n g asked (waits_alone bytes g o) (replied text g d) new
        → ((k : ℕ) (other after : Live) (b : LineReply) → IsAskAnswered k g asked other b after
        → Serves other k (given longest line) b after)
        → WaitsOn longest bytes g n line text o d new
    by (ask.Declare x) is_asked (false, declares, is) back = not-done (replied text g d) (done_as g d) (ap (λ x. x.done) is) refl
    by (ask.Declare (declaration.Net b)) is_asked (true, declares, is) back =
        not-new (waiting_at ((g, o) ∷ []) g) _ o (waits-there g o) declares.0
    by (ask.Declare (declaration.Node u q)) is_asked (true, declares, is) back =
        let was = declares.1 in
        let same = found-waits g o was.0 was.1 in
        declares_more
        (sym (same-deed g d deed.Declared (replied text g d) (ap (λ x. x.done) is) refl))
        (with_node o u q)
        (record { events = small.events; bytes = small.bytes; opens = small.opens })
        (revised-there bytes g o (with_node o u q) new
        (was.2 ∙ ap (λ p. waiting_set ((g, o) ∷ []) g (with_node p u q)) same) declares.2 declares.3)
    by (ask.Declare (declaration.Roster r)) is_asked (true, declares, is) back =
        let was = declares.1 in
        let same = found-waits g o was.0 was.1 in
        declares_more
        (sym (same-deed g d deed.Declared (replied text g d) (ap (λ x. x.done) is) refl))
        (with_roster o r.names.items r.shares)
        (record {
          events = small.events;
          bytes = small.bytes;
          opens = are_small asks.fields g (declaration.Roster r) is_asked;
        })
        (revised-there bytes g o (with_roster o r.names.items r.shares) new
        (was.2 ∙ ap (λ p. waiting_set ((g, o) ∷ []) g (with_roster p r.names.items r.shares)) same) declares.2 declares.3)
    by (ask.Serve e) is_asked answered back =
        let begin = begins-then n g bytes (IsEventAnswered n g e) o (replied text g d) (done_as g d) new refl answered in
        begins begin.0 begin.1 (back n (runs_alone bytes g (begun begin.0)) new (replied text g d) begin.2)
    by (ask.ForAll bytes_given) is_asked answered back =
        let begin = begins-then n g bytes (AreAllAnswered n g bytes_given) o (replied text g d) (done_as g d) new refl answered in
        begins begin.0 begin.1 (back n (runs_alone bytes g (begun begin.0)) new (replied text g d) begin.2)
    by ask.Left is_asked answered back = not-done (replied text g d) (done_as g d) answered.1 refl
    by (ask.Show i u) is_asked answered back = not-done (replied text g d) (done_as g d) answered.1 refl
    by ask.Drop is_asked (false, drops, is) back = not-done (replied text g d) (done_as g d) (ap (λ x. x.done) is) refl
    by ask.Drop is_asked (true, drops, is) back =
        taken_back
        (sym (same-deed g d deed.Dropped (replied text g d) (ap (λ x. x.done) is) refl))
        ((subst (λ w. IsDroppedAt w (live_at (waits_alone bytes g o) g) g (waits_alone bytes g o) true new) (waits-there g o)
        drops).1
        ∙ ap (λ r. record { bytes = bytes; waiting = cond (is_eq r) [] ((g, o) ∷ []); running = [] }) (at-itself g))

-- ---- a network that is none
-- it is declared
abbrev pub NewOn : Bool → ℕ → Deed → Live → Type 0
NewOn bytes g d new = (d ≡ deed.Declared) × ((o : Outlined) × IsSmall o × (new ≡ waits_alone bytes g o))

event-of-none : {X : Type 0} (n g : ℕ) (bytes : Bool) (e : Event) (a : LineReply) (did : Done) (new : Live)
    → a.done ≡ Some did → IsAnsweredOnceBegun n g (IsEventAnswered n g e) (new_live bytes) a new → X
event-of-none n g bytes e a did new some (false, now, starts, (is, same)) = not-done a did (ap (λ x. x.done) is) some
event-of-none n g bytes e a did new some (true, now, same, (None, at, (is, still))) =
    not-done a did (ap (λ x. x.done) is) some
event-of-none n g bytes e a did new some (true, now, same, (Some m, at, served)) =
    let here = ap (λ l. live_at l g) (sym same) ∙ at in absurd (cc)

all-of-none : {X : Type 0} (n g : ℕ) (bytes : Bool) (text : Bytes) (a : LineReply) (did : Done) (new : Live)
    → a.done ≡ Some did → IsAnsweredOnceBegun n g (AreAllAnswered n g text) (new_live bytes) a new → X
all-of-none n g bytes text a did new some (false, now, starts, (is, same)) = not-done a did (ap (λ x. x.done) is) some
all-of-none n g bytes text a did new some (true, now, same, (None, at, (is, still))) =
    not-done a did (ap (λ x. x.done) is) some
all-of-none n g bytes text a did new some (true, now, same, (Some m, at, served)) =
    let here = ap (λ l. live_at l g) (sym same) ∙ at in absurd (cc)

pub new-on : DeclarationsAreSmall → (bytes : Bool) (g n : ℕ) (line : Option Bytes) (a : LineReply) (d : Deed) (new : Live)
    → a.done ≡ Some (done_as g d) → Asks n g line (new_live bytes) a new → NewOn bytes g d new
new-on are_small bytes g n line a d new some asks = by asks.asked asks.is_asked asks.answered
  where
    by : (asked : Ask) → IsAskedOf asks.fields (Some (g, asked)) → IsAskAnswered n g asked (new_live bytes) a new
        → NewOn bytes g d new
    by (ask.Declare x) is_asked (false, declares, is) = not-done a (done_as g d) (ap (λ x. x.done) is) some
    by (ask.Declare (declaration.Net b)) is_asked (true, declares, is) = (
      sym (same-deed g d deed.Declared a (ap (λ x. x.done) is) some),
      (
        bare_outline b,
        small-net b (are_small asks.fields g (declaration.Net b) is_asked),
        same-live new.bytes bytes new.waiting ((g, bare_outline b) ∷ []) new.running [] declares.3 declares.1.1 declares.2,
      ),
    )
    by (ask.Declare (declaration.Node u q)) is_asked (true, declares, is) = absurd (true≢false (sym declares.0))
    by (ask.Declare (declaration.Roster r)) is_asked (true, declares, is) = absurd (true≢false (sym declares.0))
    by (ask.Serve e) is_asked answered = event-of-none n g bytes e a (done_as g d) new some answered
    by (ask.ForAll text) is_asked answered = all-of-none n g bytes text a (done_as g d) new some answered
    by ask.Left is_asked answered = not-done a (done_as g d) answered.1 some
    by (ask.Show i u) is_asked answered = not-done a (done_as g d) answered.1 some
    by ask.Drop is_asked (taken, drops, is) =
        not-done a (done_as g d) (ap (λ x. x.done) is ∙ ap (λ t. done_if t g deed.Dropped) drops.0) some

-- ---- what is alike
abbrev OneAlike : Bool → ℕ → Machine → Live → Type 0
OneAlike bytes g m other = (n : Machine) × IsAlike m n × (other ≡ runs_alone bytes g n)

runs-alike : (bytes : Bool) (g : ℕ) (m n : Machine) → IsAlike m n → AreAlike (runs_alone bytes g m) (runs_alone bytes g n)
runs-alike bytes g m n alike = record { bytes = refl; waiting = refl; running = both_run alike none_runs }

one-in-list : (g : ℕ) (m : Machine) (ns : List (ℕ × Machine)) → AreAllAlike ((g, m) ∷ []) ns
    → (n : Machine) × IsAlike m n × (ns ≡ (g, n) ∷ [])
one-in-list g m ns (both_run {n} alike none_runs) = (n, alike, refl)

one-alike : (bytes : Bool) (g : ℕ) (m : Machine) (other : Live) → AreAlike (runs_alone bytes g m) other
    → OneAlike bytes g m other
one-alike bytes g m other alike =
    let one = one-in-list g m other.running alike.running in
    (one.0, one.1, same-live other.bytes bytes other.waiting [] other.running ((g, one.0) ∷ []) alike.bytes alike.waiting one.2)

-- what is served to the one is served to the other
pub served-the-other : (longest : ℕ) (bytes : Bool) (g n : ℕ) (line text : Bytes) (d : Deed) (m after left : Machine)
    → IsAlike m left → Serves (runs_alone bytes g m) n (given longest line) (replied text g d) (runs_alone bytes g after)
    → (next : Machine) × IsAlike after next
    × Serves (runs_alone bytes g left) n (given longest line) (replied text g d) (runs_alone bytes g next)
served-the-other longest bytes g n line text d m after left alike serves =
    let both = alike_hosts_answer_alike (runs_alone bytes g m) (runs_alone bytes g left) (runs_alone bytes g after) n (given longest line)
    (replied text g d) (runs-alike bytes g m left alike) serves in
    let one = one-alike bytes g after both.0 both.2 in (
      one.0,
      one.1,
      subst (λ l. Serves (runs_alone bytes g left) n (given longest line) (replied text g d) l) one.2 both.1,
    )
