-- The shorter journal leads to a host that is alike.
use Rattle.std.specs.Prelude.{◌≡◌, ◌+◌, ◌-◌, ◌≤◌, ◌&&◌, ◌++◌, ◌∷◌, [], not, map, cond, nat_lt, length, ℕ, Bool, true, false, List, Option, Some, None, option_map}
use Rattle.std.specs.Ordering.{is_eq}
use Rattle.std.proofs.Common.{◌∙◌, refl, sym, ap, subst, arith}
use Rattle.std.proofs.lemmas.Bool.Decides.{Decides-ltb}
use Rattle.scp_spec.specs.Hosts.{Config}
use Rattle.scp_spec.specs.Rosters.{Roster, Shares}
use Rattle.host_network.specs.Standing.{Machine}
use Rattle.line_script.specs.Script.{Bytes}
use Rattle.live_feed.specs.Lasting.{Declaration, Lines, NetworkLines, SlotLines, entry_at, lost_at, lowered, nothing_drawn}
use Rattle.live_feed.specs.WholeLines.{given}
use Rattle.live_feed.specs.declared.answering.Deed.{Deed}
use Rattle.live_feed.specs.declared.answering.Deed.TheVariants as deed
use Rattle.live_feed.specs.declared.answering.Drawn.{Drawn}
use Rattle.line_request.specs.Outlines.{IsConfigOf, Outlined, waiting_at}
use Rattle.line_request.specs.declared.ask.Ask.{Ask}
use Rattle.line_request.specs.declared.ask.Ask.TheVariants as ask
use Rattle.live_host.specs.Apart.{alone}
use Rattle.live_host.specs.Compacted.{AppliedLine, AreLinesKnown, AreLinesNoted, AreNumbered, AreServedFor, DeclarationsMayBeLowered, DoAll, IsMade, IsMadeAs, IsNamedNetwork, IsShortened, IsUnnamed, LineDeed, NamingLinesBegin, declarations_of, declared_text, declaring, done_as, line_deed_of, lines_at_slot, naming_line, of_network, short_tags, slot_lines}
use Rattle.live_host.specs.Compacted.AreServedFor.{next_served, none_served}
use Rattle.live_host.specs.Compacted.DoAll.{no_deed, one_deed}
use Rattle.live_host.specs.Erasing.{AreServedInTurn, Line}
use Rattle.live_host.specs.Erasing.AreServedInTurn.{ended}
use Rattle.live_host.specs.Futures.{AreAlike, IsAlike, moved_config, moved_roster}
use Rattle.live_host.specs.Hosts.{AreAllAnswered, IsAskAnswered, IsEventAnswered, Live, Serves, begun, live_at, new_live}
use Rattle.live_host.specs.Lowering.{AreDeclared, less_config, less_outline, less_reserved, less_roster, waits_alone, runs_alone}
use Rattle.live_host.specs.Lowering.AreDeclared.{next_line as next_declared, none_left as none_declared}
use Rattle.live_host.specs.Merging.{AreBothAlike, RunsAlone, lines_for}
use Rattle.live_host.specs.Merging.RunsAlone.{next_line, none_left}
use Rattle.live_host.proofs.Alone.{at-itself}
use Rattle.live_host.proofs.AlikeHosts.{alike_hosts_answer_alike}
use Rattle.live_host.proofs.AlikeMachines.{all-alike-themselves}
use Rattle.live_host.proofs.ApartLines.{not-done}
use Rattle.live_host.proofs.CompactedAsked.{runs-there, runs-then, waits-there, what-it-asks}
use Rattle.live_host.proofs.CompactedMade.{IsEventDeed, replied, same-deed}
use Rattle.live_host.proofs.CompactedNoted.{no-slots}
use Rattle.live_host.proofs.CompactedRooms.{alone-is-none, alone-runs, alone-waits, only-none}
use Rattle.live_host.proofs.CompactedServed.{all-done}
use Rattle.live_host.proofs.CompactedShort.{applied_text, naming_of, short-for}
use Rattle.live_host.proofs.LoweringConfigs.{less_is_configured}
use Rattle.live_host.proofs.LoweringRuns.{lowered_declarations_declare_less}
use Rattle.live_host.proofs.Numbers.{numbers_stand_in_front}
use Rattle.live_host.specs.Futures.{behind_number}
use Rattle.live_host.specs.Futures.AreAllAlike.{none_runs}

-- ---- lines that act run alone
abbrev line_of : LineDeed → Bytes
line_of a = a.line

runs-alone : (longest g : ℕ) {l t : Live} {acts : List LineDeed} → DoAll longest g l acts t
    → RunsAlone longest g l (map line_of acts) t
runs-alone longest g no_deed = none_left
runs-alone longest g (one_deed n text act serves others) =
    next_line n (replied text g act.deed) (done_as g act.deed) serves refl refl (runs-alone longest g others)

run-both : {longest g : ℕ} {l now : Live} {lines : List Bytes} → RunsAlone longest g l lines now
    → {more : List Bytes} {t : Live} → RunsAlone longest g now more t → RunsAlone longest g l (lines ++ more) t
run-both none_left later = later
run-both (next_line n a d serves some is others) later = next_line n a d serves some is (run-both others later)

declared-lines : (texts : List Bytes) → map line_of (map declaring texts) ≡ texts
declared-lines [] = refl
declared-lines (text ∷ texts) = ap (λ l. text ∷ l) (declared-lines texts)

acted-lines : (es : List AppliedLine) → map line_of (map line_deed_of es) ≡ map applied_text es
acted-lines [] = refl
acted-lines (e ∷ es) = ap (λ l. e.text ∷ l) (acted-lines es)

-- ---- declarations are lowered
alike-after : (l t : Live) (n : ℕ) (longest : ℕ) (line text : Bytes) (g : ℕ) (d : Deed) → AreAlike l l
    → Serves l n (given longest line) (replied text g d) t → AreAlike t t
alike-after l t n longest line text g d alike serves =
    let here = alike_hosts_answer_alike l l t n (given longest line) (replied text g d) alike serves in
    record { bytes = refl; waiting = refl; running = all-alike-themselves here.2.running }

-- from any number on
are-declared : (longest g k : ℕ) (texts : List Bytes) {l t : Live} → DoAll longest g l (map declaring texts) t → AreAlike l l
    → AreDeclared longest g l k texts t
are-declared longest g k [] no_deed alike = none_declared
are-declared longest g k (line ∷ texts) {l} (one_deed {now} n text act serves others) alike =
    let front = numbers_stand_in_front l now n (given longest line) (replied text g deed.Declared) alike serves in
    next_declared (record { text = behind_number k front.0; done = Some (done_as g deed.Declared) }) (front.2 k) refl
    (are-declared longest g (k + 1) texts others (alike-after l now n longest line text g deed.Declared alike serves))

all-declare : (longest g : ℕ) {l t : Live} {n : ℕ} {texts : List Bytes} → AreDeclared longest g l n texts t
    → DoAll longest g l (map declaring texts) t
all-declare longest g none_declared = no_deed
all-declare longest g (next_declared {s} {t} {n} {line} a serves is others) =
    one_deed n a.text (declaring line)
    (subst (λ o. Serves s n (given longest line) (record { text = a.text; done = o }) t) is serves)
    (all-declare longest g others)

pub declarations_may_be_lowered : DeclarationsMayBeLowered
declarations_may_be_lowered longest bytes g texts d o declared =
    all-declare longest g
    (lowered_declarations_declare_less d longest g 1 1 (new_live bytes) (waits_alone bytes g o) texts
    (are-declared longest g 1 texts declared (record { bytes = refl; waiting = refl; running = none_runs })))

-- ---- with less, and back
less-more : (n d : ℕ) → (n + d) - d ≡ n
less-more n d = omega arith

abbrev config_of : Config → ℕ → ℕ → Option Roster → Config
config_of c events bytes roster =
    record c { budgets = record c.budgets { events = events; bytes = bytes }; roster = roster }

roster-back : (d : Drawn) (r : Option Roster)
    → option_map (less_roster d) (option_map (moved_roster d) r) ≡ r
roster-back d None = refl
roster-back d (Some r) =
    ap (λ n. Some (record r { shares = record r.shares { opens = n } })) (less-more r.shares.opens d.opens)

config-back : (d : Drawn) (c : Config) → less_config d (moved_config d c) ≡ c
config-back d c =
    ap (λ n. config_of c n ((c.budgets.bytes + d.bytes) - d.bytes)
    (option_map (less_roster d) (option_map (moved_roster d) c.roster))) (less-more c.budgets.events d.events)
    ∙ ap (λ n. config_of c c.budgets.events n (option_map (less_roster d) (option_map (moved_roster d) c.roster)))
    (less-more c.budgets.bytes d.bytes)
    ∙ ap (config_of c c.budgets.events c.budgets.bytes) (roster-back d c.roster)

none-less : (n : ℕ) → n - 0 ≡ n
none-less n = omega arith

abbrev outline_of : Outlined → ℕ → ℕ → Option (List ℕ × Shares) → Outlined
outline_of o events bytes roster =
    record o { budgets = record o.budgets { events = events; bytes = bytes }; roster = roster }

reserved-whole : (r : Option (List ℕ × Shares)) → option_map (less_reserved nothing_drawn) r ≡ r
reserved-whole None = refl
reserved-whole (Some r) = ap (λ n. Some (r.0, record r.1 { opens = n })) (none-less r.1.opens)

outline-whole : (o : Outlined) → less_outline nothing_drawn o ≡ o
outline-whole o =
    ap (λ n. outline_of o n (o.budgets.bytes - 0) (option_map (less_reserved nothing_drawn) o.roster))
    (none-less o.budgets.events)
    ∙ ap (λ n. outline_of o o.budgets.events n (option_map (less_reserved nothing_drawn) o.roster))
    (none-less o.budgets.bytes)
    ∙ ap (outline_of o o.budgets.events o.budgets.bytes) (reserved-whole o.roster)

-- ---- the first event begins
first-begins : (longest : ℕ) (bytes : Bool) (g n : ℕ) (line text : Bytes) (d : Deed) (o : Outlined) (c : Config) (t : Live)
    → IsEventDeed d → IsConfigOf g o c
    → Serves (runs_alone bytes g (begun c)) n (given longest line) (replied text g d) t
    → Serves (waits_alone bytes g o) n (given longest line) (replied text g d) t
first-begins longest bytes g n line text d o c t event of serves =
    let asks = what-it-asks n (given longest line) (runs_alone bytes g (begun c)) t (replied text g d) (done_as g d) serves refl in
    asks.back n (waits_alone bytes g o) t (replied text g d) (by asks.asked asks.answered)
  where
    by : (asked : Ask) → IsAskAnswered n g asked (runs_alone bytes g (begun c)) (replied text g d) t
        → IsAskAnswered n g asked (waits_alone bytes g o) (replied text g d) t
    by (ask.Declare x) (false, declares, is) = not-done (replied text g d) (done_as g d) (ap (λ x. x.done) is) refl
    by (ask.Declare x) (true, declares, is) =
        absurd (subst IsEventDeed (same-deed g deed.Declared d (replied text g d) refl (ap (λ x. x.done) is)) event)
    by (ask.Serve e) answered =
        runs-then n g bytes (IsEventAnswered n g e) o c (replied text g d) (done_as g d) t refl of answered
    by (ask.ForAll given) answered =
        runs-then n g bytes (AreAllAnswered n g given) o c (replied text g d) (done_as g d) t refl of answered
    by ask.Left answered = not-done (replied text g d) (done_as g d) answered.1 refl
    by (ask.Show i u) answered = not-done (replied text g d) (done_as g d) answered.1 refl
    by ask.Drop (false, drops, is) = not-done (replied text g d) (done_as g d) (ap (λ x. x.done) is) refl
    by ask.Drop (true, drops, is) =
        absurd (subst IsEventDeed (same-deed g deed.Dropped d (replied text g d) refl (ap (λ x. x.done) is)) event)

-- ---- one network
none-led : {longest g : ℕ} {es : List AppliedLine} {lines : List Line} {m after : Machine}
    → AreServedFor longest g es lines → AreServedInTurn m lines after → es ≡ [] → after ≡ m
none-led none_served ended is = refl
none-led (next_served is_for others) run is = absurd (cc)

abbrev machine_in : Machine → List (ℕ × Machine) → Machine
machine_in m [] = m
machine_in m (e ∷ es) = e.1

-- a network that runs is alike the one that its lines of the shorter journal lead to
runs-shortened : (longest : ℕ) (bytes : Bool) (g : ℕ) (l : Live) (m left : Machine) (lines : List Bytes)
    → alone g l ≡ runs_alone bytes g m → IsAlike m left
    → RunsAlone longest g (new_live bytes) lines (runs_alone bytes g left) → IsShortened longest bytes g l lines
runs-shortened longest bytes g l m left lines is alike runs = (
  runs_alone bytes g left,
  runs,
  refl,
  sym (only-none g (waiting_at l.waiting g) (ap (λ l. l.waiting) is)),
  subst (λ o. AreBothAlike o (live_at (runs_alone bytes g left) g)) (sym (alone-runs g bytes l m is))
      (subst (AreBothAlike (Some m)) (sym (runs-there bytes g left)) alike),
)

-- it has begun, and no slot is open
bare-shortened : DeclarationsMayBeLowered → NamingLinesBegin → (longest : ℕ) → 32 ≤ longest → (bytes : Bool) (g : ℕ) (l : Live)
    (lost : Drawn) (ds : List (ℕ × Declaration)) (es : List AppliedLine) → es ≡ []
    → IsNamedNetwork longest bytes g lost ds es (alone g l)
    → IsShortened longest bytes g l
    (map (lowered lost) (map declared_text ds) ++ (naming_line g ∷ [] ++ map applied_text es))
bare-shortened may_lower names longest long bytes g l lost ds es none_applied is =
    let less : less_config lost is.config ≡ is.rest = ap (less_config lost) is.less ∙ config-back lost is.rest in
    let of : IsConfigOf g (less_outline lost is.outlined) is.rest =
    subst (IsConfigOf g (less_outline lost is.outlined)) less (less_is_configured lost g is.outlined is.config is.is_config) in
    let declares = may_lower longest bytes g (map declared_text ds) lost is.outlined is.declared in
    let begins = names longest long bytes g (map (lowered lost) (map declared_text ds)) (less_outline lost is.outlined) is.rest
    declares of in
    let same : runs_alone bytes g is.left ≡ runs_alone bytes g (begun is.rest) =
    ap (runs_alone bytes g) (none-led is.applied.served is.applied.run none_applied) in
    runs-shortened longest bytes g l is.machine is.left
    (map (lowered lost) (map declared_text ds) ++ (naming_line g ∷ [] ++ map applied_text es)) is.is is.alike
    (subst
    (λ es. RunsAlone longest g (new_live bytes)
    (map (lowered lost) (map declared_text ds) ++ (naming_line g ∷ [] ++ map applied_text es)) (runs_alone bytes g is.left))
    (sym none_applied)
    (subst
    (λ t. RunsAlone longest g (new_live bytes) (map (lowered lost) (map declared_text ds) ++ naming_line g ∷ []) t)
    (sym same)
    (run-both
    (subst (λ lines. RunsAlone longest g (new_live bytes) lines (waits_alone bytes g (less_outline lost is.outlined)))
    (declared-lines (map (lowered lost) (map declared_text ds))) (runs-alone longest g declares))
    (next_line 1 (replied begins.0 g deed.Refused) (done_as g deed.Refused) begins.1 refl refl none_left))))

-- the first of its lines begins it
acts-begin : (longest : ℕ) (bytes : Bool) (g : ℕ) (o : Outlined) (c : Config) (es : List AppliedLine) (t : Live)
    → (es ≡ [] → ⊥) → IsConfigOf g o c → DoAll longest g (runs_alone bytes g (begun c)) (map line_deed_of es) t
    → DoAll longest g (waits_alone bytes g o) (map line_deed_of es) t
acts-begin longest bytes g o c [] t some of does = absurd (some refl)
acts-begin longest bytes g o c (e ∷ es) t some of (one_deed {now} n text act serves others) =
    one_deed n text (line_deed_of e) (first-begins longest bytes g n e.text text (deed.Applied e.slot e.drawn) o c now tt of serves)
    others

-- a slot is open
open-shortened : DeclarationsMayBeLowered → (longest : ℕ) (bytes : Bool) (g : ℕ) (l : Live) (lost : Drawn)
    (ds : List (ℕ × Declaration)) (es : List AppliedLine) → (es ≡ [] → ⊥)
    → IsNamedNetwork longest bytes g lost ds es (alone g l)
    → IsShortened longest bytes g l (map (lowered lost) (map declared_text ds) ++ map applied_text es)
open-shortened may_lower longest bytes g l lost ds es some is =
    let less : less_config lost is.config ≡ is.rest = ap (less_config lost) is.less ∙ config-back lost is.rest in
    let of : IsConfigOf g (less_outline lost is.outlined) is.rest =
    subst (IsConfigOf g (less_outline lost is.outlined)) less (less_is_configured lost g is.outlined is.config is.is_config) in
    let declares = may_lower longest bytes g (map declared_text ds) lost is.outlined is.declared in
    runs-shortened longest bytes g l is.machine is.left
    (map (lowered lost) (map declared_text ds) ++ map applied_text es) is.is is.alike
    (run-both
    (subst (λ lines. RunsAlone longest g (new_live bytes) lines (waits_alone bytes g (less_outline lost is.outlined)))
    (declared-lines (map (lowered lost) (map declared_text ds))) (runs-alone longest g declares))
    (subst (λ lines. RunsAlone longest g (waits_alone bytes g (less_outline lost is.outlined)) lines (runs_alone bytes g is.left))
    (acted-lines es)
    (runs-alone longest g
    (acts-begin longest bytes g (less_outline lost is.outlined) is.rest es (runs_alone bytes g is.left) some of
    (all-done longest bytes g is.applied.served is.applied.run)))))

-- it waits
waits-shortened : DeclarationsMayBeLowered → (longest : ℕ) (bytes : Bool) (g : ℕ) (l : Live) (lost : Drawn)
    (ds : List (ℕ × Declaration)) (es : List AppliedLine) → IsUnnamed longest bytes g lost ds es (alone g l)
    → IsShortened longest bytes g l (map (lowered lost) (map declared_text ds) ++ map applied_text es)
waits-shortened may_lower longest bytes g l lost ds es is =
    let declares : DoAll longest g (new_live bytes) (map declaring (map (lowered nothing_drawn) (map declared_text ds)))
    (waits_alone bytes g is.outlined) =
    subst
    (λ o. DoAll longest g (new_live bytes) (map declaring (map (lowered nothing_drawn) (map declared_text ds)))
    (waits_alone bytes g o))
    (outline-whole is.outlined)
    (may_lower longest bytes g (map declared_text ds) nothing_drawn is.outlined
    (subst (DoAll longest g (new_live bytes) (map declaring (map declared_text ds))) is.is is.declared)) in (
      waits_alone bytes g is.outlined,
      subst
          (λ d. RunsAlone longest g (new_live bytes) (map (lowered d) (map declared_text ds) ++ map applied_text es)
          (waits_alone bytes g is.outlined))
          (sym is.none_lost)
          (subst
          (λ es. RunsAlone longest g (new_live bytes)
          (map (lowered nothing_drawn) (map declared_text ds) ++ map applied_text es) (waits_alone bytes g is.outlined))
          (sym is.none_applied)
          (run-both
          (subst (λ lines. RunsAlone longest g (new_live bytes) lines (waits_alone bytes g is.outlined))
          (declared-lines (map (lowered nothing_drawn) (map declared_text ds))) (runs-alone longest g declares))
          none_left)),
      refl,
      waits-there g is.outlined ∙ sym (alone-waits g bytes l is.outlined is.is),
      subst (λ o. AreBothAlike o None) (sym (only-none g (live_at l g) (ap (λ l. l.running) is.is))) tt,
    )

none-shortened : (longest : ℕ) (bytes : Bool) (g : ℕ) (l : Live) → alone g l ≡ new_live bytes
    → IsShortened longest bytes g l []
none-shortened longest bytes g l is =
    let none = alone-is-none g bytes l is in (
      new_live bytes,
      none_left,
      refl,
      sym none.0,
      subst (λ o. AreBothAlike o None) (sym none.1) tt,
    )

-- its open slots have lines
slots-have-lines : (g : ℕ) (net : NetworkLines) (ds : List (ℕ × Declaration)) (es : List AppliedLine)
    → AreNumbered net ds es → (s : ℕ × SlotLines) (slots : List (ℕ × SlotLines)) → net.slots ≡ s ∷ slots → es ≡ [] → ⊥
slots-have-lines g net ds es numbered s slots are none_applied =
    let here = sym (numbered.slots s.0 ∙ ap (λ l. slot_lines (lines_at_slot s.0 l)) none_applied)
    ∙ ap (λ l. entry_at l s.0) are ∙ ap (λ o. cond (is_eq o) (Some s.1) (entry_at slots s.0)) (at-itself s.0) in
    absurd (cc)

shortened : DeclarationsMayBeLowered → NamingLinesBegin → (longest : ℕ) → 32 ≤ longest → (bytes : Bool) (g : ℕ) (l : Live)
    (o : Option NetworkLines) (ds : List (ℕ × Declaration)) (es : List AppliedLine) → AreLinesNoted o ds es
    → IsMade longest bytes g o ds es (alone g l)
    → IsShortened longest bytes g l
    (map (lowered (lost_at o)) (map declared_text ds) ++ (naming_of g o ++ map applied_text es))
shortened may_lower names longest long bytes g l None ds es (no-ds, no-es) made =
    subst
    (λ ds. IsShortened longest bytes g l
    (map (lowered nothing_drawn) (map declared_text ds) ++ ([] ++ map applied_text es))) (sym no-ds)
    (subst (λ es. IsShortened longest bytes g l ([] ++ ([] ++ map applied_text es))) (sym no-es)
    (none-shortened longest bytes g l made))
shortened may_lower names longest long bytes g l (Some net) ds es numbered made = by net.is_named refl made
  where
    named : (slots : List (ℕ × SlotLines)) → net.slots ≡ slots
        → IsNamedNetwork longest bytes g net.lost ds es (alone g l)
        → IsShortened longest bytes g l
        (map (lowered net.lost) (map declared_text ds)
        ++ (cond (not (nat_lt 0 (length slots))) (naming_line g ∷ []) [] ++ map applied_text es))
    named [] are is =
        bare-shortened may_lower names longest long bytes g l net.lost ds es
        (no-slots es (λ i. sym (numbered.slots i) ∙ ap (λ l. entry_at l i) are)) is
    named (s ∷ slots) are is =
        subst
        (λ b. IsShortened longest bytes g l
        (map (lowered net.lost) (map declared_text ds) ++ (cond (not b) (naming_line g ∷ []) [] ++ map applied_text es)))
        (sym ((Decides-ltb 0 (length (s ∷ slots))).1 (omega arith)))
        (open-shortened may_lower longest bytes g l net.lost ds es
        (slots-have-lines g net ds es numbered s slots are) is)

    by : (b : Bool) → net.is_named ≡ b → IsMadeAs b longest bytes g net.lost ds es (alone g l)
        → IsShortened longest bytes g l
        (map (lowered net.lost) (map declared_text ds) ++ (naming_of g (Some net) ++ map applied_text es))
    by false is made =
        subst
        (λ b. IsShortened longest bytes g l
        (map (lowered net.lost) (map declared_text ds)
        ++ (cond (b && not (nat_lt 0 (length net.slots))) (naming_line g ∷ []) [] ++ map applied_text es)))
        (sym is) (waits-shortened may_lower longest bytes g l net.lost ds es made)
    by true is made =
        subst
        (λ b. IsShortened longest bytes g l
        (map (lowered net.lost) (map declared_text ds)
        ++ (cond (b && not (nat_lt 0 (length net.slots))) (naming_line g ∷ []) [] ++ map applied_text es)))
        (sym is) (named net.slots refl made)

-- ---- all networks
pub each-shortened : DeclarationsMayBeLowered → NamingLinesBegin → (longest : ℕ) → 32 ≤ longest → (bytes : Bool) (n : ℕ)
    (l : Live) (lines : Lines) (known : AreLinesKnown longest bytes n l lines) (g : ℕ)
    → IsShortened longest bytes g l (lines_for g (short_tags lines known.applied))
each-shortened may_lower names longest long bytes n l lines known g =
    subst (IsShortened longest bytes g l) (sym (short-for g lines known.applied known.networks_ascend))
    (shortened may_lower names longest long bytes g l (entry_at lines.networks g)
    (declarations_of g lines.lasting.declarations) (of_network g known.applied) (known.noted g) (known.made g))
