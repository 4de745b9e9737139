-- What a line does to a network, it does to it without the others; and what it does to it alone, it does next to others.
use Rattle.std.specs.Prelude.{◌≡◌, ◌≢◌, ◌⊎◌, ◌+◌, ◌==◌, ◌&&◌, [], not, ℕ, Bool, true, false, nat_lt, is_some, length, List, Option, Some, None}
use Rattle.std.specs.Ordering.{nat_cmp}
use Rattle.std.specs.BTreeMap.{insert_entry, is_at}
use Rattle.std.specs.Map.{lookup, remove_entry, set_value}
use Rattle.std.proofs.Common.{◌∙◌, refl, sym, ap, subst, inl, inr, arith, true≢false}
use Rattle.std.proofs.lemmas.Bool.Decides.{Decides-eqb, Decides-ltb}
use Rattle.scp_types.specs.declared.event.Event.{Event}
use Rattle.host_network.specs.Standing.{Machine}
use Rattle.line_script.specs.Script.{Bytes}
use Rattle.live_feed.specs.Served.{LineReply, is_kept, kept_as}
use Rattle.live_feed.specs.declared.answering.Done.{Done}
use Rattle.line_request.specs.Outlines.{IsRevised, Outlined, Waiting, bare_outline, waiting_at, waiting_set, waiting_with, waiting_without, with_node, with_roster}
use Rattle.line_request.specs.Preparing.{Prepares}
use Rattle.line_request.specs.Taking.{takes_node, takes_roster}
use Rattle.line_request.specs.Telling.{is_bare}
use Rattle.line_request.specs.declared.ask.Ask.{Ask}
use Rattle.line_request.specs.declared.ask.Ask.TheVariants as ask
use Rattle.line_request.specs.declared.request.Declaration.{Declaration}
use Rattle.line_request.specs.declared.request.Declaration.TheVariants as declaration
use Rattle.live_host.specs.Apart.{AreFrom, HostsStayOrdered, IsOrdered, LinesAreAnsweredNextToOthers, LinesAreLocal, IdleLinesChangeNothing, OthersStay, alone, only}
use Rattle.live_host.specs.Hosts.{AreAllAnswered, IsAnsweredOnceBegun, IsAnsweredThen, IsAskAnswered, IsBegun, IsDeclared, IsDropped, IsDroppedAt, IsEventAnswered, IsStarted, Live, Serves, begun, live_at, takes_declaration, with_live}
use Rattle.live_host.specs.Keeping.{live_only_kept_lines_count}
use Rattle.live_host.specs.Merging.{HasRoomToDeclare, LinesAreAnsweredWhereRoomIs}
use Rattle.live_host.proofs.Alone.{found-alone, inserted-alone, inserted-apart, inserted-ascend, live_of, only_at, others-stay, removed-alone, removed-apart, removed-ascend, removed-is-gone, same-alone, same-live, set-alone, set-apart, set-ascend}

-- ---- what happens to a network
-- it happens to it alone, to no other, and the host stays in order
abbrev pub HappensLocally : ℕ → (Live → Live → Type 0) → Live → Live → Type 0
HappensLocally g happens old new = happens (alone g old) (alone g new) × OthersStay g old new × IsOrdered new

abbrev pub IsLocal : ℕ → (Live → Live → Type 0) → Type 0
IsLocal g happens = (old new : Live) → IsOrdered old → happens old new → HappensLocally g happens old new

-- what happens to it alone happens to it next to others
abbrev pub HappensNextTo : ℕ → (Live → Live → Type 0) → Live → Live → Type 0
HappensNextTo g happens old own = (new : Live) × happens old new × (alone g new ≡ own)

abbrev pub IsNextToOthers : ℕ → (Live → Live → Type 0) → Type 0
IsNextToOthers g happens = (old own : Live) → IsOrdered old → happens (alone g old) own → HappensNextTo g happens old own

-- nothing happens
pub same-local : {Also : Type 0} (g : ℕ) (old new : Live) → IsOrdered old → Also → new ≡ old
    → HappensLocally g (λ l t. Also × (t ≡ l)) old new
same-local g old new ordered also is = ((also, ap (alone g) is), others-stay g old new is, subst IsOrdered (sym is) ordered)

pub same-next : {Also : Type 0} (g : ℕ) (old own : Live) → Also → own ≡ alone g old
    → HappensNextTo g (λ l t. Also × (t ≡ l)) old own
same-next g old own also is = (old, (also, refl), sym is)

-- ---- parts of a host
-- the network of another number is found as it was
others-found : (g : ℕ) (old new : Live) → new.bytes ≡ old.bytes
    → ((h : ℕ) → h ≢ g → waiting_at new.waiting h ≡ waiting_at old.waiting h)
    → ((h : ℕ) → h ≢ g → live_at new h ≡ live_at old h) → OthersStay g old new
others-found g old new bytes waiting running h apart = same-alone h old new bytes (waiting h apart) (running h apart)

-- of the network itself there is nothing, or it does not run
abbrev pub IsOneOf : Waiting → List (ℕ × Machine) → ℕ → Type 0
IsOneOf ws ms g = (waiting_at ws g ≡ None) ⊎ (lookup (is_at (nat_cmp g)) ms ≡ None)

pub stay-apart : (g : ℕ) (old new : Live) → IsOrdered old
    → ((h : ℕ) → h ≢ g → waiting_at new.waiting h ≡ waiting_at old.waiting h)
    → ((h : ℕ) → h ≢ g → live_at new h ≡ live_at old h) → IsOneOf new.waiting new.running g
    → (h : ℕ) → IsOneOf new.waiting new.running h
stay-apart g old new ordered waiting running here h = by (h == g) refl
  where
    other : (h ≢ g) → IsOneOf old.waiting old.running h → IsOneOf new.waiting new.running h
    other differ (inl is) = inl (waiting h differ ∙ is)
    other differ (inr is) = inr (running h differ ∙ is)

    by : (same : Bool) → (h == g) ≡ same → IsOneOf new.waiting new.running h
    by true is = subst (IsOneOf new.waiting new.running) (sym ((Decides-eqb h g).0 is)) here
    by false is = other (λ same. true≢false (sym ((Decides-eqb h g).1 same) ∙ is)) (ordered.apart h)

-- those that wait are changed, and those that run are not
waiting-changed : (g : ℕ) (old new : Live) (ws : Waiting) → IsOrdered old → AreFrom 0 ws
    → ((h : ℕ) → h ≢ g → waiting_at ws h ≡ waiting_at old.waiting h) → IsOneOf ws old.running g → new.waiting ≡ ws
    → new.running ≡ old.running → new.bytes ≡ old.bytes → OthersStay g old new × IsOrdered new
waiting-changed g old new ws ordered ascend apart here waiting running bytes = (
  others-found g old new bytes (λ h differ. ap (λ l. waiting_at l h) waiting ∙ apart h differ)
      (λ h differ. ap (lookup (is_at (nat_cmp h))) running),
  record {
    waiting = subst (AreFrom 0) (sym waiting) ascend;
    running = subst (AreFrom 0) (sym running) ordered.running;
    apart = stay-apart g old new ordered (λ h differ. ap (λ l. waiting_at l h) waiting ∙ apart h differ)
        (λ h differ. ap (lookup (is_at (nat_cmp h))) running)
        (subst (λ l. IsOneOf l new.running g) (sym waiting) (subst (λ l. IsOneOf ws l g) (sym running) here));
  },
)

-- those that run are changed, and those that wait are not
running-changed : (g : ℕ) (old new : Live) (ms : List (ℕ × Machine)) → IsOrdered old → AreFrom 0 ms
    → ((h : ℕ) → h ≢ g → lookup (is_at (nat_cmp h)) ms ≡ live_at old h) → IsOneOf old.waiting ms g
    → new ≡ record old { running = ms } → OthersStay g old new × IsOrdered new
running-changed g old new ms ordered ascend apart here is = (
  others-found g old new (ap (λ l. l.bytes) is) (λ h differ. ap (λ l. waiting_at l.waiting h) is)
      (λ h differ. ap (λ l. live_at l h) is ∙ apart h differ),
  record {
    waiting = subst (AreFrom 0) (sym (ap (λ l. l.waiting) is)) ordered.waiting;
    running = subst (AreFrom 0) (sym (ap (λ l. l.running) is)) ascend;
    apart = stay-apart g old new ordered (λ h differ. ap (λ l. waiting_at l.waiting h) is)
        (λ h differ. ap (λ l. live_at l h) is ∙ apart h differ) (subst (λ l. IsOneOf l.waiting l.running g) (sym is) here);
  },
)

-- ---- declarations
-- of a network there is nothing, so it is taken
net-alone : (w : Option Outlined) (r : Option Machine) (room : Bool) → (not (is_some w) && (not (is_some r) && room)) ≡ true
    → (w ≡ None) × (r ≡ None)
net-alone None None room is = (refl, refl)
net-alone None (Some m) room is = absurd (cc)
net-alone (Some d) r room is = absurd (cc)

net-taken : (w : Option Outlined) (r : Option Machine) (room : Bool) → w ≡ None → r ≡ None → room ≡ true
    → (not (is_some w) && (not (is_some r) && room)) ≡ true
net-taken w r room one two is =
    ap (λ w. not (is_some w) && (not (is_some r) && room)) one ∙ ap (λ r. not (is_some r) && room) two ∙ is

pub taken-alone : (l : Live) (g : ℕ) (d : Declaration) → takes_declaration l g d ≡ true → takes_declaration (alone g l) g d ≡ true
taken-alone l g (declaration.Net b) is =
    let none = net-alone (waiting_at l.waiting g) (live_at l g) (nat_lt (length l.waiting + length l.running) 4096) is in
    let few : nat_lt (length (only_at g l.waiting) + length (only_at g l.running)) 4096 ≡ true =
    ap (λ w. nat_lt (length (only g w) + length (only_at g l.running)) 4096) none.0
    ∙ ap (λ r. nat_lt (length (only {X = Outlined} g None) + length (only g r)) 4096) none.1 in
    net-taken (waiting_at (only_at g l.waiting) g) (lookup (is_at (nat_cmp g)) (only_at g l.running)) _
    (found-alone g l.waiting ∙ none.0) (found-alone g l.running ∙ none.1) few
taken-alone l g (declaration.Node u q) is = ap (λ w. takes_node w u) (found-alone g l.waiting) ∙ is
taken-alone l g (declaration.Roster r) is =
    ap (λ w. takes_roster w r.names.items r.shares) (found-alone g l.waiting) ∙ is

pub taken-next : (l : Live) (g : ℕ) (d : Declaration) → HasRoomToDeclare g l → takes_declaration (alone g l) g d ≡ true → takes_declaration l g d ≡ true
taken-next l g (declaration.Net b) room is =
    let none =
    net-alone (waiting_at (only_at g l.waiting) g) (lookup (is_at (nat_cmp g)) (only_at g l.running)) _ is in
    let waits = sym (found-alone g l.waiting) ∙ none.0 in
    let runs = sym (found-alone g l.running) ∙ none.1 in
    net-taken (waiting_at l.waiting g) (live_at l g) _ waits runs
    ((Decides-ltb (length l.waiting + length l.running) 4096).1 (room waits runs))
taken-next l g (declaration.Node u q) room is = sym (ap (λ w. takes_node w u) (found-alone g l.waiting)) ∙ is
taken-next l g (declaration.Roster r) room is =
    sym (ap (λ w. takes_roster w r.names.items r.shares) (found-alone g l.waiting)) ∙ is

revised-alone : (g : ℕ) (change : Outlined → Outlined) (old new : Waiting) → IsRevised g change old new
    → IsRevised g change (only_at g old) (only_at g new)
revised-alone g change old new (d, at, is) =
    (d, found-alone g old ∙ at, ap (only_at g) is ∙ set-alone g old (change d))

prepared-alone : (g : ℕ) (d : Declaration) (old new : Waiting) → Prepares g d old new
    → Prepares g d (only_at g old) (only_at g new)
prepared-alone g (declaration.Net b) old new (none, is) =
    (found-alone g old ∙ none, ap (only_at g) is ∙ inserted-alone g old (bare_outline b))
prepared-alone g (declaration.Node u q) old new revised = revised-alone g (λ d. with_node d u q) old new revised
prepared-alone g (declaration.Roster r) old new revised =
    revised-alone g (λ d. with_roster d r.names.items r.shares) old new revised

-- those that wait after a declaration: of another number, and in order
prepared-apart : (g : ℕ) (d : Declaration) (old new : Waiting) → AreFrom 0 old → Prepares g d old new
    → ((h : ℕ) → h ≢ g → waiting_at new h ≡ waiting_at old h) × AreFrom 0 new
prepared-apart g (declaration.Net b) old new ascend (none, is) = (
  λ h differ. ap (λ l. waiting_at l h) is ∙ inserted-apart g h old (bare_outline b) differ,
  subst (AreFrom 0) (sym is) (inserted-ascend g 0 old (bare_outline b) (omega arith) ascend),
)
prepared-apart g (declaration.Node u q) old new ascend (d, at, is) = (
  λ h differ. ap (λ l. waiting_at l h) is ∙ set-apart g h old (with_node d u q) differ,
  subst (AreFrom 0) (sym is) (set-ascend (is_at (nat_cmp g)) 0 old (with_node d u q) ascend),
)
prepared-apart g (declaration.Roster r) old new ascend (d, at, is) = (
  λ h differ. ap (λ l. waiting_at l h) is ∙ set-apart g h old (with_roster d r.names.items r.shares) differ,
  subst (AreFrom 0) (sym is) (set-ascend (is_at (nat_cmp g)) 0 old (with_roster d r.names.items r.shares) ascend),
)

-- what waits does not run
waits-alone : (g : ℕ) (l : Live) (d : Outlined) → IsOrdered l → waiting_at l.waiting g ≡ Some d → live_at l g ≡ None
waits-alone g l d ordered is = by (ordered.apart g)
  where
    by : IsOneOf l.waiting l.running g → live_at l g ≡ None
    by (inl none) = absurd (cc)
    by (inr none) = none

runs-alone : (g : ℕ) (l : Live) (m : Machine) → IsOrdered l → live_at l g ≡ Some m → waiting_at l.waiting g ≡ None
runs-alone g l m ordered is = by (ordered.apart g)
  where
    by : IsOneOf l.waiting l.running g → waiting_at l.waiting g ≡ None
    by (inl none) = none
    by (inr none) = absurd (cc)

-- of what is declared nothing runs
none-runs : (g : ℕ) (d : Declaration) (l : Live) (new : Waiting) → IsOrdered l → takes_declaration l g d ≡ true
    → Prepares g d l.waiting new → live_at l g ≡ None
none-runs g (declaration.Net b) l new ordered is prepares =
    (net-alone (waiting_at l.waiting g) (live_at l g) (nat_lt (length l.waiting + length l.running) 4096) is).1
none-runs g (declaration.Node u q) l new ordered is (d, at, same) = waits-alone g l d ordered at
none-runs g (declaration.Roster r) l new ordered is (d, at, same) = waits-alone g l d ordered at

pub declared-local : (g : ℕ) (d : Declaration) → IsLocal g (λ old new. IsDeclared g d old true new)
declared-local g d old new ordered (taken, prepares, running, bytes) =
    let others = prepared-apart g d old.waiting new.waiting ordered.waiting prepares in
    let rest = waiting-changed g old new new.waiting ordered others.1 others.0
    (inr (none-runs g d old new.waiting ordered taken prepares)) refl running bytes in (
      (taken-alone old g d taken, prepared-alone g d old.waiting new.waiting prepares, ap (only_at g) running, bytes),
      rest.0,
      rest.1,
    )

revised-next : (g : ℕ) (change : Outlined → Outlined) (old own : Waiting) → IsRevised g change (only_at g old) own
    → (new : Waiting) × IsRevised g change old new × (only_at g new ≡ own)
revised-next g change old own (d, at, is) = (
  waiting_set old g (change d),
  (d, sym (found-alone g old) ∙ at, refl),
  set-alone g old (change d) ∙ sym is,
)

prepared-next : (g : ℕ) (d : Declaration) (old own : Waiting) → Prepares g d (only_at g old) own
    → (new : Waiting) × Prepares g d old new × (only_at g new ≡ own)
prepared-next g (declaration.Net b) old own (none, is) = (
  waiting_with old g (bare_outline b),
  (sym (found-alone g old) ∙ none, refl),
  inserted-alone g old (bare_outline b) ∙ sym is,
)
prepared-next g (declaration.Node u q) old own revised = revised-next g (λ d. with_node d u q) old own revised
prepared-next g (declaration.Roster r) old own revised =
    revised-next g (λ d. with_roster d r.names.items r.shares) old own revised

pub declared-next : (g : ℕ) (d : Declaration) (old own : Live) → HasRoomToDeclare g old → IsDeclared g d (alone g old) true own
    → HappensNextTo g (λ l t. IsDeclared g d l true t) old own
declared-next g d old own room (taken, prepares, running, bytes) =
    let next = prepared-next g d old.waiting own.waiting prepares in (
      live_of old.bytes next.0 old.running,
      (taken-next old g d room taken, next.1, refl, refl),
      same-live old.bytes own.bytes (only_at g next.0) own.waiting (only_at g old.running) own.running (sym bytes) next.2
          (sym running),
    )

-- ---- the first event
started-local : (waits : Option Outlined) (g : ℕ) → IsLocal g (λ old new. IsStarted waits g old new)
started-local None g old new ordered is =
    (ap (alone g) is, others-stay g old new is, subst IsOrdered (sym is) ordered)
started-local (Some d) g old new ordered (c, of, waiting, running, bytes) = (
  (
    c,
    of,
    ap (only_at g) waiting ∙ removed-alone g old.waiting ordered.waiting,
    ap (only_at g) running ∙ inserted-alone g old.running (begun c),
    bytes,
  ),
  others-found g old new bytes (λ h differ. ap (λ l. waiting_at l h) waiting ∙ removed-apart g h old.waiting differ)
      (λ h differ. ap (lookup (is_at (nat_cmp h))) running ∙ inserted-apart g h old.running (begun c) differ),
  record {
    waiting = subst (AreFrom 0) (sym waiting) (removed-ascend (is_at (nat_cmp g)) 0 old.waiting ordered.waiting);
    running = subst (AreFrom 0) (sym running) (inserted-ascend g 0 old.running (begun c) (omega arith) ordered.running);
    apart = stay-apart g old new ordered
        (λ h differ. ap (λ l. waiting_at l h) waiting ∙ removed-apart g h old.waiting differ)
        (λ h differ. ap (lookup (is_at (nat_cmp h))) running ∙ inserted-apart g h old.running (begun c) differ)
        (inl (ap (λ l. waiting_at l g) waiting ∙ removed-is-gone g 0 old.waiting ordered.waiting));
  },
)

started-next : (waits : Option Outlined) (g : ℕ) → IsNextToOthers g (λ old new. IsStarted waits g old new)
started-next None g old own ordered is = (old, refl, sym is)
started-next (Some d) g old own ordered (c, of, waiting, running, bytes) = (
  live_of old.bytes (waiting_without old.waiting g) (insert_entry nat_cmp old.running g (begun c)),
  (c, of, refl, refl, refl),
  same-live old.bytes own.bytes (only_at g (waiting_without old.waiting g)) own.waiting
      (only_at g (insert_entry nat_cmp old.running g (begun c))) own.running (sym bytes)
      (removed-alone g old.waiting ordered.waiting ∙ sym waiting) (inserted-alone g old.running (begun c) ∙ sym running),
)

begun-local : (g : ℕ) (is : Bool) → IsLocal g (λ old new. IsBegun g old is new)
begun-local g true old new ordered started =
    let kept = started-local (waiting_at old.waiting g) g old new ordered started in (
      subst (λ w. IsStarted w g (alone g old) (alone g new)) (sym (found-alone g old.waiting)) kept.0,
      kept.1,
      kept.2,
    )
begun-local g false old new ordered (bare, is) =
    same-local g old new ordered (ap is_bare (found-alone g old.waiting) ∙ bare) is

begun-next : (g : ℕ) (is : Bool) → IsNextToOthers g (λ old new. IsBegun g old is new)
begun-next g true old own ordered started =
    started-next (waiting_at old.waiting g) g old own ordered
    (subst (λ w. IsStarted w g (alone g old) own) (found-alone g old.waiting) started)
begun-next g false old own ordered (bare, is) =
    same-next g old own (sym (ap is_bare (found-alone g old.waiting)) ∙ bare) is

-- ---- events
-- a network is in its place
placed-alone : (g : ℕ) (old new : Live) (m : Machine) → new ≡ with_live old g m → alone g new ≡ with_live (alone g old) g m
placed-alone g old new m is =
    ap (alone g) is ∙ ap (live_of old.bytes (only_at g old.waiting)) (set-alone g old.running m)

placed-apart : (g : ℕ) (old new : Live) (before m : Machine) → IsOrdered old → live_at old g ≡ Some before
    → new ≡ with_live old g m → OthersStay g old new × IsOrdered new
placed-apart g old new before m ordered at is =
    running-changed g old new (set_value (is_at (nat_cmp g)) old.running m) ordered
    (set-ascend (is_at (nat_cmp g)) 0 old.running m ordered.running) (λ h differ. set-apart g h old.running m differ)
    (inl (runs-alone g old before ordered at)) is

-- what is left where a network alone is in its place is left where it is next to others
placed-next : (g : ℕ) (old own : Live) (m : Machine) → own ≡ with_live (alone g old) g m → alone g (with_live old g m) ≡ own
placed-next g old own m is = placed-alone g old (with_live old g m) m refl ∙ sym is

pub event-local : (n g : ℕ) (e : Event) (a : LineReply) → IsLocal g (λ old new. IsEventAnswered n g e old a new)
event-local n g e a old new ordered (None, at, (is, same)) =
    let kept = same-local g old new ordered is same in
    ((None, found-alone g old.running ∙ at, kept.0), kept.1, kept.2)
event-local n g e a old new ordered (Some m, at, (after, s, serves, is, says)) =
    let rest = placed-apart g old new m after ordered at is in (
      (Some m, found-alone g old.running ∙ at, (after, s, serves, placed-alone g old new after is, says)),
      rest.0,
      rest.1,
    )

pub event-next : (n g : ℕ) (e : Event) (a : LineReply) → IsNextToOthers g (λ old new. IsEventAnswered n g e old a new)
event-next n g e a old own ordered (None, at, (is, same)) =
    (old, (None, sym (found-alone g old.running) ∙ at, (is, refl)), sym same)
event-next n g e a old own ordered (Some m, at, (after, s, serves, is, says)) = (
  with_live old g after,
  (Some m, sym (found-alone g old.running) ∙ at, (after, s, serves, refl, says)),
  placed-next g old own after is,
)

pub all-local : (n g : ℕ) (bytes : Bytes) (a : LineReply) → IsLocal g (λ old new. AreAllAnswered n g bytes old a new)
all-local n g bytes a old new ordered (None, at, (is, same)) =
    let kept = same-local g old new ordered is same in
    ((None, found-alone g old.running ∙ at, kept.0), kept.1, kept.2)
all-local n g bytes a old new ordered (Some m, at, (after, answers, serves, is, says)) =
    let rest = placed-apart g old new m after ordered at is in (
      (Some m, found-alone g old.running ∙ at, (after, answers, serves, placed-alone g old new after is, says)),
      rest.0,
      rest.1,
    )

pub all-next : (n g : ℕ) (bytes : Bytes) (a : LineReply) → IsNextToOthers g (λ old new. AreAllAnswered n g bytes old a new)
all-next n g bytes a old own ordered (None, at, (is, same)) =
    (old, (None, sym (found-alone g old.running) ∙ at, (is, refl)), sym same)
all-next n g bytes a old own ordered (Some m, at, (after, answers, serves, is, says)) = (
  with_live old g after,
  (Some m, sym (found-alone g old.running) ∙ at, (after, answers, serves, refl, says)),
  placed-next g old own after is,
)

then-local : (is : Bool) (n g : ℕ) (a : LineReply) (answers : Live → LineReply → Live → Type 0)
    → IsLocal g (λ old new. answers old a new) → IsLocal g (λ old new. IsAnsweredThen is n answers old a new)
then-local true n g a answers law old new ordered answered = law old new ordered answered
then-local false n g a answers law old new ordered (is, same) = same-local g old new ordered is same

then-next : (is : Bool) (n g : ℕ) (a : LineReply) (answers : Live → LineReply → Live → Type 0)
    → IsNextToOthers g (λ old new. answers old a new) → IsNextToOthers g (λ old new. IsAnsweredThen is n answers old a new)
then-next true n g a answers law old own ordered answered = law old own ordered answered
then-next false n g a answers law old own ordered (is, same) = same-next g old own is same

pub once-begun-local : (n g : ℕ) (a : LineReply) (answers : Live → LineReply → Live → Type 0)
    → IsLocal g (λ old new. answers old a new) → IsLocal g (λ old new. IsAnsweredOnceBegun n g answers old a new)
once-begun-local n g a answers law old new ordered (is, now, begins, answered) =
    let begin = begun-local g is old now ordered begins in
    let rest = then-local is n g a answers law now new begin.2 answered in
    ((is, alone g now, begin.0, rest.0), λ h differ. rest.1 h differ ∙ begin.1 h differ, rest.2)

pub once-begun-next : (n g : ℕ) (a : LineReply) (answers : Live → LineReply → Live → Type 0)
    → IsNextToOthers g (λ old new. answers old a new)
    → IsNextToOthers g (λ old new. IsAnsweredOnceBegun n g answers old a new)
once-begun-next n g a answers law old own ordered (is, now, begins, answered) =
    let begin = begun-next g is old now ordered begins in
    let after = (begun-local g is old begin.0 ordered begin.1).2 in
    let rest =
    then-next is n g a answers law begin.0 own after
    (subst (λ l. IsAnsweredThen is n answers l a own) (sym begin.2) answered) in
    (rest.0, (is, begin.0, begin.1, rest.1), rest.2)

-- ---- networks that are taken back
dropped-at-local : (w : Option Outlined) (r : Option Machine) (g : ℕ) (taken : Bool)
    → IsLocal g (λ old new. IsDroppedAt w r g old taken new)
dropped-at-local (Some d) r g taken old new ordered (is, same) =
    let rest =
    waiting-changed g old new (waiting_without old.waiting g) ordered
    (removed-ascend (is_at (nat_cmp g)) 0 old.waiting ordered.waiting)
    (λ h differ. removed-apart g h old.waiting differ) (inl (removed-is-gone g 0 old.waiting ordered.waiting))
    (ap (λ l. l.waiting) same) (ap (λ l. l.running) same)
    (ap (λ l. l.bytes) same) in (
      (
        is,
        ap (alone g) same
            ∙ ap (λ ws. live_of old.bytes ws (only_at g old.running)) (removed-alone g old.waiting ordered.waiting),
      ),
      rest.0,
      rest.1,
    )
dropped-at-local None (Some m) g taken old new ordered (is, same) =
    let rest =
    running-changed g old new (remove_entry (is_at (nat_cmp g)) old.running) ordered
    (removed-ascend (is_at (nat_cmp g)) 0 old.running ordered.running)
    (λ h differ. removed-apart g h old.running differ) (inr (removed-is-gone g 0 old.running ordered.running)) same in (
      (
        is,
        ap (alone g) same
            ∙ ap (live_of old.bytes (only_at g old.waiting)) (removed-alone g old.running ordered.running),
      ),
      rest.0,
      rest.1,
    )
dropped-at-local None None g taken old new ordered (is, same) = same-local g old new ordered is same

dropped-at-next : (w : Option Outlined) (r : Option Machine) (g : ℕ) (taken : Bool)
    → IsNextToOthers g (λ old new. IsDroppedAt w r g old taken new)
dropped-at-next (Some d) r g taken old own ordered (is, same) = (
  live_of old.bytes (waiting_without old.waiting g) old.running,
  (is, refl),
  ap (λ ws. live_of old.bytes ws (only_at g old.running)) (removed-alone g old.waiting ordered.waiting) ∙ sym same,
)
dropped-at-next None (Some m) g taken old own ordered (is, same) = (
  live_of old.bytes old.waiting (remove_entry (is_at (nat_cmp g)) old.running),
  (is, refl),
  ap (live_of old.bytes (only_at g old.waiting)) (removed-alone g old.running ordered.running) ∙ sym same,
)
dropped-at-next None None g taken old own ordered (is, same) = same-next g old own is same

found-dropped : (g : ℕ) (taken : Bool) (old l t : Live)
    → IsDroppedAt (waiting_at old.waiting g) (live_at old g) g l taken t
    → IsDroppedAt (waiting_at (alone g old).waiting g) (live_at (alone g old) g) g l taken t
found-dropped g taken old l t drops =
    subst (λ w. IsDroppedAt w (live_at (alone g old) g) g l taken t) (sym (found-alone g old.waiting))
    (subst (λ r. IsDroppedAt (waiting_at old.waiting g) r g l taken t) (sym (found-alone g old.running)) drops)

dropped-found : (g : ℕ) (taken : Bool) (old l t : Live)
    → IsDroppedAt (waiting_at (alone g old).waiting g) (live_at (alone g old) g) g l taken t
    → IsDroppedAt (waiting_at old.waiting g) (live_at old g) g l taken t
dropped-found g taken old l t drops =
    subst (λ w. IsDroppedAt w (live_at old g) g l taken t) (found-alone g old.waiting)
    (subst (λ r. IsDroppedAt (waiting_at (alone g old).waiting g) r g l taken t) (found-alone g old.running) drops)

pub dropped-local : (g : ℕ) (taken : Bool) → IsLocal g (λ old new. IsDropped g old taken new)
dropped-local g taken old new ordered drops =
    let kept = dropped-at-local (waiting_at old.waiting g) (live_at old g) g taken old new ordered drops in
    (found-dropped g taken old (alone g old) (alone g new) kept.0, kept.1, kept.2)

pub dropped-next : (g : ℕ) (taken : Bool) → IsNextToOthers g (λ old new. IsDropped g old taken new)
dropped-next g taken old own ordered drops =
    dropped-at-next (waiting_at old.waiting g) (live_at old g) g taken old own ordered
    (dropped-found g taken old (alone g old) own drops)

-- ---- lines
pub not-done : {X : Type 0} (a : LineReply) (d : Done) → a.done ≡ None → a.done ≡ Some d → X
not-done a d none some = absurd (cc)

same-done : (d e : Done) (a : LineReply) → a.done ≡ Some e → a.done ≡ Some d → d ≡ e
same-done d e a one other = cc

-- what was done was done to the network that the line names
named-by-event : (n g : ℕ) (e : Event) (old new : Live) (a : LineReply) (d : Done) → IsEventAnswered n g e old a new
    → a.done ≡ Some d → d.network ≡ g
named-by-event n g e old new a d (None, at, (is, same)) some = not-done a d (ap (λ x. x.done) is) some
named-by-event n g e old new a d (Some m, at, (after, s, serves, is, says)) some =
    ap (λ x. x.network) (same-done d _ a (ap (λ x. x.done) says) some)

named-by-all : (n g : ℕ) (bytes : Bytes) (old new : Live) (a : LineReply) (d : Done) → AreAllAnswered n g bytes old a new
    → a.done ≡ Some d → d.network ≡ g
named-by-all n g bytes old new a d (None, at, (is, same)) some = not-done a d (ap (λ x. x.done) is) some
named-by-all n g bytes old new a d (Some m, at, (after, answers, serves, is, says)) some =
    ap (λ x. x.network) (same-done d _ a (ap (λ x. x.done) says) some)

named-once-begun : (n g : ℕ) (answers : Live → LineReply → Live → Type 0) (old new : Live) (a : LineReply) (d : Done)
    → ((now : Live) → answers now a new → d.network ≡ g) → IsAnsweredOnceBegun n g answers old a new
    → a.done ≡ Some d → d.network ≡ g
named-once-begun n g answers old new a d law (true, now, begins, answered) some = law now answered
named-once-begun n g answers old new a d law (false, now, begins, (is, same)) some =
    not-done a d (ap (λ x. x.done) is) some

named-by-answer : (n g : ℕ) (asked : Ask) (old new : Live) (a : LineReply) (d : Done) → IsAskAnswered n g asked old a new
    → a.done ≡ Some d → d.network ≡ g
named-by-answer n g (ask.Declare x) old new a d (true, declares, is) some =
    ap (λ x. x.network) (same-done d _ a (ap (λ x. x.done) is) some)
named-by-answer n g (ask.Declare x) old new a d (false, declares, is) some = not-done a d (ap (λ x. x.done) is) some
named-by-answer n g (ask.Serve e) old new a d answered some =
    named-once-begun n g (IsEventAnswered n g e) old new a d
    (λ now here. named-by-event n g e now new a d here some) answered some
named-by-answer n g (ask.ForAll bytes) old new a d answered some =
    named-once-begun n g (AreAllAnswered n g bytes) old new a d
    (λ now here. named-by-all n g bytes now new a d here some) answered some
named-by-answer n g ask.Left old new a d (text, done, is) some = not-done a d done some
named-by-answer n g (ask.Show i u) old new a d (text, done, is) some = not-done a d done some
named-by-answer n g ask.Drop old new a d (true, drops, is) some =
    ap (λ x. x.network) (same-done d _ a (ap (λ x. x.done) is) some)
named-by-answer n g ask.Drop old new a d (false, drops, is) some = not-done a d (ap (λ x. x.done) is) some

answer-local : (n g : ℕ) (asked : Ask) (old new : Live) (a : LineReply) (d : Done) → IsOrdered old
    → IsAskAnswered n g asked old a new → a.done ≡ Some d → HappensLocally g (λ l t. IsAskAnswered n g asked l a t) old new
answer-local n g (ask.Declare x) old new a d ordered (true, declares, is) some =
    let kept = declared-local g x old new ordered declares in
    ((true, kept.0, is), kept.1, kept.2)
answer-local n g (ask.Declare x) old new a d ordered (false, declares, is) some =
    not-done a d (ap (λ x. x.done) is) some
answer-local n g (ask.Serve e) old new a d ordered answered some =
    once-begun-local n g a (IsEventAnswered n g e) (event-local n g e a) old new ordered answered
answer-local n g (ask.ForAll bytes) old new a d ordered answered some =
    once-begun-local n g a (AreAllAnswered n g bytes) (all-local n g bytes a) old new ordered answered
answer-local n g ask.Left old new a d ordered (text, done, is) some = not-done a d done some
answer-local n g (ask.Show i u) old new a d ordered (text, done, is) some = not-done a d done some
answer-local n g ask.Drop old new a d ordered (taken, drops, is) some =
    let kept = dropped-local g taken old new ordered drops in
    ((taken, kept.0, is), kept.1, kept.2)

answer-next : (n g : ℕ) (asked : Ask) (old own : Live) (a : LineReply) (d : Done) → IsOrdered old → HasRoomToDeclare g old
    → IsAskAnswered n g asked (alone g old) a own → a.done ≡ Some d → HappensNextTo g (λ l t. IsAskAnswered n g asked l a t) old own
answer-next n g (ask.Declare x) old own a d ordered room (true, declares, is) some =
    let next = declared-next g x old own room declares in
    (next.0, (true, next.1, is), next.2)
answer-next n g (ask.Declare x) old own a d ordered room (false, declares, is) some =
    not-done a d (ap (λ x. x.done) is) some
answer-next n g (ask.Serve e) old own a d ordered room answered some =
    once-begun-next n g a (IsEventAnswered n g e) (event-next n g e a) old own ordered answered
answer-next n g (ask.ForAll bytes) old own a d ordered room answered some =
    once-begun-next n g a (AreAllAnswered n g bytes) (all-next n g bytes a) old own ordered answered
answer-next n g ask.Left old own a d ordered room (text, done, is) some = not-done a d done some
answer-next n g (ask.Show i u) old own a d ordered room (text, done, is) some = not-done a d done some
answer-next n g ask.Drop old own a d ordered room (taken, drops, is) some =
    let next = dropped-next g taken old own ordered drops in
    (next.0, (taken, next.1, is), next.2)

-- the line names a network to which it did something
line-is-local : (l t : Live) (n : ℕ) (line : Option Bytes) (a : LineReply) (d : Done) → IsOrdered l → Serves l n line a t
    → a.done ≡ Some d → HappensLocally d.network (λ l t. Serves l n line a t) l t
line-is-local l t n None a d ordered (is, same) some = not-done a d (ap (λ x. x.done) is) some
line-is-local l t n (Some line) a d ordered (inl (skipped, is, same)) some = not-done a d (ap (λ x. x.done) is) some
line-is-local l t n (Some line) a d ordered (inr (runs, inl (bad, (is, same)))) some =
    not-done a d (ap (λ x. x.done) is) some
line-is-local l t n (Some line) a d ordered (inr (runs, inr (fields, are, (None, of, (is, same))))) some =
    not-done a d (ap (λ x. x.done) is) some
line-is-local l t n (Some line) a d ordered (inr (runs, inr (fields, are, (Some asked, of, answered)))) some =
    let g = asked.0 in
    let kept = answer-local n g asked.1 l t a d ordered answered some in
    subst (λ h. HappensLocally h (λ l t. Serves l n (Some line) a t) l t)
    (sym (named-by-answer n g asked.1 l t a d answered some))
    (inr (runs, inr (fields, are, (Some asked, of, kept.0))), kept.1, kept.2)

pub lines_are_local : LinesAreLocal
lines_are_local l t n line a d ordered serves some =
    let kept = line-is-local l t n line a d ordered serves some in
    (kept.0, kept.1)

pub other_lines_change_nothing : IdleLinesChangeNothing
other_lines_change_nothing l t n line a serves none =
    live_only_kept_lines_count l t n line a serves (by line)
  where
    by : (line : Option Bytes) → kept_as line (is_kept a) ≡ []
    by None = refl
    by (Some line) = ap (λ o. kept_as (Some line) (is_some o)) none

pub hosts_stay_ordered : HostsStayOrdered
hosts_stay_ordered l t n line a ordered serves = by a.done refl
  where
    by : (o : Option Done) → a.done ≡ o → IsOrdered t
    by None is = subst IsOrdered (sym (other_lines_change_nothing l t n line a serves is)) ordered
    by (Some d) is = (line-is-local l t n line a d ordered serves is).2

pub lines_are_answered_where_room_is : LinesAreAnsweredWhereRoomIs
lines_are_answered_where_room_is l own n None a d ordered room (is, same) some =
    not-done a d (ap (λ x. x.done) is) some
lines_are_answered_where_room_is l own n (Some line) a d ordered room (inl (skipped, is, same)) some =
    not-done a d (ap (λ x. x.done) is) some
lines_are_answered_where_room_is l own n (Some line) a d ordered room (inr (runs, inl (bad, (is, same)))) some =
    not-done a d (ap (λ x. x.done) is) some
lines_are_answered_where_room_is l own n (Some line) a d ordered room
    (inr (runs, inr (fields, are, (None, of, (is, same))))) some = not-done a d (ap (λ x. x.done) is) some
lines_are_answered_where_room_is l own n (Some line) a d ordered room
    (inr (runs, inr (fields, are, (Some asked, of, answered)))) some =
    let g = asked.0 in
    let same = named-by-answer n g asked.1 (alone d.network l) own a d answered some in
    let next =
    answer-next n g asked.1 l own a d ordered (subst (λ h. HasRoomToDeclare h l) same room)
    (subst (λ h. IsAskAnswered n g asked.1 (alone h l) a own) same answered) some in
    let serves : Serves l n (Some line) a next.0 = inr (runs, inr (fields, are, (Some asked, of, next.1))) in (
      next.0,
      serves,
      subst (λ h. alone h next.0 ≡ own) (sym same) next.2,
      (line-is-local l next.0 n (Some line) a d ordered serves some).1,
    )

pub lines_are_answered_next_to_others : LinesAreAnsweredNextToOthers
lines_are_answered_next_to_others l own n line a d ordered room serves some =
    lines_are_answered_where_room_is l own n line a d ordered (λ waits runs. room) serves some
