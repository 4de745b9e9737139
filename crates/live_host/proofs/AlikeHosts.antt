-- Alike hosts answer alike.
use Rattle.std.specs.Prelude.{◌≡◌, ◌+◌, ◌&&◌, not, ℕ, Bool, true, false, nat_lt, is_some, length, List, Option, Some, None}
use Rattle.std.specs.Ordering.{nat_cmp}
use Rattle.std.specs.BTreeMap.{insert_entry, is_at}
use Rattle.std.specs.Map.{remove_entry, set_value}
use Rattle.std.proofs.Common.{◌∙◌, refl, sym, ap, subst, inl, inr}
use Rattle.scp_types.specs.declared.event.Event.{Event}
use Rattle.host_config.specs.Configs.{names_of}
use Rattle.host_network.specs.Decoding.{step_of}
use Rattle.host_network.specs.Standing.{Machine}
use Rattle.line_script.specs.Script.{Bytes}
use Rattle.live_feed.specs.Served.{LineReply, ServesAll}
use Rattle.live_feed.specs.Served.ServesAll.{next, none}
use Rattle.live_feed.specs.WholeLines.{given}
use Rattle.line_request.specs.Outlines.{Outlined, waiting_at}
use Rattle.line_request.specs.declared.ask.Ask.{Ask}
use Rattle.line_request.specs.declared.ask.Ask.TheVariants as ask
use Rattle.line_request.specs.declared.request.Declaration.{Declaration}
use Rattle.line_request.specs.declared.request.Declaration.TheVariants as declaration
use Rattle.live_network.specs.Telling.{ending_of, tellings_of}
use Rattle.live_host.specs.Blocks.{block_of}
use Rattle.live_host.specs.Futures.{AlikeBothWays, AlikeHostsAnswerAlike, AlikeInTurn, AreAlike, AreAllAlike, FuturesAreAlike, IsAlike, ReachedHostsAreAlike}
use Rattle.live_host.specs.Futures.AreAllAlike.{none_runs}
use Rattle.live_host.specs.Hosts.{AreAllAnswered, AreServed, IsAnswerTo, IsAnsweredOnceBegun, IsAnsweredThen, IsAskAnswered, IsBadLine, IsBegun, IsDeclared, IsDroppedAt, IsEventAnswered, IsLeftText, IsShown, IsStarted, Live, Serves, begun, block_of_answers, deed_of, deed_of_all, left_at, left_by, live_at, new_live, slot_of_answers, takes_declaration}
use Rattle.live_host.proofs.AlikeInTurn.{all-alike-in-turn}
use Rattle.live_host.proofs.AlikeMachines.{AreFoundAlike, all-alike-the-other, all-alike-themselves, all-served-alike, begun-alike, counts-alike, drawn-alike, found-alike, inserted-alike, left-alike, nodes-alike, none-found, one-found, removed-alike, served-alike, set-alike, shown-alike}

pub alike_both_ways : AlikeBothWays
alike_both_ways l other alike =
    record { bytes = sym alike.bytes; waiting = sym alike.waiting; running = all-alike-the-other alike.running }

pub alike_in_turn : AlikeInTurn
alike_in_turn l other third one two = record {
  bytes = two.bytes ∙ one.bytes;
  waiting = two.waiting ∙ one.waiting;
  running = all-alike-in-turn one.running two.running;
}

-- ---- a host with other networks that run
abbrev Running : Type 0
Running = List (ℕ × Machine)

abbrev with_running : Live → Running → Live
with_running l ns = record l { running = ns }

-- what happens to a host happens to it with other networks that run, if they are alike
abbrev HappensAlike : (Live → Live → Type 0) → Live → Live → Running → Type 0
HappensAlike happens old new ns =
    (after : Running) × AreAllAlike new.running after × happens (with_running old ns) (with_running new after)

abbrev KeepsAlike : (Live → Live → Type 0) → Type 0
KeepsAlike happens =
    (old new : Live) (ns : Running) → AreAllAlike old.running ns → happens old new → HappensAlike happens old new ns

-- nothing happens
unchanged : {Also : Type 0} (old new : Live) (ns : Running) → AreAllAlike old.running ns → Also → new ≡ old
    → HappensAlike (λ l t. Also × (t ≡ l)) old new ns
unchanged old new ns alike also is =
    (ns, subst (λ l. AreAllAlike l.running ns) (sym is) alike, (also, ap (λ l. with_running l ns) is))

pub found : (l : Live) (ns : Running) (g : ℕ) → AreAllAlike l.running ns
    → AreFoundAlike (live_at l g) (live_at (with_running l ns) g)
found l ns g alike = found-alike (is_at (nat_cmp g)) alike

-- ---- declarations
some-alike : (o p : Option Machine) → AreFoundAlike o p → is_some p ≡ is_some o
some-alike None None alike = refl
some-alike None (Some n) alike = absurd alike
some-alike (Some m) None alike = absurd alike
some-alike (Some m) (Some n) alike = refl

taken-alike : (l : Live) (ns : Running) (g : ℕ) (d : Declaration) → AreAllAlike l.running ns
    → takes_declaration (with_running l ns) g d ≡ takes_declaration l g d
taken-alike l ns g (declaration.Net b) alike =
    ap (λ runs. not (is_some (waiting_at l.waiting g)) && (not runs && nat_lt (length l.waiting + length ns) 4096))
    (some-alike (live_at l g) (live_at (with_running l ns) g) (found l ns g alike))
    ∙ ap (λ count.
    not (is_some (waiting_at l.waiting g)) && (not (is_some (live_at l g)) && nat_lt (length l.waiting + count) 4096))
    (counts-alike alike)
taken-alike l ns g (declaration.Node u q) alike = refl
taken-alike l ns g (declaration.Roster r) alike = refl

declared-alike : (g : ℕ) (d : Declaration) (taken : Bool) → KeepsAlike (λ old new. IsDeclared g d old taken new)
declared-alike g d true old new ns alike (takes_declaration, prepares, running, bytes) = (
  ns,
  subst (λ ms. AreAllAlike ms ns) (sym running) alike,
  (taken-alike old ns g d alike ∙ takes_declaration, prepares, refl, bytes),
)
declared-alike g d false old new ns alike (takes_declaration, is) =
    unchanged old new ns alike (taken-alike old ns g d alike ∙ takes_declaration) is

-- ---- the first event
started-alike : (waits : Option Outlined) (g : ℕ) → KeepsAlike (λ old new. IsStarted waits g old new)
started-alike None g old new ns alike is =
    (ns, subst (λ l. AreAllAlike l.running ns) (sym is) alike, ap (λ l. with_running l ns) is)
started-alike (Some d) g old new ns alike (c, of, waiting, running, bytes) = (
  insert_entry nat_cmp ns g (begun c),
  subst (λ ms. AreAllAlike ms (insert_entry nat_cmp ns g (begun c))) (sym running)
      (inserted-alike g (begun c) (begun c) (begun-alike c) alike),
  (c, of, waiting, refl, bytes),
)

pub begun-network-alike : (g : ℕ) (is : Bool) → KeepsAlike (λ old new. IsBegun g old is new)
begun-network-alike g true old new ns alike started = started-alike (waiting_at old.waiting g) g old new ns alike started
begun-network-alike g false old new ns alike (bare, is) = unchanged old new ns alike bare is

-- ---- events
abbrev AnswersAlike : (Live → LineReply → Live → Type 0) → Type 0
AnswersAlike answers = (a : LineReply) → KeepsAlike (λ old new. answers old a new)

bad-alike : (n : ℕ) → AnswersAlike (IsBadLine n)
bad-alike n a old new ns alike (is, same) = unchanged old new ns alike is same

set-in-both : (old new : Live) (ns : Running) (g : ℕ) (m after other : Machine) → AreAllAlike old.running ns
    → IsAlike after other → new ≡ record old { running = set_value (is_at (nat_cmp g)) old.running after }
    → AreAllAlike new.running (set_value (is_at (nat_cmp g)) ns other)
    × (with_running new (set_value (is_at (nat_cmp g)) ns other)
    ≡ record old { running = set_value (is_at (nat_cmp g)) ns other })
set-in-both old new ns g m after other alike both is = (
  subst (λ l. AreAllAlike l.running (set_value (is_at (nat_cmp g)) ns other)) (sym is)
      (set-alike (is_at (nat_cmp g)) after other both alike),
  ap (λ l. with_running l (set_value (is_at (nat_cmp g)) ns other)) is,
)

event-alike : (n g : ℕ) (e : Event) → AnswersAlike (IsEventAnswered n g e)
event-alike n g e a old new ns alike (None, at, (is, same)) =
    let kept = unchanged old new ns alike is same in (
      kept.0,
      kept.1,
      (None, none-found (live_at old g) (live_at (with_running old ns) g) (found old ns g alike) at, kept.2),
    )
event-alike n g e a old new ns alike (Some m, at, (after, s, serves, is, says)) =
    let other = one-found (live_at old g) (live_at (with_running old ns) g) m (found old ns g alike) at in
    let later = served-alike other.2.0 other.2.1 m other.0 after (step_of e) s other.2.2 serves in
    let both = set-in-both old new ns g m after later.0 alike (other.2.0, other.2.1, later.2) is in (
      set_value (is_at (nat_cmp g)) ns later.0,
      both.0,
      (
        Some other.0,
        other.1,
        (
          later.0,
          s,
          later.1,
          both.1,
          says ∙ ap (λ d. record {
            text = block_of old.bytes n g s.slot (tellings_of s.told.items) (ending_of s);
            done = Some (record { network = g; deed = deed_of e s d });
          }) (sym (drawn-alike other.2.0 other.2.1 m other.0 after later.0 other.2.2 later.2)),
        ),
      ),
    )

all-alike : (n g : ℕ) (bytes : Bytes) → AnswersAlike (AreAllAnswered n g bytes)
all-alike n g bytes a old new ns alike (None, at, (is, same)) =
    let kept = unchanged old new ns alike is same in (
      kept.0,
      kept.1,
      (None, none-found (live_at old g) (live_at (with_running old ns) g) (found old ns g alike) at, kept.2),
    )
all-alike n g bytes a old new ns alike (Some m, at, (after, answers, serves, is, says)) =
    let other = one-found (live_at old g) (live_at (with_running old ns) g) m (found old ns g alike) at in
    let later = all-served-alike other.2.0 other.2.1 bytes serves other.0 other.2.2 in
    let both = set-in-both old new ns g m after later.0 alike (other.2.0, other.2.1, later.2) is in (
      set_value (is_at (nat_cmp g)) ns later.0,
      both.0,
      (
        Some other.0,
        other.1,
        (
          later.0,
          answers,
          subst (λ nodes. AreServed bytes (names_of nodes) other.0 answers later.0)
              (sym (nodes-alike m other.0 other.2)) later.1,
          both.1,
          says ∙ ap (λ d. record {
            text = block_of_answers old.bytes n g answers;
            done = Some (record { network = g; deed = deed_of_all (slot_of_answers answers) d });
          }) (sym (drawn-alike other.2.0 other.2.1 m other.0 after later.0 other.2.2 later.2)),
        ),
      ),
    )

then-alike : (is : Bool) (n : ℕ) (answers : Live → LineReply → Live → Type 0) → AnswersAlike answers
    → AnswersAlike (IsAnsweredThen is n answers)
then-alike true n answers law = law
then-alike false n answers law = bad-alike n

once-begun-alike : (n g : ℕ) (answers : Live → LineReply → Live → Type 0) → AnswersAlike answers
    → AnswersAlike (IsAnsweredOnceBegun n g answers)
once-begun-alike n g answers law a old new ns alike (is, now, begins, answered) =
    let begin = begun-network-alike g is old now ns alike begins in
    let rest = then-alike is n answers law a now new begin.0 begin.1 answered in
    (rest.0, rest.1, (is, with_running now begin.0, begin.2, rest.2))

-- ---- questions
left-by-alike : (waits : Option Outlined) (o p : Option Machine) → AreFoundAlike o p
    → left_by waits p ≡ left_by waits o
left-by-alike (Some d) o p alike = refl
left-by-alike None None None alike = refl
left-by-alike None None (Some n) alike = absurd alike
left-by-alike None (Some m) None alike = absurd alike
left-by-alike None (Some m) (Some n) alike = ap Some (left-alike m n alike)

left-text-alike : (l : Live) (ns : Running) (n g : ℕ) (text : Bytes) → AreAllAlike l.running ns
    → IsLeftText n g (left_at l g) text → IsLeftText n g (left_at (with_running l ns) g) text
left-text-alike l ns n g text alike is =
    subst (λ left. IsLeftText n g left text)
    (sym (left-by-alike (waiting_at l.waiting g) (live_at l g) (live_at (with_running l ns) g) (found l ns g alike))) is

shown-text-alike : (l : Live) (ns : Running) (n g i u : ℕ) (text : Bytes) → AreAllAlike l.running ns
    → IsShown n g i u l text → IsShown n g i u (with_running l ns) text
shown-text-alike l ns n g i u text alike (None, at, is) =
    (None, none-found (live_at l g) (live_at (with_running l ns) g) (found l ns g alike) at, is)
shown-text-alike l ns n g i u text alike (Some m, at, shown) =
    let other = one-found (live_at l g) (live_at (with_running l ns) g) m (found l ns g alike) at in
    (Some other.0, other.1, shown-alike n g i u m other.0 text other.2 shown)

-- ---- networks that are taken back
dropped-at-alike : (waits : Option Outlined) (o p : Option Machine) (g : ℕ) (taken : Bool) (old new : Live) (ns : Running)
    → AreAllAlike old.running ns → AreFoundAlike o p → IsDroppedAt waits o g old taken new
    → HappensAlike (λ l t. IsDroppedAt waits p g l taken t) old new ns
dropped-at-alike (Some d) o p g taken old new ns alike both (is, same) =
    (ns, subst (λ l. AreAllAlike l.running ns) (sym same) alike, (is, ap (λ l. with_running l ns) same))
dropped-at-alike None (Some m) (Some n) g taken old new ns alike both (is, same) =
    let others : Running = remove_entry (is_at (nat_cmp g)) ns in (
      others,
      subst (λ l. AreAllAlike l.running others) (sym same) (removed-alike (is_at (nat_cmp g)) alike),
      (is, ap (λ l. with_running l others) same),
    )
dropped-at-alike None (Some m) None g taken old new ns alike both dropped = absurd both
dropped-at-alike None None (Some n) g taken old new ns alike both dropped = absurd both
dropped-at-alike None None None g taken old new ns alike both (is, same) = unchanged old new ns alike is same

-- ---- lines
answer-alike : (n g : ℕ) (asked : Ask) → AnswersAlike (IsAskAnswered n g asked)
answer-alike n g (ask.Declare d) a old new ns alike (taken, declares, is) =
    let kept = declared-alike g d taken old new ns alike declares in
    (kept.0, kept.1, (taken, kept.2, is))
answer-alike n g (ask.Serve e) a old new ns alike answered =
    once-begun-alike n g (IsEventAnswered n g e) (event-alike n g e) a old new ns alike answered
answer-alike n g (ask.ForAll bytes) a old new ns alike answered =
    once-begun-alike n g (AreAllAnswered n g bytes) (all-alike n g bytes) a old new ns alike answered
answer-alike n g ask.Left a old new ns alike (text, done, is) =
    let kept = unchanged old new ns alike done is in
    (kept.0, kept.1, (left-text-alike old ns n g a.text alike text, kept.2.0, kept.2.1))
answer-alike n g (ask.Show i u) a old new ns alike (text, done, is) =
    let kept = unchanged old new ns alike done is in
    (kept.0, kept.1, (shown-text-alike old ns n g i u a.text alike text, kept.2.0, kept.2.1))
answer-alike n g ask.Drop a old new ns alike (taken, drops, is) =
    let kept =
    dropped-at-alike (waiting_at old.waiting g) (live_at old g) (live_at (with_running old ns) g) g taken old new ns alike
    (found old ns g alike) drops in
    (kept.0, kept.1, (taken, kept.2, is))

asked-alike : (n : ℕ) (asked : Option (ℕ × Ask)) → AnswersAlike (IsAnswerTo n asked)
asked-alike n None = bad-alike n
asked-alike n (Some asked) = answer-alike n asked.0 asked.1

line-alike : (n : ℕ) (line : Option Bytes) → AnswersAlike (λ old a new. Serves old n line a new)
line-alike n None a old new ns alike answered = bad-alike n a old new ns alike answered
line-alike n (Some line) a old new ns alike (inl (skipped, is, same)) =
    let kept = unchanged old new ns alike is same in
    (kept.0, kept.1, inl (skipped, kept.2.0, kept.2.1))
line-alike n (Some line) a old new ns alike (inr (runs, inl (bad, answered))) =
    let kept = bad-alike n a old new ns alike answered in
    (kept.0, kept.1, inr (runs, inl (bad, kept.2)))
line-alike n (Some line) a old new ns alike (inr (runs, inr (fields, are, (asked, is, answered)))) =
    let kept = asked-alike n asked a old new ns alike answered in
    (kept.0, kept.1, inr (runs, inr (fields, are, (asked, is, kept.2))))

pub alike_hosts_answer_alike : AlikeHostsAnswerAlike
alike_hosts_answer_alike l other t n line a alike serves =
    let kept = line-alike n line a l t other.running alike.running serves in
    let same : with_running l other.running ≡ other =
    ap (λ w. record { bytes = l.bytes; waiting = w; running = other.running }) (sym alike.waiting)
    ∙ ap (λ b. record { bytes = b; waiting = other.waiting; running = other.running }) (sym alike.bytes) in (
      with_running t kept.0,
      subst (λ l. Serves l n line a (with_running t kept.0)) same kept.2,
      record { bytes = refl; waiting = refl; running = kept.1 },
    )

futures-are-alike : (longest : ℕ) {l : Live} {n : ℕ} {lines journal : List Bytes} {text : Bytes} {t : Live}
    → ServesAll Serves longest l n lines journal text t → (other : Live) → AreAlike l other
    → (u : Live) × ServesAll Serves longest other n lines journal text u × AreAlike t u
futures-are-alike longest none other alike = (other, none, alike)
futures-are-alike longest (next {s} {t} {n} {line} a serves others) other alike =
    let here = alike_hosts_answer_alike s other t n (given longest line) a alike serves in
    let rest = futures-are-alike longest others here.0 here.2 in
    (rest.0, next a here.1 rest.1, rest.2)

pub futures_are_alike : FuturesAreAlike
futures_are_alike longest l other t n lines journal text alike serves = futures-are-alike longest serves other alike

pub reached_hosts_are_alike : ReachedHostsAreAlike
reached_hosts_are_alike longest bytes n lines journal text l serves =
    let begins : AreAlike (new_live bytes) (new_live bytes) = record { bytes = refl; waiting = refl; running = none_runs } in
    let both = futures-are-alike longest serves (new_live bytes) begins in
    record { bytes = refl; waiting = refl; running = all-alike-themselves both.2.running }
