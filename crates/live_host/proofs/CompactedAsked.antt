-- What a line asks of a network, where it does something to it.
use Rattle.std.specs.Prelude.{◌≡◌, ◌∷◌, [], ℕ, Bool, true, false, cond, List, Option, Some, None}
use Rattle.std.specs.Ordering.{is_eq}
use Rattle.std.proofs.Common.{◌∙◌, refl, sym, ap, subst, inl, inr}
use Rattle.scp_types.specs.declared.event.Event.{Event}
use Rattle.host_network.specs.Standing.{Machine}
use Rattle.scp_spec.specs.Hosts.{Config}
use Rattle.line_script.specs.Script.{Bytes}
use Rattle.live_feed.specs.Served.{LineReply}
use Rattle.live_feed.specs.declared.answering.Done.{Done}
use Rattle.line_request.specs.Asking.{IsAskedOf}
use Rattle.line_request.specs.Outlines.{IsConfigOf, Outlined, waiting_at}
use Rattle.line_request.specs.declared.ask.Ask.{Ask}
use Rattle.line_request.specs.declared.ask.Ask.TheVariants as ask
use Rattle.live_host.specs.Lowering.{waits_alone, runs_alone}
use Rattle.live_host.specs.Hosts.{AreAllAnswered, IsAnsweredOnceBegun, IsAskAnswered, IsEventAnswered, IsStarted, Live, Serves, begun, live_at, live_at, with_live}
use Rattle.live_host.proofs.Alone.{at-itself, found-only, same-live}
use Rattle.live_host.proofs.ApartLines.{not-done}

same-done : (d e : Done) (a : LineReply) → a.done ≡ Some e → a.done ≡ Some d → d ≡ e
same-done d e a one other = cc

-- ---- whose line it is
event-names : (n g : ℕ) (e : Event) (old new : Live) (a : LineReply) (d : Done) → IsEventAnswered n g e old a new
    → a.done ≡ Some d → d.network ≡ g
event-names n g e old new a d (None, at, (is, same)) some = not-done a d (ap (λ x. x.done) is) some
event-names n g e old new a d (Some m, at, (after, s, serves, is, says)) some =
    ap (λ x. x.network) (same-done d _ a (ap (λ x. x.done) says) some)

all-name : (n g : ℕ) (bytes : Bytes) (old new : Live) (a : LineReply) (d : Done) → AreAllAnswered n g bytes old a new
    → a.done ≡ Some d → d.network ≡ g
all-name n g bytes old new a d (None, at, (is, same)) some = not-done a d (ap (λ x. x.done) is) some
all-name n g bytes old new a d (Some m, at, (after, answers, serves, is, says)) some =
    ap (λ x. x.network) (same-done d _ a (ap (λ x. x.done) says) some)

once-begun-names : (n g : ℕ) (answers : Live → LineReply → Live → Type 0) (old new : Live) (a : LineReply) (d : Done)
    → ((now : Live) → answers now a new → d.network ≡ g) → IsAnsweredOnceBegun n g answers old a new
    → a.done ≡ Some d → d.network ≡ g
once-begun-names n g answers old new a d law (true, now, begins, answered) some = law now answered
once-begun-names n g answers old new a d law (false, now, begins, (is, same)) some =
    not-done a d (ap (λ x. x.done) is) some

answer-names : (n g : ℕ) (asked : Ask) (old new : Live) (a : LineReply) (d : Done) → IsAskAnswered n g asked old a new
    → a.done ≡ Some d → d.network ≡ g
answer-names n g (ask.Declare x) old new a d (true, declares, is) some =
    ap (λ x. x.network) (same-done d _ a (ap (λ x. x.done) is) some)
answer-names n g (ask.Declare x) old new a d (false, declares, is) some = not-done a d (ap (λ x. x.done) is) some
answer-names n g (ask.Serve e) old new a d answered some =
    once-begun-names n g (IsEventAnswered n g e) old new a d (λ now at. event-names n g e now new a d at some) answered some
answer-names n g (ask.ForAll bytes) old new a d answered some =
    once-begun-names n g (AreAllAnswered n g bytes) old new a d (λ now at. all-name n g bytes now new a d at some) answered
    some
answer-names n g ask.Left old new a d (text, none, is) some = not-done a d none some
answer-names n g (ask.Show i u) old new a d (text, none, is) some = not-done a d none some
answer-names n g ask.Drop old new a d (true, drops, is) some =
    ap (λ x. x.network) (same-done d _ a (ap (λ x. x.done) is) some)
answer-names n g ask.Drop old new a d (false, drops, is) some = not-done a d (ap (λ x. x.done) is) some

-- ---- what it asks
-- the line asks for this, and whoever answers to this answers to the line
pub record Asks (n g : ℕ) (line : Option Bytes) (old : Live) (a : LineReply) (new : Live) : Type 0 where
  pub asked : Ask
  pub fields : List Bytes
  pub is_asked : IsAskedOf fields (Some (g, asked))
  pub answered : IsAskAnswered n g asked old a new
  pub back : (k : ℕ) (other after : Live) (b : LineReply) → IsAskAnswered k g asked other b after → Serves other k line b after

pub what-it-asks : (n : ℕ) (line : Option Bytes) (old new : Live) (a : LineReply) (d : Done) → Serves old n line a new
    → a.done ≡ Some d → Asks n d.network line old a new
what-it-asks n None old new a d (is, same) some = not-done a d (ap (λ x. x.done) is) some
what-it-asks n (Some line) old new a d (inl (skipped, is, same)) some = not-done a d (ap (λ x. x.done) is) some
what-it-asks n (Some line) old new a d (inr (runs, inl (bad, (is, same)))) some =
    not-done a d (ap (λ x. x.done) is) some
what-it-asks n (Some line) old new a d (inr (runs, inr (fields, are, (None, asked, (is, same))))) some =
    not-done a d (ap (λ x. x.done) is) some
what-it-asks n (Some line) old new a d (inr (runs, inr (fields, are, (Some what, asked, answered)))) some =
    let same = answer-names n what.0 what.1 old new a d answered some in
    subst (λ g. Asks n g (Some line) old a new) (sym same)
    (record {
      asked = what.1;
      fields = fields;
      is_asked = asked;
      answered = answered;
      back = λ k other after b again. inr (runs, inr (fields, are, (Some what, asked, again)));
    })

-- ---- one network
pub waits-there : (g : ℕ) (d : Outlined) → waiting_at ((g, d) ∷ []) g ≡ Some d
waits-there g d = found-only g (Some d)

pub runs-there : (bytes : Bool) (g : ℕ) (m : Machine) → live_at (runs_alone bytes g m) g ≡ Some m
runs-there bytes g m = found-only g (Some m)

pub placed : (bytes : Bool) (g : ℕ) (m after : Machine) → with_live (runs_alone bytes g m) g after ≡ runs_alone bytes g after
placed bytes g m after =
    ap (λ o. record { bytes = bytes; waiting = []; running = cond (is_eq o) ((g, after) ∷ []) ((g, m) ∷ []) }) (at-itself g)

-- one that waits begins
begins-as : (bytes : Bool) (g : ℕ) (d : Outlined) (now : Live) → IsStarted (Some d) g (waits_alone bytes g d) now
    → (c : Config) × IsConfigOf g d c × (now ≡ runs_alone bytes g (begun c))
begins-as bytes g d now (c, of, waiting, running, is) = (
  c,
  of,
  same-live now.bytes bytes now.waiting [] now.running ((g, begun c) ∷ []) is
      (waiting ∙ ap (λ o. cond (is_eq o) [] ((g, d) ∷ [])) (at-itself g)) running,
)

begins-so : (bytes : Bool) (g : ℕ) (d : Outlined) (c : Config) → IsConfigOf g d c
    → IsStarted (Some d) g (waits_alone bytes g d) (runs_alone bytes g (begun c))
begins-so bytes g d c of = (c, of, ap (λ o. cond (is_eq o) [] ((g, d) ∷ [])) (sym (at-itself g)), refl, refl)

-- an event is answered where the network has begun, and there an event of it is answered likewise
pub begins-then : (n g : ℕ) (bytes : Bool) (answers : Live → LineReply → Live → Type 0) (d : Outlined) (a : LineReply) (did : Done)
    (new : Live) → a.done ≡ Some did → IsAnsweredOnceBegun n g answers (waits_alone bytes g d) a new
    → (c : Config) × IsConfigOf g d c × IsAnsweredOnceBegun n g answers (runs_alone bytes g (begun c)) a new
begins-then n g bytes answers d a did new some (false, now, begins, (is, same)) =
    not-done a did (ap (λ x. x.done) is) some
begins-then n g bytes answers d a did new some (true, now, begins, answered) =
    let begin = begins-as bytes g d now (subst (λ o. IsStarted o g (waits_alone bytes g d) now) (waits-there g d) begins) in (
      begin.0,
      begin.1,
      (true, runs_alone bytes g (begun begin.0), refl, subst (λ l. answers l a new) begin.2 answered),
    )

pub runs-then : (n g : ℕ) (bytes : Bool) (answers : Live → LineReply → Live → Type 0) (d : Outlined) (c : Config) (a : LineReply)
    (did : Done) (new : Live) → a.done ≡ Some did → IsConfigOf g d c
    → IsAnsweredOnceBegun n g answers (runs_alone bytes g (begun c)) a new
    → IsAnsweredOnceBegun n g answers (waits_alone bytes g d) a new
runs-then n g bytes answers d c a did new some of (false, now, begins, (is, same)) =
    not-done a did (ap (λ x. x.done) is) some
runs-then n g bytes answers d c a did new some of (true, now, same, answered) = (
  true,
  runs_alone bytes g (begun c),
  subst (λ o. IsStarted o g (waits_alone bytes g d) (runs_alone bytes g (begun c))) (sym (waits-there g d)) (begins-so bytes g d c of),
  subst (λ l. answers l a new) same answered,
)
