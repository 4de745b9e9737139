-- Which lines of a live host count: one that its journal does not keep changes nothing, and one that it keeps has no
-- byte 0. These are the laws of what serves lines, and their proofs.
use Rattle.std.specs.Prelude.{◌≡◌, ◌&&◌, ◌==◌, not, ℕ, Bool, true, false, List, [], ◌∷◌, Option, Some, None, is_some, refl}
use Rattle.std.specs.List.{join_with_byte, list_all}
use Rattle.std.specs.Char.{is_ascii_graphic}
use Rattle.std.specs.declared.cmp.Ordering.{Ordering}
use Rattle.std.specs.Ordering.{is_eq, match_ordering, nat_cmp}
use Rattle.std.specs.Cmp.{nat_cmp_total, tied_itself}
use Rattle.std.specs.BTreeMap.{insert_entry, is_at}
use Rattle.std.specs.Map.{lookup}
use Rattle.std.proofs.Common.{◌∙◌, Less, Equal, Greater, inl, inr, sym, ap, subst, cond, true≢false}
use Rattle.std.proofs.lemmas.Bool.Decides.{Decides-eqb}
use Rattle.std.proofs.lemmas.List.Folds.{list_all-append}
use Rattle.scp_types.specs.declared.event.Event.{Event}
use Rattle.host_network.specs.Standing.{Machine}
use Rattle.line_script.specs.Script.{Bytes, IsSkipped, is_field}
use Rattle.live_feed.specs.Served.{EmptyLinesAreSkipped, KeptLinesAreWhole, LineReply, OnlyKeptLinesCount, is_kept, kept_as}
use Rattle.live_feed.specs.WholeLines.{has_no_hole}
use Rattle.line_request.specs.Outlines.{Outlined, waiting_at}
use Rattle.live_host.specs.Blocks.{TellsOfNoWant}
use Rattle.live_host.specs.Hosts.{AreAllAnswered, IsAnswerTo, IsAnsweredOnceBegun, IsAskAnswered, IsDroppedAt, IsEventAnswered, IsStarted, Live, Remembers, Serves, begun, live_at}
use Rattle.line_request.specs.declared.ask.Ask.{Ask}
use Rattle.line_request.specs.declared.ask.Ask.TheVariants as ask

kept-by : {a b : LineReply} → a ≡ b → is_kept a ≡ is_kept b
kept-by e = ap is_kept e

not-both : {b : Bool} {X : Type 0} → b ≡ true → b ≡ false → X
not-both is other = absurd (true≢false (sym is ∙ other))

-- ---- a network that has begun
at-itself : (g : ℕ) → is_at (nat_cmp g) g ≡ true
at-itself g = ap is_eq (tied_itself nat_cmp_total g)

pub inserted-is-found : {X : Type 0} (es : List (ℕ × X)) (g : ℕ) (x : X) → lookup (is_at (nat_cmp g)) (insert_entry nat_cmp es g x) ≡ Some x
inserted-is-found [] g x = ap (λ b. cond b (Some x) None) (at-itself g)
inserted-is-found {X} (e ∷ es) g x = step (nat_cmp g e.0) refl (inserted-is-found es g x)
  where
    step : (o : Ordering) → nat_cmp g e.0 ≡ o → lookup (is_at (nat_cmp g)) (insert_entry nat_cmp es g x) ≡ Some x
        → lookup (is_at (nat_cmp g)) (match_ordering o ((g, x) ∷ e ∷ es) ((e.0, x) ∷ es) (e ∷ insert_entry nat_cmp es g x)) ≡ Some x
    step Less is others = ap (λ b. cond b (Some x) (lookup (is_at (nat_cmp g)) (e ∷ es))) (at-itself g)
    step Equal is others = ap (λ o. cond (is_eq o) (Some x) (lookup (is_at (nat_cmp g)) es)) is
    step Greater is others = ap (λ o. cond (is_eq o) (Some e.1) (lookup (is_at (nat_cmp g)) (insert_entry nat_cmp es g x))) is ∙ others

-- if a network has begun and does not run, it did not wait, so nothing was started
not-started : (waits : Option Outlined) (g : ℕ) (old now : Live) → IsStarted waits g old now → live_at now g ≡ None → now ≡ old
not-started None g old now same none = same
not-started (Some d) g old now (c, of, waiting, running, bytes) none =
    let runs : live_at now g ≡ Some (begun c) = ap (lookup (is_at (nat_cmp g))) running ∙ inserted-is-found old.running g (begun c) in
    not-both (ap is_some runs) (ap is_some none)

-- ---- answers that are not kept
-- what is not kept of these answers is of a network that does not run, and changes nothing
abbrev CountsWhereItRuns : ℕ → (Live → LineReply → Live → Type 0) → Type 0
CountsWhereItRuns g answers =
    (old new : Live) (a : LineReply) → answers old a new → is_kept a ≡ false → (live_at old g ≡ None) × (new ≡ old)

event-counts : (n g : ℕ) (e : Event) → CountsWhereItRuns g (IsEventAnswered n g e)
event-counts n g e old new a (None, at, answered) out = (at, answered.1)
event-counts n g e old new a (Some m, at, answered) out = not-both (kept-by answered.4) out

all-count : (n g : ℕ) (bytes : Bytes) → CountsWhereItRuns g (AreAllAnswered n g bytes)
all-count n g bytes old new a (None, at, answered) out = (at, answered.1)
all-count n g bytes old new a (Some m, at, answered) out = not-both (kept-by answered.4) out

begun-counts : (n g : ℕ) (answers : Live → LineReply → Live → Type 0) → CountsWhereItRuns g answers → (old new : Live) (a : LineReply)
    → IsAnsweredOnceBegun n g answers old a new → is_kept a ≡ false → new ≡ old
begun-counts n g answers law old new a (true, now, started, answered) out =
    let none = law now new a answered out in none.1 ∙ not-started (waiting_at old.waiting g) g old now started none.0
begun-counts n g answers law old new a (false, now, waits, bad) out = bad.1 ∙ waits.1

drop-counts : (waits : Option Outlined) (runs : Option Machine) (g : ℕ) (old new : Live) → IsDroppedAt waits runs g old false new → new ≡ old
drop-counts (Some d) runs g old new dropped = not-both dropped.0 refl
drop-counts None (Some m) g old new dropped = not-both dropped.0 refl
drop-counts None None g old new dropped = dropped.1

answer-counts : (n g : ℕ) (asked : Ask) (old new : Live) (a : LineReply) → IsAskAnswered n g asked old a new → is_kept a ≡ false → new ≡ old
answer-counts n g (ask.Declare d) old new a (true, declared, is) out = not-both (kept-by is) out
answer-counts n g (ask.Declare d) old new a (false, declared, is) out = declared.1
answer-counts n g (ask.Serve e) old new a answer out = begun-counts n g (IsEventAnswered n g e) (event-counts n g e) old new a answer out
answer-counts n g (ask.ForAll bytes) old new a answer out = begun-counts n g (AreAllAnswered n g bytes) (all-count n g bytes) old new a answer out
answer-counts n g ask.Left old new a answer out = answer.2
answer-counts n g (ask.Show i u) old new a answer out = answer.2
answer-counts n g ask.Drop old new a (true, dropped, is) out = not-both (kept-by is) out
answer-counts n g ask.Drop old new a (false, dropped, is) out = drop-counts (waiting_at old.waiting g) (live_at old g) g old new dropped

asked-counts : (n : ℕ) (asked : Option (ℕ × Ask)) (old new : Live) (a : LineReply) → IsAnswerTo n asked old a new → is_kept a ≡ false → new ≡ old
asked-counts n None old new a bad out = bad.1
asked-counts n (Some asked) old new a answer out = answer-counts n asked.0 asked.1 old new a answer out

-- a line that stands for an empty one is not kept, or it is empty and was skipped
line-counts : (old new : Live) (n : ℕ) (line : Bytes) (a : LineReply) (kept : Bool) → is_kept a ≡ kept → Serves old n (Some line) a new → kept_as (Some line) kept ≡ [] → new ≡ old
line-counts old new n line a kept is (inl skipped) e = skipped.2
line-counts old new n line a kept is (inr (runs, inl bad)) e = bad.1.1
line-counts old new n line a true is (inr (runs, inr fields)) e = absurd (runs (subst IsSkipped (sym e) (refl, refl)))
line-counts old new n line a false is (inr (runs, inr (fields, are, (asked, of, answer)))) e = asked-counts n asked old new a answer is

-- a law: only kept lines change a live host
pub live_only_kept_lines_count : OnlyKeptLinesCount Serves
live_only_kept_lines_count old new n None a bad e = bad.1
live_only_kept_lines_count old new n (Some line) a answer e = line-counts old new n line a (is_kept a) refl answer e

-- a law: empty lines are not answered by a live host, and change nothing
pub live_empty_lines_are_skipped : EmptyLinesAreSkipped Serves
live_empty_lines_are_skipped s n = inl ((refl, refl), refl, refl)

-- ---- kept lines
both-true : (a b : Bool) → (a && b) ≡ true → (a ≡ true) × (b ≡ true)
both-true true b e = (refl, e)
both-true false b e = not-both e refl

graphic-is-not-0 : (b : ℕ) → is_ascii_graphic b ≡ true → not (b == 0) ≡ true
graphic-is-not-0 b e = by (b == 0) refl
  where
    by : (is-0 : Bool) → (b == 0) ≡ is-0 → not is-0 ≡ true
    by true is = not-both (subst (λ c. is_ascii_graphic c ≡ true) ((Decides-eqb b 0).0 is) e) refl
    by false is = refl

graphic-is-whole : (bytes : Bytes) → list_all is_ascii_graphic bytes ≡ true → has_no_hole bytes ≡ true
graphic-is-whole [] e = refl
graphic-is-whole (b ∷ bytes) e =
    let both = both-true (is_ascii_graphic b) (list_all is_ascii_graphic bytes) e in
    ap (λ first. first && has_no_hole bytes) (graphic-is-not-0 b both.0) ∙ graphic-is-whole bytes both.1

field-is-whole : (field : Bytes) → is_field field ≡ true → has_no_hole field ≡ true
field-is-whole [] e = refl
field-is-whole (b ∷ bytes) e = graphic-is-whole (b ∷ bytes) e

fields-are-whole : (fields : List Bytes) → list_all is_field fields ≡ true → has_no_hole (join_with_byte 32 fields) ≡ true
fields-are-whole [] e = refl
fields-are-whole (field ∷ []) e = field-is-whole field (both-true (is_field field) true e).0
fields-are-whole (field ∷ next ∷ fields) e =
    let both = both-true (is_field field) (list_all is_field (next ∷ fields)) e in
    list_all-append (λ b. not (b == 0)) field (32 ∷ join_with_byte 32 (next ∷ fields))
    ∙ ap (λ first. first && has_no_hole (join_with_byte 32 (next ∷ fields))) (field-is-whole field both.0)
    ∙ fields-are-whole (next ∷ fields) both.1

-- a law: the lines that a live host keeps have no byte 0
pub live_kept_lines_are_whole : KeptLinesAreWhole Serves
live_kept_lines_are_whole old new n line a (inl skipped) kept = not-both kept (kept-by skipped.1)
live_kept_lines_are_whole old new n line a (inr (runs, inl bad)) kept = not-both kept (kept-by bad.1.0)
live_kept_lines_are_whole old new n line a (inr (runs, inr (fields, are, answer))) kept =
    subst (λ bytes. has_no_hole bytes ≡ true) are.0 (fields-are-whole fields are.1)

-- ---- if a journal is kept
-- if nothing is told, nothing says that it was out of memory
pub none_told : TellsOfNoWant []
none_told [] rest is = cc
none_told (b ∷ front) rest is = cc

-- a law: what a host with a journal does not keep left it as it was
pub only_remembered_lines_count : OnlyKeptLinesCount Remembers
only_remembered_lines_count old new n line a serves out = live_only_kept_lines_count old new n line a serves.0 out

-- a law: empty lines are not answered by a host with a journal, and change nothing
pub empty_lines_are_remembered : EmptyLinesAreSkipped Remembers
empty_lines_are_remembered s n = (live_empty_lines_are_skipped s n, none_told)

-- a law: the lines that a host with a journal keeps have no byte 0
pub remembered_lines_are_whole : KeptLinesAreWhole Remembers
remembered_lines_are_whole old new n line a serves kept = live_kept_lines_are_whole old new n line a serves.0 kept
