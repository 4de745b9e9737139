-- No more networks are known than may be declared.
use Rattle.std.specs.Prelude.{◌≡◌, ◌≢◌, ◌⊎◌, ◌+◌, ◌≤◌, ◌&&◌, ◌∷◌, [], not, is_some, length, ℕ, Bool, true, false, cond, List, Option, Some, None}
use Rattle.std.specs.declared.cmp.Ordering.{Ordering}
use Rattle.std.specs.Ordering.{is_eq, match_ordering, nat_cmp}
use Rattle.std.specs.BTreeMap.{insert_entry, is_at}
use Rattle.std.specs.Map.{remove_entry, set_value}
use Rattle.std.proofs.Common.{◌∙◌, Less, Equal, Greater, refl, sym, ap, subst, inl, inr, arith, true≢false}
use Rattle.std.proofs.lemmas.Bool.Decides.{Decides-ltb}
use Rattle.scp_types.specs.declared.event.Event.{Event}
use Rattle.host_network.specs.Standing.{Machine}
use Rattle.line_script.specs.Script.{Bytes}
use Rattle.live_feed.specs.Lasting.{entry_at}
use Rattle.live_feed.specs.Served.{LineReply}
use Rattle.live_feed.specs.declared.answering.Done.{Done}
use Rattle.line_request.specs.Outlines.{Outlined, waiting_at}
use Rattle.line_request.specs.Taking.{takes_node, takes_roster}
use Rattle.line_request.specs.declared.ask.Ask.{Ask}
use Rattle.line_request.specs.declared.ask.Ask.TheVariants as ask
use Rattle.line_request.specs.declared.request.Declaration.TheVariants as declaration
use Rattle.live_host.specs.Apart.{AreFrom, HasRoomForNetwork, alone, only}
use Rattle.live_host.specs.Lowering.{waits_alone, runs_alone}
use Rattle.live_host.specs.Hosts.{AreAllAnswered, IsAnsweredOnceBegun, IsAskAnswered, IsDroppedAt, IsEventAnswered, IsStarted, Live, done_if, live_at, new_live}
use Rattle.live_host.proofs.Alone.{at-itself, none-below, removed-apart}
use Rattle.live_host.proofs.ApartLines.{not-done}
use Rattle.live_host.proofs.CompactedAsked.{Asks}
use Rattle.live_host.proofs.CompactedLists.{not-at}
use Rattle.live_feed.specs.declared.answering.Deed.TheVariants as deed

-- ---- entries
-- there is one of this number
abbrev pub Has : {X : Type 0} → List (ℕ × X) → ℕ → Type 0
Has es g = is_some (entry_at es g) ≡ true

removed-one : {X : Type 0} (g : ℕ) (es : List (ℕ × X)) → Has es g
    → length es ≡ length (remove_entry (is_at (nat_cmp g)) es) + 1
removed-one g [] has = absurd (true≢false (sym has))
removed-one {X} g (e ∷ es) has = by (is_at (nat_cmp g) e.0) has (removed-one g es)
  where
    by : (b : Bool) → is_some (cond b (Some e.1) (entry_at es g)) ≡ true
        → (Has es g → length es ≡ length (remove_entry (is_at (nat_cmp g)) es) + 1)
        → length (e ∷ es) ≡ length (cond b es (e ∷ remove_entry (is_at (nat_cmp g)) es)) + 1
    by true has others = omega arith
    by false has others = let rest = others has in omega (arith, rest)

has-still : {X : Type 0} (g h : ℕ) (es : List (ℕ × X)) → h ≢ g → Has es h → Has (remove_entry (is_at (nat_cmp g)) es) h
has-still g h es apart has = ap is_some (removed-apart g h es apart) ∙ has

-- what ascends, each of which is of the one or of the other, is no more than both
pub no-more : {X Y Z : Type 0} (k : ℕ) (es : List (ℕ × X)) (ws : List (ℕ × Y)) (ms : List (ℕ × Z)) → AreFrom k es
    → ((g : ℕ) → Has es g → Has ws g ⊎ Has ms g) → length es ≤ length ws + length ms
no-more k [] ws ms ascend has = omega arith
no-more {X} {Y} {Z} k (e ∷ es) ws ms ascend has =
    by (has e.0 (ap (λ o. is_some (cond (is_eq o) (Some e.1) (entry_at es e.0))) (at-itself e.0)))
    (λ ws ms has. no-more (e.0 + 1) es ws ms ascend.1 has)
  where
    apart-from : (g : ℕ) → Has es g → g ≢ e.0
    apart-from g here same =
        true≢false
        (sym here ∙ ap (λ h. is_some (entry_at es h)) same
        ∙ ap is_some (none-below e.0 (e.0 + 1) es ascend.1 (omega arith)))

    there : (g : ℕ) → Has es g → Has (e ∷ es) g
    there g here =
        ap (λ b. is_some (cond b (Some e.1) (entry_at es g))) (not-at g e.0 (apart-from g here)) ∙ here

    other-waits : (g : ℕ) → Has es g → Has ws g ⊎ Has ms g → Has (remove_entry (is_at (nat_cmp e.0)) ws) g ⊎ Has ms g
    other-waits g here (inl one) = inl (has-still e.0 g ws (apart-from g here) one)
    other-waits g here (inr one) = inr one

    other-runs : (g : ℕ) → Has es g → Has ws g ⊎ Has ms g → Has ws g ⊎ Has (remove_entry (is_at (nat_cmp e.0)) ms) g
    other-runs g here (inl one) = inl one
    other-runs g here (inr one) = inr (has-still e.0 g ms (apart-from g here) one)

    by : Has ws e.0 ⊎ Has ms e.0
        → ((ws : List (ℕ × Y)) (ms : List (ℕ × Z)) → ((g : ℕ) → Has es g → Has ws g ⊎ Has ms g)
        → length es ≤ length ws + length ms)
        → length (e ∷ es) ≤ length ws + length ms
    by (inl one) others =
        let fewer = removed-one e.0 ws one in
        let rest = others (remove_entry (is_at (nat_cmp e.0)) ws) ms (λ g here. other-waits g here (has g (there g here))) in
        omega (arith, fewer, rest)
    by (inr one) others =
        let fewer = removed-one e.0 ms one in
        let rest = others ws (remove_entry (is_at (nat_cmp e.0)) ms) (λ g here. other-runs g here (has g (there g here))) in
        omega (arith, fewer, rest)

-- ---- how many there are
pub inserted-count : {X : Type 0} (g : ℕ) (es : List (ℕ × X)) (x : X) → length (insert_entry nat_cmp es g x) ≤ length es + 1
inserted-count g [] x = omega arith
inserted-count {X} g (e ∷ es) x = by (nat_cmp g e.0) (inserted-count g es x)
  where
    by : (o : Ordering) → length (insert_entry nat_cmp es g x) ≤ length es + 1
        → length (match_ordering o ((g, x) ∷ e ∷ es) ((e.0, x) ∷ es) (e ∷ insert_entry nat_cmp es g x)) ≤ length (e ∷ es) + 1
    by Less rest = omega arith
    by Equal rest = omega arith
    by Greater rest = omega (arith, rest)

pub set-count : {X : Type 0} (test : ℕ → Bool) (es : List (ℕ × X)) (x : X) → length (set_value test es x) ≡ length es
set-count test [] x = refl
set-count {X} test (e ∷ es) x = by (test e.0) (set-count test es x)
  where
    by : (b : Bool) → length (set_value test es x) ≡ length es
        → length (cond b ((e.0, x) ∷ es) (e ∷ set_value test es x)) ≡ length (e ∷ es)
    by true rest = omega arith
    by false rest = omega (arith, rest)

pub removed-count : {X : Type 0} (test : ℕ → Bool) (es : List (ℕ × X)) → length (remove_entry test es) ≤ length es
removed-count test [] = omega arith
removed-count {X} test (e ∷ es) = by (test e.0) (removed-count test es)
  where
    by : (b : Bool) → length (remove_entry test es) ≤ length es
        → length (cond b es (e ∷ remove_entry test es)) ≤ length (e ∷ es)
    by true rest = omega arith
    by false rest = omega (arith, rest)

-- ---- a network that is none
-- where a line does something to it, there is room for it
both-false : (a b c : Bool) → (a && (b && c)) ≡ true → c ≡ true
both-false true true c is = is
both-false true false c is = absurd (true≢false (sym is))
both-false false b c is = absurd (true≢false (sym is))

event-needs-one : {X : Type 0} (n g : ℕ) (e : Event) (l : Live) (a : LineReply) (did : Done) (t : Live) → a.done ≡ Some did
    → waiting_at l.waiting g ≡ None → live_at l g ≡ None → IsAnsweredOnceBegun n g (IsEventAnswered n g e) l a t → X
event-needs-one n g e l a did t some no_wait no_run (false, now, starts, (is, same)) =
    not-done a did (ap (λ x. x.done) is) some
event-needs-one n g e l a did t some no_wait no_run (true, now, starts, (None, at, (is, still))) =
    not-done a did (ap (λ x. x.done) is) some
event-needs-one n g e l a did t some no_wait no_run (true, now, starts, (Some m, at, served)) =
    let same : now ≡ l = subst (λ w. IsStarted w g l now) no_wait starts in
    let here = sym no_run ∙ ap (λ l. live_at l g) (sym same) ∙ at in absurd (cc)

all-need-one : {X : Type 0} (n g : ℕ) (bytes : Bytes) (l : Live) (a : LineReply) (did : Done) (t : Live) → a.done ≡ Some did
    → waiting_at l.waiting g ≡ None → live_at l g ≡ None → IsAnsweredOnceBegun n g (AreAllAnswered n g bytes) l a t → X
all-need-one n g bytes l a did t some no_wait no_run (false, now, starts, (is, same)) =
    not-done a did (ap (λ x. x.done) is) some
all-need-one n g bytes l a did t some no_wait no_run (true, now, starts, (None, at, (is, still))) =
    not-done a did (ap (λ x. x.done) is) some
all-need-one n g bytes l a did t some no_wait no_run (true, now, starts, (Some m, at, served)) =
    let same : now ≡ l = subst (λ w. IsStarted w g l now) no_wait starts in
    let here = sym no_run ∙ ap (λ l. live_at l g) (sym same) ∙ at in absurd (cc)

pub has-room : (n g : ℕ) (line : Option Bytes) (l t : Live) (a : LineReply) (did : Done) → a.done ≡ Some did
    → waiting_at l.waiting g ≡ None → live_at l g ≡ None → Asks n g line l a t → HasRoomForNetwork l
has-room n g line l t a did some no_wait no_run asks = by asks.asked asks.answered
  where
    by : (asked : Ask) → IsAskAnswered n g asked l a t → HasRoomForNetwork l
    by (ask.Declare x) (false, declares, is) = not-done a did (ap (λ x. x.done) is) some
    by (ask.Declare (declaration.Net b)) (true, declares, is) =
        (Decides-ltb (length l.waiting + length l.running) 4096).0
        (both-false (not (is_some (waiting_at l.waiting g))) (not (is_some (live_at l g))) _ declares.0)
    by (ask.Declare (declaration.Node u q)) (true, declares, is) =
        absurd (true≢false (sym declares.0 ∙ ap (λ w. takes_node w u) no_wait))
    by (ask.Declare (declaration.Roster r)) (true, declares, is) =
        absurd (true≢false (sym declares.0 ∙ ap (λ w. takes_roster w r.names.items r.shares) no_wait))
    by (ask.Serve e) answered = event-needs-one n g e l a did t some no_wait no_run answered
    by (ask.ForAll bytes) answered = all-need-one n g bytes l a did t some no_wait no_run answered
    by ask.Left answered = not-done a did answered.1 some
    by (ask.Show i u) answered = not-done a did answered.1 some
    by ask.Drop (taken, drops, is) =
        let not_taken =
        (subst (λ w. IsDroppedAt w (live_at l g) g l taken t) no_wait drops) in
        let none = (subst (λ r. IsDroppedAt None r g l taken t) no_run not_taken) in
        not-done a did (ap (λ x. x.done) is ∙ ap (λ b. done_if b g deed.Dropped) none.0) some

-- ---- what a network alone says of its host
pub only-none : {X : Type 0} (g : ℕ) (o : Option X) → only g o ≡ [] → o ≡ None
only-none g None is = refl
only-none g (Some x) is = absurd (cc)

abbrev first_value : {X : Type 0} → List (ℕ × X) → Option X
first_value [] = None
first_value (e ∷ es) = Some e.1

only-some : {X : Type 0} (g : ℕ) (o : Option X) (x : X) → only g o ≡ (g, x) ∷ [] → o ≡ Some x
only-some g None x is = absurd (cc)
only-some g (Some y) x is = ap first_value is

pub alone-is-none : (g : ℕ) (bytes : Bool) (l : Live) → alone g l ≡ new_live bytes
    → (waiting_at l.waiting g ≡ None) × (live_at l g ≡ None)
alone-is-none g bytes l is =
    (only-none g (waiting_at l.waiting g) (ap (λ l. l.waiting) is), only-none g (live_at l g) (ap (λ l. l.running) is))

pub alone-waits : (g : ℕ) (bytes : Bool) (l : Live) (o : Outlined) → alone g l ≡ waits_alone bytes g o
    → waiting_at l.waiting g ≡ Some o
alone-waits g bytes l o is = only-some g (waiting_at l.waiting g) o (ap (λ l. l.waiting) is)

pub alone-runs : (g : ℕ) (bytes : Bool) (l : Live) (m : Machine) → alone g l ≡ runs_alone bytes g m
    → live_at l g ≡ Some m
alone-runs g bytes l m is = only-some g (live_at l g) m (ap (λ l. l.running) is)
