-- A journal that grows by one entry.
use Rattle.std.proofs.Common.{Vec, ◌≡◌, ◌⊎◌, ℕ, zero, suc, ◌<◌, ◌≤◌, Bool, true, false, not, ◌||◌, ◌==◌, if◌then◌else◌, List, [], ◌∷◌, ◌++◌, length, map, take, Option, Some, None, refl, sym, ap, ap₂, ◌∙◌, subst, inl, inr, ⊎_elim, arith, slice_get, get_or, nat_lt}
use Rattle.std.specs.List.{All}
use Rattle.std.proofs.lemmas.List.{get_or_append_left, get_or_push, length_push, map-append, take-append-le}
use Rattle.std.proofs.lemmas.List.Elements.{All-append, All-cons, All-nil}
use Rattle.std.proofs.Math.Seq.{take-append_seam}
use Rattle.std.proofs.lemmas.Option.{slice_get_within}
use Rattle.std.specs.Global.{Global}
use Rattle.std.proofs.lemmas.Bool.{cases_Bool}
use Rattle.std.proofs.lemmas.Bool.Decides.{nat_tests}
use Rattle.scp_types.specs.declared.event.Out.{Out}
use Rattle.scp_types.specs.declared.event.Refusal.{Refusal}
use Rattle.scp_types.specs.declared.event.Refusal.TheVariants.{NoSuchNode, BadEnvelope}
use Rattle.node_store.specs.Archives.{Archived, Keeps}
use Rattle.scp_spec.specs.Networks.{HostedNode, Net, Step, effect, first_that, is_hosted, net_step, state_and_reply, tests}
use Rattle.scp_spec.specs.Networks.Reading.{Read, Fault}
use Rattle.scp_spec.specs.Networks.Reply.{Done}
use Rattle.scp_spec.specs.Networks.Step.{Opens, Closes, Proposes, Delivers, Hears, NominationTimerFires, BallotTimerFires, Reslices}
use Rattle.scp_spec.specs.Hosts.{Config, Entry, new_net}
use Rattle.scp_spec.specs.Runs.{IsRun, net_after, outs_given, refusal_of, state_of}
use Rattle.node_core.specs.Filings.{AreFiledOuts, IsFiledOut, whole_outs}
use Rattle.node_core.specs.declared.filed.FiledOut.{FiledOut}
use Rattle.host_network.specs.Answers.{IsApplied}
use Rattle.host_network.specs.declared.applied.Outcome.{Outcome}
use Rattle.host_network.specs.Standing.{IsStep, FiledMachine, Machine, StandsFor, machine_of}
use Rattle.host_journal.specs.declared.kept.StoredEntry.{StoredEntry}
use Rattle.host_journal.specs.declared.outs_list.EntryOuts.{EntryOuts}
use Rattle.host_journal.specs.Giving.{kept_outs, listed_at, with_outs}
use Rattle.host_journal.specs.declared.kept.KeptEvent.{KeptEvent}
use Rattle.host_journal.specs.declared.kept.KeptEvent.TheVariants as events
use Rattle.host_journal.specs.Hosting.{NamesNodes}
use Rattle.host_journal.specs.KeptStay.{IsKeptIn}
use Rattle.host_journal.specs.Keeping.{AreKept, AreOutsListed, IsKeptEvent, IsReadable, entry_of, step_in}
use Rattle.host_journal.proofs.Listing.{AreEarlier, put-behind}
use Rattle.host_journal.specs.Logs.{IsEntered, IsJournal, Log, marks_of, with_entry}

-- ---- runs
-- an element of a list one longer stands in the old part, or is the new one
pub slice_get-snoc : {A : Type 0} (xs : List A) (x y : A) (k : ℕ) → slice_get (xs ++ x ∷ []) k ≡ Some y → (slice_get xs k ≡ Some y) ⊎ ((k ≡ length xs) × (x ≡ y))
slice_get-snoc [] x y zero e = inr (refl, cc)
slice_get-snoc [] x y (suc k) e = absurd (cc)
slice_get-snoc (z ∷ xs) x y zero e = inl e
slice_get-snoc (z ∷ xs) x y (suc k) e = ⊎_elim (λ h. inl h) (λ h. inr (ap suc h.0, h.1)) (slice_get-snoc xs x y k e)

-- the state after one entry more
pub after-one : (xs : List Entry) (net : Net) (x : Entry) → net_after net (xs ++ x ∷ []) ≡ (net_step (net_after net xs) x.event).0
unfolding net_after
after-one [] net x = refl
after-one (y ∷ ys) net x = after-one ys (net_step net y.event).0 x

abbrev pub IsNext : Config → List Entry → Entry → Type 0
IsNext config before x = (refusal_of config before x.event ≡ None) × (x.outs ≡ outs_given config before x.event)

pub run-grows : (config : Config) (es : List Entry) (x : Entry) → IsRun config es → IsNext config es x → IsRun config (es ++ x ∷ [])
run-grows config es x run next = record { applied = λ k y at. (all k y at).0; outs = λ k y at. (all k y at).1 }
  where
    all : (k : ℕ) (y : Entry) → slice_get (es ++ x ∷ []) k ≡ Some y → IsNext config (take k (es ++ x ∷ [])) y
    all k y at =
        ⊎_elim
        (λ (h : slice_get es k ≡ Some y). let lt : k < length es = slice_get_within es k y h in let le : k ≤ length es = omega arith in subst (λ (l : List Entry). IsNext config l y) (sym (take-append-le k es (x ∷ []) le)) (run.applied k y h, run.outs k y h))
        (λ (h : (k ≡ length es) × (x ≡ y)). subst (λ (z : List Entry × Entry). IsNext config z.0 z.1) (λ i. (sym (ap (λ n. take n (es ++ x ∷ [])) h.0 ∙ take-append_seam es (x ∷ [])) i, h.1 i)) next)
        (slice_get-snoc es x y k at)

-- ---- steps
-- a step that is done is one that no test refuses
pub step-done : (net : Net) (e : Step) (os : List Out) → (net_step net e).1 ≡ Done os → (first_that (tests net e) ≡ None) × (os ≡ (effect net e).1)
unfolding net_step
step-done net e os h = go (first_that (tests net e)) refl h
  where
    go : (o : Option Refusal) → first_that (tests net e) ≡ o → (state_and_reply net e o).1 ≡ Done os → (first_that (tests net e) ≡ None) × (os ≡ (effect net e).1)
    go None q k = (q, let z : (effect net e).1 ≡ os = cc in sym z)
    go (Some r) q k = absurd (cc)

-- of bytes that are no envelope the test of envelopes holds
pub readable : (net : Net) (e : Step) → first_that (tests net e) ≡ None → IsReadable e
readable net (Opens i) h = tt
readable net (Closes i) h = tt
readable net (Proposes i u x) h = tt
readable net (Delivers u size (Read e)) h = tt
readable net (Delivers u size (Fault n)) h = absurd (go (not (is_hosted net u)) h)
  where
    go : (b : Bool) → (if b then Some NoSuchNode else Some (BadEnvelope n)) ≡ None → ⊥
    go true k = absurd (cc)
    go false k = absurd (cc)
readable net (Hears i u from kind k) h = tt
readable net (NominationTimerFires i u r) h = tt
readable net (BallotTimerFires i u n) h = tt
readable net (Reslices i u q) h = tt

-- of nodes that are not hosted the test of names holds
passed : (b : Bool) (o : Option Refusal) → (if not b then Some NoSuchNode else o) ≡ None → b ≡ true
passed true o h = refl
passed false o h = absurd (cc)

passed-both : (a b c : Bool) (o : Option Refusal) → (if not a || not b || c then Some NoSuchNode else o) ≡ None → (a ≡ true) × (b ≡ true)
passed-both true true c o h = (refl, refl)
passed-both true false c o h = absurd (cc)
passed-both false b c o h = absurd (cc)

all-hosted : (net : Net) (e : Step) → first_that (tests net e) ≡ None → NamesNodes net.nodes e
all-hosted net (Opens i) h = tt
all-hosted net (Closes i) h = tt
all-hosted net (Proposes i u x) h = passed (is_hosted net u) _ h
all-hosted net (Delivers u size (Read e)) h = passed (is_hosted net u) _ h
all-hosted net (Delivers u size (Fault n)) h = passed (is_hosted net u) _ h
all-hosted net (Hears i u from kind k) h = passed-both (is_hosted net u) (is_hosted net from) (u == from) _ h
all-hosted net (NominationTimerFires i u r) h = passed (is_hosted net u) _ h
all-hosted net (BallotTimerFires i u n) h = passed (is_hosted net u) _ h
all-hosted net (Reslices i u q) h = passed (is_hosted net u) _ h

-- ---- journals
-- what an event does that is applied after these entries
pub applied-next : (old new : FiledMachine) (es : List Entry) (e : Step) (os : List Out) → IsJournal (machine_of old) es → IsStep (machine_of old) e os (machine_of new) → IsNext old.config es (record { event = e; outs = os })
applied-next old new es e os h step = step-done (state_of old.config es) e os (step (state_of old.config es) h.state).1

pub journal-grows : (old new : FiledMachine) (es : List Entry) (e : Step) (os : List Out) → IsJournal (machine_of old) es → IsStep (machine_of old) e os (machine_of new) → new.config ≡ old.config
    → IsJournal (machine_of new) (es ++ record { event = e; outs = os } ∷ [])
journal-grows old new es e os h step same = record {
  run = subst (λ (c : Config). IsRun c grown) (sym same) (run-grows old.config es x h.run (applied-next old new es e os h step));
  state = subst (λ (c : Config). StandsFor (machine_of new) (state_of c grown)) (sym same) (subst (λ (n : Net). StandsFor (machine_of new) n) (sym (after-one es (new_net old.config) x)) (step (state_of old.config es) h.state).0);
}
  where
    x : Entry
    x = record { event = e; outs = os }

    grown : List Entry
    grown = es ++ x ∷ []

-- ---- what is kept
abbrev pub OutsLists : Type 0
OutsLists = List EntryOuts

below_or_last : (k n : ℕ) → k < suc n → (k < n) ⊎ (k ≡ n)
below_or_last k n l = elim (cases_Bool (nat_lt k n)) [
  | inl less ↦ inl (grind (arith, nat_tests, less))
  | inr more ↦ inr (grind (arith, nat_tests, more, l))
]

-- what was given out by an entry more is listed by its number
listed-more : (before : OutsLists) (xs : List StoredEntry) (x : StoredEntry) (outs : Vec FiledOut Global) → AreOutsListed before xs → kept_outs x.outs ≡ outs.items → AreOutsListed (with_outs (length xs) outs before) (xs ++ x ∷ [])
listed-more before xs x outs h gave =
    let put = put-behind before (length xs) outs h.ascending h.earlier in
    let longer : length (xs ++ x ∷ []) ≡ suc (length xs) = omega (arith, length_push xs x) in
    record {
      ascending = put.ascending;
      earlier = subst (λ n. AreEarlier (with_outs (length xs) outs before) n) (sym longer) put.earlier;
      listed = λ k d l.
          let within : k < suc (length xs) = subst (λ n. k < n) longer l in
          ⊎_elim
          (λ (less : k < length xs). put.others k less ∙ h.listed k d less ∙ ap (λ (y : StoredEntry). kept_outs y.outs) (sym (get_or_append_left xs (x ∷ []) d k less)))
          (λ (last : k ≡ length xs). ap (listed_at (with_outs (length xs) outs before)) last ∙ put.here ∙ sym gave ∙ ap (λ (y : StoredEntry). kept_outs y.outs) (sym (ap (λ n. get_or (xs ++ x ∷ []) n d) last ∙ get_or_push xs x d (length xs) refl)))
          (below_or_last k (length xs) within);
    }

pub kept-more : (nodes : List HostedNode) (archive : Archived) (before : OutsLists) (xs : List StoredEntry) (x : StoredEntry) (outs : Vec FiledOut Global) → AreKept nodes archive before xs
    → IsKeptEvent nodes archive x.event → kept_outs x.outs ≡ outs.items → AreFiledOuts archive (kept_outs x.outs) → AreKept nodes archive (with_outs (length xs) outs before) (xs ++ x ∷ [])
kept-more nodes archive before xs x outs all event gave filed = (
  All-append (IsKeptIn nodes archive) xs (x ∷ []) all.0 (All-cons (IsKeptIn nodes archive) x [] (event, filed) (All-nil (IsKeptIn nodes archive))),
  listed-more before xs x outs all.1 gave,
)

-- what an entry more is made of: the event, and what was given out
pub record IsEntryFor (e : Step) (outs : List FiledOut) (x : StoredEntry) : Type 0 where
  pub step : step_in x.event ≡ e
  pub gave : kept_outs x.outs ≡ outs

pub more-kept : (xs zs : List StoredEntry) (x : StoredEntry) (e : Step) (outs : List FiledOut) → zs ≡ xs ++ x ∷ [] → IsEntryFor e outs x → map entry_of zs ≡ map entry_of xs ++ record { event = e; outs = whole_outs outs } ∷ []
more-kept xs zs x e outs is entry =
    ap (map entry_of) is ∙ map-append entry_of xs (x ∷ [])
    ∙ ap (λ (s : Step). map entry_of xs ++ record { event = s; outs = whole_outs (kept_outs x.outs) } ∷ []) entry.step
    ∙ ap (λ (os : List FiledOut). map entry_of xs ++ record { event = e; outs = whole_outs os } ∷ []) entry.gave

pub kept-with : (nodes : List HostedNode) (archive : Archived) (before after : OutsLists) (n : ℕ) (xs zs : List StoredEntry) (x : StoredEntry) (outs : Vec FiledOut Global) → AreKept nodes archive before xs → n ≡ length xs → after ≡ with_outs n outs before → zs ≡ xs ++ x ∷ []
    → IsKeptEvent nodes archive x.event → kept_outs x.outs ≡ outs.items → AreFiledOuts archive outs.items → AreKept nodes archive after zs
kept-with nodes archive before after n xs zs x outs all counted put is event gave filed =
    let lists : after ≡ with_outs (length xs) outs before = put ∙ ap (λ (i : ℕ). with_outs i outs before) counted in
    subst (λ (l : OutsLists × List StoredEntry). AreKept nodes archive l.0 l.1) (λ i. (sym lists i, sym is i))
    (kept-more nodes archive before xs x outs all event gave (subst (λ (os : List FiledOut). AreFiledOuts archive os) (sym gave) filed))

-- ---- an event that is entered
abbrev pub log_of : FiledMachine → List Entry → Log
log_of m es = record { config = m.config; entries = es }

next-of : (old new : FiledMachine) (es : List Entry) (e : Step) (a : Outcome) → IsJournal (machine_of old) es → IsApplied old e new a → IsNext old.config es (record { event = e; outs = a.given.outs.items })
next-of old new es e a h d = applied-next old new es e a.given.outs.items h d.step

pub is-readable : (old new : FiledMachine) (es : List Entry) (e : Step) (a : Outcome) → IsJournal (machine_of old) es → IsApplied old e new a → IsReadable e
is-readable old new es e a h d = readable (state_of old.config es) e (next-of old new es e a h d).0

pub names-nodes : (old new : FiledMachine) (config : Config) (es : List Entry) (e : Step) (a : Outcome) → IsJournal (machine_of old) es → IsApplied old e new a → config ≡ new.config → new.config ≡ old.config → NamesNodes config.nodes e
names-nodes old new config es e a h d is same =
    let net = state_of old.config es in
    subst (λ (k : Config). NamesNodes k.nodes e) (sym (is ∙ same)) (subst (λ (n : Net). NamesNodes n.nodes e) h.state.is (all-hosted net e (next-of old new es e a h d).0))

pub entered : (l : Log) (old new : FiledMachine) (es : List Entry) (e : Step) (a : Outcome) → log_of old es ≡ l → IsJournal (machine_of old) es → IsApplied old e new a → IsEntered l e a.given.outs.items
entered l old new es e a is h d = subst (λ (k : Log). IsEntered k e a.given.outs.items) is (next-of old new es e a h d)

pub marks-named : (l : Log) (old new : FiledMachine) (es : List Entry) (e : Step) (a : Outcome) → log_of old es ≡ l → IsJournal (machine_of old) es → IsApplied old e new a → a.given.marks.items ≡ marks_of l.config l.entries e
marks-named l old new es e a is h d = subst (λ (k : Log). a.given.marks.items ≡ marks_of k.config k.entries e) is (d.marks (state_of old.config es) h.state)

-- the entries grow by an event that was applied, with what it gave out
more : (es room after : List Entry) (e : Step) (a : Outcome) → room ≡ es → after ≡ room ++ record { event = e; outs = whole_outs a.filed.items } ∷ [] → whole_outs a.filed.items ≡ a.given.outs.items → after ≡ es ++ record { event = e; outs = a.given.outs.items } ∷ []
more es room after e a same is whole =
    is ∙ ap₂ (λ (l : List Entry) (os : List Out). l ++ record { event = e; outs = os } ∷ []) same whole

pub journal-more : (old new tidy : FiledMachine) (es room after : List Entry) (e : Step) (a : Outcome) → IsJournal (machine_of old) es → IsApplied old e new a → new.config ≡ old.config → machine_of tidy ≡ machine_of new
    → room ≡ es → after ≡ room ++ record { event = e; outs = whole_outs a.filed.items } ∷ [] → IsJournal (machine_of tidy) after
journal-more old new tidy es room after e a h d config stays same is =
    subst (λ (j : Machine × List Entry). IsJournal j.0 j.1) (λ i. (sym stays i, sym (more es room after e a same is d.whole) i)) (journal-grows old new es e a.given.outs.items h d.step config)

pub log-grows : (l : Log) (old new tidy : FiledMachine) (es room after : List Entry) (e : Step) (a : Outcome) → log_of old es ≡ l → IsApplied old e new a → new.config ≡ old.config → tidy.config ≡ new.config
    → room ≡ es → after ≡ room ++ record { event = e; outs = whole_outs a.filed.items } ∷ [] → log_of tidy after ≡ with_entry l e a.given.outs.items
log-grows l old new tidy es room after e a of d config stays same is =
    subst (λ (k : Log). log_of tidy after ≡ with_entry k e a.given.outs.items) of
    (λ i. record { config = (stays ∙ config) i; entries = more es room after e a same is d.whole i })
