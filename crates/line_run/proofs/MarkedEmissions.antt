-- The marks of an event name its emissions, and what they name is found from then on.
use Rattle.std.proofs.Common.{◌≡◌, ◌∙◌, ◌==◌, ◌++◌, ℕ, zero, suc, Bool, true, false, List, [], ◌∷◌, length, filter, slice_get, Option, Some, None, is_some, if◌then◌else◌, refl, sym, ap, subst, append-nil, append_assoc}
use Rattle.std.specs.Prelude.{option_map}
use Rattle.std.specs.List.{AllByRecursion}
use Rattle.std.proofs.lemmas.Bool.{eqb-true, false≢true, true≢false}
use Rattle.std.proofs.lemmas.List.Elements.{filter-append}
use Rattle.scp_types.specs.Statements.{Sent, kind_of}
use Rattle.scp_types.specs.declared.kind.Kind.{Kind}
use Rattle.scp_types.specs.declared.event.Event.{Event}
use Rattle.scp_types.specs.declared.event.Event.TheVariants as event
use Rattle.scp_types.specs.declared.event.NodeEvent.{NodeEvent}
use Rattle.scp_types.specs.declared.event.NodeEvent.TheVariants.{Propose, Take, NominationTimer, BallotTimer, Reslice}
use Rattle.scp_types.specs.declared.event.Out.{Out}
use Rattle.scp_types.specs.declared.event.Refusal.{Refusal}
use Rattle.scp_spec.specs.Nodes.{fresh}
use Rattle.scp_spec.specs.Rows.{is_kind}
use Rattle.scp_spec.specs.Networks.{HostedNode, Net, Instance, Slot, Step, act, act_known, effect, emission, emissions, first_that, node_where_open, after_event, net_step, instances_of_new_slot, outs_at, node_named, instances_at, state_and_reply, tests}
use Rattle.scp_spec.specs.Networks.Reading.{Read, Fault}
use Rattle.scp_spec.specs.Networks.Step.{Opens, Closes, Proposes, Delivers, Hears, NominationTimerFires, BallotTimerFires, Reslices}
use Rattle.scp_spec.specs.Hosts.{new_net}
use Rattle.scp_spec.specs.Runs.{refusal_of, state_of}
use Rattle.scp_spec.proofs.Networks.OpenSlots.{instances_at-drop_other, instances_at-push, instances_at-push_other}
use Rattle.scp_spec.proofs.Runs.Sights.{node_where_open-elsewhere, node_where_open-other, node_where_open-same}
use Rattle.scp_spec.proofs.Statements.Offers.{is_kind-itself}
use Rattle.host_network.specs.declared.emission.Emission.{Emission}
use Rattle.host_network.specs.Decoding.{step_of}
use Rattle.host_network.specs.Marks.{emitted_at, emitted_before, named, numbers_by_kind, slot_and_node_of}
use Rattle.host_journal.specs.Logs.{IsEntered, Log, marks_of, with_entry}
use Rattle.host_journal.proofs.Growing.{after-one}
use Rattle.line_run.specs.ByJournals.{EmissionsAreFound, EmissionsStay, IsMarked, MarksNameEmissions, emission_found}
use Rattle.line_run.specs.Unheard.{slot_closed_by}
use Rattle.line_run.proofs.OutsAtPlaces.{IsGivenAt, effect-given, one-from, run-in-place}

-- ---- what a node has emitted grows

-- what the node of a name at a slot has emitted
abbrev emitted_in : Net → ℕ → ℕ → List Sent
emitted_in net i w = emitted_at (node_where_open (instances_at net.slots i) w)

-- it has emitted this more
record HasGrown (net next : Net) (i w : ℕ) : Type 0 where
  more : List Sent
  is : emitted_in next i w ≡ emitted_in net i w ++ more

as-before : (net next : Net) (i w : ℕ) → emitted_in next i w ≡ emitted_in net i w → HasGrown net next i w
as-before net next i w e = record { more = []; is = e ∙ sym (append-nil (emitted_in net i w)) }

after_event-emits : (e : NodeEvent) (o : Option Instance) → emitted_at (option_map (after_event e) o) ≡ emitted_at o ++ emissions (outs_at e o)
unfolding after_event
after_event-emits e None = refl
after_event-emits e (Some p) = refl

-- by a step of its own, what that emits
act-own : (net : Net) (j u : ℕ) (x : NodeEvent) → emitted_in (act net j u x).0 j u ≡ emitted_in net j u ++ emissions (act net j u x).1
unfolding act
act-own net j u x = ap emitted_at (node_where_open-same net j u x) ∙ after_event-emits x (node_where_open (instances_at net.slots j) u)

act-grows : (net : Net) (j u : ℕ) (x : NodeEvent) (i w : ℕ) → HasGrown net (act net j u x).0 i w
act-grows net j u x i w = go (j == i) refl (w == u) refl
  where
    go : (a : Bool) → (j == i) ≡ a → (b : Bool) → (w == u) ≡ b → HasGrown net (act net j u x).0 i w
    go false f b h = as-before net (act net j u x).0 i w (ap emitted_at (node_where_open-elsewhere net j i u w x f))
    go true f false h =
        subst (λ k. HasGrown net (act net j u x).0 k w) (eqb-true j i f) (as-before net (act net j u x).0 j w (ap emitted_at (node_where_open-other net j u w x h)))
    go true f true h =
        subst (λ k. HasGrown net (act net j u x).0 k w) (eqb-true j i f)
        (subst (λ v. HasGrown net (act net j u x).0 j v) (sym (eqb-true w u h)) (record { more = emissions (act net j u x).1; is = act-own net j u x }))

nobody-emitted : (nodes : List HostedNode) (j u : ℕ) → emitted_at (node_named (instances_of_new_slot nodes j) u) ≡ []
unfolding instances_of_new_slot fresh
nobody-emitted [] j u = refl
nobody-emitted (h ∷ hs) j u = go (h.name == u) (nobody-emitted hs j u)
  where
    go : (b : Bool) → emitted_at (node_named (instances_of_new_slot hs j) u) ≡ [] → emitted_at (if b then Some (record { node = fresh j h.name h.slices; emitted = [] }) else node_named (instances_of_new_slot hs j) u) ≡ []
    go true ih = refl
    go false ih = ih

-- what is tested first
abbrev first_test : List (Bool × Refusal) → Bool
first_test [] = false
first_test (t ∷ ts) = t.0

passes-first : (ts : List (Bool × Refusal)) → first_that ts ≡ None → first_test ts ≡ false
passes-first [] h = refl
passes-first (t ∷ ts) h = go t.0 (first_that ts) h
  where
    go : (b : Bool) (rest : Option Refusal) → (if b then Some t.1 else rest) ≡ None → b ≡ false
    go true rest k = absurd (cc)
    go false rest k = refl

is-none : {A : Type 0} (o : Option A) → is_some o ≡ false → o ≡ None
is-none None h = refl
is-none (Some x) h = absurd (true≢false h)

-- a step closes a slot
abbrev pub closes : Step → ℕ → Bool
closes (Closes j) i = j == i
closes _ i = false

-- by an event that is not refused and does not close the slot
effect-grows : (net : Net) (e : Step) → first_that (tests net e) ≡ None → (i w : ℕ) → closes e i ≡ false → HasGrown net (effect net e).0 i w
unfolding effect
effect-grows net (Opens j) free i w stays = go (j == i) refl
  where
    slot : Slot
    slot = record { number = j; instances = instances_of_new_slot net.nodes j }

    closed : instances_at net.slots j ≡ None
    closed = is-none (instances_at net.slots j) (passes-first (tests net (Opens j)) free)

    go : (b : Bool) → (j == i) ≡ b → HasGrown net (effect net (Opens j)).0 i w
    go true h =
        as-before net (effect net (Opens j)).0 i w
        (ap (λ (o : Option (List Instance)). emitted_at (node_where_open o w)) (instances_at-push net.slots slot i h (ap (instances_at net.slots) (sym (eqb-true j i h)) ∙ closed))
        ∙ (nobody-emitted net.nodes j w
        ∙ sym (ap (λ (o : Option (List Instance)). emitted_at (node_where_open o w)) (ap (instances_at net.slots) (sym (eqb-true j i h)) ∙ closed))))
    go false h = as-before net (effect net (Opens j)).0 i w (ap (λ (o : Option (List Instance)). emitted_at (node_where_open o w)) (instances_at-push_other net.slots slot i h))
effect-grows net (Closes j) free i w stays =
    as-before net (effect net (Closes j)).0 i w (ap (λ (o : Option (List Instance)). emitted_at (node_where_open o w)) (instances_at-drop_other net.slots j i stays))
effect-grows net (Proposes j u x) free i w stays = act-grows net j u (Propose x) i w
effect-grows net (Delivers u size (Read e)) free i w stays = act-grows net e.slot u (Take e) i w
effect-grows net (Delivers u size (Fault n)) free i w stays = as-before net net i w refl
effect-grows net (Hears j u from kind k) free i w stays = heard (emission (node_where_open (instances_at net.slots j) from) kind k)
  where
    heard : (o : Option Sent) → HasGrown net (act_known net j u o).0 i w
    heard None = as-before net net i w refl
    heard (Some e) = act-grows net j u (Take e) i w
effect-grows net (NominationTimerFires j u r) free i w stays = act-grows net j u (NominationTimer r) i w
effect-grows net (BallotTimerFires j u n) free i w stays = act-grows net j u (BallotTimer n) i w
effect-grows net (Reslices j u q) free i w stays = act-grows net j u (Reslice q) i w

-- the node of an event has emitted what the event gave out
abbrev HasEmitted : Option (ℕ × ℕ) → Net → Step → Type 0
HasEmitted None net e = Unit {0}
HasEmitted (Some at) net e = emitted_in (effect net e).0 at.0 at.1 ≡ emitted_in net at.0 at.1 ++ emissions (effect net e).1

has-emitted : (net : Net) (e : Step) → HasEmitted (slot_and_node_of e) net e
unfolding effect
has-emitted net (Opens j) = tt
has-emitted net (Closes j) = tt
has-emitted net (Proposes j u x) = act-own net j u (Propose x)
has-emitted net (Delivers u size (Read e)) = act-own net e.slot u (Take e)
has-emitted net (Delivers u size (Fault n)) = tt
has-emitted net (Hears j u from kind k) = heard (emission (node_where_open (instances_at net.slots j) from) kind k)
  where
    heard : (o : Option Sent) → emitted_in (act_known net j u o).0 j u ≡ emitted_in net j u ++ emissions (act_known net j u o).1
    heard None = sym (append-nil (emitted_in net j u))
    heard (Some e) = act-own net j u (Take e)
has-emitted net (NominationTimerFires j u r) = act-own net j u (NominationTimer r)
has-emitted net (BallotTimerFires j u n) = act-own net j u (BallotTimer n)
has-emitted net (Reslices j u q) = act-own net j u (Reslice q)

-- ---- by its number

at-the-end : {A : Type 0} (xs ys : List A) (x : A) → slice_get (xs ++ x ∷ ys) (length xs) ≡ Some x
at-the-end [] ys x = refl
at-the-end (y ∷ xs) ys x = at-the-end xs ys x

abbrev of_kind : Kind → List Sent → List Sent
of_kind k es = filter (λ e. is_kind k (kind_of e.body)) es

emission-at : (o : Option Instance) (k : Kind) (n : ℕ) → emission o k (suc n) ≡ slice_get (of_kind k (emitted_at o)) n
emission-at None k n = refl
emission-at (Some p) k n = refl

record IsNumbered (es : List Sent) (x : Sent) (k : ℕ) : Type 0 where
  place : ℕ
  number : k ≡ suc place
  there : slice_get (of_kind (kind_of x.body) es) place ≡ Some x

some-same : {A : Type 0} (x y : A) → Some x ≡ Some y → x ≡ y
some-same x y h = cc

first-numbered : (before es : List Sent) (e : Sent) → IsNumbered (before ++ e ∷ es) e (suc (length (of_kind (kind_of e.body) before)))
first-numbered before es e = record {
  place = length (of_kind (kind_of e.body) before);
  number = refl;
  there =
      ap (λ (xs : List Sent). slice_get xs (length (of_kind (kind_of e.body) before))) (filter-append (λ x. is_kind (kind_of e.body) (kind_of x.body)) before (e ∷ es))
      ∙ rw (is_kind-itself (kind_of e.body)) (at-the-end (of_kind (kind_of e.body) before) (of_kind (kind_of e.body) es) e);
}

all-numbered : (es before : List Sent) (n : ℕ) (x : Sent) (k : ℕ) → slice_get es n ≡ Some x → slice_get (numbers_by_kind before es) n ≡ Some k → IsNumbered (before ++ es) x k
unfolding numbers_by_kind
all-numbered [] before n x k at mark = absurd (cc)
all-numbered (e ∷ es) before zero x k at mark =
    subst (λ y. IsNumbered (before ++ e ∷ es) y k) (some-same e x at)
    (subst (λ m. IsNumbered (before ++ e ∷ es) e m) (some-same (suc (length (of_kind (kind_of e.body) before))) k mark) (first-numbered before es e))
all-numbered (e ∷ es) before (suc n) x k at mark =
    subst (λ (xs : List Sent). IsNumbered xs x k) (append_assoc before (e ∷ []) es) (all-numbered es (before ++ e ∷ []) n x k at mark)

-- the emission of a mark, in the network after the event
marked-there : (net : Net) (e : Step) (o : Option (ℕ × ℕ)) → HasEmitted o net e → IsGivenAt o (effect net e).1 → (n : ℕ) (x : Sent) (k : ℕ) → slice_get (emissions (effect net e).1) n ≡ Some x
    → slice_get (numbers_by_kind (emitted_before net o) (emissions (effect net e).1)) n ≡ Some k → IsMarked (effect net e).0 x k
marked-there net e None emitted given n x k at mark = absurd (nothing-there x (sym (ap (λ (os : List Out). slice_get (emissions os) n) given) ∙ at))
  where
    nothing-there : (y : Sent) → None ≡ Some y → ⊥
    nothing-there y h = cc
marked-there net e (Some place) emitted given n x k at mark =
    let own = one-from place.0 place.1 (emissions (effect net e).1) n x given at in
    let by = all-numbered (emissions (effect net e).1) (emitted_in net place.0 place.1) n x k at mark in
    subst (λ (p : ℕ × ℕ). emission (node_where_open (instances_at (effect net e).0.slots p.0) p.1) (kind_of x.body) k ≡ Some x) (λ i. (sym own.1 i, sym own.0 i))
    (ap (emission (node_where_open (instances_at (effect net e).0.slots place.0) place.1) (kind_of x.body)) by.number
    ∙ (emission-at (node_where_open (instances_at (effect net e).0.slots place.0) place.1) (kind_of x.body) by.place
    ∙ (ap (λ (xs : List Sent). slice_get (of_kind (kind_of x.body) xs) by.place) emitted ∙ by.there)))

-- ---- in the journal

-- the open slots after one entry more
slots-after : (l : Log) (e : Step) (os : List Out) → refusal_of l.config l.entries e ≡ None → (effect (state_of l.config l.entries) e).0.slots ≡ (state_of l.config (with_entry l e os).entries).slots
unfolding net_step
slots-after l e os free =
    sym (ap (λ (n : Net). n.slots) (after-one l.entries (new_net l.config) (record { event = e; outs = os }))
    ∙ ap (λ o. (state_and_reply (state_of l.config l.entries) e o).0.slots) free)

pub marks_name_emissions : MarksNameEmissions
marks_name_emissions l e os h n x k at mark =
    let net : Net = state_of l.config l.entries in
    subst (λ (ss : List Slot). emission (node_where_open (instances_at ss x.slot) x.sender) (kind_of x.body) k ≡ Some x) (slots-after l e os h.0)
    (marked-there net e (slot_and_node_of e) (has-emitted net e) (effect-given net e (run-in-place (new_net l.config) l.entries tt)) n x k (sym (ap (λ (ys : List Out). slice_get (emissions ys) n) h.1) ∙ at) mark)

-- ---- what is found is found later

still-there : {A : Type 0} (xs ys : List A) (n : ℕ) (x : A) → slice_get xs n ≡ Some x → slice_get (xs ++ ys) n ≡ Some x
still-there [] ys n x h = absurd (cc)
still-there (y ∷ xs) ys zero x h = h
still-there (y ∷ xs) ys (suc n) x h = still-there xs ys n x h

found-still : (o p : Option Instance) (k : Kind) (n : ℕ) (more : List Sent) (x : Sent) → emitted_at p ≡ emitted_at o ++ more → emission o k n ≡ Some x → emission p k n ≡ Some x
found-still None p k n more x is h = absurd (cc)
found-still (Some q) p k zero more x is h = absurd (cc)
found-still (Some q) p k (suc n) more x is h =
    emission-at p k n ∙ ap (λ (xs : List Sent). slice_get xs n) (ap (of_kind k) is ∙ filter-append (λ e. is_kind k (kind_of e.body)) q.emitted more)
    ∙ still-there (of_kind k q.emitted) (of_kind k more) n x h

some-still : {A : Type 0} (o p : Option A) → ((x : A) → o ≡ Some x → p ≡ Some x) → is_some o ≡ true → is_some p ≡ true
some-still None p f h = absurd (false≢true h)
some-still (Some x) p f h = ap is_some (f x refl)

all-still : (net next : Net) (i : ℕ) (es : List Emission) → ((w : ℕ) → HasGrown net next i w) → EmissionsAreFound net i es → EmissionsAreFound next i es
all-still net next i [] grown h = tt
all-still net next i (e ∷ es) grown h = (
  some-still (emission_found net i e) (emission_found next i e)
      (λ x there. found-still (node_where_open (instances_at net.slots i) e.from) (node_where_open (instances_at next.slots i) e.from) e.kind e.number (grown e.from).more x (grown e.from).is there) h.0,
  all-still net next i es grown h.1,
)

over-slots : (net next : Net) (i : ℕ) (es : List Emission) → net.slots ≡ next.slots → EmissionsAreFound net i es → EmissionsAreFound next i es
over-slots net next i es same h = subst (λ (ss : List Slot). AllByRecursion (λ (e : Emission). is_some (emission (node_where_open (instances_at ss i) e.from) e.kind e.number) ≡ true) es) same h

-- after an event that does not close the slot
pub found-later : (l : Log) (e : Step) (os : List Out) (i : ℕ) (es : List Emission) → IsEntered l e os → closes e i ≡ false → EmissionsAreFound (state_of l.config l.entries) i es
    → EmissionsAreFound (state_of l.config (with_entry l e os).entries) i es
found-later l e os i es h stays found =
    let net : Net = state_of l.config l.entries in
    over-slots (effect net e).0 (state_of l.config (with_entry l e os).entries) i es (slots-after l e os h.0)
    (all-still net (effect net e).0 i es (λ w. effect-grows net e h.0 i w stays) found)

pub found-both : (net : Net) (i : ℕ) (es ds : List Emission) → EmissionsAreFound net i es → EmissionsAreFound net i ds → EmissionsAreFound net i (es ++ ds)
found-both net i [] ds h k = k
found-both net i (e ∷ es) ds h k = (h.0, found-both net i es ds h.1 k)

named-found : (net : Net) (i u : ℕ) (es : List Sent) (ks : List ℕ) → AllByRecursion (λ e. (e.sender ≡ u) × (e.slot ≡ i)) es
    → ((n : ℕ) (x : Sent) (k : ℕ) → slice_get es n ≡ Some x → slice_get ks n ≡ Some k → IsMarked net x k) → EmissionsAreFound net i (named es ks)
named-found net i u [] ks from h = tt
named-found net i u (e ∷ es) [] from h = tt
named-found net i u (e ∷ es) (k ∷ ks) from h = (
  subst (λ j. is_some (emission (node_where_open (instances_at net.slots j) e.sender) (kind_of e.body) k) ≡ true) from.0.1 (ap is_some (h zero e k refl refl)),
  named-found net i u es ks from.1 (λ n x m. h (suc n) x m),
)

pub given-there : (l : Log) (e : Step) (os : List Out) (i u : ℕ) → IsEntered l e os → slot_and_node_of e ≡ Some (i, u) → AllByRecursion (λ x. (x.sender ≡ u) × (x.slot ≡ i)) (emissions os)
given-there l e os i u h at =
    subst (λ (ys : List Out). AllByRecursion (λ x. (x.sender ≡ u) × (x.slot ≡ i)) (emissions ys)) (sym h.1)
    (subst (λ o. IsGivenAt o (effect (state_of l.config l.entries) e).1) at (effect-given (state_of l.config l.entries) e (run-in-place (new_net l.config) l.entries tt)))

-- what an event gives out is found after it
pub found-now : (l : Log) (e : Step) (os : List Out) (i u : ℕ) → IsEntered l e os → slot_and_node_of e ≡ Some (i, u) → EmissionsAreFound (state_of l.config (with_entry l e os).entries) i (named (emissions os) (marks_of l.config l.entries e))
found-now l e os i u h at =
    named-found (state_of l.config (with_entry l e os).entries) i u (emissions os) (marks_of l.config l.entries e) (given-there l e os i u h at) (marks_name_emissions l e os h)

-- nothing is given out by an event that has no node
pub nothing-given : (l : Log) (e : Step) (os : List Out) → IsEntered l e os → slot_and_node_of e ≡ None → os ≡ []
nothing-given l e os h at = h.1 ∙ subst (λ o. IsGivenAt o (effect (state_of l.config l.entries) e).1) at (effect-given (state_of l.config l.entries) e (run-in-place (new_net l.config) l.entries tt))

-- an event as it comes closes the slot that its step closes
pub closes-as : (e : Event) (i : ℕ) → ((c : ℕ) → slot_closed_by e ≡ Some c → (c == i) ≡ false) → closes (step_of e) i ≡ false
closes-as (event.OpenSlot slot) i h = refl
closes-as (event.CloseSlot slot) i h = h slot refl
closes-as (event.Propose slot u x) i h = refl
closes-as (event.Deliver u bytes) i h = refl
closes-as (event.Hear slot u from kind k) i h = refl
closes-as (event.NominationTimer slot u r) i h = refl
closes-as (event.BallotTimer slot u n) i h = refl
closes-as (event.Reslice slot u q) i h = refl

pub emissions_stay : EmissionsStay
emissions_stay l e os i m x h left found =
    let net : Net = state_of l.config l.entries in
    let grown = effect-grows net (step_of e) h.0 i m.from (closes-as e i left) in
    subst (λ (ss : List Slot). emission (node_where_open (instances_at ss i) m.from) m.kind m.number ≡ Some x) (slots-after l (step_of e) os h.0)
    (found-still (node_where_open (instances_at net.slots i) m.from) (node_where_open (instances_at (effect net (step_of e)).0.slots i) m.from) m.kind m.number grown.more x grown.is found)
