-- Hearings, one after the other, and the line of a slot that settles.
use Rattle.std.proofs.Common.{◌≡◌, ◌≢◌, ◌∙◌, ◌==◌, ◌&&◌, ◌++◌, ◌+◌, ◌-◌, ◌<◌, ◌≤◌, take, take_all, append-nil, append_assoc, drop_of_length-le, length-append, cond, Less, Equal, Greater, ℕ, suc, Bool, true, false, List, [], ◌∷◌, length, drop, get_or, Option, Some, None, Ok, Err, if◌then◌else◌, refl, sym, ap, subst, arith}
use Rattle.std.specs.Prelude.{◌↔◌, IfOk, IsTrue, OnOk, Result, Vec, not}
use Rattle.std.specs.Global.{Global}
use Rattle.std.specs.declared.cmp.Ordering.{Ordering}
use Rattle.std.specs.Ordering.{is_eq, nat_cmp, ordering_then}
use Rattle.std.specs.BTreeMap.{is_at}
use Rattle.std.specs.Map.{lookup}
use Rattle.std.proofs.lemmas.Bool.{eq-eqb, eqb-true, false≢true}
use Rattle.std.proofs.lemmas.List.{drop-append-le}
use Rattle.std.proofs.lemmas.List.Elements.{filter-append}
use Rattle.std.proofs.Math.Seq.{drop-cons}
use Rattle.scp_types.specs.declared.event.Event.{Event}
use Rattle.scp_types.specs.declared.event.Event.TheVariants.{Deliver}
use Rattle.scp_types.specs.Statements.{Sent}
use Rattle.scp_types.specs.declared.event.Out.{Out}
use Rattle.scp_types.specs.declared.event.Refusal.{Refusal}
use Rattle.scp_types.specs.declared.event.Refusal.TheVariants.{NoMemory}
use Rattle.host_network.specs.declared.applied.Given.{Given}
use Rattle.host_network.specs.declared.emission.Emission.{Emission}
use Rattle.host_journal.specs.Logs.{Log}
use Rattle.host_world.specs.Worlds.{IsAnswered, marks_at}
use Rattle.line_run.specs.Hosting.{Hosting}
use Rattle.line_run.specs.Settling.{AreHandedOn, IsGivenOut, IsHeardBy, hearing, others}
use Rattle.line_run.specs.Settling.IsHeardBy.{by_all, by_one, refused}
use Rattle.line_run.specs.Settling.AreHandedOn.{cut_short, none_waits, one_waits}
use Rattle.line_run.specs.ServedNetworks.{AllIsHeard as AllHeard, AreDelivered, HaveOthersHeard, IsEventServed}
use Rattle.line_run.specs.ServedNetworks.AreDelivered.{next_node, none_left}
use Rattle.line_run.specs.ServedNetworks.HaveOthersHeard.{all_heard, one_heard}
use Rattle.line_run.specs.Unheard.{Unheard, WaitThere, WaitsAfter, WaitsBehind, emissions_in, first_emitted, named_emissions, slot_cmp, unheard_at}
use Rattle.line_run.proofs.NumberedRows.{is-at}

-- ---- one emission

-- nodes hear an emission, and what they emit waits behind what waited
abbrev pub HeardBehind : ℕ → ℕ → Emission → List ℕ → List Log → List Emission → Option Refusal → List Emission → List Log → Type 0
HeardBehind g slot e us old before ended after new = (more : List Emission) × (after ≡ before ++ more) × IsHeardBy g slot e us old more ended new

-- what the first nodes hear, and behind it what the others do
heard-behind : (g slot : ℕ) (e : Emission) (us vs : List ℕ) (old now new : List Log) (some more : List Emission) (first ended : Option Refusal) → IsHeardBy g slot e us old some first now → first ≡ None
    → IsHeardBy g slot e vs now more ended new → IsHeardBy g slot e (us ++ vs) old (some ++ more) ended new
heard-behind g slot e us vs old now new some more first ended by_all is rest = rest
heard-behind g slot e us vs old now new some more first ended (by_one {more = later} r given behind) is rest =
    subst (λ (xs : List Emission). IsHeardBy g slot e (us ++ vs) old xs ended new) (sym (append_assoc (named_emissions r) later more)) (by_one r given (heard-behind g slot e _ vs _ now new later more first ended behind is rest))
heard-behind g slot e us vs old now new some more first ended (refused r answer) is rest = absurd (cc)

-- a refusal of the first nodes ends it
heard-short : (g slot : ℕ) (e : Emission) (us vs : List ℕ) (old new : List Log) (more : List Emission) (first : Option Refusal) (r : Refusal) → IsHeardBy g slot e us old more first new → first ≡ Some r
    → IsHeardBy g slot e (us ++ vs) old more (Some r) new
heard-short g slot e us vs old new more first r by_all is = absurd (cc)
heard-short g slot e us vs old new more first r (by_one x given behind) is = by_one x given (heard-short g slot e _ vs _ new _ first r behind is)
heard-short g slot e us vs old new more first r (refused q answer) is = subst (λ x. IsHeardBy g slot e (us ++ vs) old [] x new) is (refused q answer)

-- the names that are not the sender's, of the first name and of those behind it
others-behind : (e : Emission) (u : ℕ) (us : List ℕ) → others e (u ∷ us) ≡ others e (u ∷ []) ++ others e us
others-behind e u us = filter-append (λ v. not (v == e.from)) (u ∷ []) us

-- a node hears the emission, unless it is its own, and the others behind it
pub heard-first : (g slot : ℕ) (e : Emission) (u : ℕ) (us vs : List ℕ) (old now new : List Log) (before mid after : List Emission) (first ended : Option Refusal) → vs ≡ u ∷ us
    → HeardBehind g slot e (others e (u ∷ [])) old before first mid now → first ≡ None → HeardBehind g slot e (others e us) now mid ended after new → HeardBehind g slot e (others e vs) old before ended after new
heard-first g slot e u us vs old now new before mid after first ended names one is rest = (
  one.0 ++ rest.0,
  rest.1 ∙ ap (λ (xs : List Emission). xs ++ rest.0) one.1 ∙ append_assoc before one.0 rest.0,
  subst (λ xs. IsHeardBy g slot e xs old (one.0 ++ rest.0) ended new) (sym (ap (others e) names ∙ others-behind e u us))
      (heard-behind g slot e (others e (u ∷ [])) (others e us) old now new one.0 rest.0 first ended one.2 is rest.2),
)

-- it refuses, and none of the others hears it
pub refused-first : (g slot : ℕ) (e : Emission) (u : ℕ) (us vs : List ℕ) (old new : List Log) (before after : List Emission) (first : Option Refusal) (r : Refusal) → vs ≡ u ∷ us
    → HeardBehind g slot e (others e (u ∷ [])) old before first after new → first ≡ Some r → HeardBehind g slot e (others e vs) old before (Some r) after new
refused-first g slot e u us vs old new before after first r names one is = (
  one.0,
  one.1,
  subst (λ xs. IsHeardBy g slot e xs old one.0 (Some r) new) (sym (ap (others e) names ∙ others-behind e u us)) (heard-short g slot e (others e (u ∷ [])) (others e us) old new one.0 first r one.2 is),
)

-- where there is no name
pub nobody-hears : (g slot : ℕ) (e : Emission) (us : List ℕ) (logs : List Log) (waiting : List Emission) → length us < 1 → HeardBehind g slot e (others e us) logs waiting None waiting logs
nobody-hears g slot e [] logs waiting small = ([], sym (append-nil waiting), by_all)
nobody-hears g slot e (u ∷ us) logs waiting small = absurd (omega (arith, small))

-- a node does not hear its own emission
own-is-none : (g slot : ℕ) (e : Emission) (u : ℕ) (logs : List Log) (b : Bool) → (u == e.from) ≡ b → b ≡ true → IsHeardBy g slot e (others e (u ∷ [])) logs [] None logs
own-is-none g slot e u logs true is same = rw is by_all
own-is-none g slot e u logs false is same = absurd (false≢true same)

pub hears-not-its-own : (g slot : ℕ) (e : Emission) (u : ℕ) (logs : List Log) (waiting : List Emission) (same : Bool) → (IsTrue same ↔ (u ≡ e.from)) → same ≡ true
    → HeardBehind g slot e (others e (u ∷ [])) logs waiting None waiting logs
hears-not-its-own g slot e u logs waiting same law is = ([], sym (append-nil waiting), own-is-none g slot e u logs (u == e.from) refl (eq-eqb u e.from (law.0 is)))

another-hears : (e : Emission) (u : ℕ) (b : Bool) → (u == e.from) ≡ b → (b ≡ true → ⊥) → others e (u ∷ []) ≡ u ∷ []
another-hears e u true is other = absurd (other refl)
another-hears e u false is other = rw is refl

alone : (e : Emission) (u : ℕ) (same : Bool) → (IsTrue same ↔ (u ≡ e.from)) → same ≡ false → others e (u ∷ []) ≡ u ∷ []
alone e u same law other = another-hears e u (u == e.from) refl (λ k. false≢true (sym other ∙ law.1 (eqb-true u e.from k)))

-- a hearing that was applied
pub hears-another : (g slot : ℕ) (e : Emission) (u : ℕ) (old new : List Log) (before after : List Emission) (same : Bool) (event : Event) (r : Given) → (IsTrue same ↔ (u ≡ e.from)) → same ≡ false → event ≡ hearing slot u e
    → IsAnswered old g event (Ok r) new → r.marks.items ≡ marks_at old g event → after ≡ before ++ named_emissions r → HeardBehind g slot e (others e (u ∷ [])) old before None after new
hears-another g slot e u old new before after same event r law other is answer marks pushed = (
  named_emissions r ++ [],
  pushed ∙ ap (λ (xs : List Emission). before ++ xs) (sym (append-nil (named_emissions r))),
  subst (λ xs. IsHeardBy g slot e xs old (named_emissions r ++ []) None new) (sym (alone e u same law other)) (by_one r (subst (λ x. IsGivenOut g x old r new) is (answer, marks)) by_all),
)

-- one that was refused
pub hearing-refused : (g slot : ℕ) (e : Emission) (u : ℕ) (old new : List Log) (waiting : List Emission) (same : Bool) (event : Event) (r : Refusal) → (IsTrue same ↔ (u ≡ e.from)) → same ≡ false → event ≡ hearing slot u e
    → IsAnswered old g event (Err r) new → HeardBehind g slot e (others e (u ∷ [])) old waiting (Some r) waiting new
hearing-refused g slot e u old new waiting same event r law other is answer = (
  [],
  sym (append-nil waiting),
  subst (λ xs. IsHeardBy g slot e xs old [] (Some r) new) (sym (alone e u same law other)) (refused r (subst (λ x. IsAnswered old g x (Err r) new) is answer)),
)

-- ---- all that wait

-- the emissions from a place on, and behind them those that came meanwhile
pub next-waits : (items now more : List Emission) (at : ℕ) (e : Emission) → at < length items → e ≡ get_or items at e → now ≡ items ++ more → (drop at items ≡ e ∷ drop (at + 1) items) × (drop (at + 1) now ≡ drop (at + 1) items ++ more)
next-waits items now more at e within is pushed =
    let one : suc at ≡ at + 1 = omega arith in (
      drop-cons items at e within ∙ ap (λ (x : Emission). x ∷ drop (suc at) items) (sym is) ∙ ap (λ n. e ∷ drop n items) one,
      ap (λ (l : List Emission). drop (at + 1) l) pushed ∙ drop-append-le (at + 1) items more (omega (arith, within)),
    )

-- the place behind one of them is one of what waits then, or the end of it
pub still-within : (items now more : List Emission) (at : ℕ) → at < length items → now ≡ items ++ more → at + 1 ≤ length now
still-within items now more at within is =
    let longer : length now ≡ length items + length more = ap (λ (l : List Emission). length l) is ∙ length-append items more in
    omega (arith, within, longer)

-- the first emission that waits is handed on
pub handed-first : (g slot : ℕ) (names : List ℕ) (old now new : List Log) (items after left : List Emission) (at : ℕ) (e : Emission) (first ended : Option Refusal) → at < length items → e ≡ get_or items at e
    → HeardBehind g slot e (others e names) old items first after now → first ≡ None → AreHandedOn g slot names now (drop (at + 1) after) ended left new → AreHandedOn g slot names old (drop at items) ended left new
handed-first g slot names old now new items after left at e first ended within is heard all rest =
    let next = next-waits items after heard.0 at e within is heard.1 in
    subst (λ (xs : List Emission). AreHandedOn g slot names old xs ended left new) (sym next.0)
    (one_waits (subst (λ x. IsHeardBy g slot e (others e names) old heard.0 x now) all heard.2) (subst (λ (xs : List Emission). AreHandedOn g slot names now xs ended left new) next.1 rest))

-- a refusal leaves it, and all behind it
pub cut-first : (g slot : ℕ) (names : List ℕ) (old new : List Log) (items after : List Emission) (at : ℕ) (e : Emission) (first : Option Refusal) (r : Refusal) → at < length items → e ≡ get_or items at e
    → HeardBehind g slot e (others e names) old items first after new → first ≡ Some r → AreHandedOn g slot names old (drop at items) (Some r) (drop at after) new
cut-first g slot names old new items after at e first r within is heard short =
    let next = next-waits items after heard.0 at e within is heard.1 in
    let left : drop at after ≡ (e ∷ drop (at + 1) items) ++ heard.0 = ap (λ (l : List Emission). drop at l) heard.1 ∙ drop-append-le at items heard.0 (omega (arith, within)) ∙ ap (λ (l : List Emission). l ++ heard.0) next.0 in
    subst (λ (xs : List Emission). AreHandedOn g slot names old xs (Some r) (drop at after) new) (sym next.0)
    (subst (λ (xs : List Emission). AreHandedOn g slot names old (e ∷ drop (at + 1) items) (Some r) xs new) (sym left)
    (cut_short r (subst (λ x. IsHeardBy g slot e (others e names) old heard.0 x new) short heard.2)))

-- behind the last emission none is left
pub nothing-left : (g slot : ℕ) (names : List ℕ) (logs : List Log) (items : List Emission) (at : ℕ) → length items ≤ at → AreHandedOn g slot names logs (drop at items) None (drop at items) logs
nothing-left g slot names logs items at past = subst (λ (xs : List Emission). AreHandedOn g slot names logs xs None xs logs) (sym (drop_of_length-le items past)) none_waits

-- ---- where a refusal does not end it

abbrev pub ToldBehind : ℕ → ℕ → Emission → List ℕ → List Log → List Emission → List Emission → List Log → Type 0
ToldBehind g slot e us old before after new = (more : List Emission) × (after ≡ before ++ more) × HaveOthersHeard g slot e us old more new

pub nobody-told : (g slot : ℕ) (e : Emission) (us : List ℕ) (logs : List Log) (waiting : List Emission) → length us < 1 → ToldBehind g slot e us logs waiting waiting logs
nobody-told g slot e [] logs waiting small = ([], sym (append-nil waiting), all_heard)
nobody-told g slot e (u ∷ us) logs waiting small = absurd (omega (arith, small))

pub told-first : (g slot : ℕ) (e : Emission) (u : ℕ) (us vs : List ℕ) (old now new : List Log) (before mid after : List Emission) (ended : Option Refusal) → vs ≡ u ∷ us
    → HeardBehind g slot e (others e (u ∷ [])) old before ended mid now → ended ≢ Some NoMemory → ToldBehind g slot e us now mid after new → ToldBehind g slot e vs old before after new
told-first g slot e u us vs old now new before mid after ended names one memory rest = (
  one.0 ++ rest.0,
  rest.1 ∙ ap (λ (xs : List Emission). xs ++ rest.0) one.1 ∙ append_assoc before one.0 rest.0,
  subst (λ xs. HaveOthersHeard g slot e xs old (one.0 ++ rest.0) new) (sym names) (one_heard ended one.2 memory rest.2),
)

pub all-told-first : (g slot : ℕ) (names : List ℕ) (old now new : List Log) (items after : List Emission) (at : ℕ) (e : Emission) → at < length items → e ≡ get_or items at e
    → ToldBehind g slot e names old items after now → AllHeard g slot names now (drop (at + 1) after) new → AllHeard g slot names old (drop at items) new
all-told-first g slot names old now new items after at e within is told rest =
    let next = next-waits items after told.0 at e within is told.1 in
    subst (λ (xs : List Emission). AllHeard g slot names old xs new) (sym next.0) (AllHeard.one_waits told.2 (subst (λ (xs : List Emission). AllHeard g slot names now xs new) next.1 rest))

pub nothing-untold : (g slot : ℕ) (names : List ℕ) (logs : List Log) (items : List Emission) (at : ℕ) → length items ≤ at → AllHeard g slot names logs (drop at items) logs
nothing-untold g slot names logs items at past = subst (λ (xs : List Emission). AllHeard g slot names logs xs logs) (sym (drop_of_length-le items past)) AllHeard.none_waits

-- ---- what waits elsewhere

then-equal : (a b : Ordering) → is_eq (ordering_then a b) ≡ (is_eq a && is_eq b)
then-equal Less b = refl
then-equal Equal b = refl
then-equal Greater b = refl

-- a slot is another one just where the networks or the numbers differ
is-slot : (g i j k : ℕ) → is_at (slot_cmp (g, i)) (j, k) ≡ ((g == j) && (i == k))
is-slot g i j k = then-equal (nat_cmp g j) (nat_cmp i k) ∙ (λ z. is-at g j z && is-at i k z)

-- what waits where one slot was written
pub at-slot : (g i : ℕ) (w : Option (Vec Emission Global)) (inside old new : Unheard) (j k : ℕ) → inside ≡ old
    → lookup (is_at (slot_cmp (j, k))) new ≡ cond (is_at (slot_cmp (g, i)) (j, k)) w (lookup (is_at (slot_cmp (j, k))) inside) → unheard_at new j k ≡ (if (g == j) && (i == k) then emissions_in w else unheard_at old j k)
at-slot g i w inside old new j k is written =
    ap emissions_in written ∙ (ap (λ b. emissions_in (cond b w (lookup (is_at (slot_cmp (j, k))) inside))) (is-slot g i j k) ∙ (go ((g == j) && (i == k)) ∙ ap (λ u. if (g == j) && (i == k) then emissions_in w else unheard_at u j k) is))
  where
    go : (b : Bool) → emissions_in (cond b w (lookup (is_at (slot_cmp (j, k))) inside)) ≡ (if b then emissions_in w else unheard_at inside j k)
    go true = refl
    go false = refl

-- what is put behind what was taken out
pub taken-and-put : (g i : ℕ) (es ds : List Emission) (old now new : Unheard) → WaitThere g i es old now → WaitThere g i ds now new → WaitThere g i ds old new
taken-and-put g i es ds old now new taken put j k = put j k ∙ go ((g == j) && (i == k)) (taken j k)
  where
    go : (b : Bool) → unheard_at now j k ≡ (if b then es else unheard_at old j k) → (if b then ds else unheard_at now j k) ≡ (if b then ds else unheard_at old j k)
    go true is = refl
    go false is = is

-- ---- bytes for each of some nodes

pub none-delivered : (g : ℕ) (bytes us : List ℕ) (h : Hosting) → length us < 1 → AreDelivered g bytes us h [] h
none-delivered g bytes [] h small = none_left
none-delivered g bytes (u ∷ us) h small = absurd (omega (arith, small))

pub all-delivered : (g : ℕ) (bytes us others : List ℕ) (u : ℕ) (old now new : Hosting) (r : Result Given Refusal) (before mid after : List (Result Given Refusal)) → us ≡ u ∷ others
    → IsEventServed g (Deliver u bytes) r old now → mid ≡ before ++ r ∷ []
    → ((rs : List (Result Given Refusal)) × (after ≡ mid ++ rs) × AreDelivered g bytes others now rs new) → (rs : List (Result Given Refusal)) × (after ≡ before ++ rs) × AreDelivered g bytes us old rs new
all-delivered g bytes us others u old now new r before mid after is one pushed rest = (
  r ∷ rest.0,
  rest.1 ∙ ap (λ l. l ++ rest.0) pushed ∙ append_assoc before (r ∷ []) rest.0,
  subst (λ l. AreDelivered g bytes l old (r ∷ rest.0) new) (sym is) (next_node r one rest.2),
)

pub first-and-rest : {X : Type 0} (xs : List X) (x : X) → x ≡ get_or xs 0 x → 1 ≤ length xs → xs ≡ x ∷ take (length xs - 1) (drop 1 xs)
first-and-rest [] x is le = absurd (omega (arith, le))
first-and-rest (y ∷ ys) x is le =
    let count : length (y ∷ ys) - 1 ≡ length ys = omega arith in
    let all : take (length (y ∷ ys) - 1) ys ≡ ys = ap (λ n. take n ys) count ∙ take_all (length ys) ys (omega arith) in
    ap (λ z. z ∷ ys) (sym is) ∙ ap (λ zs. x ∷ zs) (sym all)

-- what is so where nothing failed is what follows from it
pub on-ok : {A E P Q : Type 0} (r : Result A E) → OnOk r P → (P → Q) → OnOk r Q
on-ok (Ok x) p f = f p
on-ok (Err e) p f = tt

-- what an event emitted waits behind what waited, as the code notes it
pub noted-behind : {A E : Type 0} (res : Result A E) (closed : Option ℕ) (g slot : ℕ) (r : Given) (old new : Unheard) (outs : List Out) (o : Option Sent) (x : Sent) → closed ≡ None → outs ≡ r.outs.items → o ≡ first_emitted outs → o ≡ Some x
    → slot ≡ x.slot → OnOk res (WaitThere g slot (unheard_at old g slot ++ named_emissions r) old new) → OnOk res (WaitsAfter closed g r old new)
noted-behind res closed g slot r old new outs o x none is first some there added =
    on-ok res added (λ w.
    subst (λ (c : Option ℕ). WaitsAfter c g r old new) (sym none)
    (subst (λ (y : Option Sent). WaitsBehind y g r old new) (sym some ∙ (first ∙ ap first_emitted is)) (subst (λ i. WaitThere g i (unheard_at old g i ++ named_emissions r) old new) there w)))

pub if-ok : {A E : Type 0} {P Q : A → Type 0} (r : Result A E) → IfOk r P → ((x : A) → P x → Q x) → IfOk r Q
if-ok (Ok x) p f = f x p
if-ok (Err e) p f = tt
