-- A network refuses for want of room exactly where what a step draws on is used up; what is applied found room. The law
-- `room_is_counted`, `Room` and the crate `host_network` stand on it.
use Rattle.scp_types.specs.declared.event.Refusal.{Refusal}
use Rattle.std.proofs.Common.{◌≡◌, ℕ, Bool, true, false, ◌+◌, nat_lt, length, Some, None, List, [], ◌∷◌, if◌then◌else◌, refl, subst}
use Rattle.std.specs.List.{AllByRecursion}
use Rattle.std.proofs.lemmas.Bool.{false≢true, true≢false, ltb-true, ltb-false, not-true, not-false}
use Rattle.scp_spec.specs.Rosters.{Source, events_drawn, bytes_drawn, events_of}
use Rattle.scp_spec.specs.Rosters.Source.{OfBudgets, OfOpens, OfShare}
use Rattle.scp_spec.specs.Networks.{Net, Step, source, size_of, room_test, bytes_test, tests, tests_on, first_that}
use Rattle.scp_spec.specs.Networks.Reading.{Read, Fault}
use Rattle.scp_spec.specs.Networks.Step.{Opens, Closes, Proposes, Delivers, Hears}
use Rattle.scp_spec.specs.Counts.{IsMet, RefusedWhereMet, HasRoomForEvents, HasRoomForBytes, AppliedWhereRoom}

abbrev Says : (Refusal → Type 0) → List (Bool × Refusal) → Type 0
Says P ts = AllByRecursion (λ (t : Bool × Refusal). t.0 ≡ true → P t.1) ts

first-says : (P : Refusal → Type 0) (ts : List (Bool × Refusal)) (n : Refusal) → Says P ts
    → first_that ts ≡ Some n → P n
first-says P [] n h e = cc
first-says P (t ∷ ts) n h e = go t.0 refl e (first-says P ts n h.1)
  where
    go : (b : Bool) → t.0 ≡ b → (if b then Some t.1 else first_that ts) ≡ Some n → (first_that ts ≡ Some n → P n) → P n
    go true q e ih = let m : t.1 ≡ n = cc in subst P m (h.0 q)
    go false q e ih = ih e

full-says : (net : Net) (s : Source) (size : ℕ) → (room_test net s).0 ≡ true → IsMet net s size (room_test net s).1
full-says net OfBudgets size h =
    (refl, ltb-false net.events net.budgets.events (not-true (nat_lt net.events net.budgets.events) h))
full-says net (OfOpens shares) size h =
    (refl, ltb-false net.opens shares.opens (not-true (nat_lt net.opens shares.opens) h))
full-says net (OfShare shares i t) size h = (
  refl,
  ltb-false (events_drawn i t net.draws) (events_of shares t)
      (not-true (nat_lt (events_drawn i t net.draws) (events_of shares t)) h),
)

bytes-says : (net : Net) (s : Source) (size : ℕ) → (bytes_test net s size).0 ≡ true
    → IsMet net s size (bytes_test net s size).1
bytes-says net OfBudgets size h = (refl, ltb-true net.budgets.bytes (net.bytes + size) h)
bytes-says net (OfOpens shares) size h = absurd (false≢true h)
bytes-says net (OfShare shares i t) size h = ltb-true shares.bytes (bytes_drawn i t net.draws + size) h

tests-say : (net : Net) (s : Source) (e : Step) → Says (IsMet net s (size_of e)) (tests_on net s e)
tests-say net s (Opens i) = (
  λ h. tt,
  (
    λ h. ltb-false (length net.slots) net.budgets.slots
        (not-true (nat_lt (length net.slots) net.budgets.slots) h),
    (full-says net s 0, tt),
  ),
)
tests-say net s (Closes i) = (λ h. tt, (full-says net s 0, tt))
tests-say net s (Proposes i u x) = (λ h. tt, (λ h. tt, (λ h. tt, (λ h. tt, (full-says net s 0, tt)))))
tests-say net s (Delivers u size (Fault n)) = (λ h. tt, (λ h. tt, tt))
tests-say net s (Delivers u size (Read e)) =
    (λ h. tt, (λ h. tt, (λ h. tt, (full-says net s size, (bytes-says net s size, tt)))))
tests-say net s (Hears i u from kind k) = (λ h. tt, (λ h. tt, (λ h. tt, (full-says net s 0, tt))))
tests-say net s _ = (λ h. tt, (λ h. tt, (full-says net s 0, tt)))

pub refused_where_met : RefusedWhereMet
refused_where_met net e n h =
    first-says (IsMet net (source net.roster e) (size_of e)) (tests net e) n (tests-say net (source net.roster e) e) h

-- ---- what is applied found room
none-holds : (ts : List (Bool × Refusal)) → first_that ts ≡ None
    → AllByRecursion (λ (t : Bool × Refusal). t.0 ≡ false) ts
none-holds [] h = tt
none-holds (t ∷ ts) h = go t.0 refl h (none-holds ts)
  where
    go : (b : Bool) → t.0 ≡ b → (if b then Some t.1 else first_that ts) ≡ None
        → (first_that ts ≡ None → AllByRecursion (λ (t : Bool × Refusal). t.0 ≡ false) ts)
        → AllByRecursion (λ (t : Bool × Refusal). t.0 ≡ false) (t ∷ ts)
    go true q e ih = cc
    go false q e ih = (q, ih e)

has-events : (net : Net) (s : Source) → (room_test net s).0 ≡ false → HasRoomForEvents net s
has-events net OfBudgets h = ltb-true net.events net.budgets.events (not-false (nat_lt net.events net.budgets.events) h)
has-events net (OfOpens shares) h = ltb-true net.opens shares.opens (not-false (nat_lt net.opens shares.opens) h)
has-events net (OfShare shares i t) h =
    ltb-true (events_drawn i t net.draws) (events_of shares t)
    (not-false (nat_lt (events_drawn i t net.draws) (events_of shares t)) h)

has-bytes : (net : Net) (s : Source) (size : ℕ) → (bytes_test net s size).0 ≡ false → HasRoomForBytes net s size
has-bytes net OfBudgets size h = ltb-false net.budgets.bytes (net.bytes + size) h
has-bytes net (OfOpens shares) size h = tt
has-bytes net (OfShare shares i t) size h = ltb-false shares.bytes (bytes_drawn i t net.draws + size) h

pub applied_where_room : AppliedWhereRoom
applied_where_room net (Opens i) h =
    let a = none-holds (tests net (Opens i)) h in (
      ltb-true (length net.slots) net.budgets.slots (not-false (nat_lt (length net.slots) net.budgets.slots) a.1.0),
      has-events net (source net.roster (Opens i)) a.1.1.0,
    )
applied_where_room net (Closes i) h =
    let a = none-holds (tests net (Closes i)) h in has-events net (source net.roster (Closes i)) a.1.0
applied_where_room net (Proposes i u x) h =
    let a = none-holds (tests net (Proposes i u x)) h in has-events net (source net.roster (Proposes i u x)) a.1.1.1.1.0
applied_where_room net (Delivers u size (Fault n)) h =
    let a = none-holds (tests net (Delivers u size (Fault n))) h in absurd (true≢false a.1.0)
applied_where_room net (Delivers u size (Read e)) h =
    let a = none-holds (tests net (Delivers u size (Read e))) h in (
      has-events net (source net.roster (Delivers u size (Read e))) a.1.1.1.0,
      has-bytes net (source net.roster (Delivers u size (Read e))) size a.1.1.1.1.0,
    )
applied_where_room net (Hears i u from kind k) h =
    let a = none-holds (tests net (Hears i u from kind k)) h in
    has-events net (source net.roster (Hears i u from kind k)) a.1.1.1.0
applied_where_room net e h =
    let a = none-holds (tests net e) h in has-events net (source net.roster e) a.1.1.0
