-- No more is ever drawn than there is. The law `room_is_counted` and the crate `host_network` stand on it.
use Rattle.std.proofs.Common.{◌≡◌, ◌⊎◌, ℕ, ◌<◌, ◌≤◌, Bool, true, false, ◌&&◌, ◌==◌, ◌+◌, length, Some, None, [], ◌∷◌, not, if◌then◌else◌, refl, sym, ◌∙◌, ap, ap₂, subst, inl, inr, arith}
use Rattle.std.proofs.lemmas.Bool.{cases_Bool, and_parts, eqb-true}
use Rattle.std.proofs.lemmas.List.{length-append}
use Rattle.std.proofs.lemmas.List.Filters.{length-filter_both}
use Rattle.scp_spec.specs.Rosters.{Shares, Share, Source, Roster, same_share, events_drawn, bytes_drawn, events_of, share_or_budgets, is_on}
use Rattle.scp_spec.specs.Rosters.Share.{Own, Pair}
use Rattle.scp_spec.specs.Rosters.Source.{OfBudgets, OfOpens, OfShare}
use Rattle.scp_spec.specs.Networks.{Net, Step, source, source_by, size_of, on_budgets, on_opens, effect, tests, first_that}
use Rattle.scp_spec.specs.Networks.Reading.{Read, Fault}
use Rattle.scp_spec.specs.Networks.Step.{Opens, Closes, Proposes, Delivers, Hears, NominationTimerFires, BallotTimerFires, Reslices}
use Rattle.scp_spec.specs.Hosts.{Config, new_net}
use Rattle.scp_spec.specs.Counts.{is_of_share, is_opening, HasRoomForEvents, HasRoomForBytes, HasRoom, IsInRoom, StaysInRoom}
use Rattle.scp_spec.proofs.Networks.Effects.{numbers, opened_after, next, effect-keeps, run-keeps}
use Rattle.scp_spec.proofs.Crowds.Views.{same_share-true}
use Rattle.scp_spec.proofs.Crowds.Concerned.{length-numbers}
use Rattle.scp_spec.proofs.Networks.Refusals.{applied_where_room}
use Rattle.scp_spec.proofs.Networks.Drawn.{counted-next}

pub room-events : (net : Net) (e : Step) → HasRoom net e → HasRoomForEvents net (source net.roster e)
room-events net (Opens i) h = h.1
room-events net (Delivers u size d) h = h.0
room-events net _ h = h

-- bytes that fit, or none
abbrev pub FitsOr : Net → Step → Type 0
FitsOr net e = HasRoomForBytes net (source net.roster e) (size_of e) ⊎ (size_of e ≡ 0)

pub room-bytes : (net : Net) (e : Step) → HasRoom net e → FitsOr net e
room-bytes net (Delivers u size d) h = inl h.1
room-bytes net _ h = inr refl

-- the shares of a source are those of the roster
abbrev HasSharesOf : Roster → Source → Type 0
HasSharesOf r OfBudgets = Unit {0}
HasSharesOf r (OfOpens shares) = shares ≡ r.shares
HasSharesOf r (OfShare shares i t) = shares ≡ r.shares

share_or_budgets-shares : (r : Roster) (i : ℕ) (t : Share) → HasSharesOf r (share_or_budgets r i t)
share_or_budgets-shares r i t = go (is_on r.names t)
  where
    go : (b : Bool) → HasSharesOf r (if b then OfShare r.shares i t else OfBudgets)
    go true = refl
    go false = tt

source-shares : (r : Roster) (e : Step) → HasSharesOf r (source_by r e)
source-shares r (Opens i) = refl
source-shares r (Closes i) = refl
source-shares r (Proposes i u x) = share_or_budgets-shares r i (Own u)
source-shares r (Delivers u size (Read e)) = share_or_budgets-shares r e.slot (Pair u e.sender)
source-shares r (Delivers u size (Fault n)) = tt
source-shares r (Hears i u from kind k) = share_or_budgets-shares r i (Pair u from)
source-shares r (NominationTimerFires i u n) = share_or_budgets-shares r i (Own u)
source-shares r (BallotTimerFires i u n) = share_or_budgets-shares r i (Own u)
source-shares r (Reslices i u q) = share_or_budgets-shares r i (Own u)

-- the open slots after a step that found room
slots-fit : (net : Net) (e : Step) (most : ℕ) → length net.slots ≤ most → net.budgets.slots ≡ most → HasRoom net e
    → length (opened_after e (numbers net.slots)) ≤ most
slots-fit net (Opens i) most l b h =
    let a = length-append (numbers net.slots) (i ∷ []) in let n = length-numbers net.slots in
    let r : length net.slots < net.budgets.slots = h.0 in omega (arith, a, n, r, b)
slots-fit net (Closes i) most l b h =
    let n = length-numbers net.slots in
    let f = length-filter_both (λ n. not (n == i)) (λ n. not (not (n == i))) (λ n. refl) (numbers net.slots) in
    omega (arith, l, n, f)
slots-fit net _ most l b h = let n = length-numbers net.slots in omega (arith, l, n)

module _ (config : Config) (net : Net) (e : Step) (h : net.roster ≡ config.roster) (g : net.budgets ≡ config.budgets)
    (in_room : IsInRoom config net) (room : HasRoom net e) where
  events-fit : (s : Source) → source net.roster e ≡ s → net.events + on_budgets s 1 ≤ config.budgets.events
  events-fit OfBudgets q =
      let l : net.events < net.budgets.events = subst (HasRoomForEvents net) q (room-events net e room) in
      let k : net.budgets.events ≡ config.budgets.events = ap (λ b. b.events) g in omega (arith, l, k)
  events-fit (OfOpens shares) q = let l = in_room.events in omega (arith, l)
  events-fit (OfShare shares i t) q = let l = in_room.events in omega (arith, l)

  bytes-fit : (s : Source) → source net.roster e ≡ s → net.bytes + on_budgets s (size_of e) ≤ config.budgets.bytes
  bytes-fit OfBudgets q = elim (room-bytes net e room) [
    | inl f ↦ let l : net.bytes + size_of e ≤ net.budgets.bytes = subst (λ z. HasRoomForBytes net z (size_of e)) q f in
        let k : net.budgets.bytes ≡ config.budgets.bytes = ap (λ b. b.bytes) g in omega (arith, l, k)
    | inr z ↦ let l = in_room.bytes in omega (arith, l, z)
  ]
  bytes-fit (OfOpens shares) q = let l = in_room.bytes in omega (arith, l)
  bytes-fit (OfShare shares i t) q = let l = in_room.bytes in omega (arith, l)

  module _ (r : Roster) (c : config.roster ≡ Some r) where
    its-shares : (s : Source) → source net.roster e ≡ s → HasSharesOf r s
    its-shares s q = subst (HasSharesOf r) (sym (ap (λ o. source o e) (h ∙ c)) ∙ q) (source-shares r e)

    opens-fit : (s : Source) → source net.roster e ≡ s → net.opens + on_opens s ≤ r.shares.opens
    opens-fit OfBudgets q = let l = in_room.opens r c in omega (arith, l)
    opens-fit (OfOpens shares) q =
        let l : net.opens < shares.opens = subst (HasRoomForEvents net) q (room-events net e room) in
        let k : shares.opens ≡ r.shares.opens = ap (λ z. z.opens) (its-shares (OfOpens shares) q) in omega (arith, l, k)
    opens-fit (OfShare shares i t) q = let l = in_room.opens r c in omega (arith, l)

    module _ (i : ℕ) (t : Share) where
      share-fits : (s : Source) → source net.roster e ≡ s
          → events_drawn i t net.draws + (if is_of_share i t s then 1 else 0) ≤ events_of r.shares t
      share-fits OfBudgets q = let l = in_room.share_events r c i t in omega (arith, l)
      share-fits (OfOpens shares) q = let l = in_room.share_events r c i t in omega (arith, l)
      share-fits (OfShare shares j u) q = go ((j == i) && same_share u t) refl
        where
          go : (b : Bool) → ((j == i) && same_share u t) ≡ b
              → events_drawn i t net.draws + (if b then 1 else 0) ≤ events_of r.shares t
          go false o = let l = in_room.share_events r c i t in omega (arith, l)
          go true o =
              let p = and_parts (j == i) (same_share u t) o in
              let l : events_drawn j u net.draws < events_of shares u =
              subst (HasRoomForEvents net) q (room-events net e room) in
              let d : events_drawn j u net.draws ≡ events_drawn i t net.draws =
              ap₂ (λ (k : ℕ) (w : Share). events_drawn k w net.draws) (eqb-true j i p.0)
              (same_share-true u t p.1) in
              let f : events_of shares u ≡ events_of r.shares t =
              ap₂ (λ (z : Shares) (w : Share). events_of z w) (its-shares (OfShare shares j u) q)
              (same_share-true u t p.1) in
              omega (arith, l, d, f)

      share-bytes-fit : (s : Source) → source net.roster e ≡ s
          → bytes_drawn i t net.draws + (if is_of_share i t s then size_of e else 0) ≤ r.shares.bytes
      share-bytes-fit OfBudgets q = let l = in_room.share_bytes r c i t in omega (arith, l)
      share-bytes-fit (OfOpens shares) q = let l = in_room.share_bytes r c i t in omega (arith, l)
      share-bytes-fit (OfShare shares j u) q = go ((j == i) && same_share u t) refl
        where
          go : (b : Bool) → ((j == i) && same_share u t) ≡ b
              → bytes_drawn i t net.draws + (if b then size_of e else 0) ≤ r.shares.bytes
          go false o = let l = in_room.share_bytes r c i t in omega (arith, l)
          go true o =
              let p = and_parts (j == i) (same_share u t) o in
              let d : bytes_drawn j u net.draws ≡ bytes_drawn i t net.draws =
              ap₂ (λ (k : ℕ) (w : Share). bytes_drawn k w net.draws) (eqb-true j i p.0) (same_share-true u t p.1) in
              let f : shares.bytes ≡ r.shares.bytes = ap (λ z. z.bytes) (its-shares (OfShare shares j u) q) in
              elim (room-bytes net e room) [
                | inl b ↦ let l : bytes_drawn j u net.draws + size_of e ≤ shares.bytes =
                    subst (λ z. HasRoomForBytes net z (size_of e)) q b in omega (arith, l, d, f)
                | inr z ↦ let l = in_room.share_bytes r c i t in omega (arith, l, z)
              ]

  in_room-next : IsInRoom config (next net e)
  in_room-next =
      let k = counted-next net e in
      record {
        slots =
            let a = length-numbers (effect net e).0.slots in
            let b = ap length (effect-keeps net e).slots in
            let l = slots-fit net e config.budgets.slots in_room.slots (ap (λ z. z.slots) g) room in
            omega (arith, a, b, l);
        events = subst (λ n. n ≤ config.budgets.events) (sym k.events) (events-fit (source net.roster e) refl);
        bytes = subst (λ n. n ≤ config.budgets.bytes) (sym k.bytes) (bytes-fit (source net.roster e) refl);
        opens = λ r c. subst (λ n. n ≤ r.shares.opens) (sym k.opens) (opens-fit r c (source net.roster e) refl);
        share_events = λ r c i t. elim (cases_Bool (is_opening i e)) [
          | inl o ↦ let z = (k.renewed i t o).0 in omega (arith, z)
          | inr o ↦ subst (λ n. n ≤ events_of r.shares t) (sym (k.share_events i t o))
              (share-fits r c i t (source net.roster e) refl)
        ];
        share_bytes = λ r c i t. elim (cases_Bool (is_opening i e)) [
          | inl o ↦ let z = (k.renewed i t o).1 in omega (arith, z)
          | inr o ↦ subst (λ n. n ≤ r.shares.bytes) (sym (k.share_bytes i t o))
              (share-bytes-fit r c i t (source net.roster e) refl)
        ];
      }

record StaysOf (config : Config) (net : Net) : Type 0 where
  roster : net.roster ≡ config.roster
  budgets : net.budgets ≡ config.budgets
  in_room : IsInRoom config net

stays-applied : (config : Config) (net : Net) (e : Step) → first_that (tests net e) ≡ None → StaysOf config net
    → StaysOf config (next net e)
stays-applied config net e q s =
    let k = effect-keeps net e in
    record {
      roster = k.roster ∙ s.roster;
      budgets = k.budgets ∙ s.budgets;
      in_room = in_room-next config net e s.roster s.budgets s.in_room (applied_where_room net e q);
    }

pub stays_in_room : StaysInRoom
stays_in_room config xs = (run-keeps (StaysOf config) (stays-applied config) xs (new_net config) (record {
  roster = refl;
  budgets = refl;
  in_room =
      record {
        slots = omega arith;
        events = omega arith;
        bytes = omega arith;
        opens = λ r c. omega arith;
        share_events = λ r c i t. omega arith;
        share_bytes = λ r c i t. omega arith;
      };
})).in_room
