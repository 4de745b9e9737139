-- A network of which a slot is erased takes a step at another slot alike.
use Rattle.std.specs.Prelude.{◌≡◌, ◌+◌, ◌≤◌, ◌++◌, ◌∷◌, [], ◌==◌, ◌||◌, not, nat_lt, ℕ, Bool, true, false, List, Option, Some, None, option_map, if◌then◌else◌, is_none, is_some, length, sum_by}
use Rattle.std.proofs.Common.{◌∙◌, refl, sym, ap, subst, arith, lt-ltb, le-ltb, ltb-true, ltb-false, true≢false}
use Rattle.std.proofs.lemmas.Bool.{not-false}
use Rattle.scp_types.specs.Statements.{Sent}
use Rattle.scp_types.specs.declared.event.NodeEvent.{NodeEvent}
use Rattle.scp_types.specs.declared.event.NodeEvent.TheVariants.{Propose, Take, NominationTimer, BallotTimer, Reslice}
use Rattle.scp_types.specs.declared.event.Out.{Out}
use Rattle.scp_types.specs.declared.event.Refusal.{Refusal}
use Rattle.scp_spec.specs.Networks.{Net, Step, act, act_in, act_known, bytes_test, draws_after_opening, effect, emission, first_that, has_proposal, instances_at, instances_of_new_slot, is_hosted, is_open, net_step, node_where_open, on_budgets, on_opens, outs_at, room_test, size_of, slices_of, source, source_by, state_and_reply, tests, tests_on, with_draw}
use Rattle.scp_spec.specs.Networks.Reading.{Fault, Read}
use Rattle.scp_spec.specs.Networks.Reply.{Done, Refused}
use Rattle.scp_spec.specs.Networks.Step.{BallotTimerFires, Closes, Delivers, Hears, NominationTimerFires, Opens, Proposes, Reslices}
use Rattle.scp_spec.specs.Rosters.{Roster, Share, Source, drawn_on, is_on, share_or_budgets}
use Rattle.scp_spec.specs.Rosters.Share.{Own, Pair}
use Rattle.scp_spec.specs.Rosters.Source.{OfBudgets, OfOpens, OfShare}
use Rattle.scp_spec.proofs.Networks.Drawn.{counted-next}
use Rattle.scp_spec.proofs.Networks.Effects.{at_slot, effect-keeps, next}
use Rattle.scp_spec.proofs.Networks.OpenSlots.{instances_at-drop_other}
use Rattle.live_feed.specs.declared.answering.Drawn.{Drawn}
use Rattle.live_host.specs.Futures.{moved_roster, moved_shares}
use Rattle.live_host.specs.Erasing.{ErasedNetsRefuseAlike, ErasedNetsStepAlike, HasOpensFor, HasRoomForMore, IsErased, both_amounts, is_step_at, opens_slot, slots_but}
use Rattle.live_host.proofs.ErasedParts.{draws-behind, drawn-elsewhere, filter-shortens, filters-swap, slots-act, slots-push}

-- ---- sources
-- the source, where so much more may be opened and closed
abbrev pub moved_source : Drawn → Source → Source
moved_source d OfBudgets = OfBudgets
moved_source d (OfOpens shares) = OfOpens (moved_shares d shares)
moved_source d (OfShare shares i s) = OfShare (moved_shares d shares) i s

share-moves : (d : Drawn) (r : Roster) (i : ℕ) (s : Share)
    → share_or_budgets (moved_roster d r) i s ≡ moved_source d (share_or_budgets r i s)
share-moves d r i s = by (is_on r.names s)
  where
    by : (on : Bool) → (if on then OfShare (moved_shares d r.shares) i s else OfBudgets)
        ≡ moved_source d (if on then OfShare r.shares i s else OfBudgets)
    by true = refl
    by false = refl

source-by-moves : (d : Drawn) (r : Roster) (e : Step) → source_by (moved_roster d r) e ≡ moved_source d (source_by r e)
source-by-moves d r (Opens i) = refl
source-by-moves d r (Closes i) = refl
source-by-moves d r (Proposes i u x) = share-moves d r i (Own u)
source-by-moves d r (Delivers u size (Read e)) = share-moves d r e.slot (Pair u e.sender)
source-by-moves d r (Delivers u size (Fault n)) = refl
source-by-moves d r (Hears i u from kind k) = share-moves d r i (Pair u from)
source-by-moves d r (NominationTimerFires i u n) = share-moves d r i (Own u)
source-by-moves d r (BallotTimerFires i u n) = share-moves d r i (Own u)
source-by-moves d r (Reslices i u q) = share-moves d r i (Own u)

source-moves : (d : Drawn) (r : Option Roster) (e : Step)
    → source (option_map (moved_roster d) r) e ≡ moved_source d (source r e)
source-moves d None e = refl
source-moves d (Some r) e = source-by-moves d r e

-- a source is one of a roster, and a share is one of another slot
abbrev pub IsElsewhere : ℕ → Option Roster → Source → Type 0
IsElsewhere i r OfBudgets = Unit {0}
IsElsewhere i None (OfOpens shares) = ⊥
IsElsewhere i (Some r) (OfOpens shares) = shares ≡ r.shares
IsElsewhere i r (OfShare shares j s) = (i == j) ≡ false

share-elsewhere : (i : ℕ) (r : Roster) (j : ℕ) (s : Share) → (i == j) ≡ false
    → IsElsewhere i (Some r) (share_or_budgets r j s)
share-elsewhere i r j s off = by (is_on r.names s)
  where
    by : (on : Bool) → IsElsewhere i (Some r) (if on then OfShare r.shares j s else OfBudgets)
    by true = off
    by false = tt

pub source-elsewhere : (i : ℕ) (r : Option Roster) (e : Step) → is_step_at i e ≡ false → IsElsewhere i r (source r e)
source-elsewhere i None e off = tt
source-elsewhere i (Some r) (Opens j) off = refl
source-elsewhere i (Some r) (Closes j) off = refl
source-elsewhere i (Some r) (Proposes j u x) off = share-elsewhere i r j (Own u) off
source-elsewhere i (Some r) (Delivers u size (Read e)) off = share-elsewhere i r e.slot (Pair u e.sender) off
source-elsewhere i (Some r) (Delivers u size (Fault n)) off = tt
source-elsewhere i (Some r) (Hears j u from kind k) off = share-elsewhere i r j (Pair u from) off
source-elsewhere i (Some r) (NominationTimerFires j u n) off = share-elsewhere i r j (Own u) off
source-elsewhere i (Some r) (BallotTimerFires j u n) off = share-elsewhere i r j (Own u) off
source-elsewhere i (Some r) (Reslices j u q) off = share-elsewhere i r j (Own u) off

-- ---- tests
-- what passes these tests passes those
data Follow : List (Bool × Refusal) → List (Bool × Refusal) → Type 0 where
  none : Follow [] []
  also : {t s : Bool × Refusal} {ts ss : List (Bool × Refusal)}
      → (t.0 ≡ false → s.0 ≡ false) → Follow ts ss → Follow (t ∷ ts) (s ∷ ss)

passed : {ts ss : List (Bool × Refusal)} → Follow ts ss → first_that ts ≡ None → first_that ss ≡ None
passed none no-test = refl
passed (also {t} {s} {ts} {ss} one others) passes = by t.0 refl passes (passed others)
  where
    by : (b : Bool) → t.0 ≡ b → (if b then Some t.1 else first_that ts) ≡ None
        → (first_that ts ≡ None → first_that ss ≡ None) → (if s.0 then Some s.1 else first_that ss) ≡ None
    by true is none-here rest = cc
    by false is none-here rest = rw (one is) (rest none-here)

-- the tests of a step on a network of which a slot is erased, and on what is left
module _ (i : ℕ) (rest lost : Drawn) (net left : Net) (h : IsErased i rest lost net left) where
  pub hosted : (u : ℕ) → is_hosted left u ≡ is_hosted net u
  hosted u = ap (λ ns. is_some (slices_of ns u)) h.nodes

  pub found : (j : ℕ) → (i == j) ≡ false → instances_at left.slots j ≡ instances_at net.slots j
  found j off = ap (λ ss. instances_at ss j) h.slots ∙ instances_at-drop_other net.slots i j off

  pub opened : (j : ℕ) → (i == j) ≡ false → is_open left j ≡ is_open net j
  opened j off = ap is_some (found j off)

  pub drawn : (j : ℕ) (s : Share) → (i == j) ≡ false → drawn_on j s left.draws ≡ drawn_on j s net.draws
  drawn j s off =
      sym (drawn-elsewhere i j s left.draws off) ∙ ap (drawn_on j s) h.draws ∙ drawn-elsewhere i j s net.draws off

  pub moved : (e : Step) → source net.roster e ≡ moved_source (both_amounts lost rest) (source left.roster e)
  moved e = ap (λ r. source r e) h.roster ∙ source-moves (both_amounts lost rest) left.roster e

  -- what draws on the budgets, or on openings and closings, leaves room for the rest
  IsFit : ℕ → Source → Type 0
  IsFit size OfBudgets =
      ((net.events + 1) + rest.events ≤ net.budgets.events) × ((net.bytes + size) + rest.bytes ≤ net.budgets.bytes)
  IsFit size (OfOpens shares) = (net.opens + 1) + rest.opens ≤ shares.opens + (lost.opens + rest.opens)
  IsFit size (OfShare shares j s) = Unit {0}

  room-fits : (size : ℕ) (s : Source) → IsFit size s → IsElsewhere i left.roster s
      → (room_test net (moved_source (both_amounts lost rest) s)).0 ≡ false → (room_test left s).0 ≡ false
  unfolding IsFit
  room-fits size OfBudgets fit here passes =
      let budget : net.budgets.events ≡ left.budgets.events + (lost.events + rest.events) = ap (λ b. b.events) h.budgets in
      let count : net.events ≡ left.events + lost.events = h.events in
      let fits : (net.events + 1) + rest.events ≤ net.budgets.events = fit.0 in
      ap not (lt-ltb left.events left.budgets.events (omega arith))
  room-fits size (OfOpens shares) fit here passes =
      let count : net.opens ≡ left.opens + lost.opens = h.opens in
      let fits : (net.opens + 1) + rest.opens ≤ shares.opens + (lost.opens + rest.opens) = fit in
      ap not (lt-ltb left.opens shares.opens (omega arith))
  room-fits size (OfShare shares j (Own u)) fit here passes =
      ap (λ ds. not (nat_lt (length ds) shares.own)) (drawn j (Own u) here) ∙ passes
  room-fits size (OfShare shares j (Pair u from)) fit here passes =
      ap (λ ds. not (nat_lt (length ds) shares.pair)) (drawn j (Pair u from) here) ∙ passes

  pub room-back : (s : Source) → IsElsewhere i left.roster s → (room_test left s).0 ≡ false
      → (room_test net (moved_source (both_amounts lost rest) s)).0 ≡ false
  room-back OfBudgets here passes =
      let budget : net.budgets.events ≡ left.budgets.events + (lost.events + rest.events) = ap (λ b. b.events) h.budgets in
      let count : net.events ≡ left.events + lost.events = h.events in
      let less = ltb-true left.events left.budgets.events (not-false (nat_lt left.events left.budgets.events) passes) in
      ap not (lt-ltb net.events net.budgets.events (omega arith))
  room-back (OfOpens shares) here passes =
      let count : net.opens ≡ left.opens + lost.opens = h.opens in
      let less = ltb-true left.opens shares.opens (not-false (nat_lt left.opens shares.opens) passes) in
      ap not (lt-ltb net.opens (shares.opens + (lost.opens + rest.opens)) (omega arith))
  room-back (OfShare shares j (Own u)) here passes =
      ap (λ ds. not (nat_lt (length ds) shares.own)) (sym (drawn j (Own u) here)) ∙ passes
  room-back (OfShare shares j (Pair u from)) here passes =
      ap (λ ds. not (nat_lt (length ds) shares.pair)) (sym (drawn j (Pair u from) here)) ∙ passes

  bytes-fit : (size : ℕ) (s : Source) → IsFit size s → IsElsewhere i left.roster s
      → (bytes_test net (moved_source (both_amounts lost rest) s) size).0 ≡ false → (bytes_test left s size).0 ≡ false
  unfolding IsFit
  bytes-fit size OfBudgets fit here passes =
      let budget : net.budgets.bytes ≡ left.budgets.bytes + (lost.bytes + rest.bytes) = ap (λ b. b.bytes) h.budgets in
      let count : net.bytes ≡ left.bytes + lost.bytes = h.bytes in
      let fits : (net.bytes + size) + rest.bytes ≤ net.budgets.bytes = fit.1 in
      le-ltb left.budgets.bytes (left.bytes + size) (omega arith)
  bytes-fit size (OfOpens shares) fit here passes = refl
  bytes-fit size (OfShare shares j s) fit here passes =
      ap (λ ds. nat_lt shares.bytes (sum_by (λ d. d.size) ds + size)) (drawn j s here) ∙ passes

  pub bytes-back : (size : ℕ) (s : Source) → IsElsewhere i left.roster s → (bytes_test left s size).0 ≡ false
      → (bytes_test net (moved_source (both_amounts lost rest) s) size).0 ≡ false
  bytes-back size OfBudgets here passes =
      let budget : net.budgets.bytes ≡ left.budgets.bytes + (lost.bytes + rest.bytes) = ap (λ b. b.bytes) h.budgets in
      let count : net.bytes ≡ left.bytes + lost.bytes = h.bytes in
      let least = ltb-false left.budgets.bytes (left.bytes + size) passes in
      le-ltb net.budgets.bytes (net.bytes + size) (omega arith)
  bytes-back size (OfOpens shares) here passes = refl
  bytes-back size (OfShare shares j s) here passes =
      ap (λ ds. nat_lt shares.bytes (sum_by (λ d. d.size) ds + size)) (sym (drawn j s here)) ∙ passes

  -- a node at another slot is the same
  pub node-there : (j u : ℕ) → (i == j) ≡ false
      → node_where_open (instances_at left.slots j) u ≡ node_where_open (instances_at net.slots j) u
  node-there j u off = ap (λ o. node_where_open o u) (found j off)

  pub heard-there : (u from : ℕ)
      → (not (is_hosted left u) || not (is_hosted left from) || (u == from))
      ≡ (not (is_hosted net u) || not (is_hosted net from) || (u == from))
  heard-there u from =
      ap (λ b. not b || not (is_hosted left from) || (u == from)) (hosted u)
      ∙ ap (λ b. not (is_hosted net u) || not b || (u == from)) (hosted from)

  tests-follow : (s : Source) (e : Step) → IsFit (size_of e) s → IsElsewhere i left.roster s → is_step_at i e ≡ false
      → Follow (tests_on net (moved_source (both_amounts lost rest) s) e) (tests_on left s e)
  tests-follow s (Opens j) fit here off =
      also (λ p. opened j off ∙ p)
      (also (λ p.
      let most : net.budgets.slots ≡ left.budgets.slots = ap (λ b. b.slots) h.budgets in
      let fewer : length left.slots ≤ length net.slots = subst (λ ss. length ss ≤ length net.slots) (sym h.slots)
      (filter-shortens (λ s. not (s.number == i)) net.slots) in
      let less = ltb-true (length net.slots) net.budgets.slots
      (not-false (nat_lt (length net.slots) net.budgets.slots) p) in
      ap not (lt-ltb (length left.slots) left.budgets.slots (omega arith)))
      (also (room-fits 0 s fit here) none))
  tests-follow s (Closes j) fit here off =
      also (λ p. ap not (opened j off) ∙ p) (also (room-fits 0 s fit here) none)
  tests-follow s (Proposes j u x) fit here off =
      also (λ p. ap not (hosted u) ∙ p) (also (λ p. ap not (opened j off) ∙ p) (also (λ p. p)
      (also (λ p. ap has_proposal (node-there j u off) ∙ p) (also (room-fits 0 s fit here) none))))
  tests-follow s (Delivers u size (Read e)) fit here off =
      also (λ p. ap not (hosted u) ∙ p) (also (λ p. hosted e.sender ∙ p) (also (λ p. ap not (opened e.slot off) ∙ p)
      (also (room-fits size s fit here) (also (bytes-fit size s fit here) none))))
  tests-follow s (Delivers u size (Fault n)) fit here off = also (λ p. ap not (hosted u) ∙ p) (also (λ p. p) none)
  tests-follow s (Hears j u from kind k) fit here off =
      also (λ p. heard-there u from ∙ p) (also (λ p. ap not (opened j off) ∙ p)
      (also (λ p. ap (λ o. is_none (emission o kind k)) (node-there j from off) ∙ p) (also (room-fits 0 s fit here) none)))
  tests-follow s (NominationTimerFires j u r) fit here off =
      also (λ p. ap not (hosted u) ∙ p) (also (λ p. ap not (opened j off) ∙ p) (also (room-fits 0 s fit here) none))
  tests-follow s (BallotTimerFires j u n) fit here off =
      also (λ p. ap not (hosted u) ∙ p) (also (λ p. ap not (opened j off) ∙ p) (also (room-fits 0 s fit here) none))
  tests-follow s (Reslices j u q) fit here off =
      also (λ p. ap not (hosted u) ∙ p) (also (λ p. ap not (opened j off) ∙ p) (also (room-fits 0 s fit here) none))

  tests-back : (s : Source) (e : Step) → IsElsewhere i left.roster s → is_step_at i e ≡ false → opens_slot e ≡ false
      → Follow (tests_on left s e) (tests_on net (moved_source (both_amounts lost rest) s) e)
  tests-back s (Opens j) here off kept = absurd (true≢false kept)
  tests-back s (Closes j) here off kept =
      also (λ p. sym (ap not (opened j off)) ∙ p) (also (room-back s here) none)
  tests-back s (Proposes j u x) here off kept =
      also (λ p. sym (ap not (hosted u)) ∙ p) (also (λ p. sym (ap not (opened j off)) ∙ p) (also (λ p. p)
      (also (λ p. sym (ap has_proposal (node-there j u off)) ∙ p) (also (room-back s here) none))))
  tests-back s (Delivers u size (Read e)) here off kept =
      also (λ p. sym (ap not (hosted u)) ∙ p) (also (λ p. sym (hosted e.sender) ∙ p)
      (also (λ p. sym (ap not (opened e.slot off)) ∙ p)
      (also (room-back s here) (also (bytes-back size s here) none))))
  tests-back s (Delivers u size (Fault n)) here off kept =
      also (λ p. sym (ap not (hosted u)) ∙ p) (also (λ p. p) none)
  tests-back s (Hears j u from kind k) here off kept =
      also (λ p. sym (heard-there u from) ∙ p) (also (λ p. sym (ap not (opened j off)) ∙ p)
      (also (λ p. sym (ap (λ o. is_none (emission o kind k)) (node-there j from off)) ∙ p) (also (room-back s here) none)))
  tests-back s (NominationTimerFires j u r) here off kept =
      also (λ p. sym (ap not (hosted u)) ∙ p) (also (λ p. sym (ap not (opened j off)) ∙ p) (also (room-back s here) none))
  tests-back s (BallotTimerFires j u n) here off kept =
      also (λ p. sym (ap not (hosted u)) ∙ p) (also (λ p. sym (ap not (opened j off)) ∙ p) (also (room-back s here) none))
  tests-back s (Reslices j u q) here off kept =
      also (λ p. sym (ap not (hosted u)) ∙ p) (also (λ p. sym (ap not (opened j off)) ∙ p) (also (room-back s here) none))

  -- ---- effects
  act-erased : (j u : ℕ) (e : NodeEvent) → (i == j) ≡ false
      → IsErased i rest lost (act net j u e).0 (act left j u e).0 × ((act left j u e).1 ≡ (act net j u e).1)
  unfolding act
  act-erased j u e off = (
    record {
      number = h.number;
      nodes = h.nodes;
      slots = ap (at_slot (act_in u e) j) h.slots ∙ sym (slots-act (act_in u e) i j net.slots);
      draws = h.draws;
      budgets = h.budgets;
      roster = h.roster;
      events = h.events;
      bytes = h.bytes;
      opens = h.opens;
    },
    ap (outs_at e) (node-there j u off),
  )

  known-erased : (j u : ℕ) (o : Option Sent) → (i == j) ≡ false
      → IsErased i rest lost (act_known net j u o).0 (act_known left j u o).0
      × ((act_known left j u o).1 ≡ (act_known net j u o).1)
  known-erased j u None off = (h, refl)
  known-erased j u (Some e) off = act-erased j u (Take e) off

  pub effect-erased : (e : Step) → is_step_at i e ≡ false
      → IsErased i rest lost (effect net e).0 (effect left e).0 × ((effect left e).1 ≡ (effect net e).1)
  unfolding effect
  effect-erased (Opens j) off = (
    record {
      number = h.number;
      nodes = h.nodes;
      slots = ap (λ ss. ss ++ record { number = j; instances = instances_of_new_slot left.nodes j } ∷ []) h.slots
          ∙ ap (λ hs. slots_but i net.slots ++ record { number = j; instances = instances_of_new_slot hs j } ∷ []) h.nodes
          ∙ sym (slots-push i j net.slots (instances_of_new_slot net.nodes j) off);
      draws = filters-swap (λ d. not (d.slot == i)) (λ d. not (d.slot == j)) left.draws
          ∙ ap (draws_after_opening j) h.draws
          ∙ filters-swap (λ d. not (d.slot == j)) (λ d. not (d.slot == i)) net.draws;
      budgets = h.budgets;
      roster = h.roster;
      events = h.events;
      bytes = h.bytes;
      opens = h.opens;
    },
    refl,
  )
  effect-erased (Closes j) off = (
    record {
      number = h.number;
      nodes = h.nodes;
      slots = ap (slots_but j) h.slots ∙ filters-swap (λ s. not (s.number == j)) (λ s. not (s.number == i)) net.slots;
      draws = h.draws;
      budgets = h.budgets;
      roster = h.roster;
      events = h.events;
      bytes = h.bytes;
      opens = h.opens;
    },
    refl,
  )
  effect-erased (Proposes j u x) off = act-erased j u (Propose x) off
  effect-erased (Delivers u size (Read e)) off = act-erased e.slot u (Take e) off
  effect-erased (Delivers u size (Fault n)) off = (h, refl)
  effect-erased (Hears j u from kind k) off =
      let known = known-erased j u (emission (node_where_open (instances_at net.slots j) from) kind k) off in
      subst
      (λ o. IsErased i rest lost (act_known net j u (emission (node_where_open (instances_at net.slots j) from) kind k)).0
      (act_known left j u (emission o kind k)).0
      × ((act_known left j u (emission o kind k)).1
      ≡ (act_known net j u (emission (node_where_open (instances_at net.slots j) from) kind k)).1))
      (sym (node-there j from off)) known
  effect-erased (NominationTimerFires j u r) off = act-erased j u (NominationTimer r) off
  effect-erased (BallotTimerFires j u n) off = act-erased j u (BallotTimer n) off
  effect-erased (Reslices j u q) off = act-erased j u (Reslice q) off

  -- ---- what is counted
  fits-by : (size events bytes opens : ℕ) (r : Option Roster) (s : Source)
      → events ≡ net.events + on_budgets (moved_source (both_amounts lost rest) s) 1
      → bytes ≡ net.bytes + on_budgets (moved_source (both_amounts lost rest) s) size
      → opens ≡ net.opens + on_opens (moved_source (both_amounts lost rest) s)
      → events + rest.events ≤ net.budgets.events → bytes + rest.bytes ≤ net.budgets.bytes
      → HasOpensFor (opens + rest.opens) (option_map (moved_roster (both_amounts lost rest)) r)
      → IsElsewhere i r s → IsFit size s
  unfolding IsFit
  fits-by size events bytes opens r OfBudgets e b o more-events more-bytes more-opens here =
      (rw (← e) more-events, rw (← b) more-bytes)
  fits-by size events bytes opens None (OfOpens shares) e b o more-events more-bytes more-opens here = absurd here
  fits-by size events bytes opens (Some r) (OfOpens shares) e b o more-events more-bytes more-opens here =
      let most : opens + rest.opens ≤ r.shares.opens + (lost.opens + rest.opens) = more-opens in
      let same : shares.opens ≡ r.shares.opens = ap (λ x. x.opens) here in
      let is : opens ≡ net.opens + 1 = o in
      omega arith
  fits-by size events bytes opens r (OfShare shares j s) e b o more-events more-bytes more-opens here = tt

  fits : (e : Step) → is_step_at i e ≡ false → HasRoomForMore rest (next net e) → IsFit (size_of e) (source left.roster e)
  fits e off room =
      let count = counted-next net e in
      let kept = effect-keeps net e in
      fits-by (size_of e) (next net e).events (next net e).bytes (next net e).opens left.roster (source left.roster e)
      (count.events ∙ ap (λ s. net.events + on_budgets s 1) (moved e))
      (count.bytes ∙ ap (λ s. net.bytes + on_budgets s (size_of e)) (moved e))
      (count.opens ∙ ap (λ s. net.opens + on_opens s) (moved e))
      (subst (λ b. (next net e).events + rest.events ≤ b.events) kept.budgets room.events)
      (subst (λ b. (next net e).bytes + rest.bytes ≤ b.bytes) kept.budgets room.bytes)
      (subst (HasOpensFor ((next net e).opens + rest.opens)) (kept.roster ∙ h.roster) room.opens)
      (source-elsewhere i left.roster e off)

  passes-left : (e : Step) → is_step_at i e ≡ false → HasRoomForMore rest (next net e) → first_that (tests net e) ≡ None
      → first_that (tests left e) ≡ None
  passes-left e off room passes =
      passed (tests-follow (source left.roster e) e (fits e off room) (source-elsewhere i left.roster e off) off)
      (sym (ap (λ s. first_that (tests_on net s e)) (moved e)) ∙ passes)

  passes-net : (e : Step) → is_step_at i e ≡ false → opens_slot e ≡ false → first_that (tests left e) ≡ None
      → first_that (tests net e) ≡ None
  passes-net e off kept passes =
      ap (λ s. first_that (tests_on net s e)) (moved e)
      ∙ passed (tests-back (source left.roster e) e (source-elsewhere i left.roster e off) off kept) passes

-- drawn alike
behind : (a b c d : ℕ) → a ≡ b + c → a + d ≡ (b + d) + c
behind a b c d is = omega arith

draw-erased : (i : ℕ) (rest lost d : Drawn) (s : Source) (size : ℕ) (net left : Net) → IsErased i rest lost net left
    → IsErased i rest lost (with_draw (moved_source d s) size net) (with_draw s size left)
draw-erased i rest lost d OfBudgets size net left h = record {
  number = h.number;
  nodes = h.nodes;
  slots = h.slots;
  draws = h.draws;
  budgets = h.budgets;
  roster = h.roster;
  events = behind net.events left.events lost.events 1 h.events;
  bytes = behind net.bytes left.bytes lost.bytes size h.bytes;
  opens = behind net.opens left.opens lost.opens 0 h.opens;
}
draw-erased i rest lost d (OfOpens shares) size net left h = record {
  number = h.number;
  nodes = h.nodes;
  slots = h.slots;
  draws = h.draws;
  budgets = h.budgets;
  roster = h.roster;
  events = behind net.events left.events lost.events 0 h.events;
  bytes = behind net.bytes left.bytes lost.bytes 0 h.bytes;
  opens = behind net.opens left.opens lost.opens 1 h.opens;
}
draw-erased i rest lost d (OfShare shares j s) size net left h = record {
  number = h.number;
  nodes = h.nodes;
  slots = h.slots;
  draws = draws-behind i (record { slot = j; share = s; size = size } ∷ []) left.draws net.draws h.draws;
  budgets = h.budgets;
  roster = h.roster;
  events = behind net.events left.events lost.events 0 h.events;
  bytes = behind net.bytes left.bytes lost.bytes 0 h.bytes;
  opens = behind net.opens left.opens lost.opens 0 h.opens;
}

next-erased : (i : ℕ) (rest lost : Drawn) (net left : Net) (h : IsErased i rest lost net left) (e : Step)
    → is_step_at i e ≡ false → IsErased i rest lost (next net e) (next left e)
next-erased i rest lost net left h e off =
    subst (λ s. IsErased i rest lost (with_draw s (size_of e) (effect net e).0) (next left e))
    (sym (moved i rest lost net left h e))
    (draw-erased i rest lost (both_amounts lost rest) (source left.roster e) (size_of e) (effect net e).0 (effect left e).0
    (effect-erased i rest lost net left h e off).0)

-- ---- steps
-- a step that is done passed all tests
pub passed-tests : (net : Net) (e : Step) (os : List Out) → (net_step net e).1 ≡ Done os → first_that (tests net e) ≡ None
unfolding net_step
passed-tests net e os done = by (first_that (tests net e)) done
  where
    by : (o : Option Refusal) → (state_and_reply net e o).1 ≡ Done os → o ≡ None
    by None is = refl
    by (Some r) is = cc

pub refused-tests : (net : Net) (e : Step) (r : Refusal) → (net_step net e).1 ≡ Refused r
    → first_that (tests net e) ≡ Some r
unfolding net_step
refused-tests net e r refused = by (first_that (tests net e)) refused
  where
    by : (o : Option Refusal) → (state_and_reply net e o).1 ≡ Refused r → o ≡ Some r
    by None is = cc
    by (Some other) is = cc

pub step-passed : (net : Net) (e : Step) → first_that (tests net e) ≡ None
    → net_step net e ≡ (next net e, Done (effect net e).1)
unfolding net_step
step-passed net e passes = ap (state_and_reply net e) passes

pub step-refused : (net : Net) (e : Step) (r : Refusal) → first_that (tests net e) ≡ Some r
    → net_step net e ≡ (net, Refused r)
unfolding net_step
step-refused net e r is = ap (state_and_reply net e) is

pub erased_nets_step_alike : ErasedNetsStepAlike
erased_nets_step_alike i rest lost net left e os h off done room =
    let passes = passed-tests net e os done in
    let stepped = step-passed net e passes in
    let room-next = subst (λ x. HasRoomForMore rest x.0) stepped room in
    let left-stepped = step-passed left e (passes-left i rest lost net left h e off room-next passes) in (
      ap (λ x. x.1) left-stepped ∙ ap Done (effect-erased i rest lost net left h e off).1 ∙ sym (ap (λ x. x.1) stepped)
          ∙ done,
      subst (λ x. IsErased i rest lost x.0 (net_step left e).0) (sym stepped)
          (subst (λ x. IsErased i rest lost (next net e) x.0) (sym left-stepped)
          (next-erased i rest lost net left h e off)),
    )

pub erased_nets_refuse_alike : ErasedNetsRefuseAlike
erased_nets_refuse_alike i rest lost net left e r h off kept refused =
    let is = refused-tests net e r refused in
    (ap (λ x. x.0) (step-refused net e r is), by is (first_that (tests left e)) refl)
  where
    by : first_that (tests net e) ≡ Some r → (o : Option Refusal) → first_that (tests left e) ≡ o
        → (other : Refusal) × (net_step left e ≡ (left, Refused other))
    by is (Some other) so = (other, step-refused left e other so)
    by is None so = let passes = passes-net i rest lost net left h e off kept so in cc
