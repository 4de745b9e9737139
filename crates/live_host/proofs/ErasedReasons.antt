-- Why a step at another slot is refused without a slot that is erased.
use Rattle.std.specs.Prelude.{◌≡◌, ◌+◌, ◌∷◌, [], ◌==◌, not, nat_lt, ℕ, Bool, true, false, List, Option, Some, None, if◌then◌else◌, is_none, length}
use Rattle.std.proofs.Common.{◌∙◌, refl, sym, ap, true≢false}
use Rattle.scp_types.specs.Statements.{Sent}
use Rattle.scp_types.specs.declared.kind.Kind.{Kind}
use Rattle.scp_types.specs.declared.event.Refusal.{Refusal}
use Rattle.scp_types.specs.declared.event.Refusal.TheVariants.{BytesFull, HostedSender, JournalFull, NoMemory, NoSuchNode, SlotNotOpen}
use Rattle.scp_spec.specs.Networks.{Net, Step, bytes_test, emission, first_that, has_proposal, is_hosted, is_open, room_test, source, tests, tests_on}
use Rattle.scp_spec.specs.Networks.Reading.{Fault, Read}
use Rattle.scp_spec.specs.Networks.Step.{BallotTimerFires, Closes, Delivers, Hears, NominationTimerFires, Opens, Proposes, Reslices}
use Rattle.scp_spec.specs.Rosters.{Share, Shares, Source}
use Rattle.scp_spec.specs.Rosters.Share.{Own, Pair}
use Rattle.scp_spec.specs.Rosters.Source.{OfBudgets, OfOpens, OfShare}
use Rattle.live_feed.specs.declared.answering.Drawn.{Drawn}
use Rattle.live_host.specs.Futures.{moved_shares}
use Rattle.live_host.specs.Erasing.{IsErased, both_amounts, is_step_at, opens_slot}
use Rattle.live_host.proofs.ErasedNets.{IsElsewhere, bytes-back, drawn, heard-there, hosted, moved, moved_source, node-there, opened, room-back, source-elsewhere}

-- ---- reasons
-- what is refused by these tests is refused by those for the same reason
data Refuse : List (Bool × Refusal) → List (Bool × Refusal) → Type 0 where
  last : {t s : Bool × Refusal} → s.1 ≡ t.1 → (t.0 ≡ true → s.0 ≡ true) → Refuse (t ∷ []) (s ∷ [])
  same : {t s : Bool × Refusal} {ts ss : List (Bool × Refusal)}
      → s.0 ≡ t.0 → s.1 ≡ t.1 → Refuse ts ss → Refuse (t ∷ ts) (s ∷ ss)

refused-so : {ts ss : List (Bool × Refusal)} (r : Refusal) → Refuse ts ss → first_that ts ≡ Some r → first_that ss ≡ Some r
refused-so r (last {t} {s} why so) refused = by t.0 refl refused
  where
    by : (b : Bool) → t.0 ≡ b → (if b then Some t.1 else None) ≡ Some r → (if s.0 then Some s.1 else None) ≡ Some r
    by true is first = rw (so is) (ap Some why ∙ first)
    by false is first = cc
refused-so r (same {t} {s} {ts} {ss} here why others) refused = by t.0 refl refused (refused-so r others)
  where
    by : (b : Bool) → t.0 ≡ b → (if b then Some t.1 else first_that ts) ≡ Some r
        → (first_that ts ≡ Some r → first_that ss ≡ Some r) → (if s.0 then Some s.1 else first_that ss) ≡ Some r
    by true is first rest = rw (here ∙ is) (ap Some why ∙ first)
    by false is first rest = rw (here ∙ is) (rest first)

turned-over : (b c : Bool) → (c ≡ false → b ≡ false) → b ≡ true → c ≡ true
turned-over b true f is = refl
turned-over b false f is = absurd (true≢false (sym is ∙ f refl))

room-reason : (d : Drawn) (net left : Net) (s : Source) → (room_test left s).1 ≡ (room_test net (moved_source d s)).1
room-reason d net left OfBudgets = refl
room-reason d net left (OfOpens shares) = refl
room-reason d net left (OfShare shares j s) = refl

-- ---- reasons of all steps
-- bytes that there is no room for may be refused as there is no room for events either
abbrev pub reason_without : Bool → Refusal → Refusal
reason_without true BytesFull = JournalFull
reason_without full r = r

abbrev pub is_full_by : Step → ℕ → ℕ → Bool
is_full_by (Delivers u size (Read e)) used most = not (nat_lt used most)
is_full_by _ used most = false

-- bytes draw on the budgets, whose events are used up
abbrev pub is_full_for : Source → Step → ℕ → ℕ → Bool
is_full_for OfBudgets e used most = is_full_by e used most
is_full_for (OfOpens shares) e used most = false
is_full_for (OfShare shares i s) e used most = false

-- what is refused by some tests is refused by others for this reason
AreRefusedAs : Bool → Option Refusal → Option Refusal → Type 0
AreRefusedAs full o p = (r : Refusal) → o ≡ Some r → p ≡ Some (reason_without full r)

same-reason : (full : Bool) (o p : Option Refusal) → full ≡ false → ((r : Refusal) → o ≡ Some r → p ≡ Some r)
    → AreRefusedAs full o p
unfolding AreRefusedAs
same-reason full o p none so r is = rw none (so r is)

front-reason : (full b c : Bool) (x : Refusal) (o p : Option Refusal) → reason_without full x ≡ x → c ≡ b
    → AreRefusedAs full o p → AreRefusedAs full (if b then Some x else o) (if c then Some x else p)
unfolding AreRefusedAs
front-reason full true c x o p stays is others r refused =
    let why : x ≡ r = cc in
    rw is (ap Some (sym stays ∙ ap (reason_without full) why))
front-reason full false c x o p stays is others r refused = rw is (others r refused)

last-reasons : (a b c d : Bool) → (a ≡ true → c ≡ true) → (b ≡ true → d ≡ true)
    → AreRefusedAs c (if a then Some JournalFull else if b then Some BytesFull else None)
    (if c then Some JournalFull else if d then Some BytesFull else None)
unfolding AreRefusedAs
last-reasons true b c d events bytes r refused =
    let why : JournalFull ≡ r = cc in
    rw (events refl) (ap (λ x. Some (reason_without true x)) why)
last-reasons false true true d events bytes r refused =
    let why : BytesFull ≡ r = cc in
    ap (λ x. Some (reason_without true x)) why
last-reasons false true false d events bytes r refused =
    let why : BytesFull ≡ r = cc in
    rw (bytes refl) (ap (λ x. Some (reason_without false x)) why)
last-reasons false false c d events bytes r refused = cc

-- memory is not wanting where it was not
pub no-memory : (full : Bool) (r : Refusal) → reason_without full r ≡ NoMemory → r ≡ NoMemory
no-memory false r is = is
no-memory true BytesFull is = cc
no-memory true r is = is

stays-no-node : (full : Bool) → reason_without full NoSuchNode ≡ NoSuchNode
stays-no-node true = refl
stays-no-node false = refl

stays-hosted : (full : Bool) → reason_without full HostedSender ≡ HostedSender
stays-hosted true = refl
stays-hosted false = refl

stays-not-open : (full : Bool) → reason_without full SlotNotOpen ≡ SlotNotOpen
stays-not-open true = refl
stays-not-open false = refl

not-full : (s : Source) (e : Step) (used most : ℕ) → is_full_by e used most ≡ false → is_full_for s e used most ≡ false
not-full OfBudgets e used most is = is
not-full (OfOpens shares) e used most is = refl
not-full (OfShare shares i s) e used most is = refl

module _ (i : ℕ) (rest lost : Drawn) (net left : Net) (h : IsErased i rest lost net left) where
  room-refuses : (s : Source) → IsElsewhere i left.roster s
      → Refuse (room_test net (moved_source (both_amounts lost rest) s) ∷ []) (room_test left s ∷ [])
  room-refuses s here =
      last (room-reason (both_amounts lost rest) net left s)
      (turned-over (room_test net (moved_source (both_amounts lost rest) s)).0 (room_test left s).0
      (room-back i rest lost net left h s here))

  hears-on : (s : Source) (j u from : ℕ) (kind : Kind) (k : ℕ) → IsElsewhere i left.roster s → (i == j) ≡ false
      → Refuse (tests_on net (moved_source (both_amounts lost rest) s) (Hears j u from kind k)) (tests_on left s (Hears j u from kind k))
  hears-on s j u from kind k here off =
      same (heard-there i rest lost net left h u from) refl
      (same (ap not (opened i rest lost net left h j off)) refl
      (same (ap (λ o. is_none (emission o kind k)) (node-there i rest lost net left h j from off)) refl
      (room-refuses s here)))

  -- what is not heard is not heard for the same reason
  pub hears-refused : (j u from : ℕ) (kind : Kind) (k : ℕ) (r : Refusal) → (i == j) ≡ false
      → first_that (tests net (Hears j u from kind k)) ≡ Some r → first_that (tests left (Hears j u from kind k)) ≡ Some r
  hears-refused j u from kind k r off refused =
      refused-so r
      (hears-on (source left.roster (Hears j u from kind k)) j u from kind k
      (source-elsewhere i left.roster (Hears j u from kind k) off) off)
      (sym (ap (λ s. first_that (tests_on net s (Hears j u from kind k)))
      (moved i rest lost net left h (Hears j u from kind k))) ∙ refused)

  refuse-too : (s : Source) (e : Step) → is_full_by e left.events left.budgets.events ≡ false
      → Refuse (tests_on net (moved_source (both_amounts lost rest) s) e) (tests_on left s e)
      → AreRefusedAs (is_full_for s e left.events left.budgets.events)
      (first_that (tests_on net (moved_source (both_amounts lost rest) s) e)) (first_that (tests_on left s e))
  refuse-too s e none so =
      same-reason (is_full_for s e left.events left.budgets.events)
      (first_that (tests_on net (moved_source (both_amounts lost rest) s) e)) (first_that (tests_on left s e))
      (not-full s e left.events left.budgets.events none) (λ r. refused-so r so)

  share-room : (shares : Shares) (j : ℕ) (s : Share) → (i == j) ≡ false
      → (room_test left (OfShare shares j s)).0 ≡ (room_test net (OfShare (moved_shares (both_amounts lost rest) shares) j s)).0
  share-room shares j (Own u) here =
      ap (λ ds. not (nat_lt (length ds) shares.own)) (drawn i rest lost net left h j (Own u) here)
  share-room shares j (Pair u from) here =
      ap (λ ds. not (nat_lt (length ds) shares.pair)) (drawn i rest lost net left h j (Pair u from) here)

  bytes-refuse : (s : Source) (u size : ℕ) (e : Sent) → IsElsewhere i left.roster s
      → AreRefusedAs (is_full_for s (Delivers u size (Read e)) left.events left.budgets.events)
      (first_that (room_test net (moved_source (both_amounts lost rest) s) ∷ bytes_test net (moved_source (both_amounts lost rest) s) size ∷ []))
      (first_that (room_test left s ∷ bytes_test left s size ∷ []))
  bytes-refuse OfBudgets u size e here =
      last-reasons (not (nat_lt net.events net.budgets.events)) (nat_lt net.budgets.bytes (net.bytes + size))
      (not (nat_lt left.events left.budgets.events)) (nat_lt left.budgets.bytes (left.bytes + size))
      (turned-over (not (nat_lt net.events net.budgets.events)) (not (nat_lt left.events left.budgets.events))
      (room-back i rest lost net left h OfBudgets here))
      (turned-over (nat_lt net.budgets.bytes (net.bytes + size)) (nat_lt left.budgets.bytes (left.bytes + size))
      (bytes-back i rest lost net left h size OfBudgets here))
  bytes-refuse (OfOpens shares) u size e here =
      same-reason false (first_that (room_test net (moved_source (both_amounts lost rest) (OfOpens shares)) ∷ []))
      (first_that (room_test left (OfOpens shares) ∷ [])) refl (λ r. refused-so r (room-refuses (OfOpens shares) here))
  bytes-refuse (OfShare shares j s) u size e here =
      same-reason false
      (first_that (room_test net (OfShare (moved_shares (both_amounts lost rest) shares) j s)
      ∷ bytes_test net (OfShare (moved_shares (both_amounts lost rest) shares) j s) size ∷ []))
      (first_that (room_test left (OfShare shares j s) ∷ bytes_test left (OfShare shares j s) size ∷ [])) refl
      (λ r. refused-so r
      (same (share-room shares j s here) refl
      (last refl
      (turned-over (bytes_test net (OfShare (moved_shares (both_amounts lost rest) shares) j s) size).0
      (bytes_test left (OfShare shares j s) size).0
      (bytes-back i rest lost net left h size (OfShare shares j s) here)))))

  reasons-on : (s : Source) (e : Step) → IsElsewhere i left.roster s → is_step_at i e ≡ false → opens_slot e ≡ false
      → AreRefusedAs (is_full_for s e left.events left.budgets.events)
      (first_that (tests_on net (moved_source (both_amounts lost rest) s) e)) (first_that (tests_on left s e))
  reasons-on s (Opens j) here off kept = absurd (true≢false kept)
  reasons-on s (Closes j) here off kept =
      refuse-too s (Closes j) refl (same (ap not (opened i rest lost net left h j off)) refl (room-refuses s here))
  reasons-on s (Proposes j u x) here off kept =
      refuse-too s (Proposes j u x) refl
      (same (ap not (hosted i rest lost net left h u)) refl
      (same (ap not (opened i rest lost net left h j off)) refl
      (same refl refl
      (same (ap has_proposal (node-there i rest lost net left h j u off)) refl (room-refuses s here)))))
  reasons-on s (Delivers u size (Read e)) here off kept =
      let full : Bool = is_full_for s (Delivers u size (Read e)) left.events left.budgets.events in
      let d : Drawn = both_amounts lost rest in
      front-reason full (not (is_hosted net u)) (not (is_hosted left u)) NoSuchNode
      (first_that ((is_hosted net e.sender, HostedSender) ∷ (not (is_open net e.slot), SlotNotOpen)
      ∷ room_test net (moved_source d s) ∷ bytes_test net (moved_source d s) size ∷ []))
      (first_that ((is_hosted left e.sender, HostedSender) ∷ (not (is_open left e.slot), SlotNotOpen)
      ∷ room_test left s ∷ bytes_test left s size ∷ []))
      (stays-no-node full) (ap not (hosted i rest lost net left h u))
      (front-reason full (is_hosted net e.sender) (is_hosted left e.sender) HostedSender
      (first_that ((not (is_open net e.slot), SlotNotOpen)
      ∷ room_test net (moved_source d s) ∷ bytes_test net (moved_source d s) size ∷ []))
      (first_that ((not (is_open left e.slot), SlotNotOpen) ∷ room_test left s ∷ bytes_test left s size ∷ []))
      (stays-hosted full) (hosted i rest lost net left h e.sender)
      (front-reason full (not (is_open net e.slot)) (not (is_open left e.slot)) SlotNotOpen
      (first_that (room_test net (moved_source d s) ∷ bytes_test net (moved_source d s) size ∷ []))
      (first_that (room_test left s ∷ bytes_test left s size ∷ []))
      (stays-not-open full) (ap not (opened i rest lost net left h e.slot off)) (bytes-refuse s u size e here)))
  reasons-on s (Delivers u size (Fault n)) here off kept =
      refuse-too s (Delivers u size (Fault n)) refl
      (same (ap not (hosted i rest lost net left h u)) refl (last refl (λ p. p)))
  reasons-on s (Hears j u from kind k) here off kept =
      refuse-too s (Hears j u from kind k) refl (hears-on s j u from kind k here off)
  reasons-on s (NominationTimerFires j u r) here off kept =
      refuse-too s (NominationTimerFires j u r) refl
      (same (ap not (hosted i rest lost net left h u)) refl
      (same (ap not (opened i rest lost net left h j off)) refl (room-refuses s here)))
  reasons-on s (BallotTimerFires j u n) here off kept =
      refuse-too s (BallotTimerFires j u n) refl
      (same (ap not (hosted i rest lost net left h u)) refl
      (same (ap not (opened i rest lost net left h j off)) refl (room-refuses s here)))
  reasons-on s (Reslices j u q) here off kept =
      refuse-too s (Reslices j u q) refl
      (same (ap not (hosted i rest lost net left h u)) refl
      (same (ap not (opened i rest lost net left h j off)) refl (room-refuses s here)))

  -- a step that is refused is refused for this reason
  pub refused-as : (e : Step) (r : Refusal) → is_step_at i e ≡ false → opens_slot e ≡ false
      → first_that (tests net e) ≡ Some r
      → first_that (tests left e)
      ≡ Some (reason_without (is_full_for (source left.roster e) e left.events left.budgets.events) r)
  unfolding AreRefusedAs
  refused-as e r off kept refused =
      reasons-on (source left.roster e) e (source-elsewhere i left.roster e off) off kept r
      (sym (ap (λ s. first_that (tests_on net s e)) (moved i rest lost net left h e)) ∙ refused)
