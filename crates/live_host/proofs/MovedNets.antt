-- A network with more in its budgets, and as much more used up, answers a step alike.
use Rattle.std.specs.Prelude.{◌≡◌, ◌+◌, ◌∷◌, [], ℕ, Bool, true, false, not, nat_lt, List, Option, Some, None, option_map, if◌then◌else◌, length, is_none, ◌||◌, ◌==◌}
use Rattle.std.proofs.Common.{◌∙◌, ◌<◌, ◌≤◌, refl, sym, ap, arith, ltb-true, ltb-false, lt-ltb, le-ltb}
use Rattle.scp_types.specs.Statements.{Sent}
use Rattle.scp_types.specs.declared.event.Refusal.{Refusal}
use Rattle.scp_types.specs.declared.event.Refusal.TheVariants.{SlotOpenAlready, TooManySlots, BadValue, ProposedAlready, HostedSender, NoSuchNode, NotEmitted, JournalFull, ShareFull, BytesFull}
use Rattle.scp_spec.specs.Networks.{Net, Step, act, act_known, bytes_test, effect, emission, first_that, has_proposal, hosted_test, instances_at, is_bad_value, is_hosted, is_open, net_step, node_where_open, open_test, room_test, size_of, source, source_by, state_and_reply, tests, tests_on, with_draw}
use Rattle.scp_spec.specs.Networks.Reading.{Fault, Read}
use Rattle.scp_spec.specs.Networks.Reply.{Done}
use Rattle.scp_spec.specs.Networks.Step.{BallotTimerFires, Closes, Delivers, Hears, NominationTimerFires, Opens, Proposes, Reslices}
use Rattle.scp_spec.specs.Rosters.{Draw, Roster, Share, Source, is_on, share_or_budgets}
use Rattle.scp_spec.specs.Rosters.Share.{Own, Pair}
use Rattle.scp_spec.specs.Rosters.Source.{OfBudgets, OfOpens, OfShare}
use Rattle.live_feed.specs.declared.answering.Drawn.{Drawn}
use Rattle.live_host.specs.Futures.{MovedNetsStepAlike, moved_budgets, moved_net, moved_roster, moved_shares}

-- ---- numbers
-- so much more on both sides changes no comparison
below-moves : (d a b : ℕ) → nat_lt (a + d) (b + d) ≡ nat_lt a b
below-moves d a b = by (nat_lt a b) refl
  where
    by : (is : Bool) → nat_lt a b ≡ is → nat_lt (a + d) (b + d) ≡ nat_lt a b
    by true is = let less : a < b = ltb-true a b is in lt-ltb (a + d) (b + d) (omega arith) ∙ sym is
    by false is = let least : b ≤ a = ltb-false a b is in le-ltb (a + d) (b + d) (omega arith) ∙ sym is

behind : (a d n : ℕ) → (a + d) + n ≡ (a + n) + d
behind a d n = omega arith

-- ---- sources
-- the source, where so much more may be opened and closed
abbrev moved_source : Drawn → Source → Source
moved_source d OfBudgets = OfBudgets
moved_source d (OfOpens shares) = OfOpens (moved_shares d shares)
moved_source d (OfShare shares i s) = OfShare (moved_shares d shares) i s

share-moves : (d : Drawn) (r : Roster) (i : ℕ) (s : Share)
    → share_or_budgets (moved_roster d r) i s ≡ moved_source d (share_or_budgets r i s)
share-moves d r i s = by (is_on r.names s)
  where
    by : (on : Bool) → (if on then OfShare (moved_shares d r.shares) i s else OfBudgets)
        ≡ moved_source d (if on then OfShare r.shares i s else OfBudgets)
    by true = refl
    by false = refl

source-by-moves : (d : Drawn) (r : Roster) (e : Step) → source_by (moved_roster d r) e ≡ moved_source d (source_by r e)
source-by-moves d r (Opens i) = refl
source-by-moves d r (Closes i) = refl
source-by-moves d r (Proposes i u x) = share-moves d r i (Own u)
source-by-moves d r (Delivers u size (Read e)) = share-moves d r e.slot (Pair u e.sender)
source-by-moves d r (Delivers u size (Fault n)) = refl
source-by-moves d r (Hears i u from kind k) = share-moves d r i (Pair u from)
source-by-moves d r (NominationTimerFires i u n) = share-moves d r i (Own u)
source-by-moves d r (BallotTimerFires i u n) = share-moves d r i (Own u)
source-by-moves d r (Reslices i u q) = share-moves d r i (Own u)

source-moves : (d : Drawn) (r : Option Roster) (e : Step)
    → source (option_map (moved_roster d) r) e ≡ moved_source d (source r e)
source-moves d None e = refl
source-moves d (Some r) e = source-by-moves d r e

-- ---- tests
room-moves : (d : Drawn) (net : Net) (s : Source) → room_test (moved_net d net) (moved_source d s) ≡ room_test net s
room-moves d net OfBudgets =
    ap (λ b. (not b, JournalFull)) (below-moves d.events net.events net.budgets.events)
room-moves d net (OfOpens shares) = ap (λ b. (not b, ShareFull)) (below-moves d.opens net.opens shares.opens)
room-moves d net (OfShare shares i (Own u)) = refl
room-moves d net (OfShare shares i (Pair u from)) = refl

bytes-moves : (d : Drawn) (net : Net) (s : Source) (size : ℕ)
    → bytes_test (moved_net d net) (moved_source d s) size ≡ bytes_test net s size
bytes-moves d net OfBudgets size =
    ap (λ b. (b, BytesFull))
    (ap (λ n. nat_lt (net.budgets.bytes + d.bytes) n) (behind net.bytes d.bytes size)
    ∙ below-moves d.bytes net.budgets.bytes (net.bytes + size))
bytes-moves d net (OfOpens shares) size = refl
bytes-moves d net (OfShare shares i s) size = refl

tests-on-move : (d : Drawn) (net : Net) (s : Source) (e : Step)
    → tests_on (moved_net d net) (moved_source d s) e ≡ tests_on net s e
tests-on-move d net s (Opens i) =
    ap (λ t. (is_open net i, SlotOpenAlready) ∷ (
      not (nat_lt (length net.slots) net.budgets.slots),
      TooManySlots,
    ) ∷ t ∷ []) (room-moves d net s)
tests-on-move d net s (Closes i) = ap (λ t. open_test net i ∷ t ∷ []) (room-moves d net s)
tests-on-move d net s (Proposes i u x) =
    ap (λ t. hosted_test net u ∷ open_test net i ∷ (is_bad_value x, BadValue) ∷ (
      has_proposal (node_where_open (instances_at net.slots i) u),
      ProposedAlready,
    ) ∷ t ∷ []) (room-moves d net s)
tests-on-move d net s (Delivers u size (Fault n)) = refl
tests-on-move d net s (Delivers u size (Read e)) =
    ap (λ t. hosted_test net u ∷ (
      is_hosted net e.sender,
      HostedSender,
    ) ∷ open_test net e.slot ∷ t ∷ bytes_test (moved_net d net) (moved_source d s) size ∷ []) (room-moves d net s)
    ∙ ap (λ t. hosted_test net u ∷ (
      is_hosted net e.sender,
      HostedSender,
    ) ∷ open_test net e.slot ∷ room_test net s ∷ t ∷ []) (bytes-moves d net s size)
tests-on-move d net s (Hears i u from kind k) =
    ap (λ t. (not (is_hosted net u) || not (is_hosted net from) || (u == from), NoSuchNode) ∷ open_test net i ∷
    (is_none (emission (node_where_open (instances_at net.slots i) from) kind k), NotEmitted) ∷ t ∷ []) (room-moves d net s)
tests-on-move d net s (NominationTimerFires i u r) =
    ap (λ t. hosted_test net u ∷ open_test net i ∷ t ∷ []) (room-moves d net s)
tests-on-move d net s (BallotTimerFires i u r) =
    ap (λ t. hosted_test net u ∷ open_test net i ∷ t ∷ []) (room-moves d net s)
tests-on-move d net s (Reslices i u q) =
    ap (λ t. hosted_test net u ∷ open_test net i ∷ t ∷ []) (room-moves d net s)

pub tests-move : (d : Drawn) (net : Net) (e : Step) → tests (moved_net d net) e ≡ tests net e
tests-move d net e =
    ap (λ s. tests_on (moved_net d net) s e) (source-moves d net.roster e)
    ∙ tests-on-move d net (source net.roster e) e

-- ---- effects
known-moves : (d : Drawn) (net : Net) (i u : ℕ) (o : Option Sent)
    → act_known (moved_net d net) i u o ≡ (moved_net d (act_known net i u o).0, (act_known net i u o).1)
unfolding act
known-moves d net i u None = refl
known-moves d net i u (Some e) = refl

pub effect-moves : (d : Drawn) (net : Net) (e : Step)
    → effect (moved_net d net) e ≡ (moved_net d (effect net e).0, (effect net e).1)
unfolding effect act
effect-moves d net (Opens i) = refl
effect-moves d net (Closes i) = refl
effect-moves d net (Proposes i u x) = refl
effect-moves d net (Delivers u size (Read e)) = refl
effect-moves d net (Delivers u size (Fault n)) = refl
effect-moves d net (Hears i u from kind k) =
    known-moves d net i u (emission (node_where_open (instances_at net.slots i) from) kind k)
effect-moves d net (NominationTimerFires i u r) = refl
effect-moves d net (BallotTimerFires i u n) = refl
effect-moves d net (Reslices i u q) = refl

-- ---- what is counted
-- the same network with other counts
abbrev counted : Drawn → Net → List Draw → ℕ → ℕ → ℕ → Net
counted d net draws events bytes opens = record net {
  budgets = moved_budgets d net.budgets;
  roster = option_map (moved_roster d) net.roster;
  events = events;
  bytes = bytes;
  opens = opens;
  draws = draws;
}

counted-alike : (d : Drawn) (net : Net) (draws : List Draw) (a b c : ℕ)
    → counted d net draws ((net.events + d.events) + a) ((net.bytes + d.bytes) + b) ((net.opens + d.opens) + c)
    ≡ counted d net draws ((net.events + a) + d.events) ((net.bytes + b) + d.bytes) ((net.opens + c) + d.opens)
counted-alike d net draws a b c =
    ap (λ n. counted d net draws n ((net.bytes + d.bytes) + b) ((net.opens + d.opens) + c)) (behind net.events d.events a)
    ∙ ap (λ n. counted d net draws ((net.events + a) + d.events) n ((net.opens + d.opens) + c)) (behind net.bytes d.bytes b)
    ∙ ap (counted d net draws ((net.events + a) + d.events) ((net.bytes + b) + d.bytes)) (behind net.opens d.opens c)

draw-moves : (d : Drawn) (s : Source) (size : ℕ) (net : Net)
    → with_draw (moved_source d s) size (moved_net d net) ≡ moved_net d (with_draw s size net)
draw-moves d OfBudgets size net = counted-alike d net net.draws 1 size 0
draw-moves d (OfOpens shares) size net = counted-alike d net net.draws 0 0 1
draw-moves d (OfShare shares i s) size net =
    counted-alike d net (record { slot = i; share = s; size = size } ∷ net.draws) 0 0 0

-- ---- steps
reply-moves : (d : Drawn) (net : Net) (e : Step) (o : Option Refusal)
    → state_and_reply (moved_net d net) e o ≡ (moved_net d (state_and_reply net e o).0, (state_and_reply net e o).1)
reply-moves d net e (Some r) = refl
reply-moves d net e None =
    ap (λ did. (with_draw (source (moved_net d net).roster e) (size_of e) did.0, Done did.1)) (effect-moves d net e)
    ∙ ap (λ s. (with_draw s (size_of e) (moved_net d (effect net e).0), Done (effect net e).1)) (source-moves d net.roster e)
    ∙ ap (λ now. (now, Done (effect net e).1)) (draw-moves d (source net.roster e) (size_of e) (effect net e).0)

pub moved_nets_step_alike : MovedNetsStepAlike
unfolding net_step
moved_nets_step_alike d net e =
    ap (λ ts. state_and_reply (moved_net d net) e (first_that ts)) (tests-move d net e)
    ∙ reply-moves d net e (first_that (tests net e))
