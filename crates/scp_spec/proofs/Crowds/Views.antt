-- What R sees of a network with a roster, and how that answers the steps that concern R: what one is tested by, what it
-- draws, what it changes. `Networks` stands on it.
use Rattle.scp_types.specs.declared.event.Refusal.{Refusal}
use Rattle.std.proofs.Common.{◌≡◌, ℕ, Bool, true, false, not, ◌&&◌, ◌||◌, ◌==◌, ◌+◌, nat_lt, length, Option, Some, None, List, [], ◌∷◌, ◌++◌, filter, is_some, is_none, ◌∙◌, ap, ap₂}
use Rattle.std.proofs.lemmas.Bool.{and_parts, and_from, eqb-true, false≢true}
use Rattle.scp_types.specs.Trees.{Slices}
use Rattle.scp_types.specs.declared.event.Refusal.TheVariants.{NoSuchNode, SlotNotOpen, SlotOpenAlready, TooManySlots, HostedSender, NotEmitted, JournalFull, BadValue, ProposedAlready, ShareFull, ShareBytesFull}
use Rattle.scp_spec.specs.Sets.{Names, among}
use Rattle.scp_spec.specs.Rosters.{Shares, Roster, Share, Source, Draw, same_share, drawn_on, events_drawn, bytes_drawn, events_of}
use Rattle.scp_spec.specs.Rosters.Share.{Own, Pair}
use Rattle.scp_spec.specs.Rosters.Source.{OfBudgets, OfOpens, OfShare}
use Rattle.scp_spec.specs.Networks.{Net, Step, Reply, emission, has_proposal, is_bad_value, first_that, size_of, on_shares, on_opens}
use Rattle.scp_spec.specs.Networks.Reading.{Read, Fault}
use Rattle.scp_spec.specs.Networks.Step.{Opens, Closes, Proposes, Delivers, Hears, NominationTimerFires, BallotTimerFires, Reslices}
use Rattle.scp_spec.specs.Networks.Reply.{Done, Refused}
use Rattle.scp_spec.specs.Isolation.{kept_step}
use Rattle.scp_spec.proofs.Sets.Lists.{filter_filter}
use Rattle.scp_spec.proofs.Runs.Sights.{Sight, sight, play, reply}
use Rattle.scp_spec.proofs.Runs.Openings.{cast_of}
use Rattle.scp_spec.proofs.Networks.Effects.{numbers, opened_after, left}

-- ---- shares of members
abbrev pub of_members : Names → Share → Bool
of_members R (Own u) = R u
of_members R (Pair u from) = R u && R from

-- a member's draw at the slot
abbrev pub is_ours : Names → ℕ → Draw → Bool
is_ours R i d = (d.slot == i) && of_members R d.share

pub same_share-true : (s t : Share) → same_share s t ≡ true → s ≡ t
same_share-true (Own u) (Own w) h = ap {B = Share} Own (eqb-true u w h)
same_share-true (Own u) (Pair w other) h = absurd (false≢true h)
same_share-true (Pair u from) (Own w) h = absurd (false≢true h)
same_share-true (Pair u from) (Pair w other) h =
    let p = and_parts (u == w) (from == other) h in ap₂ {C = Share} Pair (eqb-true u w p.0) (eqb-true from other p.1)

-- what was drawn on a member's share is among the draws of members
pub drawn-ours : (R : Names) (i j : ℕ) (s : Share) (ds : List Draw) → (j == i) ≡ true → of_members R s ≡ true
    → drawn_on j s (filter (is_ours R i) ds) ≡ drawn_on j s ds
drawn-ours R i j s ds e m = filter_filter (is_ours R i) (λ d. (d.slot == j) && same_share d.share s) (λ d h.
    let p = and_parts (d.slot == j) (same_share d.share s) h in
    and_from (d.slot == i) (of_members R d.share) (ap (λ x. x == i) (eqb-true d.slot j p.0) ∙ e)
    (ap (of_members R) (same_share-true d.share s p.1) ∙ m)) ds

-- ---- what R sees
pub record View : Type 0 where
  pub sight : Sight
  pub numbers : List ℕ
  pub draws : List Draw
  pub opens : ℕ

abbrev pub view : Names → ℕ → Net → View
view R i net =
    record {
      sight = sight R i net;
      numbers = numbers net.slots;
      draws = filter (is_ours R i) net.draws;
      opens = net.opens;
    }

-- what does not change in a run
pub record Frame : Type 0 where
  pub cast : ℕ → Option Slices
  pub shares : Shares
  pub slots : ℕ

abbrev pub frame : Names → Roster → Net → Frame
frame R r net = record { cast = cast_of R net.nodes; shares = r.shares; slots = net.budgets.slots }

-- what a step that concerns R draws on
abbrev pub share_of : Shares → Step → Source
share_of shares (Opens j) = OfOpens shares
share_of shares (Closes j) = OfOpens shares
share_of shares (Proposes j u x) = OfShare shares j (Own u)
share_of shares (Delivers u size (Read e)) = OfShare shares e.slot (Pair u e.sender)
share_of shares (Delivers u size (Fault n)) = OfBudgets
share_of shares (Hears j u from kind k) = OfShare shares j (Pair u from)
share_of shares (NominationTimerFires j u r) = OfShare shares j (Own u)
share_of shares (BallotTimerFires j u n) = OfShare shares j (Own u)
share_of shares (Reslices j u q) = OfShare shares j (Own u)

abbrev pub full_in : View → Source → Bool × Refusal
full_in w OfBudgets = (false, JournalFull)
full_in w (OfOpens shares) = (not (nat_lt w.opens shares.opens), ShareFull)
full_in w (OfShare shares j s) = (not (nat_lt (events_drawn j s w.draws) (events_of shares s)), ShareFull)

abbrev pub bytes_full_in : View → Source → ℕ → Bool × Refusal
bytes_full_in w OfBudgets size = (false, ShareBytesFull)
bytes_full_in w (OfOpens shares) size = (false, ShareBytesFull)
bytes_full_in w (OfShare shares j s) size = (nat_lt shares.bytes (bytes_drawn j s w.draws + size), ShareBytesFull)

-- the tests of a step that concerns R
abbrev pub tests_in : Frame → View → Step → List (Bool × Refusal)
tests_in f w (Opens j) =
    (among w.numbers j, SlotOpenAlready) ∷ (not (nat_lt (length w.numbers) f.slots), TooManySlots) ∷ full_in w
    (share_of f.shares (Opens j)) ∷ []
tests_in f w (Closes j) = (not (among w.numbers j), SlotNotOpen) ∷ full_in w (share_of f.shares (Closes j)) ∷ []
tests_in f w (Proposes j u x) =
    (not (is_some (f.cast u)), NoSuchNode) ∷ (not (among w.numbers j), SlotNotOpen) ∷ (is_bad_value x, BadValue) ∷
    (has_proposal (w.sight u), ProposedAlready) ∷ full_in w (share_of f.shares (Proposes j u x)) ∷ []
tests_in f w (Delivers u size (Fault n)) = []
tests_in f w (Delivers u size (Read e)) =
    (not (is_some (f.cast u)), NoSuchNode) ∷ (is_some (f.cast e.sender), HostedSender) ∷ (
      not (among w.numbers e.slot),
      SlotNotOpen,
    ) ∷ full_in w (share_of f.shares (Delivers u size (Read e))) ∷ bytes_full_in w
    (share_of f.shares (Delivers u size (Read e))) size ∷ []
tests_in f w (Hears j u from kind k) =
    (not (is_some (f.cast u)) || not (is_some (f.cast from)) || (u == from), NoSuchNode) ∷ (
      not (among w.numbers j),
      SlotNotOpen,
    ) ∷ (is_none (emission (w.sight from) kind k), NotEmitted) ∷ full_in w
    (share_of f.shares (Hears j u from kind k)) ∷ []
tests_in f w (NominationTimerFires j u r) =
    (not (is_some (f.cast u)), NoSuchNode) ∷ (not (among w.numbers j), SlotNotOpen) ∷ full_in w
    (share_of f.shares (NominationTimerFires j u r)) ∷ []
tests_in f w (BallotTimerFires j u n) =
    (not (is_some (f.cast u)), NoSuchNode) ∷ (not (among w.numbers j), SlotNotOpen) ∷ full_in w
    (share_of f.shares (BallotTimerFires j u n)) ∷ []
tests_in f w (Reslices j u q) =
    (not (is_some (f.cast u)), NoSuchNode) ∷ (not (among w.numbers j), SlotNotOpen) ∷ full_in w
    (share_of f.shares (Reslices j u q)) ∷ []

-- the node of a step
abbrev pub node_of : Step → ℕ
node_of (Opens j) = 0
node_of (Closes j) = 0
node_of (Proposes j u x) = u
node_of (Delivers u size d) = u
node_of (Hears j u from kind k) = u
node_of (NominationTimerFires j u r) = u
node_of (BallotTimerFires j u n) = u
node_of (Reslices j u q) = u

-- what a step that is not refused changes of what R sees
abbrev pub next_in : Names → ℕ → Frame → View → Step → View
next_in R i f w e = record {
  sight = play f.cast i w.sight (kept_step R i e);
  numbers = opened_after e w.numbers;
  draws = on_shares (share_of f.shares e) (size_of e) ++ left e w.draws;
  opens = w.opens + on_opens (share_of f.shares e);
}

abbrev pub replied_in : Names → ℕ → Frame → View → Step → Option Refusal → View × Reply
replied_in R i f w e (Some n) = (w, Refused n)
replied_in R i f w e None = (next_in R i f w e, Done (reply w.sight (kept_step R i e) (node_of e)))

abbrev pub step_in : Names → ℕ → Frame → View → Step → View × Reply
step_in R i f w e = replied_in R i f w e (first_that (tests_in f w e))

-- the replies to steps that concern R
abbrev pub replies_in : Names → ℕ → Frame → View → List Step → List Reply
replies_in R i f w [] = []
replies_in R i f w (e ∷ es) = (step_in R i f w e).1 ∷ replies_in R i f (step_in R i f w e).0 es
