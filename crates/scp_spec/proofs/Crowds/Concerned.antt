-- A step that concerns R is tested by what R sees, and draws on a member's share. `Networks` stands on it.
use Rattle.scp_types.specs.declared.event.Refusal.{Refusal}
use Rattle.std.proofs.Common.{◌≡◌, ℕ, Bool, true, false, not, ◌&&◌, ◌||◌, ◌==◌, ◌+◌, nat_lt, length, Option, Some, None, List, [], ◌∷◌, ◌++◌, filter, option_map, if◌then◌else◌, is_some, is_none, refl, sym, ◌∙◌, ap, sum_by}
use Rattle.std.proofs.lemmas.List.{length-map}
use Rattle.std.proofs.lemmas.Bool.{and_parts, and_from, eqb-true, false≢true, true≢false}
use Rattle.scp_types.specs.declared.kind.Kind.{Kind}
use Rattle.scp_types.specs.declared.event.Refusal.TheVariants.{NoSuchNode, SlotNotOpen, SlotOpenAlready, TooManySlots, HostedSender, NotEmitted, BadValue, ProposedAlready, ShareFull, ShareBytesFull}
use Rattle.scp_spec.specs.Sets.{Names, among}
use Rattle.scp_spec.specs.Rosters.{Shares, Roster, Share, Source, Draw, is_on, share_or_budgets, events_of}
use Rattle.scp_spec.specs.Rosters.Share.{Own, Pair}
use Rattle.scp_spec.specs.Rosters.Source.{OfBudgets, OfOpens, OfShare}
use Rattle.scp_spec.specs.Networks.{Instance, Slot, Net, Step, slices_of, instances_at, node_where_open, emission, has_proposal, is_hosted, is_bad_value, source, source_by, hosted_test, open_test, room_test, bytes_test, tests, tests_on, size_of, on_shares}
use Rattle.scp_spec.specs.Networks.Reading.{Read, Fault}
use Rattle.scp_spec.specs.Networks.Step.{Opens, Closes, Proposes, Delivers, Hears, NominationTimerFires, BallotTimerFires, Reslices}
use Rattle.scp_spec.specs.Isolation.{KeptStep, when_kept}
use Rattle.scp_spec.specs.Submissions.{concerns}
use Rattle.scp_spec.proofs.Sets.Tests.{and_joined}
use Rattle.scp_spec.proofs.Sets.Lists.{filter_swap}
use Rattle.scp_spec.proofs.Runs.Sights.{sight, cut_instance}
use Rattle.scp_spec.proofs.Runs.Openings.{cast_of}
use Rattle.scp_spec.proofs.Runs.Hearings.{emission-cut}
use Rattle.scp_spec.proofs.Networks.Effects.{numbers, left}
use Rattle.scp_spec.proofs.Crowds.Views.{bytes_full_in, drawn-ours, frame, full_in, is_ours, of_members, share_of, tests_in, view}

pub open-same : (ss : List Slot) (j : ℕ) → is_some (instances_at ss j) ≡ among (numbers ss) j
open-same [] j = refl
open-same (s ∷ ss) j = go (s.number == j) (open-same ss j)
  where
    go : (b : Bool) → is_some (instances_at ss j) ≡ among (numbers ss) j
        → is_some (if b then Some s.instances else instances_at ss j) ≡ (b || among (numbers ss) j)
    go true e = refl
    go false e = e

pub length-numbers : (ss : List Slot) → length ss ≡ length (numbers ss)
length-numbers ss = sym (length-map ss (λ s. s.number))

proposal-cut : (R : Names) (o : Option Instance) → has_proposal o ≡ has_proposal (option_map (cut_instance R) o)
proposal-cut R None = refl
proposal-cut R (Some p) = refl

module _ (R : Names) (i : ℕ) (net : Net) where
  hosted : (u : ℕ) → R u ≡ true → is_hosted net u ≡ is_some (cast_of R net.nodes u)
  hosted u r = ap (λ b. is_some (if b then slices_of net.nodes u else None)) (sym r)

  seen_at : (j u : ℕ) → (j == i) ≡ true → R u ≡ true
      → sight R i net u ≡ option_map (cut_instance R) (node_where_open (instances_at net.slots j) u)
  seen_at j u e r = ap (λ b. if b then option_map (cut_instance R) (node_where_open (instances_at net.slots i) u) else None) r
      ∙ ap (λ x. option_map (cut_instance R) (node_where_open (instances_at net.slots x) u)) (sym (eqb-true j i e))

  proposal : (j u : ℕ) → (j == i) ≡ true → R u ≡ true
      → has_proposal (node_where_open (instances_at net.slots j) u) ≡ has_proposal (sight R i net u)
  proposal j u e r =
      proposal-cut R (node_where_open (instances_at net.slots j) u) ∙ ap has_proposal (sym (seen_at j u e r))

  emitted : (j u : ℕ) (kind : Kind) (k : ℕ) → (j == i) ≡ true → R u ≡ true
      → emission (node_where_open (instances_at net.slots j) u) kind k ≡ emission (sight R i net u) kind k
  emitted j u kind k e r =
      sym (emission-cut R (node_where_open (instances_at net.slots j) u) kind k)
      ∙ ap (λ o. emission o kind k) (sym (seen_at j u e r))

  full : (shares : Shares) (j : ℕ) (s : Share) → (j == i) ≡ true → of_members R s ≡ true
      → room_test net (OfShare shares j s) ≡ full_in (view R i net) (OfShare shares j s)
  full shares j s e m =
      ap {B = Bool × Refusal} (λ ds. (not (nat_lt (length ds) (events_of shares s)), ShareFull))
      (sym (drawn-ours R i j s net.draws e m))

  bytes_full : (shares : Shares) (j : ℕ) (s : Share) (size : ℕ) → (j == i) ≡ true → of_members R s ≡ true
      → bytes_test net (OfShare shares j s) size ≡ bytes_full_in (view R i net) (OfShare shares j s) size
  bytes_full shares j s size e m =
      ap {B = Bool × Refusal} (λ ds. (nat_lt shares.bytes (sum_by (λ d. d.size) ds + size), ShareBytesFull))
      (sym (drawn-ours R i j s net.draws e m))

-- what a step draws on that concerns R, where R lies in the roster
module _ (R : Names) (i : ℕ) (r : Roster) (on : (u : ℕ) → R u ≡ true → among r.names u ≡ true) where
  share_or_budgets-ours : (j : ℕ) (s : Share) → of_members R s ≡ true → share_or_budgets r j s ≡ OfShare r.shares j s
  share_or_budgets-ours j s m = ap (λ b. if b then OfShare r.shares j s else OfBudgets) (is_there s m)
    where
      is_there : (s : Share) → of_members R s ≡ true → is_on r.names s ≡ true
      is_there (Own u) m = on u m
      is_there (Pair u from) m =
          let p = and_parts (R u) (R from) m in and_from (among r.names u) (among r.names from) (on u p.0) (on from p.1)

  -- a step that concerns R, tested by what R sees
  pub record Concerned (net : Net) (e : Step) : Type 0 where
    pub draws : source net.roster e ≡ share_of r.shares e
    pub tested : tests net e ≡ tests_in (frame R r net) (view R i net) e

pub kept-true : (b : Bool) (k : KeptStep) → is_some (when_kept b k) ≡ true → b ≡ true
kept-true true k h = refl
kept-true false k h = absurd (false≢true h)

pub kept-false : (b : Bool) (k : KeptStep) → is_some (when_kept b k) ≡ false → b ≡ false
kept-false true k h = absurd (true≢false h)
kept-false false k h = refl

module _ (R : Names) (i : ℕ) (r : Roster) (on : (u : ℕ) → R u ≡ true → among r.names u ≡ true) where
  -- it draws on a member's share
  draws-ours : (net : Net) → net.roster ≡ Some r → (e : Step) (j : ℕ) (s : Share)
      → source_by r e ≡ share_or_budgets r j s
      → of_members R s ≡ true → source net.roster e ≡ OfShare r.shares j s
  draws-ours net h e j s is m = ap (λ o. source o e) h ∙ (is ∙ share_or_budgets-ours R i r on j s m)

  -- a member's own step is tested for no more than the member, the slot and the share
  own-tested : (net : Net) (j u : ℕ) → (j == i) ≡ true → R u ≡ true → (s : Source) → s ≡ OfShare r.shares j (Own u)
      → hosted_test net u ∷ open_test net j ∷ room_test net s ∷ []
      ≡ (not (is_some (cast_of R net.nodes u)), NoSuchNode) ∷ (not (among (numbers net.slots) j), SlotNotOpen)
      ∷ full_in (view R i net) (OfShare r.shares j (Own u)) ∷ []
  own-tested net j u e m s d =
      ap (λ z. hosted_test net u ∷ open_test net j ∷ room_test net z ∷ []) d
      ∙ (λ k. (not (hosted R i net u m k), NoSuchNode) ∷ (not (open-same net.slots j k), SlotNotOpen)
      ∷ full R i net r.shares j (Own u) e m k ∷ [])

  pub as_concerned : (net : Net) → net.roster ≡ Some r → (e : Step) → concerns R i e ≡ true → Concerned R i r on net e
  as_concerned net h (Opens j) c =
      let d : source net.roster (Opens j) ≡ OfOpens r.shares = ap (λ o. source o (Opens j)) h in
      record {
        draws = d;
        tested = ap (λ s. tests_on net s (Opens j)) d
            ∙ (λ k. (open-same net.slots j k, SlotOpenAlready) ∷
            (not (nat_lt (length-numbers net.slots k) net.budgets.slots), TooManySlots) ∷
            (not (nat_lt net.opens r.shares.opens), ShareFull) ∷ []);
      }
  as_concerned net h (Closes j) c =
      let d : source net.roster (Closes j) ≡ OfOpens r.shares = ap (λ o. source o (Closes j)) h in
      record {
        draws = d;
        tested = ap (λ s. tests_on net s (Closes j)) d
            ∙ (λ k. (not (open-same net.slots j k), SlotNotOpen) ∷ (
              not (nat_lt net.opens r.shares.opens),
              ShareFull,
            ) ∷ []);
      }
  as_concerned net h (Proposes j u x) c =
      let m = and_parts (j == i) (R u) (kept-true ((j == i) && R u) _ c) in
      let d = draws-ours net h (Proposes j u x) j (Own u) refl m.1 in
      record {
        draws = d;
        tested = ap (λ s. tests_on net s (Proposes j u x)) d
            ∙ (λ k. (not (hosted R i net u m.1 k), NoSuchNode) ∷ (not (open-same net.slots j k), SlotNotOpen) ∷
            (is_bad_value x, BadValue) ∷ (proposal R i net j u m.0 m.1 k, ProposedAlready) ∷ full R i net r.shares j
            (Own u) m.0 m.1 k ∷ []);
      }
  as_concerned net h (Delivers u size (Fault n)) c = absurd (false≢true c)
  as_concerned net h (Delivers u size (Read e)) c =
      let p = and_parts ((e.slot == i) && R u) (R e.sender) (kept-true ((e.slot == i) && R u && R e.sender) _ c) in
      let m = and_parts (e.slot == i) (R u) p.0 in
      let both : (R u && R e.sender) ≡ true = and_from (R u) (R e.sender) m.1 p.1 in
      let d = draws-ours net h (Delivers u size (Read e)) e.slot (Pair u e.sender) refl both in
      record {
        draws = d;
        tested = ap (λ s. tests_on net s (Delivers u size (Read e))) d
            ∙ (λ k. (not (hosted R i net u m.1 k), NoSuchNode) ∷ (hosted R i net e.sender p.1 k, HostedSender) ∷
            (not (open-same net.slots e.slot k), SlotNotOpen)
            ∷ full R i net r.shares e.slot (Pair u e.sender) m.0 both k ∷ bytes_full R i net r.shares e.slot
            (Pair u e.sender) size m.0 both k ∷ []);
      }
  as_concerned net h (Hears j u from kind n) c =
      let p = and_parts ((j == i) && R u) (R from) (kept-true ((j == i) && R u && R from) _ c) in
      let m = and_parts (j == i) (R u) p.0 in
      let both : (R u && R from) ≡ true = and_from (R u) (R from) m.1 p.1 in
      let d = draws-ours net h (Hears j u from kind n) j (Pair u from) refl both in
      record {
        draws = d;
        tested = ap (λ s. tests_on net s (Hears j u from kind n)) d
            ∙ (λ k. (not (hosted R i net u m.1 k) || not (hosted R i net from p.1 k) || (u == from), NoSuchNode) ∷
            (not (open-same net.slots j k), SlotNotOpen) ∷
            (is_none (emitted R i net j from kind n m.0 p.1 k), NotEmitted)
            ∷ full R i net r.shares j (Pair u from) m.0 both k ∷ []);
      }
  as_concerned net h (NominationTimerFires j u n) c =
      let m = and_parts (j == i) (R u) (kept-true ((j == i) && R u) _ c) in
      let d = draws-ours net h (NominationTimerFires j u n) j (Own u) refl m.1 in
      record { draws = d; tested = own-tested net j u m.0 m.1 (source net.roster (NominationTimerFires j u n)) d }
  as_concerned net h (BallotTimerFires j u n) c =
      let m = and_parts (j == i) (R u) (kept-true ((j == i) && R u) _ c) in
      let d = draws-ours net h (BallotTimerFires j u n) j (Own u) refl m.1 in
      record { draws = d; tested = own-tested net j u m.0 m.1 (source net.roster (BallotTimerFires j u n)) d }
  as_concerned net h (Reslices j u q) c =
      let m = and_parts (j == i) (R u) (kept-true ((j == i) && R u) _ c) in
      let d = draws-ours net h (Reslices j u q) j (Own u) refl m.1 in
      record { draws = d; tested = own-tested net j u m.0 m.1 (source net.roster (Reslices j u q)) d }

  -- ---- what an applied step that concerns R draws
  pub ours-left : (e : Step) → concerns R i e ≡ true → (ds : List Draw)
      → filter (is_ours R i) (on_shares (share_of r.shares e) (size_of e) ++ left e ds)
      ≡ on_shares (share_of r.shares e) (size_of e) ++ left e (filter (is_ours R i) ds)
  ours-left (Opens j) c ds = filter_swap (is_ours R i) (λ d. not (d.slot == j)) ds
  ours-left (Closes j) c ds = refl
  ours-left (Proposes j u x) c ds = rw (kept-true ((j == i) && R u) _ c) refl
  ours-left (Delivers u size (Fault n)) c ds = absurd (false≢true c)
  ours-left (Delivers u size (Read e)) c ds =
      rw (and_joined (e.slot == i) (R u) (R e.sender) ∙ kept-true ((e.slot == i) && R u && R e.sender) _ c) refl
  ours-left (Hears j u from kind n) c ds =
      rw (and_joined (j == i) (R u) (R from) ∙ kept-true ((j == i) && R u && R from) _ c) refl
  ours-left (NominationTimerFires j u n) c ds = rw (kept-true ((j == i) && R u) _ c) refl
  ours-left (BallotTimerFires j u n) c ds = rw (kept-true ((j == i) && R u) _ c) refl
  ours-left (Reslices j u q) c ds = rw (kept-true ((j == i) && R u) _ c) refl
