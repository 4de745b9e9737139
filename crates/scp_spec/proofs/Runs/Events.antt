-- Each kind of event, as R sees it: the machine of the kept steps follows them all. `Crowds` and `Networks` stand on
-- it.
use Rattle.scp_types.specs.declared.event.NodeEvent.{NodeEvent}
use Rattle.std.proofs.Common.{◌≡◌, ℕ, Bool, true, false, not, ◌&&◌, ◌==◌, Option, Some, None, sym, ap, subst, inl, inr}
use Rattle.std.proofs.lemmas.Bool.{cases_Bool, and_parts, and_from, and_left, and_right, or_right, eqb-true}
use Rattle.scp_types.specs.Trees.{Slices}
use Rattle.scp_types.specs.Statements.{Sent}
use Rattle.scp_spec.specs.Sets.{Names, within}
use Rattle.scp_spec.specs.Satisfaction.{names}
use Rattle.scp_types.specs.declared.event.NodeEvent.TheVariants.{Propose, Take, NominationTimer, BallotTimer, Reslice}
use Rattle.scp_spec.specs.Networks.{Net, Step, instances_at, act, effect}
use Rattle.scp_spec.specs.Networks.Reading.{Read, Fault}
use Rattle.scp_spec.specs.Networks.Step.{Opens, Closes, Proposes, Delivers, Hears, NominationTimerFires, BallotTimerFires, Reslices}
use Rattle.scp_spec.specs.Isolation.{KeptStep, when_kept, kept_step, is_of}
use Rattle.scp_spec.specs.Isolation.KeptStep.{EventAt}
use Rattle.scp_spec.proofs.Nodes.Agreement.{IsKept}
use Rattle.scp_spec.proofs.Nodes.Closed.{IsFit}
use Rattle.scp_spec.proofs.Runs.Sights.{AllInstances}
use Rattle.scp_spec.proofs.Runs.Follows.{Follows, unseen, member_kept, member_quiet}
use Rattle.scp_spec.proofs.Runs.Hearings.{heard}
use Rattle.scp_spec.proofs.Runs.Openings.{HaveSlicesWithin, cast_of, closes, opens}
use Rattle.scp_spec.proofs.Runs.Unkept.{stays}

-- an event of one node that hands over no envelope
asked : (R : Names) (cast : ℕ → Option Slices) (i : ℕ) (net : Net) (j u : ℕ) (e : NodeEvent) → AllInstances R i net
    → ((j == i) ≡ true → R u ≡ true → IsFit R e) → IsKept R e
    → Follows R cast i net (act net j u e) (λ w. (j == i) && (u == w)) (when_kept ((j == i) && R u) (EventAt u e))
asked R cast i net j u e h f k = elim (cases_Bool ((j == i) && R u)) [
  | inl y ↦ let p = and_parts (j == i) (R u) y in
      subst (λ (x : Option KeptStep). Follows R cast i net (act net j u e) (λ w. (j == i) && (u == w)) x)
      (sym (ap (λ b. when_kept b (EventAt u e)) y))
      (subst (λ x. Follows R cast i net (act net x u e) (λ w. (x == i) && (u == w)) (Some (EventAt u e)))
      (sym (eqb-true j i p.0)) (member_kept R cast i net u e h p.1 (f p.0 p.1) k))
  | inr o ↦ subst (λ (x : Option KeptStep). Follows R cast i net (act net j u e) (λ w. (j == i) && (u == w)) x)
      (sym (ap (λ b. when_kept b (EventAt u e)) o)) (unseen R cast i net j u e h o)
]

-- what a delivery to a member from a member announces lies in R, and so do the names of a member's new slices
abbrev pub IsWithin : Names → ℕ → Step → Type 0
IsWithin R i (Delivers u size (Read e)) =
    (e.slot == i) ≡ true → R u ≡ true → R e.sender ≡ true → within (names e.slices) R ≡ true
IsWithin R i (Reslices j u q) = (j == i) ≡ true → R u ≡ true → within (names q) R ≡ true
IsWithin R i _ = Unit {0}

delivered : (R : Names) (cast : ℕ → Option Slices) (i : ℕ) (net : Net) (u : ℕ) (e : Sent) → AllInstances R i net
    → ((e.slot == i) ≡ true → R u ≡ true → R e.sender ≡ true → within (names e.slices) R ≡ true)
    → Follows R cast i net (act net e.slot u (Take e))
    (λ w. (e.slot == i) && (u == w)) (when_kept ((e.slot == i) && R u && R e.sender) (EventAt u (Take e)))
delivered R cast i net u e h f = elim (cases_Bool ((e.slot == i) && R u)) [
  | inr o ↦ by_kept ((e.slot == i) && R u && R e.sender) None
      (ap (λ b. when_kept b (EventAt u (Take e))) (and_left ((e.slot == i) && R u) (R e.sender) o))
      (unseen R cast i net e.slot u (Take e) h o)
  | inl y ↦ let p = and_parts (e.slot == i) (R u) y in elim (cases_Bool (R e.sender)) [
    | inl r ↦ by_kept ((e.slot == i) && R u && R e.sender) (Some (EventAt u (Take e)))
        (ap (λ b. when_kept b (EventAt u (Take e))) (and_from ((e.slot == i) && R u) (R e.sender) y r))
        (at i (eqb-true e.slot i p.0) (member_kept R cast i net u (Take e) h p.1
        (or_right (not (R e.sender)) (within (names e.slices) R) (f p.0 p.1 r)) (r, f p.0 p.1 r)))
    | inr o ↦ by_kept ((e.slot == i) && R u && R e.sender) None
        (ap (λ b. when_kept b (EventAt u (Take e))) (and_right ((e.slot == i) && R u) (R e.sender) o))
        (at i (eqb-true e.slot i p.0) (member_quiet R cast i net u e h p.1 o))
  ]
]
  where
    by_kept : (b : Bool) (k : Option KeptStep) → when_kept b (EventAt u (Take e)) ≡ k
        → Follows R cast i net (act net e.slot u (Take e)) (λ w. (e.slot == i) && (u == w)) k
        → Follows R cast i net (act net e.slot u (Take e))
        (λ w. (e.slot == i) && (u == w)) (when_kept b (EventAt u (Take e)))
    by_kept b k q x =
        subst (λ (y : Option KeptStep). Follows R cast i net (act net e.slot u (Take e))
        (λ w. (e.slot == i) && (u == w)) y) (sym q) x

    at : {k : Option KeptStep} (x : ℕ) → e.slot ≡ x
        → Follows R cast i net (act net x u (Take e)) (λ w. (x == i) && (u == w)) k
        → Follows R cast i net (act net e.slot u (Take e)) (λ w. (e.slot == i) && (u == w)) k
    at {k} x q y = subst (λ z. Follows R cast i net (act net z u (Take e)) (λ w. (z == i) && (u == w)) k) (sym q) y

-- a slot that is opened was not open
abbrev pub IsNew : Net → Step → Type 0
IsNew net (Opens j) = instances_at net.slots j ≡ None
IsNew net _ = Unit {0}

-- Each applied event is followed.
pub follows : (R : Names) (i : ℕ) (net : Net) (e : Step) → AllInstances R i net → HaveSlicesWithin R net.nodes → IsNew net e
    → IsWithin R i e
    → Follows R (cast_of R net.nodes) i net (effect net e) (λ w. is_of i w e) (kept_step R i e)
unfolding effect
follows R i net (Opens j) h nodes n f = opens R i net j h nodes n
follows R i net (Closes j) h nodes n f = closes R (cast_of R net.nodes) i net j h
follows R i net (Proposes j u x) h nodes n f = asked R (cast_of R net.nodes) i net j u (Propose x) h (λ y r. tt) tt
follows R i net (Delivers u size (Read e)) h nodes n f = delivered R (cast_of R net.nodes) i net u e h f
follows R i net (Delivers u size (Fault x)) h nodes n f = stays R (cast_of R net.nodes) i net (λ w. false) h
follows R i net (Hears j u from kind k) h nodes n f = heard R (cast_of R net.nodes) i net j u from kind k h
follows R i net (NominationTimerFires j u r) h nodes n f =
    asked R (cast_of R net.nodes) i net j u (NominationTimer r) h (λ y r. tt) tt
follows R i net (BallotTimerFires j u c) h nodes n f =
    asked R (cast_of R net.nodes) i net j u (BallotTimer c) h (λ y r. tt) tt
follows R i net (Reslices j u q) h nodes n f = asked R (cast_of R net.nodes) i net j u (Reslice q) h f tt
