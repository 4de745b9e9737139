use Rattle.std.proofs.Common.{◌≡◌, ◌∙◌, ◌+◌, ap, sym, subst, ℕ, List, Some, None, refl, length, take, arith}
use Rattle.std.proofs.lemmas.List.{take_all}
use Rattle.std.proofs.lemmas.Option.{slice_get_read}
use Rattle.host_closure.specs.Announcing.{IsTurn, MemberList, member_names}
use Rattle.host_closure.specs.Turns.{AreInOrder, IsGiven, AreCovered, NamesAreMembers}
use Rattle.host_closure.proofs.Growing.{IsJoining, joining_begins, joining_goes_on, turn_settles, all_held, one_name}
use Rattle.host_closure.proofs.Ordering.{IsTurning, turning_begins, turning_goes_on, turn_is_made}
use Rattle.host_closure.proofs.Waking.{kept_begins, kept_goes_on, kept_ends}
use Rattle.host_closure.proofs.turns.Turns.take.Goals as goal

pub loop-name-init : goal.loop-name-init
loop-name-init g c =
    let nodes = g.J.Announcements.nodes c.args.self.now.journal.now in
    let run = g.J.Announcements.entries c.args.self.now.journal.now in
    let given_is : c.deref-name-items.result.now ≡ c.in_ok-given.given.items = c.deref-name-items.ensures.value in
    let sound = subst (λ (xs : List ℕ). IsGiven nodes c.args.self.now.slot run (member_names c.args.members.now) c.in-Some.node xs) (sym given_is) c.in_ok-given.ensures.given in (
      joining_begins nodes c.args.self.now.slot run c.deref-name-items.result.now c.args.members.now,
      subst (λ (r : List (List ℕ)). AreCovered nodes c.args.self.now.slot run (member_names c.args.members.now) r c.args.place c.deref-name-items.result.now) (sym c.in_ok-given.ensures.turned)
          (kept_begins nodes c.args.self.now.slot run (member_names c.args.members.now) c.args.ready.now c.args.place c.in-Some.node c.deref-name-items.result.now c.requires.ready (sym c.in-Some.ensures) c.requires.next sound),
      refl,
      turning_begins c.args.place c.args.members.now,
    )

pub loop-name-preserved : goal.loop-name-preserved
loop-name-preserved g c =
    let nodes = g.J.Announcements.nodes c.args.self.now.journal.now in
    let run = g.J.Announcements.entries c.args.self.now.journal.now in
    let given_is : c.deref-name-items.result.now ≡ c.in_ok-given.given.items = c.deref-name-items.ensures.value in
    let sound = subst (λ (xs : List ℕ). IsGiven nodes c.args.self.now.slot run (member_names c.args.members.now) c.in-Some.node xs) (sym given_is) c.in_ok-given.ensures.given in (
      subst (λ (xs : MemberList). IsJoining nodes c.args.self.now.slot run c.deref-name-items.result.now c.args.members.now xs (c.loop-name.name-index + 1)) (sym c.in_ok-join.ensures.members)
          (joining_goes_on nodes c.args.self.now.slot run c.deref-name-items.result.now c.args.members.now c.loop-name.members c.args.place c.in-Some.node c.loop-name.name-index c.name-item.result
          c.loop-name.invariant.0 (sym c.in-Some.ensures) sound
          (slice_get_read c.deref-name-items.result.now (length c.deref-name-items.result.now) c.loop-name.name-index c.name-item.result refl c.loop-name-test.true c.name-item.is)),
      kept_goes_on nodes c.args.self.now.slot run c.loop-name.members c.join.new.members c.loop-name.ready c.join.new.ready c.args.place c.deref-name-items.result.now c.name-item.result c.args.place
          c.loop-name.invariant.1 c.in_ok-join.ensures,
      c.in_ok-join.ensures.more.counted ∙ c.loop-name.invariant.2,
      subst (λ (xs : MemberList). IsTurning c.args.place c.args.members.now xs (take (c.loop-name.name-index + 1) c.deref-name-items.result.now)) (sym c.in_ok-join.ensures.members)
          (turning_goes_on c.args.place c.loop-name.name-index c.name-item.result c.args.members.now c.loop-name.members c.deref-name-items.result.now
          (subst (λ (xs : List ℕ). AreInOrder xs) (sym given_is) c.in_ok-given.ensures.ascending)
          (slice_get_read c.deref-name-items.result.now (length c.deref-name-items.result.now) c.loop-name.name-index c.name-item.result refl c.loop-name-test.true c.name-item.is)
          c.loop-name.invariant.3),
    )

pub returns-after-loop-name-clause-settled : goal.returns-after-loop-name-clause-settled
returns-after-loop-name-clause-settled g c = λ w e.
    let nodes = g.J.Announcements.nodes c.args.self.now.journal.now in
    let run = g.J.Announcements.entries c.args.self.now.journal.now in
    let given_is : c.deref-name-items.result.now ≡ c.in_ok-given.given.items = c.deref-name-items.ensures.value in
    let sound = subst (λ (xs : List ℕ). IsGiven nodes c.args.self.now.slot run (member_names c.args.members.now) c.in-Some.node xs) (sym given_is) c.in_ok-given.ensures.given in
    let same : c.in-Some.node ≡ w = one_name (member_names c.args.members.now) c.args.place c.in-Some.node w (sym c.in-Some.ensures) e in
    let whole : c.loop-name.name-index ≡ length c.deref-name-items.result.now = omega arith in
    let way = subst (λ n. IsJoining nodes c.args.self.now.slot run c.deref-name-items.result.now c.args.members.now c.loop-name.members n) whole c.loop-name.invariant.0 in
    subst (λ x. NamesAreMembers nodes c.args.self.now.slot run (member_names c.loop-name.members) (member_names c.args.members.now) x) same
    (turn_settles nodes c.args.self.now.slot run c.deref-name-items.result.now c.args.members.now c.loop-name.members c.in-Some.node way sound)

pub returns-after-loop-name-clause-ready : goal.returns-after-loop-name-clause-ready
returns-after-loop-name-clause-ready g c =
    let nodes = g.J.Announcements.nodes c.args.self.now.journal.now in
    let run = g.J.Announcements.entries c.args.self.now.journal.now in
    let whole : c.loop-name.name-index ≡ length c.deref-name-items.result.now = omega arith in
    let way = subst (λ n. IsJoining nodes c.args.self.now.slot run c.deref-name-items.result.now c.args.members.now c.loop-name.members n) whole c.loop-name.invariant.0 in
    kept_ends nodes c.args.self.now.slot run (member_names c.loop-name.members) c.loop-name.ready c.args.place c.deref-name-items.result.now c.loop-name.invariant.1
    (all_held nodes c.args.self.now.slot run c.deref-name-items.result.now c.args.members.now c.loop-name.members way)

pub returns-after-loop-name-clause-counted : goal.returns-after-loop-name-clause-counted
returns-after-loop-name-clause-counted g c = λ w e. c.loop-name.invariant.2 ∙ ap (λ (r : List (List ℕ)). length r) c.in_ok-given.ensures.turned

pub returns-after-loop-name-clause-turn : goal.returns-after-loop-name-clause-turn
returns-after-loop-name-clause-turn g c = λ w e.
    let nodes = g.J.Announcements.nodes c.args.self.now.journal.now in
    let run = g.J.Announcements.entries c.args.self.now.journal.now in
    let given_is : c.deref-name-items.result.now ≡ c.in_ok-given.given.items = c.deref-name-items.ensures.value in
    let sound = subst (λ (xs : List ℕ). IsGiven nodes c.args.self.now.slot run (member_names c.args.members.now) c.in-Some.node xs) (sym given_is) c.in_ok-given.ensures.given in
    let same : c.in-Some.node ≡ w = one_name (member_names c.args.members.now) c.args.place c.in-Some.node w (sym c.in-Some.ensures) e in
    let whole : take c.loop-name.name-index c.deref-name-items.result.now ≡ c.deref-name-items.result.now = take_all c.loop-name.name-index c.deref-name-items.result.now (omega arith) in
    subst (λ x. IsTurn nodes c.args.self.now.slot run x c.args.place c.args.members.now c.loop-name.members) same
    (turn_is_made nodes c.args.self.now.slot run c.in-Some.node c.args.place c.args.members.now c.loop-name.members c.deref-name-items.result.now
    (subst (λ (xs : List ℕ). IsTurning c.args.place c.args.members.now c.loop-name.members xs) whole c.loop-name.invariant.3) sound)

pub returns-in_default-clause-settled : goal.returns-in_default-clause-settled
returns-in_default-clause-settled g c = λ w e. absurd (no_name w (c.in_default.ensures ∙ e))
  where
    no_name : (w : ℕ) → None ≡ Some w → ⊥
    no_name w h = cc

pub returns-in_default-clause-counted : goal.returns-in_default-clause-counted
returns-in_default-clause-counted g c = λ w e. absurd (no_name w (c.in_default.ensures ∙ e))
  where
    no_name : (w : ℕ) → None ≡ Some w → ⊥
    no_name w h = cc

pub returns-in_default-clause-turn : goal.returns-in_default-clause-turn
returns-in_default-clause-turn g c = λ w e. absurd (no_name w (c.in_default.ensures ∙ e))
  where
    no_name : (w : ℕ) → None ≡ Some w → ⊥
    no_name w h = cc
