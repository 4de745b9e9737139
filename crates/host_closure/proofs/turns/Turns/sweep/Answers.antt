use Rattle.std.proofs.Common.{◌≡◌, ◌<◌, ◌≤◌, ◌+◌, suc, subst, get_or, slice_get, Some, length, arith}
use Rattle.std.proofs.lemmas.Option.{slice_get-get_or, slice_get_past}
use Rattle.host_closure.specs.Announcing.{AreMembersAt, member_names}
use Rattle.host_closure.specs.Announcing.AreMembersAt.{turn, again}
use Rattle.host_closure.specs.Turns.{lists_after_turn}
use Rattle.host_closure.proofs.ClosureSteps.{all_given}
use Rattle.host_closure.proofs.Growing.{names_length, sweeping_begins, sweeping_goes_on, sweep_settles, members_bound}
use Rattle.host_closure.proofs.Readiness.{turned_within}
use Rattle.host_closure.proofs.turns.Turns.sweep.Goals as goal

pub loop-place-init : goal.loop-place-init
loop-place-init g c = (sweeping_begins (g.J.Announcements.nodes c.args.self.now.journal.now) c.args.self.now.slot (g.J.Announcements.entries c.args.self.now.journal.now) c.args.members.now, c.requires.ready, omega arith, λ v h. h)

pub loop-place-smaller : goal.loop-place-smaller
loop-place-smaller g c =
    let nodes = g.J.Announcements.nodes c.args.self.now.journal.now in
    let run = g.J.Announcements.entries c.args.self.now.journal.now in
    let bound : length c.loop-place.members ≤ suc (length (all_given nodes c.args.self.now.slot run)) =
    members_bound nodes c.args.self.now.slot run c.requires.chained.0 c.loop-place.members (c.loop-place.invariant.0.chained c.requires.chained.0 c.requires.chained.1) c.len.ensures.once in
    omega (arith, bound, c.loop-place-test.true, c.len.ensures.value)

pub loop-place-preserved : goal.loop-place-preserved
loop-place-preserved g c =
    let within : c.loop-place.place < length c.loop-place.members = omega (arith, c.loop-place-test.true, c.len.ensures.value) in
    let there : slice_get (member_names c.loop-place.members) c.loop-place.place ≡ Some (get_or (member_names c.loop-place.members) c.loop-place.place 0) =
    slice_get-get_or (member_names c.loop-place.members) c.loop-place.place 0 (omega (arith, within, names_length c.loop-place.members)) in
    let counted : length c.take.new.ready ≡ length (lists_after_turn c.loop-place.ready c.loop-place.place) = c.in_ok-take.ensures.counted (get_or (member_names c.loop-place.members) c.loop-place.place 0) there in
    let more : c.loop-place.place < length (lists_after_turn c.loop-place.ready c.loop-place.place) = turned_within c.loop-place.ready c.loop-place.place c.loop-place.invariant.2 in (
      sweeping_goes_on (g.J.Announcements.nodes c.args.self.now.journal.now) c.args.self.now.slot (g.J.Announcements.entries c.args.self.now.journal.now)
          c.args.members.now c.loop-place.members c.take.new.members c.loop-place.place c.requires.chained.0 c.loop-place.invariant.0 within c.requires.chained.1
          c.in_ok-take.ensures.grown c.in_ok-take.ensures.settled,
      c.in_ok-take.ensures.ready,
      omega (arith, counted, more),
      λ v h.
          let next : suc c.loop-place.place ≡ c.loop-place.place + 1 = omega arith in
          subst (λ n. AreMembersAt (g.J.Announcements.nodes c.args.self.now.journal.now) c.args.self.now.slot v (g.J.Announcements.entries c.args.self.now.journal.now) n c.take.new.members) next
          (turn (c.loop-place.invariant.3 v h) there (c.in_ok-take.ensures.turn (get_or (member_names c.loop-place.members) c.loop-place.place 0) there)),
    )

pub returns-clause-settled : goal.returns-clause-settled
returns-clause-settled g c =
    sweep_settles (g.J.Announcements.nodes c.args.self.now.journal.now) c.args.self.now.slot (g.J.Announcements.entries c.args.self.now.journal.now)
    c.args.members.now c.loop-place.members c.loop-place.place c.loop-place.invariant.0 (omega (arith, c.loop-place-test.false, c.len.ensures.value))

pub returns-clause-in_turn : goal.returns-clause-in_turn
returns-clause-in_turn g c = λ v h.
    again (c.loop-place.invariant.3 v h)
    (slice_get_past (member_names c.loop-place.members) c.loop-place.place (omega (arith, c.loop-place-test.false, c.len.ensures.value, names_length c.loop-place.members)))
