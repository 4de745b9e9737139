use Rattle.std.proofs.Common.{◌≤◌, ◌∷◌, sym, subst, suc, length, ℕ, List, [], arith}
use Rattle.host_closure.specs.Announcing.{AreMembersAt, MemberList, member_names}
use Rattle.host_closure.specs.Announcing.AreMembersAt.{first}
use Rattle.host_closure.specs.Turns.{IsReady}
use Rattle.host_closure.proofs.ClosureSteps.{all_given, is_closure}
use Rattle.host_closure.proofs.Growing.{IsSwept, swept_at_first, swept_again, swept_whole, members_bound}
use Rattle.host_closure.proofs.Waking.{ready_at_first}
use Rattle.host_closure.proofs.turns.Turns.closure_of.Goals as goal

pub loop-known-init : goal.loop-known-init
loop-known-init g c =
    let nodes = g.J.Announcements.nodes c.args.self.now.journal.now in
    let run = g.J.Announcements.entries c.args.self.now.journal.now in (
      subst (λ (list : MemberList). IsSwept nodes c.args.self.now.slot c.args.node.now run list 0) (sym c.in_ok-members.ensures) (swept_at_first nodes c.args.self.now.slot c.args.node.now run),
      subst (λ (list : MemberList). IsReady nodes c.args.self.now.slot run (member_names list) c.new-ready.result) (sym c.in_ok-members.ensures)
          (subst (λ (r : List (List ℕ)). IsReady nodes c.args.self.now.slot run (member_names ((c.args.node.now, 0) ∷ [])) r) (sym c.new-ready.ensures) (ready_at_first nodes c.args.self.now.slot run c.args.node.now)),
      subst (λ (list : MemberList). AreMembersAt nodes c.args.self.now.slot c.args.node.now run 0 list) (sym c.in_ok-members.ensures) first,
    )

pub loop-known-preserved : goal.loop-known-preserved
loop-known-preserved g c =
    let nodes = g.J.Announcements.nodes c.args.self.now.journal.now in
    let run = g.J.Announcements.entries c.args.self.now.journal.now in (
      subst (λ n. IsSwept nodes c.args.self.now.slot c.args.node.now run c.sweep.new.members n) (sym c.len-known.ensures.value)
          (swept_again nodes c.args.self.now.slot c.args.node.now run c.loop-known.members c.sweep.new.members (c.in_ok-sweep.ensures.grown c.args.node.now c.loop-known.invariant.0.chained) c.in_ok-sweep.ensures.settled),
      c.in_ok-sweep.ensures.ready,
      c.in_ok-sweep.ensures.in_turn c.args.node.now c.loop-known.invariant.2,
    )

pub loop-known-smaller : goal.loop-known-smaller
loop-known-smaller g c =
    let nodes = g.J.Announcements.nodes c.args.self.now.journal.now in
    let run = g.J.Announcements.entries c.args.self.now.journal.now in
    let bound : length c.loop-known.members ≤ suc (length (all_given nodes c.args.self.now.slot run)) = members_bound nodes c.args.self.now.slot run c.args.node.now c.loop-known.members c.loop-known.invariant.0.chained c.len.ensures.once in
    omega (arith, bound, c.loop-known-test.true, c.len.ensures.value, c.len-known.ensures.value)

pub returns : goal.returns
returns g c =
    let nodes = g.J.Announcements.nodes c.args.self.now.journal.now in
    let run = g.J.Announcements.entries c.args.self.now.journal.now in
    is_closure nodes c.args.self.now.slot run c.args.node.now c.loop-known.members c.requires.nodes c.loop-known.invariant.0.chained
    (swept_whole nodes c.args.self.now.slot c.args.node.now run c.loop-known.members c.loop-known.known c.loop-known.invariant.0 (omega (arith, c.loop-known-test.false, c.len.ensures.value)))
    c.len.ensures.once c.loop-known.invariant.2
