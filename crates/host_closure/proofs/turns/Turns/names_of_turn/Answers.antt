use Rattle.std.proofs.Common.{◌≡◌, ◌∙◌, ap, sym, subst, Vec, Global, ℕ, List, slice_get, option_map, Option, Some}
use Rattle.scp_types.specs.declared.node_id.NodeId.{NodeId}
use Rattle.host_closure.specs.Announcing.{member_names}
use Rattle.host_closure.specs.Turns.{IsGiven, all_added}
use Rattle.host_closure.proofs.Gathering.{given_by_ready, given_sorted}
use Rattle.host_closure.proofs.Readiness.{read_at}
use Rattle.host_closure.proofs.turns.Turns.names_of_turn.Goals as goal
use Rattle.host_closure.proofs.turns.Turns.names_of_turn.Goals.{in-None+in_ok-names-in-None, in-Some+in_ok-names-in-Some}

pub returns-clause-given : goal.returns-clause-given
returns-clause-given g c =
    let nodes = g.J.Announcements.nodes c.args.self.now.journal.now in
    let run = g.J.Announcements.entries c.args.self.now.journal.now in
    let unsorted : IsGiven nodes c.args.self.now.slot run (member_names c.args.members.now) c.args.turn.now.node c.match-branch-2.names.items = elim c.match-branch-2.branch [
      | in-None+in_ok-names-in-None w ↦ subst (λ (v : Vec NodeId Global). IsGiven nodes c.args.self.now.slot run (member_names c.args.members.now) c.args.turn.now.node v.items) (sym w.names-is) w.in_ok-names-in-None.ensures
      | in-Some+in_ok-names-in-Some w ↦
          let found : Some w.in-Some.numbers.items ≡ slice_get c.args.ready.now c.args.turn.now.place = ap (λ (o : Option (Vec ℕ Global)). option_map (λ (v : Vec ℕ Global). v.items) o) (sym w.in-Some.is) ∙ c.in_ok-take.ensures.numbers in
          let read = read_at c.args.ready.now c.args.turn.now.place w.in-Some.numbers.items found in
          given_by_ready nodes c.args.self.now.slot run (member_names c.args.members.now) c.args.turn.now.node c.args.ready.now c.args.turn.now.place w.in-Some.numbers.items c.match-branch-2.names.items
          c.requires.ready read.0 c.requires.there read.1
          (ap (λ (v : Vec NodeId Global). v.items) w.names-is ∙ (w.in_ok-names-in-Some.ensures ∙ ap (λ (ns : List ℕ). all_added c.args.self.now.slot run (member_names c.args.members.now) c.args.turn.now.node ns) w.deref.ensures.value))
    ] in
    given_sorted nodes c.args.self.now.slot run (member_names c.args.members.now) c.args.turn.now.node c.match-branch-2.names.items c.put_in_order.new.names.items unsorted c.put_in_order.ensures.same
