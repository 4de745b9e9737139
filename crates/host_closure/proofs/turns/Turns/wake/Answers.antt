use Rattle.std.proofs.Common.{◌≡◌, ◌≤◌, ◌∙◌, ap, arith, get_or, None, suc, sym, subst}
use Rattle.host_closure.specs.Announcing.{announced_at, member_names}
use Rattle.host_closure.specs.Turns.{AnnouncementIndex, PartyIndex, IsFor, found_by, receiver_at}
use Rattle.host_closure.proofs.Waking.{IsWaking, waking_begins, waking_goes_on, waking_ends}
use Rattle.host_closure.proofs.Walking.{steps_left, walk_shortens}
use Rattle.host_closure.proofs.turns.Turns.wake.Goals as goal

pub loop-next-init : goal.loop-next-init
loop-next-init g c =
    let heard_is : c.deliveries.inside.heard ≡ c.args.self.now.deliveries.now.heard = ap (λ (d : AnnouncementIndex). d.heard) c.deliveries.view_is in
    waking_begins c.args.self.now.slot (g.J.Announcements.entries c.args.self.now.journal.now) (member_names c.args.members.now) c.args.receiver.now c.args.ready.now c.latest-next.result
    (c.latest-next.ensures ∙ (ap (λ (d : PartyIndex). found_by d.latest c.args.receiver.now) heard_is ∙ c.requires.heard.latest c.args.receiver.now))

pub loop-next-preserved : goal.loop-next-preserved
loop-next-preserved g c =
    let run = g.J.Announcements.entries c.args.self.now.journal.now in
    let heard_is : c.deliveries.inside.heard ≡ c.args.self.now.deliveries.now.heard = ap (λ (d : AnnouncementIndex). d.heard) c.deliveries.view_is in
    subst (λ o. IsWaking c.args.self.now.slot run (member_names c.args.members.now) c.args.receiver.now c.args.ready.now o c.put.new.ready)
    (ap (λ (d : PartyIndex). get_or d.earlier c.in-Some.number None) (sym heard_is) ∙ sym c.earlier-next.ensures)
    (waking_goes_on c.args.self.now.slot run (member_names c.args.members.now) c.args.receiver.now c.args.ready.now c.args.self.now.deliveries.now.heard c.in-Some.number c.loop-next.next c.loop-next.ready c.put.new.ready
    c.requires.heard c.loop-next.invariant c.in-Some.is c.in_ok-put.ensures.more c.in_ok-put.ensures.ready)

pub loop-next-smaller : goal.loop-next-smaller
loop-next-smaller g c =
    let run = g.J.Announcements.entries c.args.self.now.journal.now in
    let heard_is : c.deliveries.inside.heard ≡ c.args.self.now.deliveries.now.heard = ap (λ (d : AnnouncementIndex). d.heard) c.deliveries.view_is in
    let shorter : suc (steps_left (get_or c.args.self.now.deliveries.now.heard.earlier c.in-Some.number None)) ≤ steps_left c.loop-next.next =
    walk_shortens (receiver_at c.args.self.now.slot) run c.args.receiver.now c.args.self.now.deliveries.now.heard c.requires.heard c.in-Some.number c.loop-next.next (λ n. IsFor (member_names c.args.members.now) c.loop-next.ready n (announced_at run n)) c.loop-next.invariant.walked c.in-Some.is in
    let same : steps_left c.earlier-next.result ≡ steps_left (get_or c.args.self.now.deliveries.now.heard.earlier c.in-Some.number None) =
    ap steps_left (c.earlier-next.ensures ∙ ap (λ (d : PartyIndex). get_or d.earlier c.in-Some.number None) heard_is) in
    omega (arith, shorter, same)

pub returns-clause-more : goal.returns-clause-more
returns-clause-more g c = c.loop-next.invariant.more

pub returns-clause-woken : goal.returns-clause-woken
returns-clause-woken g c =
    waking_ends c.args.self.now.slot (g.J.Announcements.entries c.args.self.now.journal.now) (member_names c.args.members.now) c.args.receiver.now c.args.ready.now c.loop-next.next c.loop-next.ready c.in_default.is c.loop-next.invariant
