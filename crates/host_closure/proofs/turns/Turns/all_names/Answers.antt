use Rattle.std.proofs.Common.{◌≡◌, ◌≤◌, ◌∙◌, ap, arith, get_or, None, suc, sym, subst}
use Rattle.scp_spec.specs.Sets.{among, AreWithin}
use Rattle.host_closure.specs.Announcing.{announced_at, member_names}
use Rattle.host_closure.specs.Turns.{AnnouncementIndex, PartyIndex, added_names, found_by, sender_at}
use Rattle.host_closure.proofs.Gathering.{IsGathered, gather_begins, gather_goes_on, gather_ends}
use Rattle.host_closure.proofs.Walking.{steps_left, walk_shortens}
use Rattle.host_closure.proofs.turns.Turns.all_names.Goals as goal

pub loop-next-init : goal.loop-next-init
loop-next-init g c =
    let sent_is : c.deliveries.inside.sent ≡ c.args.self.now.deliveries.now.sent = ap (λ (d : AnnouncementIndex). d.sent) c.deliveries.view_is in
    gather_begins (g.J.Announcements.nodes c.args.self.now.journal.now) c.args.self.now.slot (g.J.Announcements.entries c.args.self.now.journal.now) (member_names c.args.members.now) c.args.node.now
    c.latest-next.result c.in_ok-names.names.items (c.latest-next.ensures ∙ (ap (λ (d : PartyIndex). found_by d.latest c.args.node.now) sent_is ∙ c.requires.sent.latest c.args.node.now)) c.in_ok-names.ensures

pub loop-next-preserved : goal.loop-next-preserved
loop-next-preserved g c =
    let nodes = g.J.Announcements.nodes c.args.self.now.journal.now in
    let run = g.J.Announcements.entries c.args.self.now.journal.now in
    let sent_is : c.deliveries.inside.sent ≡ c.args.self.now.deliveries.now.sent = ap (λ (d : AnnouncementIndex). d.sent) c.deliveries.view_is in
    subst (λ o. IsGathered nodes c.args.self.now.slot run (member_names c.args.members.now) c.args.node.now o c.count.new.names.items)
    (ap (λ (d : PartyIndex). get_or d.earlier c.in-Some.number None) (sym sent_is) ∙ sym c.earlier-next.ensures)
    (gather_goes_on nodes c.args.self.now.slot run (member_names c.args.members.now) c.args.node.now c.args.self.now.deliveries.now.sent c.in-Some.number c.loop-next.next c.loop-next.names.items c.count.new.names.items
    c.requires.sent c.loop-next.invariant c.in-Some.is c.in_ok-count.ensures)

pub loop-next-smaller : goal.loop-next-smaller
loop-next-smaller g c =
    let run = g.J.Announcements.entries c.args.self.now.journal.now in
    let sent_is : c.deliveries.inside.sent ≡ c.args.self.now.deliveries.now.sent = ap (λ (d : AnnouncementIndex). d.sent) c.deliveries.view_is in
    let shorter : suc (steps_left (get_or c.args.self.now.deliveries.now.sent.earlier c.in-Some.number None)) ≤ steps_left c.loop-next.next =
    walk_shortens (sender_at c.args.self.now.slot) run c.args.node.now c.args.self.now.deliveries.now.sent c.requires.sent c.in-Some.number c.loop-next.next (λ n. AreWithin (among (added_names c.args.self.now.slot (member_names c.args.members.now) c.args.node.now (announced_at run n))) (among c.loop-next.names.items)) c.loop-next.invariant.walked c.in-Some.is in
    let same : steps_left c.earlier-next.result ≡ steps_left (get_or c.args.self.now.deliveries.now.sent.earlier c.in-Some.number None) =
    ap steps_left (c.earlier-next.ensures ∙ ap (λ (d : PartyIndex). get_or d.earlier c.in-Some.number None) sent_is) in
    omega (arith, shorter, same)

pub returns : goal.returns
returns g c =
    gather_ends (g.J.Announcements.nodes c.args.self.now.journal.now) c.args.self.now.slot (g.J.Announcements.entries c.args.self.now.journal.now) (member_names c.args.members.now) c.args.node.now
    c.loop-next.next c.loop-next.names.items c.in_default.is c.loop-next.invariant
