use Rattle.host_closure.specs.Announcing.{AnnouncedSlices, announced_at, member_names}
use Rattle.host_closure.proofs.Waking.{for_stranger, for_sender, put_is_more}
use Rattle.host_closure.proofs.turns.Turns.put.Goals as goal

pub returns-in_default-place-clause-ready : goal.returns-in_default-place-clause-ready
returns-in_default-place-clause-ready g c =
    let announced : AnnouncedSlices = record { slot = c.in-Some.announcement.slot; receiver = c.in-Some.announcement.receiver; sender = c.in-Some.announcement.sender; slices = c.in-Some.announcement.slices.now } in
    for_stranger (member_names c.args.members.now) c.args.ready.now c.args.number announced (announced_at (g.J.Announcements.entries c.args.self.now.journal.now) c.args.number) c.in-Some.ensures c.in_default-place.ensures

pub returns-clause-more : goal.returns-clause-more
returns-clause-more g c = put_is_more c.args.ready.now c.put.new.self c.in-Some-place.place c.args.number c.in_ok-put.ensures

pub returns-clause-ready : goal.returns-clause-ready
returns-clause-ready g c =
    let announced : AnnouncedSlices = record { slot = c.in-Some.announcement.slot; receiver = c.in-Some.announcement.receiver; sender = c.in-Some.announcement.sender; slices = c.in-Some.announcement.slices.now } in
    for_sender (member_names c.args.members.now) c.args.ready.now c.put.new.self c.args.number c.in-Some-place.place announced (announced_at (g.J.Announcements.entries c.args.self.now.journal.now) c.args.number)
    c.len-count.ensures.once c.in-Some.ensures c.in-Some-place.ensures c.in_ok-put.ensures
