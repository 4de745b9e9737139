use Rattle.std.proofs.lemmas.Result.{err_from_is_err_and}
use Rattle.scp_types.specs.Shape.{members_of}
use Rattle.scp_codec.specs.Parts.{part_of_member}
use Rattle.scp_codec.specs.Reading.{member_list_at, inner_at}
use Rattle.scp_codec.proofs.MemberLoop.{goes_on, ends, is_done, members_of-push, names_noted}
use Rattle.scp_codec.proofs.trees.+tree.Goals as goal

pub read_members-returns-in_err-member-clause-read : goal.read_members-returns-in_err-member-clause-read
read_members-returns-in_err-member-clause-read t c =
    let p = err_from_is_err_and c.from_residual-in_err-member.result c.from_residual-in_err-member.ensures.1 in
    rw (p.1, p.2) (ends (inner_at c.args.levels) c.in_err-member.field-0.0 (members_of c.loop.members.items) c.args.count c.loop.counter c.loop.seen c.loop.reader (member_list_at (inner_at c.args.levels) c.args.count c.args.seen.now c.args.reader.now) c.loop-test.true c.in_err-member.ensures.read c.loop.invariant.read)

pub read_members-loop-preserved : goal.read_members-loop-preserved
read_members-loop-preserved t c =
    let ms = c.loop.members.items in
    let m = c.in_ok-member.member in
    let next = goes_on (inner_at c.args.levels) (members_of ms) c.args.count c.loop.counter c.loop.seen c.read_member.new.seen c.loop.reader (part_of_member m) c.read_member.new.reader (member_list_at (inner_at c.args.levels) c.args.count c.args.seen.now c.args.reader.now) c.loop-test.true c.in_ok-member.ensures.read c.in_ok-member.ensures.names c.loop.invariant.read in
    let seen = names_noted c.args.seen.now c.loop.seen c.read_member.new.seen ms m c.loop.invariant.names c.in_ok-member.ensures.names in
    rw c.in_ok-push.ensures.items (record { read = rw (members_of-push ms m) next; names = seen })

pub read_members-returns-clause-read : goal.read_members-returns-clause-read
read_members-returns-clause-read t c =
    is_done (inner_at c.args.levels) (members_of c.loop.members.items) c.args.count c.loop.counter c.loop.seen c.loop.reader (member_list_at (inner_at c.args.levels) c.args.count c.args.seen.now c.args.reader.now) c.loop-test.false c.loop.invariant.read
