use Rattle.std.proofs.Common.{◌≡◌, map}
use Rattle.scp_spec.specs.Sets.{among}
use Rattle.scp_spec.specs.Submissions.{answers, replied_to}
use Rattle.host_closure.specs.Announcing.{member_names}
use Rattle.host_network.specs.Decoding.{reading}
use Rattle.host_compare.specs.Replies.{reply_of_answer}
use Rattle.host_compare.proofs.RunsOf.{log_so_far, so_far}
use Rattle.host_compare.proofs.replay.replies_to.Given as goal

abbrev pub invariant-loop-call : goal.invariant-loop-call
invariant-loop-call l = record {
  journal : l.journal ≡ log_so_far l.submission l.config l.net l.call-index;
  replies : map reply_of_answer l.replies.items ≡ replied_to (among (member_names l.members)) l.slot (answers reading (so_far l.submission l.call-index) l.net);
}
