use Rattle.std.proofs.Common.{◌≡◌, ◌∙◌, ◌≤◌, ℕ, List, [], true, false, ◌==◌, length, map, sym, ap, subst, arith}
use Rattle.std.proofs.lemmas.Bool.Decides.{nat_tests}
use Rattle.scp_types.specs.declared.event.Event.{Event}
use Rattle.scp_spec.specs.Hosts.{Config}
use Rattle.scp_spec.specs.Sets.{among}
use Rattle.scp_spec.specs.Submissions.{replied_to}
use Rattle.host_closure.specs.Announcing.{member_names}
use Rattle.host_journal.specs.Logs.{Log}
use Rattle.host_compare.specs.Replies.{reply_of_answer}
use Rattle.host_compare.proofs.RunsOf.{answers_stay, call_at, log_at_first, log_next, log_stays, replied_at_first, replied_in_all, replies_next}
use Rattle.host_compare.proofs.replay.replies_to.Goals as goal
use Rattle.host_compare.proofs.replay.replies_to.Goals.{then-number-net+in_ok-is_concerning+in_ok-reply+in_ok-keep, else-number-net}

pub loop-call-init : goal.loop-call-init
loop-call-init c = record {
  journal = c.new-journal.ensures ∙ (ap {B = Log} (λ (x : Config). record { config = x; entries = [] }) c.in_ok-try_copy.ensures ∙ sym (log_at_first c.args.submission.now c.args.config.now c.args.net));
  replies = ap (map reply_of_answer) c.new-replies.ensures.items ∙ sym (replied_at_first c.args.submission.now c.args.net (among (member_names c.args.members.now)) c.args.slot);
}

pub loop-call-preserved : goal.loop-call-preserved
loop-call-preserved c =
    let R = among (member_names c.args.members.now) in
    let h = c.args.submission.now in
    let k = c.loop-call.call-index in
    let x = c.call-item.result in
    let there = call_at h _ k x c.calls-call-items.ensures c.loop-call-test.true c.call-item.is in
    elim c.if-number-net.branch [
      | then-number-net+in_ok-is_concerning+in_ok-reply+in_ok-keep w ↦
          let o : (x.0 == c.args.net) ≡ true = grind (arith, nat_tests, w.if-number-net.true) in
          record {
            journal = w.journal-is ∙ log_next h c.args.config.now c.args.net c.requires k x there o c.loop-call.journal c.loop-call.invariant.journal w.in_ok-reply.ensures;
            replies = ap (λ v. map reply_of_answer v.items) w.replies-is
                ∙ replies_next h c.args.config.now c.args.net c.requires k x there o c.loop-call.journal c.loop-call.invariant.journal w.in_ok-reply.ensures R c.args.slot w.in_ok-is_concerning.is_concerning w.in_ok-is_concerning.ensures _ _ c.loop-call.invariant.replies w.in_ok-keep.ensures;
          }
      | else-number-net w ↦
          let o : (x.0 == c.args.net) ≡ false = grind (arith, nat_tests, w.if-number-net.false) in
          record {
            journal = w.journal-is ∙ (c.loop-call.invariant.journal ∙ log_stays h c.args.config.now c.args.net c.requires k x there o);
            replies = ap (λ v. map reply_of_answer v.items) w.replies-is ∙ (c.loop-call.invariant.replies ∙ ap (replied_to R c.args.slot) (answers_stay h c.args.config.now c.args.net c.requires k x there o));
          }
    ]

pub returns : goal.returns
returns c =
    c.loop-call.invariant.replies
    ∙ replied_in_all c.args.submission.now c.args.net (among (member_names c.args.members.now)) c.args.slot c.loop-call.call-index (subst (λ (cs : List (ℕ × Event)). length cs ≤ c.loop-call.call-index) c.calls-call-items.ensures c.loop-call-test.false)
