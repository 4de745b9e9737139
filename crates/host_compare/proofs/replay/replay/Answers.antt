use Rattle.std.proofs.Common.{◌∙◌, [], sym, ap, arith}
use Rattle.std.proofs.lemmas.Bool.Decides.{nat_tests}
use Rattle.scp_spec.specs.Hosts.{Config}
use Rattle.host_journal.specs.Logs.{Log}
use Rattle.host_compare.proofs.RunsOf.{call_at, log_at_first, log_next, log_stays}
use Rattle.host_compare.proofs.replay.replay.Goals as goal
use Rattle.host_compare.proofs.replay.replay.Goals.{then-number-net+in_ok-answer+in-Done-1, then-number-net+in_ok-answer+in-Refused-1, else-number-net}

pub loop-call-init : goal.loop-call-init
loop-call-init c =
    c.new-journal.ensures ∙ (ap {B = Log} (λ (x : Config). record { config = x; entries = [] }) c.in_ok-try_copy.ensures ∙ sym (log_at_first c.args.submission.now c.args.config.now c.args.net))

pub loop-call-preserved : goal.loop-call-preserved
loop-call-preserved c =
    let h = c.args.submission.now in
    let k = c.loop-call.call-index in
    let x = c.call-item.result in
    let there = call_at h _ k x c.calls-call-items.ensures c.loop-call-test.true c.call-item.is in
    elim c.if-number-net.branch [
      | then-number-net+in_ok-answer+in-Done-1 w ↦
          w.journal-is ∙ log_next h c.args.config.now c.args.net c.requires k x there (grind (arith, nat_tests, w.if-number-net.true)) c.loop-call.journal c.loop-call.invariant w.in_ok-answer.ensures
      | then-number-net+in_ok-answer+in-Refused-1 w ↦
          w.journal-is ∙ log_next h c.args.config.now c.args.net c.requires k x there (grind (arith, nat_tests, w.if-number-net.true)) c.loop-call.journal c.loop-call.invariant w.in_ok-answer.ensures
      | else-number-net w ↦ w.journal-is ∙ (c.loop-call.invariant ∙ log_stays h c.args.config.now c.args.net c.requires k x there (grind (arith, nat_tests, w.if-number-net.false)))
    ]
