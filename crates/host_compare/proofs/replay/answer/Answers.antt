use Rattle.std.proofs.Common.{subst}
use Rattle.scp_types.specs.declared.event.Event.{Event}
use Rattle.std.specs.Prelude.{IfOk}
use Rattle.scp_spec.specs.Networks.Reply.{Done}
use Rattle.host_network.specs.Decoding.{step_of}
use Rattle.host_compare.specs.Replies.{IsReplied, reply_of_answer}
use Rattle.host_compare.proofs.RunsOf.{is_done, refused_is}
use Rattle.host_compare.proofs.replay.answer.Goals as goal

pub returns-in-Ok : goal.returns-in-Ok
returns-in-Ok c =
    subst (λ (e : Event). IsReplied c.args.journal.now (step_of e) (Done c.in-Ok.given.outs.items) c.apply.new.self) c.in_ok-try_copy.ensures
    (is_done c.args.journal.now c.apply.new.self (step_of c.in_ok-try_copy.field-0) c.in-Ok.given.outs.items c.in-Ok.ensures.ok c.in-Ok.ensures.entered)

pub returns-in-Err : goal.returns-in-Err
returns-in-Err c =
    subst (λ (e : Event). IfOk c.reply_of_refusal.result (λ r. IsReplied c.args.journal.now (step_of e) (reply_of_answer r) c.apply.new.self)) c.in_ok-try_copy.ensures
    (refused_is reply_of_answer c.args.journal.now c.apply.new.self (step_of c.in_ok-try_copy.field-0) c.in-Err.refusal c.reply_of_refusal.result c.reply_of_refusal.ensures.reply c.reply_of_refusal.ensures.other c.in-Err.ensures.err c.in-Err.ensures.same)
