-- Replies of a network, as the definitions have them.
use Rattle.std.specs.Prelude.{◌≡◌, [], ◌++◌}
use Rattle.scp_spec.specs.Hosts.{journal_with}
use Rattle.scp_spec.specs.Networks.{Step, Reply, net_step}
use Rattle.scp_spec.specs.Networks.Reply.{Done, Refused}
use Rattle.scp_spec.specs.Runs.{state_of}
use Rattle.host_journal.specs.Logs.{Log}
use Rattle.host_compare.specs.declared.reply.Reply.{Reply as Answered}
use Rattle.host_compare.specs.declared.reply.Reply.TheVariants as answers

-- the code's answer to an event, as a reply of the definitions
abbrev pub reply_of_answer : Answered → Reply
reply_of_answer (answers.Done outs) = Done outs.items
reply_of_answer (answers.Refused r) = Refused r

-- a journal and its reply after one more event
pub record IsReplied (old : Log) (e : Step) (r : Reply) (new : Log) : Type 0 where
  pub config : new.config ≡ old.config
  pub reply : r ≡ (net_step (state_of old.config old.entries) e).1
  pub entries : new.entries ≡ old.entries ++ journal_with e r []
