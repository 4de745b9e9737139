-- What a report of a closure prints.
use Rattle.std.specs.Prelude.{◌≡◌, ℕ, false, List, Option, string_bytes}
use Rattle.scp_spec.specs.Sets.{among}
use Rattle.host_closure.specs.Announcing.{IsClosureList, member_names, slices_then}
use Rattle.host_journal.specs.Logs.{Log}
use Rattle.host_world.specs.Worlds.{log_at}
use Rattle.host_compare.specs.Meanings.{entries_in, nodes_in}
use Rattle.line_report.specs.Reports.{AreHosted, Shown}
use Rattle.line_report.specs.Texts.{text_of_report}
use Rattle.line_run.specs.declared.answer.Answer.{Answer}
use Rattle.scphost_words.specs.declared.subject.Format.{Format}
use Rattle.scphost_words.specs.declared.subject.Format.TheVariants as format
use Rattle.scp_types.specs.declared.subject.Subject.{Subject}

-- The closure of a node at a slot of a network, and who blocks whom in it. If there is no such network, that is only
-- the node.
pub record IsReportOf (log : Option Log) (slot node : ℕ) (r : Shown) : Type 0 where
  pub members : IsClosureList (nodes_in log) slot node (entries_in log) r.members
  pub hosted : AreHosted (slices_then (nodes_in log) slot (entries_in log)) (among (member_names r.members)) r.hosted

-- the answer is the report of the subject; as text it is exactly that. Of the other forms this says nothing.
pub record IsReport (f : Format) (subject : Subject) (logs : List Log) (a : Answer) : Type 0 where
  pub report : Shown
  pub right : IsReportOf (log_at logs subject.net) subject.slot subject.node report
  pub differs : a.differs ≡ false
  pub text : f ≡ format.Text → string_bytes a.text ≡ text_of_report report
