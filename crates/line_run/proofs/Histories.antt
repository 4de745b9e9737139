-- Scripts that are run to their ends have histories.
use Rattle.std.proofs.Common.{◌≡◌, ℕ, Bool, List, Result, Ok, refl, sym, subst}
use Rattle.std.specs.Prelude.{Option, string_bytes}
use Rattle.std.specs.List.{enumerate_from}
use Rattle.line_script.specs.Script.{Bytes}
use Rattle.line_script.specs.Runs.{Passes, Runs}
use Rattle.line_script.specs.Runs.Passes.{skipped, told}
use Rattle.line_script.specs.Runs.Runs.{ends, next, bad, short}
use Rattle.line_script.specs.declared.run.Stop.{Stop}
use Rattle.scp_spec.specs.Hosts.{History}
use Rattle.scp_spec.proofs.Runs.Hosts.{isolation}
use Rattle.host_network.specs.Decoding.{reading}
use Rattle.host_journal.specs.Logs.{Log}
use Rattle.host_world.specs.Worlds.{AreJournalsOf, log_at}
use Rattle.host_compare.specs.Meanings.{IsVerdictBetween, IsVerdictOn}
use Rattle.host_compare.specs.declared.verdict.Verdict.{Verdict}
use Rattle.line_run.specs.Histories.{HaveHistory}
use Rattle.line_run.specs.Unprinted.{RefusesUnprinted, TellsUnprinted, Unprinted}
use Rattle.line_run.proofs.HistoryLaws.{scripts_have_histories}
use Rattle.line_run.specs.Comparisons.{IsComparison, IsExplained, IsVerdictOnHistories, is_difference}
use Rattle.line_run.specs.declared.answer.Answer.{Answer}
use Rattle.line_run.specs.Scripts.{IsEndOfFile, start_of}

passed-has : (s t : Unprinted) (line written : Bytes) → HaveHistory s.hosting.logs → Passes TellsUnprinted s line written t → HaveHistory t.hosting.logs
passed-has s t line written has (skipped empty) = has
passed-has s t line written has (told {fields = fields} {printed = printed} runs are tells) = scripts_have_histories.next s t fields printed has tells

run-has : (s t : Unprinted) (lines : List (ℕ × Bytes)) (printed : Bytes) (end : Result (Unit {0}) Stop) → HaveHistory s.hosting.logs → end ≡ Ok tt → Runs TellsUnprinted RefusesUnprinted s lines printed end t → HaveHistory t.hosting.logs
run-has s t lines printed end has ok ends = has
run-has s t lines printed end has ok (next passes more) = run-has _ t _ _ end (passed-has s _ _ _ has passes) ok more
run-has s t lines printed end has ok (bad fails) = absurd (cc)
run-has s t lines printed end has ok short = absurd (cc)

start-has : (traced : Bool) → HaveHistory (start_of traced).hosting.logs
start-has traced = scripts_have_histories.first

pub ends_have_histories : (traced : Bool) (file : Option Bytes) (end : Unprinted) → IsEndOfFile traced file end → HaveHistory end.hosting.logs
ends_have_histories traced file end is =
    let ended = is.ended in
    scripts_have_histories.last ended.last end
    (run-has (start_of traced) ended.last (enumerate_from 1 ended.ran.lines) ended.ran.printed (Ok tt) (start-has traced) refl ended.ran.ran) ended.finished

-- a verdict that is right between any two histories of two worlds is one on histories of these, where there are some
pub on_histories : (one other : List Log) (g i v : ℕ) (verdict : Verdict) → HaveHistory one → HaveHistory other
    → ((h k : History) → AreJournalsOf h one → AreJournalsOf k other → IsVerdictBetween h k g i v verdict) → IsVerdictOnHistories one other g i v verdict
on_histories one other g i v verdict has also between = record {
  first = has.0;
  second = also.0;
  is_first = has.1;
  is_second = also.1;
  right = between has.0 also.0 has.1 also.1;
  isolated = isolation reading has.0 also.0 g i v;
}

-- an answer is a comparison, as the code has it
pub compared : (one other left right : List Log) (g i v : ℕ) (verdict : Verdict) (explain : Bool) (a : Answer) → left ≡ one → right ≡ other
    → HaveHistory one → HaveHistory other → IsVerdictOn (log_at left g) (log_at right g) i v verdict
    → ((h k : History) → AreJournalsOf h left → AreJournalsOf k right → IsVerdictBetween h k g i v verdict)
    → a.differs ≡ is_difference verdict → IsExplained explain verdict (string_bytes a.text) → IsComparison one other g i v explain a
compared one other left right g i v verdict explain a is also has had is_right between differs text = record {
  verdict = verdict;
  right = subst (λ (ls : List Log × List Log). IsVerdictOn (log_at ls.0 g) (log_at ls.1 g) i v verdict) (λ j. (is j, also j)) is_right;
  histories = on_histories one other g i v verdict has had (λ h k x y. between h k (subst (AreJournalsOf h) (sym is) x) (subst (AreJournalsOf k) (sym also) y));
  differs = differs;
  text = text;
}
