-- What the commands print.
use Rattle.std.proofs.Common.{◌≡◌, Bool, true, false, Option, inl, subst, sym}
use Rattle.line_script.specs.Script.{Bytes}
use Rattle.scp_spec.specs.Hosts.{History}
use Rattle.line_run.specs.Submitting.{Submitting}
use Rattle.line_run.specs.Comparisons.{IsComparison}
use Rattle.line_run.specs.Crowding.{TellsCrowd}
use Rattle.scphost.specs.Printing.{HasAnswered, IsCompared, IsCrowdAnswer, IsPerformed, IsPooled, IsPrinted, IsReported}
use Rattle.scphost.specs.Reporting.{IsReport}
use Rattle.line_run.specs.Scripts.{IsSubmittedBy, IsStoryOf, StopsStories, StopsStory, StopsSubmission, StopsSubmissions, Story}
use Rattle.scphost.specs.Stops.{End}
use Rattle.line_run.specs.declared.answer.Answer.{Answer}
use Rattle.scphost_words.specs.declared.call.Call.{Call}
use Rattle.scphost_words.specs.declared.subject.Format.{Format}
use Rattle.scp_types.specs.declared.subject.Subject.{Subject}

-- an answer is printed
pub has-reported : (format : Format) (subject : Subject) (file old new : Option Bytes) (end : End) (story : Story)
    (a : Answer) → IsStoryOf false file story → IsReport format subject story.run.hosting.logs a
    → IsPrinted a old new end
    → HasAnswered (IsReported format subject file) (StopsStory false file) old new end
has-reported format subject file old new end story a told right printed = inl (a, (story, told, right), printed)

pub has-compared : (explain : Bool) (subject : Subject) (one other old new : Option Bytes) (end : End)
    (first second : Story) (a : Answer) → IsStoryOf explain one first → IsStoryOf explain other second
    → IsComparison first.run.hosting.logs second.run.hosting.logs subject.net subject.slot subject.node explain a
    → IsPrinted a old new end
    → HasAnswered (IsCompared explain subject one other) (StopsStories explain one other) old new end
has-compared explain subject one other old new end first second a told also right printed =
    inl (a, (first, second, told, also, right), printed)

pub has-crowded : (subject : Subject) (one other old new : Option Bytes) (end : End) (first second : Submitting)
    (h k : History) (a : Answer) → IsSubmittedBy true one first → IsSubmittedBy true other second → h ≡ first.history
    → k ≡ second.history → TellsCrowd h k subject a → IsPrinted a old new end
    → HasAnswered (IsCrowdAnswer subject one other) (StopsSubmissions one other) old new end
has-crowded subject one other old new end first second h k a told also e f right printed =
    let right' = subst (λ x. TellsCrowd first.history x subject a) f (subst (λ x. TellsCrowd x k subject a) e right) in
    inl (a, (first, second, told, also, right'), printed)

pub has-pooled : (file old new : Option Bytes) (end : End) (a : Answer) → IsPooled file a
    → IsPrinted a old new end → HasAnswered (IsPooled file) (StopsSubmission false file) old new end
has-pooled file old new end a right printed = inl (a, right, printed)

-- a call that is this one is performed as this one is
pub performed-as : (call one : Call) (first second old new : Option Bytes) (end : End) → call ≡ one
    → IsPerformed one first second old new end → IsPerformed call first second old new end
performed-as call one first second old new end is performed =
    subst (λ x. IsPerformed x first second old new end) (sym is) performed
