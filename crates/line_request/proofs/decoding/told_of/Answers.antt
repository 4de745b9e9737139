use Rattle.std.proofs.Common.{false, true, sym, subst}
use Rattle.scp_codec.specs.Answers.{Refuses}
use Rattle.scp_codec.specs.Grammar.{IsFault}
use Rattle.line_request.specs.Translations.{IsTranslated}
use Rattle.line_request.specs.Translations.IsTranslated.{envelope, fault}
use Rattle.line_request.proofs.decoding.told_of.Goals as goal

pub returns-in_ok-line-in-Ok : goal.returns-in_ok-line-in-Ok
returns-in_ok-line-in-Ok c =
    subst (IsTranslated c.args.bytes.now false) (sym c.in_ok-line-in-Ok.ensures) (envelope _ c.in-Ok.ensures.found)

pub returns-in_ok-line_of_fault-in-Err-Fault : goal.returns-in_ok-line_of_fault-in-Err-Fault
returns-in_ok-line_of_fault-in-Err-Fault c =
    let shown : IsFault c.args.bytes.now c.in-Err-Fault.fault = subst (Refuses c.args.bytes.now) c.in-Err-Fault.field-0-is c.in-Err-Fault.ensures.fault in
    subst (IsTranslated c.args.bytes.now true) (sym c.in_ok-line_of_fault-in-Err-Fault.ensures) (fault c.in-Err-Fault.fault shown)
