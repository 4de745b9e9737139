use Rattle.std.proofs.Common.{ℕ, List, Result, Ok, Err, subst, arith}
use Rattle.std.specs.Prelude.{IfOk, IfErr}
use Rattle.scp_types.specs.Statements.{Sent}
use Rattle.scp_codec.specs.declared.error.CodecError.{CodecError}
use Rattle.scp_codec.specs.declared.error.CodecError.TheVariants as errors
use Rattle.scp_codec.specs.declared.error.Fault.{Fault}
use Rattle.scp_codec.specs.Steps.{Gives}
use Rattle.scp_codec.specs.Spelling.{Spells}
use Rattle.scp_codec.specs.Answers.{Refuses}
use Rattle.scp_codec.specs.Reading.{decoding}
use Rattle.scp_codec.proofs.FieldLaws.{IsBytes}
use Rattle.scp_codec.proofs.EnvelopeLaws.{is_spelled, is_read, is_fault, fault_is}
use Rattle.scp_codec.proofs.decoder.decode.Goals as goal

found : (bytes : List ℕ) (r : Result Sent CodecError) → IsBytes bytes → Gives (λ e. e) r (decoding bytes) → IfOk r (Spells bytes)
found bytes (Ok e) fits h = is_spelled bytes e fits h
found bytes (Err d) fits h = tt

refused : (bytes : List ℕ) (r : Result Sent CodecError) → IsBytes bytes → Gives (λ e. e) r (decoding bytes) → IfErr r (Refuses bytes)
refused bytes (Ok e) fits h = tt
refused bytes (Err errors.NoMemory) fits h = tt
refused bytes (Err (errors.Fault f)) fits h = is_fault bytes f fits h

pub returns-clause-found : goal.returns-clause-found
returns-clause-found c = found c.args.bytes.now c.read_text.result (λ i. omega (arith, c.type_inv.bytes i)) c.read_text.ensures.read

pub returns-clause-only : goal.returns-clause-only
returns-clause-only c = λ e h. subst (λ (r : Result Sent Fault). Gives (λ v. v) c.read_text.result r) (is_read c.args.bytes.now e h) c.read_text.ensures.read

pub returns-clause-fault : goal.returns-clause-fault
returns-clause-fault c = refused c.args.bytes.now c.read_text.result (λ i. omega (arith, c.type_inv.bytes i)) c.read_text.ensures.read

pub returns-clause-named : goal.returns-clause-named
returns-clause-named c = λ f h. subst (λ (r : Result Sent Fault). Gives (λ v. v) c.read_text.result r) (fault_is c.args.bytes.now f (λ i. omega (arith, c.type_inv.bytes i)) h) c.read_text.ensures.read
