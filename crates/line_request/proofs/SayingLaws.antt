-- Where words spell no envelope, nobody is told one.
use Rattle.std.proofs.Common.{◌≡◌, ℕ, Option, Some, None, sym, subst}
use Rattle.line_script.specs.Script.{Bytes}
use Rattle.line_script.specs.Names.{word_name}
use Rattle.scp_types.specs.declared.event.Event.{Event}
use Rattle.line_request.specs.Lines.{AreSaid, AsksSayOf, IsRead, IsSaid}

pub nothing-said : (w : Option (Bytes × Bytes × Bytes × Bytes × Bytes)) (name from i slices statement : Bytes) (u : ℕ) (o : Option Bytes)
    → Some (name, from, i, slices, statement) ≡ w → Some u ≡ word_name name → IsRead (λ bytes. AreSaid bytes from i slices statement) o → o ≡ None
    → (x : Event) → AsksSayOf w x → ⊥
nothing-said w name from i slices statement u o cut named read none x h =
    let first : IsSaid (word_name name) (name, from, i, slices, statement) x = subst (λ v. AsksSayOf v x) (sym cut) h in
    let second : IsSaid (Some u) (name, from, i, slices, statement) x = subst (λ v. IsSaid v (name, from, i, slices, statement) x) (sym named) first in
    let nothing : IsRead (λ bytes. AreSaid bytes from i slices statement) None = subst (λ v. IsRead (λ bytes. AreSaid bytes from i slices statement) v) none read in
    nothing second.0 second.1
