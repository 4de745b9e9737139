-- What a line `say` delivers are the bytes of its words.
use Rattle.std.proofs.Common.{ℕ, List, [], ◌∷◌, codes, Option, Some, None, refl, subst, sym}
use Rattle.std.specs.Prelude.{option_and_then, option_map}
use Rattle.line_script.specs.Script.{Bytes}
use Rattle.line_request.specs.Lines.{AreSaid, IsRead}
use Rattle.line_request.specs.Requests.{IsRequested}
use Rattle.line_request.specs.declared.request.Request.{Request}
use Rattle.line_request.specs.declared.request.Request.TheVariants.{Apply}
use Rattle.line_request.specs.Saying.{delivered_by}

-- the fields of a line `say` with these words: what it delivers depends on neither its network nor its node
abbrev line_of_say : Bytes → Bytes → Bytes → Bytes → List Bytes
line_of_say from slot slices statement =
    codes "say" ∷ codes "0" ∷ codes "A" ∷ from ∷ slot ∷ slices ∷ statement ∷ []

pub say_read : (from slot slices statement : Bytes) (asked : Option (ℕ × Request)) → IsRequested (line_of_say from slot slices statement) asked
    → IsRead (λ bytes. AreSaid bytes from slot slices statement) (option_and_then (λ (r : ℕ × Request). delivered_by r.1) asked)
say_read from slot slices statement asked (r, (Some e, read, is), all) =
    let (bytes, said, event) = read in
    let wanted : Option Bytes → Type 0 = IsRead (λ bytes. AreSaid bytes from slot slices statement) in
    subst (λ a. wanted (option_and_then (λ (r : ℕ × Request). delivered_by r.1) a)) (sym all)
    (subst (λ r. wanted (option_and_then (λ (r : ℕ × Request). delivered_by r.1) (option_map (λ x. (0, x)) r))) (sym is)
    (subst (λ e. wanted (delivered_by (Apply e))) (sym event) said))
say_read from slot slices statement asked (r, (None, read, is), all) =
    let wanted : Option Bytes → Type 0 = IsRead (λ bytes. AreSaid bytes from slot slices statement) in
    subst (λ a. wanted (option_and_then (λ (r : ℕ × Request). delivered_by r.1) a)) (sym all)
    (subst (λ r. wanted (option_and_then (λ (r : ℕ × Request). delivered_by r.1) (option_map (λ x. (0, x)) r))) (sym is)
    (λ bytes said. read _ (bytes, said, refl)))
