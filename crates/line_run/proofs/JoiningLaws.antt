-- Networks join one after the other.
use Rattle.std.proofs.Common.{◌≡◌, ℕ, [], ◌∷◌, Ok, Err, sym, subst}
use Rattle.std.specs.Prelude.{OnOk, Result}
use Rattle.line_request.specs.Outlines.{Outlined, Waiting}
use Rattle.line_run.specs.Joining.{HasJoined, HaveJoined, Joins}
use Rattle.line_run.specs.Joining.HaveJoined.{none, next}

pub none-joins : {S : Type 0} (joins : Joins S) (ws : Waiting) (s : S) → ws ≡ [] → HaveJoined joins ws s s
none-joins joins ws s e = subst (λ x. HaveJoined joins x s s) (sym e) none

pub first-joins : {S T E : Type 0} (joins : Joins S) (r : Result T E) (ws more : Waiting) (g : ℕ) (d : Outlined) (old now new : S)
    → ws ≡ (g, d) ∷ more → HasJoined joins g d old now → OnOk r (HaveJoined joins more now new) → OnOk r (HaveJoined joins ws old new)
first-joins joins (Ok x) ws more g d old now new e h rest = subst (λ x. HaveJoined joins x old new) (sym e) (next h rest)
first-joins joins (Err x) ws more g d old now new e h rest = tt
