-- Where nothing happens, nothing is kept, and R sees the same. `Events` and `Hearings` stand on it.
use Rattle.scp_types.specs.declared.event.Out.{Out}
use Rattle.std.proofs.Common.{◌≡◌, ℕ, Bool, true, false, Option, None, [], ◌++◌, if◌then◌else◌, refl}
use Rattle.scp_types.specs.Trees.{Slices}
use Rattle.scp_spec.specs.Sets.{Names}
use Rattle.scp_spec.specs.Networks.{Net}
use Rattle.scp_spec.proofs.Runs.Sights.{AllInstances}
use Rattle.scp_spec.proofs.Runs.Follows.{Follows}

-- nothing happens, and nothing is kept
pub stays : (R : Names) (cast : ℕ → Option Slices) (i : ℕ) (net : Net) (of : ℕ → Bool) → AllInstances R i net
    → Follows R cast i net (net, []) of None
stays R cast i net of h = record { sights = refl; replies = λ w r. nothing (of w); instances = h }
  where
    nothing : (b : Bool) → (if b then [] else []) ≡ ◌++◌ {A = Out} [] []
    nothing true = refl
    nothing false = refl

pub empty : (a b : Bool) → (if a then [] else []) ≡ (if b then [] else ◌++◌ {A = Out} [] [])
empty true true = refl
empty true false = refl
empty false true = refl
empty false false = refl
