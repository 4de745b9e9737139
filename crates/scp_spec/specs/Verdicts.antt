-- What a comparison of one network in two worlds answers.
use Rattle.scp_types.specs.declared.event.Out.{Out}
use Rattle.std.specs.Prelude.{◌≡◌, ◌≢◌, ℕ, ◌<◌, ◌⊎◌, List, take, slice_get, map, IsTrue, IsFalse, is_some}
use Rattle.std.specs.List.{AllByRecursion, Contains}
use Rattle.scp_spec.specs.Sets.{Names, IsAscending}
use Rattle.scp_spec.specs.Networks.{HostedNode, slices_of}
use Rattle.scp_spec.specs.Hosts.{Config, Entry}
use Rattle.scp_spec.specs.Runs.{IsRun}
use Rattle.scp_spec.specs.Isolation.{closure, kept_of, outs_of, SameCast}

-- The casts differ at a node, or the kept steps differ at a place. Or all is the same, with what each hosted member
-- gave out.
pub data Verdict : Type 0 where
  CastDiffers : ℕ → Verdict
  InputsDiffer : ℕ → Verdict
  Same : List (ℕ × List Out) → Verdict

-- v itself if the first world does not host it; else the least member that the worlds host unlike
abbrev pub IsFirstUnlike : Names → ℕ → List HostedNode → List HostedNode → ℕ → Type 0
IsFirstUnlike R v one other u =
    (IsFalse (is_some (slices_of one v)) × (u ≡ v))
    ⊎ (IsTrue (is_some (slices_of one v))
    × (IsTrue (R u) × ((slices_of one u ≢ slices_of other u)
    × ((w : ℕ) → IsTrue (R w) → w < u → slices_of one w ≡ slices_of other w))))

-- the place of the first difference: the number of steps that agree
pub record IsFirstDifference {A : Type 0} (one other : List A) (place : ℕ) : Type 0 where
  pub before : take place one ≡ take place other
  pub there : slice_get one place ≢ slice_get other place

-- the hosted members, ascending, each with its outs in that world
pub record IsListOf (R : Names) (nodes : List HostedNode) (i : ℕ) (run : List Entry)
    (list : List (ℕ × List Out)) : Type 0 where
  pub outs : AllByRecursion
      (λ p. (p.1 ≡ outs_of i p.0 run) × (IsTrue (R p.0) × IsTrue (is_some (slices_of nodes p.0)))) list
  pub all : (u : ℕ) → IsTrue (R u) → IsTrue (is_some (slices_of nodes u)) → Contains (map (λ p. p.0) list) u
  pub ascending : IsAscending (map (λ p. p.0) list)

-- the verdict on two runs of one network, for the closure of v at slot i in the first
abbrev pub IsVerdict : List HostedNode → List HostedNode → List Entry → List Entry → ℕ → ℕ → Verdict → Type 0
IsVerdict one other runs others i v (CastDiffers u) = IsFirstUnlike (closure one i v runs) v one other u
IsVerdict one other runs others i v (InputsDiffer place) =
    let R = closure one i v runs in
    SameCast R v one other × IsFirstDifference (kept_of R i runs) (kept_of R i others) place
IsVerdict one other runs others i v (Same list) =
    let R = closure one i v runs in
    SameCast R v one other
    × ((kept_of R i runs ≡ kept_of R i others) × (IsListOf R one i runs list × IsListOf R one i others list))

-- two runs have only one right verdict
abbrev pub VerdictsAreUnique : Type 0
VerdictsAreUnique = (one other : List HostedNode) (runs others : List Entry) (i v : ℕ) (a b : Verdict)
    → IsVerdict one other runs others i v a → IsVerdict one other runs others i v b → a ≡ b

-- every two runs have a right verdict
abbrev pub VerdictsExist : Type 0
VerdictsExist = (one other : Config) (runs others : List Entry) (i v : ℕ) → IsRun one runs → IsRun other others
    → (verdict : Verdict) × IsVerdict one.nodes other.nodes runs others i v verdict

-- Isolation of two runs, each of its own configuration, whatever is answered
abbrev pub IsolatedRuns : Type 0
IsolatedRuns = (one other : Config) (runs others : List Entry) (i v : ℕ) → IsRun one runs → IsRun other others →
    let R = closure one.nodes i v runs in
    SameCast R v one.nodes other.nodes → kept_of R i runs ≡ kept_of R i others
    → (u : ℕ) → IsTrue (R u) → outs_of i u runs ≡ outs_of i u others
