-- Isolation of two runs of one network, each of its own configuration. The law `verdicts_are_determined`, `Found` and
-- the crate `host_compare` stand on it.
use Rattle.std.proofs.Common.{◌≡◌, ℕ, true, List, sym, subst}
use Rattle.scp_spec.specs.Hosts.{Entry}
use Rattle.scp_spec.specs.Isolation.{closure, kept_of, outs_of, SameCast}
use Rattle.scp_spec.specs.Verdicts.{IsolatedRuns}
use Rattle.scp_spec.proofs.Runs.SameSteps.{journals-agree}
use Rattle.scp_spec.proofs.Networks.Journals.{runs_are_journals}

pub isolated_runs : IsolatedRuns
isolated_runs one other runs others i v a b =
    agree (runs_are_journals one runs a) (runs_are_journals other others b) (journals-agree one other i v _ _)
  where
    Claim : List Entry → List Entry → Type 0
    Claim x y = SameCast (closure one.nodes i v x) v one.nodes other.nodes
        → kept_of (closure one.nodes i v x) i x ≡ kept_of (closure one.nodes i v x) i y → (u : ℕ)
        → closure one.nodes i v x u ≡ true → outs_of i u x ≡ outs_of i u y

    agree : {x x' y y' : List Entry} → x ≡ x' → y ≡ y' → Claim x' y' → Claim x y
    agree p q f = subst (λ (z : List Entry × List Entry). Claim z.0 z.1) (sym (λ j. (p j, q j))) f
