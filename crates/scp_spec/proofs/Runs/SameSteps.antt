-- Two runs with the same kept steps give a member the same outs. `Crowds` and `Verdicts` stand on it.
use Rattle.std.proofs.Common.{◌≡◌, ℕ, Bool, true, false, Option, Some, None, List, if◌then◌else◌, refl, sym, ◌∙◌, ap₂}
use Rattle.std.proofs.Math.Path.{fun_ext}
use Rattle.scp_types.specs.Trees.{Slices}
use Rattle.scp_spec.specs.Sets.{Names}
use Rattle.scp_spec.specs.Networks.{HostedNode, Step, slices_of}
use Rattle.scp_spec.specs.Hosts.{Entry, Config, journal, new_net}
use Rattle.scp_spec.specs.Isolation.{KeptStep, kept_of, outs_of, closure, SameCast}
use Rattle.scp_spec.proofs.Runs.Sights.{sight, AllInstances}
use Rattle.scp_spec.proofs.Runs.Openings.{HaveSlicesWithin, cast_of}
use Rattle.scp_spec.proofs.Runs.KeptSteps.{AllIn, answers, run-sight}
use Rattle.scp_spec.proofs.Runs.KeptWithin.{all_in-other, events-closed, nodes-closed}

-- the same members in both worlds
pub casts-same : (R : Names) (v : ℕ) (nodes nodes' : List HostedNode) → SameCast R v nodes nodes'
    → cast_of R nodes ≡ cast_of R nodes'
casts-same R v nodes nodes' cast = fun_ext (λ w. go w (R w) refl)
  where
    go : (w : ℕ) (b : Bool) → R w ≡ b
        → (if b then slices_of nodes w else None) ≡ (if b then slices_of nodes' w else None)
    go w true s = cast.same w s
    go w false s = refl

pub nodes-other : (R : Names) (v : ℕ) (nodes nodes' : List HostedNode) → SameCast R v nodes nodes' → HaveSlicesWithin R nodes
    → HaveSlicesWithin R nodes'
nodes-other R v nodes nodes' cast h w q e s = h w q (cast.same w s ∙ e) s

pub no-instances : (R : Names) (i : ℕ) (config : Config) → AllInstances R i (new_net config)
no-instances R i config w p k = absurd (nothing p k)
  where
    nothing : {A : Type 0} (p : A) → ◌≡◌ {A = Option A} None (Some p) → ⊥
    nothing p e = cc

-- The headline, over the journals of one network in each history
pub journals-agree : (config config' : Config) (i v : ℕ) (es es' : List Step) →
    let one = journal (new_net config) es in
    let other = journal (new_net config') es' in
    let R = closure config.nodes i v one in
    SameCast R v config.nodes config'.nodes → kept_of R i one ≡ kept_of R i other → (u : ℕ) → R u ≡ true
    → outs_of i u one ≡ outs_of i u other
journals-agree config config' i v es es' cast same u r =
    run-sight R i u r es (new_net config) (no-instances R i config) in_one all_one
    ∙ (ap₂ (λ (c : ℕ → Option Slices) (ks : List KeptStep). answers c i (sight R i (new_net config)) u ks)
    (casts-same R v config.nodes config'.nodes cast) same
    ∙ sym (run-sight R i u r es' (new_net config') (no-instances R i config')
    (nodes-other R v config.nodes config'.nodes cast in_one) all_other))
  where
    one : List Entry
    one = journal (new_net config) es

    other : List Entry
    other = journal (new_net config') es'

    R : Names
    R = closure config.nodes i v one

    in_one : HaveSlicesWithin R config.nodes
    in_one = nodes-closed config.nodes i v one

    all_one : AllIn R i one
    all_one = events-closed config.nodes i v one

    all_other : AllIn R i other
    all_other = all_in-other R i one other same all_one
