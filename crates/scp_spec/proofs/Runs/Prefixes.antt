-- After each beginning of a run the closure of the whole run is closed for its hosted members. The law
-- `members_stay_within_closures` and `Agreements` stand on it.
use Rattle.scp_types.specs.declared.event.Refusal.{Refusal}
use Rattle.std.proofs.Common.{◌≡◌, ℕ, zero, suc, Option, Some, None, List, [], ◌∷◌, map, take, refl, sym, subst}
use Rattle.scp_spec.specs.Sets.{Names}
use Rattle.scp_spec.specs.Nodes.{Node}
use Rattle.scp_spec.specs.Networks.{Net, Step, effect, source, size_of, tests, first_that, with_draw, state_and_reply, net_step}
use Rattle.scp_spec.specs.Hosts.{Entry, Config, journal_with, journal, new_net}
use Rattle.scp_spec.specs.Isolation.{closure}
use Rattle.scp_spec.specs.Runs.{net_after, state_of, IsRun}
use Rattle.scp_spec.specs.Claims.{IsClosedFor, PrefixOfWholeRun}
use Rattle.scp_spec.proofs.Networks.Effects.{effect-keeps}
use Rattle.scp_spec.proofs.Nodes.Views.{reached-in}
use Rattle.scp_spec.proofs.Nodes.Closed.{Good}
use Rattle.scp_spec.proofs.Runs.Sights.{AllInstances}
use Rattle.scp_spec.proofs.Runs.Openings.{HaveSlicesWithin}
use Rattle.scp_spec.proofs.Runs.Events.{follows}
use Rattle.scp_spec.proofs.Runs.KeptSteps.{AllIn, is_new}
use Rattle.scp_spec.proofs.Runs.SameSteps.{no-instances}
use Rattle.scp_spec.proofs.Runs.KeptWithin.{nodes-closed, events-closed}
use Rattle.scp_spec.proofs.Networks.Journals.{runs_are_journals}

pub closed_for : (R : Names) (n : Node) → Good R n → IsClosedFor R n
closed_for R n g = record { has = g.closed.has; own = g.closed.own; leaders = g.leaders; rows = g.closed.rows }

-- what holds of hosted nodes and instances holds after each beginning of a journal
abbrev pub Holds : Names → ℕ → Net → Type 0
Holds R i net = AllInstances R i net × HaveSlicesWithin R net.nodes

instances-after : (R : Names) (i : ℕ) (es : List Step) (net : Net) → Holds R i net → AllIn R i (journal net es) → (n : ℕ)
    → Holds R i (net_after net (take n (journal net es)))
unfolding journal net_step net_after
instances-after R i [] net h f zero = h
instances-after R i [] net h f (suc n) = h
instances-after R i (e ∷ es) net h f n = go (first_that (tests net e)) refl f (λ x. instances-after R i es x) n
  where
    Claim : Net → List Entry → Type 0
    Claim x run = (n : ℕ) → Holds R i (net_after x (take n run))

    go : (o : Option Refusal) → first_that (tests net e) ≡ o
        → AllIn R i (journal_with e (state_and_reply net e o).1 (journal (state_and_reply net e o).0 es))
        → ((x : Net) → Holds R i x → AllIn R i (journal x es) → Claim x (journal x es))
        → Claim net (journal_with e (state_and_reply net e o).1 (journal (state_and_reply net e o).0 es))
    go (Some r) q f ih n = ih net h f n
    go None q f ih zero = h
    go None q f ih (suc n) =
        let after : Net = with_draw (source net.roster e) (size_of e) (effect net e).0 in
        subst (λ o. Holds R i (net_after (state_and_reply net e o).0 (take n (journal after es)))) (sym q)
        (ih after (
          (follows R i net e h.0 h.1 (is_new net e q) f.0).instances,
          subst (HaveSlicesWithin R) (sym (effect-keeps net e).nodes) h.1,
        ) f.1 n)

pub holds-after : (config : Config) (run : List Entry) (i v n : ℕ) → IsRun config run
    → Holds (closure config.nodes i v run) i (state_of config (take n run))
holds-after config run i v n is =
    let R : Names = closure config.nodes i v run in
    let net : Net = new_net config in
    let all =
    subst (λ (es : List Entry). AllIn R i es → Holds R i (net_after net (take n es)))
    (sym (runs_are_journals config run is))
    (λ f. instances-after R i (map (λ (x : Entry). x.event) run) net (
      no-instances R i config,
      nodes-closed config.nodes i v run,
    ) f n) in
    all (events-closed config.nodes i v run)

pub prefix_of_whole_run : PrefixOfWholeRun
prefix_of_whole_run config run i v is n u p r k =
    let R : Names = closure config.nodes i v run in
    let g : Good R p.node = ((holds-after config run i v n is).0 u p k).good r in
    (closed_for R p.node g, λ w h. reached-in R p.node.name p.node.slices p.node.table g.closed w h)
