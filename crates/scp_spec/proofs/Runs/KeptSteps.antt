-- A whole run, as R sees it, is a run of the machine of the kept steps. `Crowds` and `Networks` stand on it.
use Rattle.scp_types.specs.declared.event.Refusal.{Refusal}
use Rattle.scp_types.specs.declared.event.Out.{Out}
use Rattle.std.proofs.Common.{◌≡◌, ℕ, Bool, true, not, Option, Some, None, List, [], ◌∷◌, ◌++◌, length, nat_lt, is_some, refl, sym, ◌∙◌, ap₂, subst}
use Rattle.std.specs.List.{AllByRecursion, cons_option}
use Rattle.scp_types.specs.Trees.{Slices}
use Rattle.scp_spec.specs.Sets.{Names}
use Rattle.scp_spec.specs.Networks.{HostedNode, Instance, Net, Step, instances_at, effect, tests, first_that, source, room_test, size_of, with_draw, state_and_reply, net_step}
use Rattle.scp_types.specs.declared.event.Refusal.TheVariants.{SlotOpenAlready, TooManySlots}
use Rattle.scp_spec.specs.Networks.Step.{Opens}
use Rattle.scp_spec.specs.Hosts.{Entry, journal_with, journal}
use Rattle.scp_spec.specs.Isolation.{KeptStep, kept_step, is_of, kept_of, outs_of}
use Rattle.scp_spec.proofs.Networks.Effects.{effect-keeps}
use Rattle.scp_spec.proofs.Runs.Sights.{Sight, sight, play, reply, AllInstances}
use Rattle.scp_spec.proofs.Runs.Follows.{Follows}
use Rattle.scp_spec.proofs.Runs.Events.{IsWithin, IsNew, follows}
use Rattle.scp_spec.proofs.Runs.Openings.{HaveSlicesWithin, cast_of}

-- the outs that the kept steps give a node
abbrev pub answers : (ℕ → Option Slices) → ℕ → Sight → ℕ → List KeptStep → List Out
answers cast i s u [] = []
answers cast i s u (k ∷ ks) = reply s (Some k) u ++ answers cast i (play cast i s (Some k)) u ks

answers-option : (cast : ℕ → Option Slices) (i : ℕ) (s : Sight) (u : ℕ) (o : Option KeptStep) (ks : List KeptStep)
    → answers cast i s u (cons_option o ks) ≡ reply s o u ++ answers cast i (play cast i s o) u ks
answers-option cast i s u None ks = refl
answers-option cast i s u (Some k) ks = refl

pub is_new : (net : Net) (e : Step) → first_that (tests net e) ≡ None → IsNew net e
is_new net (Opens j) h =
    go ((not (nat_lt (length net.slots) net.budgets.slots), TooManySlots) ∷ room_test net
    (source net.roster (Opens j)) ∷ []) (instances_at net.slots j) h
  where
    go : (ts : List (Bool × Refusal)) (o : Option (List Instance))
        → first_that ((is_some o, SlotOpenAlready) ∷ ts) ≡ None → o ≡ None
    go ts None h = refl
    go ts (Some x) h = cc
is_new net _ h = tt

abbrev pub AllIn : Names → ℕ → List Entry → Type 0
AllIn R i entries = AllByRecursion (λ x. IsWithin R i x.event) entries

-- one history, by its applied events
pub run-sight : (R : Names) (i u : ℕ) → R u ≡ true → (es : List Step) (net : Net) → AllInstances R i net
    → HaveSlicesWithin R net.nodes → AllIn R i (journal net es)
    → outs_of i u (journal net es) ≡ answers (cast_of R net.nodes) i (sight R i net) u (kept_of R i (journal net es))
unfolding journal net_step outs_of kept_of
run-sight R i u r [] net h nodes f = refl
run-sight R i u r (e ∷ es) net h nodes f = go (first_that (tests net e)) refl f (λ n. run-sight R i u r es n)
  where
    Claim : Net → Type 0
    Claim n = AllInstances R i n → HaveSlicesWithin R n.nodes → AllIn R i (journal n es)
        → outs_of i u (journal n es) ≡ answers (cast_of R n.nodes) i (sight R i n) u (kept_of R i (journal n es))

    go : (o : Option Refusal) → first_that (tests net e) ≡ o
        → AllIn R i (journal_with e (state_and_reply net e o).1 (journal (state_and_reply net e o).0 es))
        → ((n : Net) → Claim n)
        → outs_of i u (journal_with e (state_and_reply net e o).1 (journal (state_and_reply net e o).0 es))
        ≡ answers (cast_of R net.nodes) i (sight R i net) u
        (kept_of R i (journal_with e (state_and_reply net e o).1 (journal (state_and_reply net e o).0 es)))
    go (Some n) q f ih = ih net h nodes f
    go None q f ih =
        let next : Net = with_draw (source net.roster e) (size_of e) (effect net e).0 in
        let step : Follows R (cast_of R net.nodes) i net (effect net e) (λ w. is_of i w e) (kept_step R i e) =
        follows R i net e h nodes (is_new net e q) f.0 in
        let same : next.nodes ≡ net.nodes = (effect-keeps net e).nodes in
        let rest = ih next step.instances (subst (HaveSlicesWithin R) (sym same) nodes) f.1 in
        ap₂ (λ (xs ys : List Out). xs ++ ys) (step.replies u r)
        (rest ∙ ap₂ (λ (hs : List HostedNode) (s : Sight). answers (cast_of R hs) i s u
        (kept_of R i (journal next es))) same step.sights)
        ∙ sym (answers-option (cast_of R net.nodes) i (sight R i net) u (kept_step R i e)
        (kept_of R i (journal next es)))
