-- Journals are runs, and runs are journals. The law `journals_are_runs`, `Runs`, `Verdicts` and the crate
-- `host_journal` stand on it.
use Rattle.scp_types.specs.declared.event.Refusal.{Refusal}
use Rattle.std.proofs.Common.{◌≡◌, ℕ, zero, suc, List, [], ◌∷◌, map, take, slice_get, Option, Some, None, refl, sym, ◌∙◌, ap, subst}
use Rattle.scp_spec.specs.Networks.{Step, Net, tests, first_that, effect, state_and_reply, net_step}
use Rattle.scp_spec.specs.Hosts.{Entry, new_net, journal_with, journal}
use Rattle.scp_spec.proofs.Networks.Effects.{next}
use Rattle.scp_spec.specs.Runs.{net_after, JournalsAreRuns, RunsAreJournals}

-- a run from any state of a network
pub record RunsFrom (net : Net) (entries : List Entry) : Type 0 where
  pub applied : (k : ℕ) (x : Entry) → slice_get entries k ≡ Some x
      → first_that (tests (net_after net (take k entries)) x.event) ≡ None
  pub outs : (k : ℕ) (x : Entry) → slice_get entries k ≡ Some x
      → x.outs ≡ (effect (net_after net (take k entries)) x.event).1

-- the network after its first entry
pub run-moves : (net : Net) (x : Entry) (xs : List Entry) → first_that (tests net x.event) ≡ None
    → net_after net (x ∷ xs) ≡ net_after (next net x.event) xs
unfolding net_after net_step
run-moves net x xs q = ap (λ o. net_after (state_and_reply net x.event o).0 xs) q

-- from which the others are a run
pub runs-next : (net : Net) (x : Entry) (xs : List Entry) → RunsFrom net (x ∷ xs) → RunsFrom (next net x.event) xs
unfolding net_after
runs-next net x xs h =
    record {
      applied = λ k y g. sym (ap (λ m. first_that (tests m y.event)) (moves k)) ∙ h.applied (suc k) y g;
      outs = λ k y g. h.outs (suc k) y g ∙ ap (λ m. (effect m y.event).1) (moves k);
    }
  where
    moves : (k : ℕ) → net_after net (x ∷ take k xs) ≡ net_after (next net x.event) (take k xs)
    moves k = run-moves net x (take k xs) (h.applied zero x refl)

journal-runs : (events : List Step) (net : Net) → RunsFrom net (journal net events)
unfolding journal net_after net_step
journal-runs [] net = record { applied = λ k x e. cc; outs = λ k x e. cc }
journal-runs (e ∷ es) net = go (first_that (tests net e)) refl (λ n. journal-runs es n)
  where
    go : (o : Option Refusal) → first_that (tests net e) ≡ o → ((n : Net) → RunsFrom n (journal n es))
        → RunsFrom net (journal_with e (state_and_reply net e o).1 (journal (state_and_reply net e o).0 es))
    go (Some r) q ih = ih net
    go None q ih = record { applied = applies; outs = gives }
      where
        rest : List Entry
        rest = journal (next net e) es

        first : Entry
        first = record { event = e; outs = (effect net e).1 }

        applies : (k : ℕ) (x : Entry) → slice_get (first ∷ rest) k ≡ Some x
            → first_that (tests (net_after net (take k (first ∷ rest))) x.event) ≡ None
        applies zero x h = let z : first ≡ x = cc in subst (λ (y : Entry). first_that (tests net y.event) ≡ None) z q
        applies (suc k) x h =
            ap (λ n. first_that (tests n x.event)) (run-moves net first (take k rest) q)
            ∙ (ih (next net e)).applied k x h

        gives : (k : ℕ) (x : Entry) → slice_get (first ∷ rest) k ≡ Some x
            → x.outs ≡ (effect (net_after net (take k (first ∷ rest))) x.event).1
        gives zero x h = let z : first ≡ x = cc in subst (λ (y : Entry). y.outs ≡ (effect net y.event).1) z refl
        gives (suc k) x h =
            (ih (next net e)).outs k x h
            ∙ ap (λ n. (effect n x.event).1) (sym (run-moves net first (take k rest) q))

runs-journal : (entries : List Entry) (net : Net) → RunsFrom net entries
    → entries ≡ journal net (map (λ x. x.event) entries)
unfolding journal net_after net_step
runs-journal [] net h = refl
runs-journal (x ∷ xs) net h =
    entry (first_that (tests net x.event)) (h.applied zero x refl)
    (runs-journal xs (next net x.event) (runs-next net x xs h))
  where
    entry : (o : Option Refusal) → o ≡ None → xs ≡ journal (next net x.event) (map (λ x. x.event) xs)
        → x ∷ xs ≡ journal_with x.event (state_and_reply net x.event o).1
        (journal (state_and_reply net x.event o).0 (map (λ x. x.event) xs))
    entry (Some r) n same = cc
    entry None n same = λ i. record { event = x.event; outs = h.outs zero x refl i } ∷ same i

pub journals_are_runs : JournalsAreRuns
journals_are_runs config events =
    let r = journal-runs events (new_net config) in record { applied = r.applied; outs = r.outs }

pub runs_are_journals : RunsAreJournals
runs_are_journals config entries h =
    runs-journal entries (new_net config) (record { applied = h.applied; outs = h.outs })
