-- No event of a node that events lead to meets the limit of passes: its votes are fit, and each step keeps them so. The
-- law `four_passes_are_enough`, `Nodes` and the crate `node_core` stand on it.
use Rattle.scp_types.specs.declared.event.NodeEvent.{NodeEvent}
use Rattle.std.proofs.Common.{◌≡◌, ℕ, suc, ◌+◌, Option, Some, None, refl, subst, arith}
use Rattle.scp_types.specs.Trees.{Slices}
use Rattle.scp_types.specs.declared.ballot.Ballot.{Ballot}
use Rattle.scp_spec.specs.Rows.{with_row, is_taken}
use Rattle.scp_spec.specs.Views.{seen}
use Rattle.scp_types.specs.declared.state.Votes.{Votes}
use Rattle.scp_types.specs.declared.state.Phase.TheVariants.{Preparing, Committing}
use Rattle.scp_spec.specs.Nodes.{Node, fresh, after_pass, settle, change, step, at_next_counter, in_round, with_timeout}
use Rattle.scp_types.specs.declared.event.NodeEvent.TheVariants.{Propose, Take, NominationTimer, BallotTimer, Reslice}
use Rattle.scp_spec.specs.Limits.{ComesOfEvents, NeverLimited, WithinFour}
use Rattle.scp_spec.specs.Limits.ComesOfEvents.{begin, next}
use Rattle.scp_spec.proofs.Balloting.FairSight.{seen-fair}
use Rattle.scp_spec.proofs.Nodes.Made.{if_node, if_node-if, step-keeps}
use Rattle.scp_spec.proofs.Passes.RuleByRule.{ballot_at_counter-sound}
use Rattle.scp_spec.proofs.Passes.FourPasses.{Fit, IsSome, four, pass-fit}

-- Nodes
pub fresh-fit : (slot v : ℕ) (q : Slices) → Fit (fresh slot v q).votes
unfolding fresh
fresh-fit slot v q =
    record {
      sound = record {
        aborted = omega arith;
        confirmed_prepared = tt;
        committing = λ (c : Preparing ≡ Committing). cc;
      };
      ascending = tt;
    }

at_next_counter-fit : (w : Votes) (o : Option Ballot) → w.ballot ≡ o → Fit w → Fit (at_next_counter w o)
at_next_counter-fit w None e h = h
at_next_counter-fit w (Some b) e h =
    record { sound = ballot_at_counter-sound w b (b.counter + 1) w.armed e h.sound; ascending = h.ascending }

abbrev IsFit : Node → Type 0
IsFit n = Fit n.votes

change-fit : (n : Node) (e : NodeEvent) → IsFit n → if_node IsFit (change n e)
unfolding change
change-fit n (Propose x) h = h
change-fit n (Take e) h = if_node-if IsFit (is_taken n.table e) (record n { table = with_row e n.table }) h
change-fit n (NominationTimer r) h = if_node-if IsFit _ (in_round n (r + 1)) h
change-fit n (BallotTimer c) h = if_node-if IsFit _ (with_timeout n) (at_next_counter-fit n.votes n.votes.ballot refl h)
change-fit n (Reslice q) h = h

pub step-fit : (n : Node) (e : NodeEvent) → Fit n.votes → Fit (step n e).0.votes
step-fit n e h = step-keeps IsFit (λ m. pass-fit m.name (seen m.name m.slices m.inputs.leaders m.table)
    (seen-fair m.name m.slices m.inputs.leaders m.table) m.inputs m.votes) n e h (change-fit n e h)

pub reached-fit : {n : Node} → ComesOfEvents n → Fit n.votes
reached-fit (begin slot v q) = fresh-fit slot v q
reached-fit (next {n} r e) = step-fit n e (reached-fit r)

-- an event's own change
pub changed-fit : (n : Node) (e : NodeEvent) (m : Node) → Fit n.votes → change n e ≡ Some m → Fit m.votes
changed-fit n e m h c = subst (if_node IsFit) c (change-fit n e h)

-- for each node whose votes are fit
pub fit-four : (n : Node) (e : NodeEvent) (m : Node) (k : ℕ) → Fit n.votes → change n e ≡ Some m
    → IsSome (settle (suc (suc (suc (suc k)))) (after_pass m) m.votes)
fit-four n e m k h c =
    four m.name (seen m.name m.slices m.inputs.leaders m.table)
    (seen-fair m.name m.slices m.inputs.leaders m.table) m.inputs k m.votes (changed-fit n e m h c)

pub never_limited : NeverLimited
never_limited n r e m c = fit-four n e m 60 (reached-fit r) c

pub within_four : WithinFour
within_four n r e m c = fit-four n e m 0 (reached-fit r) c
