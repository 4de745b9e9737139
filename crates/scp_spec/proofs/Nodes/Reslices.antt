-- What new slices make of a node. The law `slices_follow_events` and `Networks` stand on it.
use Rattle.scp_types.specs.declared.event.NodeEvent.TheVariants.{Propose, Take, NominationTimer, BallotTimer, Reslice}
use Rattle.scp_types.specs.declared.event.Out.{Out}
use Rattle.std.proofs.Common.{◌≡◌, ◌+◌, Bool, true, false, List, Option, Some, None, if◌then◌else◌, is_some, refl, ◌∙◌, ap}
use Rattle.std.proofs.lemmas.Bool.{false≢true}
use Rattle.scp_types.specs.Trees.{Slices}
use Rattle.scp_types.specs.declared.state.Votes.{Votes}
use Rattle.scp_spec.specs.Rows.{is_taken, with_row}
use Rattle.scp_spec.specs.Nodes.{Node, after_pass, settle, change, with_settled_votes, after_change, node_and_outs, step, in_round, with_timeout, with_slices, most_passes}
use Rattle.scp_spec.specs.Reslices.{SlicesFollowEvents, IsElseSame, ReslicesChangeVotes, SameSlicesAreQuiet}
use Rattle.scp_spec.proofs.Nodes.Calm.{settle-still}
use Rattle.scp_spec.proofs.Nodes.Quiet.{outs-none}
use Rattle.scp_spec.proofs.Nodes.Lawful.{calm-of-events}
use Rattle.scp_spec.proofs.Passes.Settling.{never_limited}

-- ---- the slices
with_settled_votes-slices : (q : Slices) (n m : Node) (o : Option Votes) → is_some o ≡ true → m.slices ≡ q
    → (node_and_outs n (with_settled_votes m o)).0.slices ≡ q
with_settled_votes-slices q n m None s e = absurd (false≢true s)
with_settled_votes-slices q n m (Some w) s e = e

-- the votes that settle are those of a node with these slices
stays : (n : Node) (b : Bool) (m : Node) → m.slices ≡ n.slices
    → (node_and_outs n (after_change (if b then Some m else None))).0.slices ≡ n.slices
stays n false m e = refl
stays n true m e = go (settle most_passes (after_pass m) m.votes)
  where
    go : (o : Option Votes) → (node_and_outs n (with_settled_votes m o)).0.slices ≡ n.slices
    go None = refl
    go (Some w) = e

pub slices_follow_events : SlicesFollowEvents
unfolding step change
slices_follow_events n r (Propose x) =
    stays n true (in_round (record n { inputs = record n.inputs { proposal = Some x } }) 1) refl
slices_follow_events n r (Take e) = stays n (is_taken n.table e) (record n { table = with_row e n.table }) refl
slices_follow_events n r (NominationTimer k) = stays n _ (in_round n (k + 1)) refl
slices_follow_events n r (BallotTimer c) = stays n _ (with_timeout n) refl
slices_follow_events n r (Reslice q) =
    with_settled_votes-slices q n (with_slices n q) (settle most_passes (after_pass (with_slices n q)) n.votes)
    (never_limited n r (Reslice q) (with_slices n q) refl) refl

-- ---- what stays
pub reslices_change_votes : ReslicesChangeVotes
unfolding step change
reslices_change_votes n q = go (settle most_passes (after_pass (with_slices n q)) n.votes)
  where
    go : (o : Option Votes) → IsElseSame n (node_and_outs n (with_settled_votes (with_slices n q) o)).0
    go None = record { name = refl; slot = refl; inputs = refl; table = refl }
    go (Some w) = record { name = refl; slot = refl; inputs = refl; table = refl }

pub same_slices_are_quiet : SameSlicesAreQuiet
unfolding step change
same_slices_are_quiet n r =
    ap (λ (w : Option Votes). node_and_outs n (with_settled_votes n w))
    (settle-still 63 (after_pass n) n.votes (calm-of-events r))
    ∙ ap {B = Node × List Out} (λ (os : List Out). (n, os)) (outs-none n n.table)
