-- Which events change nothing, as the code tells them.
use Rattle.std.proofs.Common.{◌≡◌, ℕ, Bool, true, false, List, Option, Some, None, is_some, if◌then◌else◌, refl, sym, ◌∙◌, ap}
use Rattle.std.proofs.lemmas.Bool.{false≢true}
use Rattle.scp_types.specs.Trees.{Slices}
use Rattle.scp_types.specs.Statements.{Sent}
use Rattle.scp_types.specs.declared.event.NodeEvent.TheVariants.{Propose, Take, NominationTimer, BallotTimer, Reslice}
use Rattle.scp_types.specs.declared.state.Inputs.{Inputs}
use Rattle.scp_types.specs.declared.state.Votes.{Votes}
use Rattle.scp_spec.specs.Nodes.{Node, change, is_counter_live, is_round_live}
use Rattle.scp_spec.specs.Rows.{is_taken}
use Rattle.node_view.specs.declared.configured.Configured.{Configured}
use Rattle.node_core.specs.NodeParts.{node_from_parts}

-- what is done on a condition alone changes nothing only without it
guarded : (b : Bool) (m : Node) → (if b then Some m else None) ≡ None → b ≡ false
guarded true m e = absurd (false≢true (sym (ap is_some e)))
guarded false m e = refl

pub never : {o : Option Node} (m : Node) → o ≡ Some m → o ≡ None → ⊥
never m made none = false≢true (ap is_some (sym none ∙ made))

-- a proposal and new slices always change the node
pub propose-changes : (n : Node) (x : List ℕ) → change n (Propose x) ≡ None → ⊥
unfolding change
propose-changes n x e = false≢true (sym (ap is_some e))

pub reslice-changes : (n : Node) (q : Slices) → change n (Reslice q) ≡ None → ⊥
unfolding change
reslice-changes n q e = false≢true (sym (ap is_some e))

-- an envelope is stale, and a timer not live
pub idle-stale : (c : Configured) (inputs : Inputs) (votes : Votes) (table : List Sent) (n : Node) (x : Sent) → n ≡ node_from_parts c inputs votes table → change n (Take x) ≡ None → is_taken table x ≡ false
unfolding change
idle-stale c inputs votes table n x e idle = guarded _ _ (sym (ap (λ m. change m (Take x)) e) ∙ idle)

pub idle-round : (n : Node) (r : ℕ) → change n (NominationTimer r) ≡ None → is_round_live n r ≡ false
unfolding change
idle-round n r idle = guarded _ _ idle

pub idle-counter : (n : Node) (k : ℕ) → change n (BallotTimer k) ≡ None → is_counter_live n k ≡ false
unfolding change
idle-counter n k idle = guarded _ _ idle
