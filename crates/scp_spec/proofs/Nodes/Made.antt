-- What holds of the node that an event makes, and so of the one that answers it: what each pass keeps stays. `Passes`,
-- `Sending` and the other files of `Nodes` stand on it.
use Rattle.std.proofs.Common.{◌≡◌, ℕ, zero, suc, Bool, true, false, Option, Some, None, if◌then◌else◌, refl, subst}
use Rattle.scp_types.specs.declared.event.NodeEvent.{NodeEvent}
use Rattle.scp_types.specs.Statements.{Sent}
use Rattle.scp_types.specs.declared.statement.Statement.{Statement}
use Rattle.scp_types.specs.declared.state.Votes.{Votes}
use Rattle.scp_spec.specs.Sameness.{same_votes}
use Rattle.scp_spec.specs.Nodes.{Node, after_pass, settle, change, with_settled_votes, after_change, node_and_outs, step, most_passes}

-- the envelope in which a node says something
abbrev pub said_by : Node → Statement → Sent
said_by n s = record { sender = n.name; slot = n.slot; slices = n.slices; body = s }

abbrev pub if_node : (Node → Type 0) → Option Node → Type 0
if_node P None = Unit {0}
if_node P (Some n) = P n

pub if_node-if : (P : Node → Type 0) (b : Bool) (n : Node) → P n → if_node P (if b then Some n else None)
if_node-if P true n h = h
if_node-if P false n h = tt

pub node_and_outs-node : (P : Node → Type 0) (n : Node) (o : Option Node) → P n → if_node P o → P (node_and_outs n o).0
node_and_outs-node P n None h k = h
node_and_outs-node P n (Some m) h k = k

-- what each pass keeps, settling keeps
settle-keeps : (P : Votes → Type 0) (k : ℕ) (f : Votes → Votes) → ((w : Votes) → P w → P (f w)) → (w u : Votes) → P w
    → settle k f w ≡ Some u → P u
unfolding settle
settle-keeps P zero f p w u h e = cc
settle-keeps P (suc k) f p w u h e = go (same_votes (f w) w) e (λ j. settle-keeps P k f p (f w) u (p w h) j)
  where
    go : (b : Bool) → (if b then Some w else settle k f (f w)) ≡ Some u → (settle k f (f w) ≡ Some u → P u) → P u
    go true j ih = let z : w ≡ u = cc in subst P z h
    go false j ih = ih j

module _ (P : Node → Type 0) (keeps : (n : Node) → P n → P (record n { votes = after_pass n n.votes })) where
  pub with_settled_votes-keeps : (o : Option Node) → if_node P o → if_node P (after_change o)
  with_settled_votes-keeps None h = tt
  with_settled_votes-keeps (Some n) h = go (settle most_passes (after_pass n) n.votes) refl
    where
      go : (o : Option Votes) → settle most_passes (after_pass n) n.votes ≡ o → if_node P (with_settled_votes n o)
      go None e = tt
      go (Some w) e =
          settle-keeps (λ (x : Votes). P (record n { votes = x })) most_passes (after_pass n)
          (λ x. keeps (record n { votes = x })) n.votes w h e

  -- and what an event's own change keeps too, the whole step
  pub step-keeps : (n : Node) (e : NodeEvent) → P n → if_node P (change n e) → P (step n e).0
  unfolding step
  step-keeps n e h k = node_and_outs-node P n (after_change (change n e)) h (with_settled_votes-keeps (change n e) k)
