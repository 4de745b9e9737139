-- The rules that an envelope stirs: where the reach stays, those of its kind alone.
use Rattle.std.proofs.Common.{◌≡◌, List, sym, subst}
use Rattle.scp_types.specs.Statements.{Sent}
use Rattle.scp_types.specs.declared.state.Inputs.{Inputs}
use Rattle.scp_types.specs.declared.state.Votes.{Votes}
use Rattle.scp_spec.specs.Limits.{ComesOfEvents}
use Rattle.scp_spec.specs.Nodes.{Node}
use Rattle.scp_spec.specs.Rows.{with_row}
use Rattle.scp_spec.specs.Stirring.{ReachesSame}
use Rattle.scp_spec.proofs.Passes.Stirring.{ballot_rows_stir_ballots, nomination_rests_after_a_pass, nomination_rows_stir_nomination}
use Rattle.node_store.specs.Archives.{sents_of}
use Rattle.node_core.specs.declared.stirring.Stirred.{Stirred}
use Rattle.node_core.specs.declared.stirring.Stirred.TheVariants.{All, Ballots, Nominations}
use Rattle.node_view.specs.Listening.{ListenerState}
use Rattle.node_core.specs.Listening.{node_of}
use Rattle.node_core.specs.Stirrings.{IsStart, IsStirred, StirsIn}
use Rattle.node_core.specs.NodeParts.{IsBeforePasses, node_from_parts}
use Rattle.node_core.proofs.Answered.{sends_of, settles_of}

-- ---- what is stirred
-- a node after an event of whatever kind
stirs-all : (m : Node) → IsBeforePasses m → StirsIn All m
stirs-all m d = nomination_rests_after_a_pass d.before d.reached d.event m d.is

-- the listener after a row
row-in : (h k : ListenerState) (inputs : Inputs) (votes : Votes) (x : Sent) → k.configured ≡ h.configured → sents_of k.table ≡ with_row x (sents_of h.table) → node_from_parts h.configured inputs votes (with_row x (sents_of h.table)) ≡ node_of k inputs votes
row-in h k inputs votes x c t = λ i. node_from_parts (sym c i) inputs votes (sym t i)

kept-row : (h k : ListenerState) (x : Sent) → sents_of k.table ≡ with_row x (sents_of h.table) → ReachesSame h.configured.name h.configured.slices (sents_of h.table) (sents_of k.table) → ReachesSame h.configured.name h.configured.slices (sents_of h.table) (with_row x (sents_of h.table))
kept-row h k x t kept = subst (λ (table : List Sent). ReachesSame h.configured.name h.configured.slices (sents_of h.table) table) t kept

-- a node after a row
stirs-row : (h k : ListenerState) (inputs : Inputs) (votes : Votes) (x : Sent) (stirred : Stirred) → ComesOfEvents (node_of h inputs votes) → k.configured ≡ h.configured → sents_of k.table ≡ with_row x (sents_of h.table)
    → IsBeforePasses (node_of k inputs votes) → IsStirred stirred h.configured (sents_of h.table) x (sents_of k.table) → StirsIn stirred (node_of k inputs votes)
stirs-row h k inputs votes x All r c t d is = stirs-all (node_of k inputs votes) d
stirs-row h k inputs votes x Ballots r c t d is = subst (StirsIn Ballots) (row-in h k inputs votes x c t) (ballot_rows_stir_ballots (node_of h inputs votes) r x is.0 (kept-row h k x t is.1))
stirs-row h k inputs votes x Nominations r c t d is = subst (StirsIn Nominations) (row-in h k inputs votes x c t) (nomination_rows_stir_nomination (node_of h inputs votes) r x is.0 (kept-row h k x t is.1))

-- ---- where passes start
start-of : (stirred : Stirred) (m : Node) → IsBeforePasses m → StirsIn stirred m → IsStart stirred m
start-of stirred m d stirs = record { stirs = stirs; settles = settles_of m d; sends = sends_of m d }

pub start-all : (m : Node) → IsBeforePasses m → IsStart All m
start-all m d = start-of All m d (stirs-all m d)

pub start-row : (h k : ListenerState) (inputs : Inputs) (votes : Votes) (x : Sent) (stirred : Stirred) → ComesOfEvents (node_of h inputs votes) → k.configured ≡ h.configured → sents_of k.table ≡ with_row x (sents_of h.table)
    → IsBeforePasses (node_of k inputs votes) → IsStirred stirred h.configured (sents_of h.table) x (sents_of k.table) → IsStart stirred (node_of k inputs votes)
start-row h k inputs votes x stirred r c t d is = start-of stirred (node_of k inputs votes) d (stirs-row h k inputs votes x stirred r c t d is)
