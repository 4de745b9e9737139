-- One node at one slot: its events, settling, and what it gives out.
use Rattle.std.specs.Prelude.{◌≡◌, ℕ, zero, suc, ◌+◌, Bool, true, false, not, ◌&&◌, ◌==◌, List, [], ◌∷◌, ◌++◌, Option, Some, None, option_map, if◌then◌else◌, is_none, is_some}
use Rattle.scp_types.specs.Trees.{Slices}
use Rattle.scp_types.specs.declared.ballot.Ballot.{Ballot}
use Rattle.scp_types.specs.declared.statement.Statement.{Statement}
use Rattle.scp_types.specs.declared.event.NodeEvent.{NodeEvent}
use Rattle.scp_types.specs.declared.event.NodeEvent.TheVariants.{Propose, Take, NominationTimer, BallotTimer, Reslice}
use Rattle.scp_types.specs.declared.event.Out.{Out}
use Rattle.scp_types.specs.declared.event.Out.TheVariants.{ArmNomination, ArmBallot, Emit, Externalized as Decided}
use Rattle.scp_types.specs.Statements.{Sent}
use Rattle.scp_spec.specs.Rows.{with_row, is_taken}
use Rattle.scp_spec.specs.Views.{seen}
use Rattle.scp_types.specs.declared.state.Phase.{Phase}
use Rattle.scp_types.specs.declared.state.Inputs.{Inputs}
use Rattle.scp_types.specs.declared.state.Votes.{Votes}
use Rattle.scp_spec.specs.States.{no_votes, counter_of, sent_vote, sent_nomination}
use Rattle.scp_types.specs.declared.state.Phase.TheVariants.{Preparing, Committing, Externalized}
use Rattle.scp_spec.specs.Leaders.{leader}
use Rattle.scp_spec.specs.Passes.{pass, ballot_at_counter}
use Rattle.scp_spec.specs.Timers.{is_nomination_timer_live, is_ballot_timer_live}
use Rattle.scp_spec.specs.Sameness.{same_votes, same_sent}

-- a node at a slot
pub record Node : Type 0 where
  pub name : ℕ
  pub slot : ℕ
  -- those that are configured at this moment
  pub slices : Slices
  pub inputs : Inputs
  pub votes : Votes
  -- the newest envelope of each sender and kind
  pub table : List Sent

-- a node to which nothing has happened
unfoldable pub fresh : ℕ → ℕ → Slices → Node
fresh slot name configured = record {
  name = name;
  slot = slot;
  slices = configured;
  inputs = record { proposal = None; round = 0; leaders = []; ballot_timeouts = 0 };
  votes = no_votes;
  table = [];
}

-- ---- settling
-- one more pass; its table, and so what it sees, is the same in all passes after one event
abbrev pub after_pass : Node → Votes → Votes
after_pass n w = pass n.name (seen n.name n.slices n.inputs.leaders n.table) n.inputs w

-- the votes after passes until one changes nothing; none, if each of the passes allowed changes something
unfoldable pub settle : ℕ → (Votes → Votes) → Votes → Option Votes
settle zero f w = None
settle (suc n) f w = if same_votes (f w) w then Some w else settle n f (f w)

-- how many passes are tried after an event
abbrev pub most_passes : ℕ
most_passes = 64

-- ---- the event's own change
-- the phase is EXTERNALIZE
abbrev pub is_externalized : Phase → Bool
is_externalized Preparing = false
is_externalized Committing = false
is_externalized Externalized = true

-- the next round begins with its leader; earlier leaders stay
abbrev pub in_round : Node → ℕ → Node
in_round n r =
    record n { inputs = record n.inputs { round = r; leaders = n.inputs.leaders ++ leader n.slot r n.name n.slices ∷ [] } }

-- the proposal is set, and round 1 begins
abbrev pub with_proposal : Node → List ℕ → Node
with_proposal n x = in_round (record n { inputs = record n.inputs { proposal = Some x } }) 1

-- the nomination timer of this number is live
abbrev pub is_round_live : Node → ℕ → Bool
is_round_live n r = is_nomination_timer_live r n.inputs.round (is_some n.votes.confirmed_prepared)

-- the ballot timer of this number is live
abbrev pub is_counter_live : Node → ℕ → Bool
is_counter_live n c =
    is_ballot_timer_live c n.votes.armed (option_map (λ b. b.counter) n.votes.ballot) (is_externalized n.votes.phase)

-- the ballot goes up by one counter, its value chosen as after a raise
abbrev pub at_next_counter : Votes → Option Ballot → Votes
at_next_counter w None = w
at_next_counter w (Some b) = record w { ballot = Some (ballot_at_counter w b (b.counter + 1)) }

-- one more ballot timer has fired, and the ballot is one counter up
abbrev pub with_timeout : Node → Node
with_timeout n = record n {
  inputs = record n.inputs { ballot_timeouts = n.inputs.ballot_timeouts + 1 };
  votes = at_next_counter n.votes n.votes.ballot;
}

-- from now on these are the configured slices; all else is as it was, its leaders too
abbrev pub with_slices : Node → Slices → Node
with_slices n q = record n { slices = q }

-- an event's own change: none for a stale envelope, and for a timer that is not live
unfoldable pub change : Node → NodeEvent → Option Node
change n (Propose x) = Some (with_proposal n x)
change n (Take e) = if is_taken n.table e then Some (record n { table = with_row e n.table }) else None
change n (NominationTimer r) = if is_round_live n r then Some (in_round n (r + 1)) else None
change n (BallotTimer c) = if is_counter_live n c then Some (with_timeout n) else None
change n (Reslice q) = Some (with_slices n q)

-- ---- what is given out
-- this is given out if the test holds, and else nothing
abbrev pub when : Bool → Out → List Out
when true o = o ∷ []
when false o = []

-- a statement is sent if it is not the one that would have been sent before
abbrev pub emission_between : Node → Option Statement → Option Statement → List Out
emission_between n old None = []
emission_between n old (Some s) =
    if same_sent old (Some s) then [] else Emit
    (record { sender = n.name; slot = n.slot; slices = n.slices; body = s }) ∷ []

-- the value of the ballot is externalized
abbrev pub externalization : Option Ballot → List Out
externalization None = []
externalization (Some b) = Decided b.value ∷ []

-- what a node gives out, in order, from the node before the event and the node after it
unfoldable pub outs : Node → Node → List Out
outs old new =
    when (not (new.inputs.round == old.inputs.round) && is_none new.votes.confirmed_prepared) (ArmNomination new.inputs.round)
    ++ when (not (new.votes.armed == old.votes.armed) && (new.votes.armed == counter_of new.votes.ballot)
    && not (is_externalized new.votes.phase)) (ArmBallot new.votes.armed)
    ++ emission_between new (sent_nomination old.votes) (sent_nomination new.votes)
    ++ emission_between new (sent_vote old.votes) (sent_vote new.votes)
    ++ (if is_externalized new.votes.phase
    && not (is_externalized old.votes.phase) then externalization new.votes.ballot else [])

-- ---- a step
abbrev pub with_settled_votes : Node → Option Votes → Option Node
with_settled_votes n None = None
with_settled_votes n (Some w) = Some (record n { votes = w })

-- the node after its passes; none if the event makes no change, or the limit of passes is met
abbrev pub after_change : Option Node → Option Node
after_change None = None
after_change (Some n) = with_settled_votes n (settle most_passes (after_pass n) n.votes)

-- If an event makes no change, or the limit of passes is met, the node stays as it was, its slices too. It then gives
-- nothing out. Else it is the new node, with its outs.
abbrev pub node_and_outs : Node → Option Node → Node × List Out
node_and_outs old None = (old, [])
node_and_outs old (Some new) = (new, outs old new)

-- One event of a node: its own change, then passes until one changes nothing, then what is given out.
unfoldable pub step : Node → NodeEvent → Node × List Out
step n e = node_and_outs n (after_change (change n e))

-- a node is calm: one more pass would change nothing
abbrev pub Calm : Node → Type 0
Calm n = after_pass n n.votes ≡ n.votes
