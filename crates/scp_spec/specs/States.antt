-- The state of a node at a slot, its own position, and what it sends.
use Rattle.std.specs.Prelude.{◌≡◌, ℕ, ◌-◌, min, Bool, true, false, ◌&&◌, ◌||◌, not, nat_le, nat_lt, length, List, [], Option, Some, None, option_map, if◌then◌else◌}
use Rattle.std.specs.Ordering.{is_lt, is_gt}
use Rattle.scp_types.specs.declared.ballot.Ballot.{Ballot}
use Rattle.scp_types.specs.declared.statement.Statement.{Statement}
use Rattle.scp_types.specs.declared.statement.Statement.TheVariants.{Nominate, Prepare, Commit, Externalize}
use Rattle.scp_types.specs.declared.state.Phase.{Phase}
use Rattle.scp_types.specs.declared.state.Phase.TheVariants.{Preparing, Committing, Externalized}
use Rattle.scp_types.specs.declared.state.Votes.{Votes}
use Rattle.scp_types.specs.Orders.{bytes_cmp, ballot_cmp}
use Rattle.scp_types.specs.Votes.{same_value}

-- nothing is voted for yet
abbrev pub no_votes : Votes
no_votes = record {
  voted = [];
  accepts = [];
  confirms = [];
  phase = Preparing;
  ballot = None;
  prepared = None;
  aborted = 0;
  confirmed_prepared = None;
  commit = None;
  low = 0;
  high = 0;
  armed = 0;
}

-- ---- ballots
-- a ballot is below another one: by counter, then by value
abbrev pub below : Ballot → Ballot → Bool
below a b = is_lt (ballot_cmp a b)

-- the ballot is above the one that is there, if one is
abbrev pub above : Option Ballot → Ballot → Bool
above None b = true
above (Some there) b = below there b

-- the ballot that was there, if one was, is not above the one that is there now
abbrev pub Under : Option Ballot → Option Ballot → Type 0
Under None now = Unit {0}
Under (Some old) now = above now old ≡ false

-- the ballot of a counter and a value
abbrev pub ballot_with : ℕ → List ℕ → Ballot
ballot_with n x = record { counter = n; value = x }

-- the counter of a ballot; 0 if there is none
abbrev pub counter_of : Option Ballot → ℕ
counter_of None = 0
counter_of (Some b) = b.counter

-- ---- the node's own position
-- the counter of the highest confirmed ballot, if that has the ballot's value; else 0
abbrev pub counter_for : Ballot → Option Ballot → ℕ
counter_for b None = 0
counter_for b (Some h) = if same_value h.value b.value then h.counter else 0

-- the high counter of the ballot, as it is sent
unfoldable pub high_counter : Votes → Ballot → ℕ
high_counter w b = counter_for b w.confirmed_prepared

-- The counter from which on commit is voted for, if that has the ballot's value and is not above the high counter. Else
-- it is 0.
abbrev pub counter_up_to : ℕ → Ballot → Option Ballot → ℕ
counter_up_to most b None = 0
counter_up_to most b (Some c) = if same_value c.value b.value && nat_le c.counter most then c.counter else 0

-- the commit counter of the ballot, as it is sent: 0 if no commit of its value up to the high counter is voted for
unfoldable pub commit_counter : Votes → Ballot → ℕ
commit_counter w b = counter_up_to (high_counter w b) b w.commit

-- the ballot statement of the state as it is
unfoldable pub position_in : Phase → Votes → Ballot → Statement
position_in Preparing w b = Prepare b w.prepared w.aborted (high_counter w b) (commit_counter w b)
position_in Committing w b = Commit b (counter_of w.prepared) w.high w.low
position_in Externalized w b = Externalize (ballot_with w.low b.value) w.high

-- the position in balloting: the statement that the node's tests take; none without a ballot
unfoldable pub position : Votes → Option Statement
position w = option_map (position_in w.phase w) w.ballot

-- the position in nomination: the node's own nomination, as its tests take it
unfoldable pub nomination_position : Votes → Option Statement
nomination_position w = Some (Nominate w.voted w.accepts)

-- ---- what is sent
-- The highest accepted ballot as it is sent. If it is above the ballot, it is the greatest of its value that is not.
unfoldable pub prepared_as_sent : Ballot → Ballot → Ballot
prepared_as_sent b p =
    if below b p
    then (if not (is_gt (bytes_cmp p.value b.value)) then ballot_with b.counter p.value else ballot_with
    (b.counter - 1) p.value)
    else p

-- the ballot statement that is sent: in PREPARE nothing in it is above the ballot
unfoldable pub sent_in : Phase → Votes → Ballot → Statement
sent_in Preparing w b =
    Prepare b (option_map (prepared_as_sent b) w.prepared) (min w.aborted b.counter) (high_counter w b)
    (commit_counter w b)
sent_in Committing w b = Commit b (counter_of w.prepared) w.high w.low
sent_in Externalized w b = Externalize (ballot_with w.low b.value) w.high

-- the ballot statement that is sent: none without a ballot
unfoldable pub sent_vote : Votes → Option Statement
sent_vote w = option_map (sent_in w.phase w) w.ballot

-- the nomination that is sent, as soon as one of its sets is not empty
unfoldable pub sent_nomination : Votes → Option Statement
sent_nomination w =
    if nat_lt 0 (length w.voted) || nat_lt 0 (length w.accepts) then Some (Nominate w.voted w.accepts) else None
