-- How far a node is, in words.
use Rattle.std.specs.Prelude.{◌++◌, ◌∷◌, [], ℕ, Option, codes, option_map}
use Rattle.std.specs.Fmt.{decimal}
use Rattle.scp_types.specs.declared.ballot.Ballot.{Ballot}
use Rattle.scp_types.specs.declared.state.Phase.{Phase}
use Rattle.scp_types.specs.declared.state.Phase.TheVariants.{Preparing, Committing, Externalized}
use Rattle.scp_types.specs.declared.state.Votes.{Votes}
use Rattle.scp_spec.specs.Nodes.{Node}
use Rattle.scp_spec.specs.States.{ballot_with}
use Rattle.line_script.specs.Script.{Bytes}
use Rattle.line_script.specs.Printed.{text_of_optional}

-- the word of a phase
abbrev pub text_of_phase : Phase → Bytes
text_of_phase Preparing = codes "prepare"
text_of_phase Committing = codes "commit"
text_of_phase Externalized = codes "externalize"

-- the ballot of a counter with the value of a ballot, if there is one
abbrev pub ballot_of_counter : ℕ → Option Ballot → Option Ballot
ballot_of_counter n b = option_map (λ b. ballot_with n b.value) b

-- the ballot whose commit is voted for, and once a ballot is externalized that one: the value of the ballot, with the
-- least counter of the interval
abbrev pub text_of_commit : Phase → Votes → Bytes
text_of_commit Preparing w = text_of_optional w.commit
text_of_commit Committing w = text_of_optional w.commit
text_of_commit Externalized w = text_of_optional (ballot_of_counter w.low w.ballot)

-- the interval of counters, from the least to the greatest with a `-` (45) between; `-` while none is accepted as
-- committed
abbrev pub text_of_interval : Phase → Votes → Bytes
text_of_interval Preparing w = 45 ∷ []
text_of_interval Committing w = decimal w.low ++ 45 ∷ decimal w.high
text_of_interval Externalized w = decimal w.low ++ 45 ∷ decimal w.high

-- the phase, the ballot, the highest that is accepted as prepared, and the counter below which all are aborted
abbrev pub text_of_prepared : Votes → Bytes
text_of_prepared w =
    codes "phase " ++ (text_of_phase w.phase
    ++ (codes " ballot " ++ (text_of_optional w.ballot
    ++ (codes " prepared " ++ (text_of_optional w.prepared ++ (codes " aborted " ++ decimal w.aborted))))))

-- the highest ballot that is confirmed as prepared, the one whose commit is voted for, and the interval
abbrev pub text_of_committed : Votes → Bytes
text_of_committed w =
    codes " high " ++ (text_of_optional w.confirmed_prepared
    ++ (codes " commit " ++ (text_of_commit w.phase w ++ (codes " interval " ++ text_of_interval w.phase w))))

-- the round of nomination, the counter for which the ballot timer was last armed, and how many ballot timers have fired
abbrev pub text_of_timers : Node → Bytes
text_of_timers n =
    codes " round " ++ (decimal n.inputs.round
    ++ (codes " armed " ++ (decimal n.votes.armed ++ (codes " fired " ++ decimal n.inputs.ballot_timeouts))))

-- how far a node is, in words
abbrev pub text_of_state : Node → Bytes
text_of_state n = text_of_prepared n.votes ++ (text_of_committed n.votes ++ text_of_timers n)
