-- One pass: all rules in their order, and at last those of counters.
use Rattle.std.specs.Prelude.{ℕ, ◌+◌, ◌-◌, Bool, true, false, not, ◌==◌, nat_le, List, Option, Some, None, if◌then◌else◌}
use Rattle.scp_types.specs.declared.kind.Kind.{Kind}
use Rattle.scp_types.specs.declared.ballot.Ballot.{Ballot}
use Rattle.scp_types.specs.declared.statement.Statement.{Statement}
use Rattle.scp_types.specs.declared.statement.Statement.TheVariants.{Nominate, Prepare, Commit, Externalize}
use Rattle.scp_spec.specs.Views.{Seen, passes}
use Rattle.scp_types.specs.declared.state.Phase.{Phase}
use Rattle.scp_types.specs.declared.state.Inputs.{Inputs}
use Rattle.scp_types.specs.declared.state.Votes.{Votes}
use Rattle.scp_spec.specs.States.{ballot_with, position}
use Rattle.scp_types.specs.declared.state.Phase.TheVariants.{Preparing, Committing, Externalized}
use Rattle.scp_spec.specs.Candidates.{combine, least_from}
use Rattle.scp_spec.specs.Nominating.{nominate}
use Rattle.scp_spec.specs.Timers.{cap}
use Rattle.scp_spec.specs.Balloting.{start, accept_prepared, confirm_prepared, accept_commit, confirm_commit}

-- ---- counters
-- the ballot counter is at least n; an EXTERNALIZE counts as infinite
abbrev pub has_counter : ℕ → Statement → Bool
has_counter n (Nominate voted accepted) = false
has_counter n (Prepare b p a h c) = nat_le n b.counter
has_counter n (Commit b p h c) = nat_le n b.counter
has_counter n (Externalize b h) = true

-- the value of a ballot, if there is one, else that value
abbrev pub value_or : Option Ballot → List ℕ → List ℕ
value_or None x = x
value_or (Some b) x = b.value

-- a value that is known, else that value
abbrev pub known_or : Option (List ℕ) → List ℕ → List ℕ
known_or None x = x
known_or (Some y) x = y

-- The value of a raised ballot. In PREPARE it is that of the highest confirmed ballot, else the combined confirmed
-- value. If there is neither, it is that of the highest accepted ballot, else its own. In the other phases it stays.
abbrev pub value_once_raised : Phase → Votes → List ℕ → List ℕ
value_once_raised Preparing w x = value_or w.confirmed_prepared (known_or (combine w.confirms) (value_or w.prepared x))
value_once_raised Committing w x = x
value_once_raised Externalized w x = x

-- the ballot at this counter; its value is chosen anew only if that is another counter
abbrev pub ballot_at_counter : Votes → Ballot → ℕ → Ballot
ballot_at_counter w b n = if n == b.counter then b else ballot_with n (value_once_raised w.phase w b.value)

-- The lowest counter, from the ballot's on, at which those with greater counters do not block. It is at most the cap,
-- or the ballot's own if that is above the cap.
unfoldable pub counter_after_raise : Seen → Inputs → Ballot → Votes → ℕ
counter_after_raise seen g b w =
    least_from (cap g.ballot_timeouts - b.counter) b.counter
    (λ n. not (seen.blocking Kind.Ballot (passes (has_counter (n + 1)) (position w)) (has_counter (n + 1))))

-- Raise: the ballot goes to the counter at which those with greater counters do not block, at most to the cap.
unfoldable pub raise : Seen → Inputs → Ballot → Votes → Votes
raise seen g b w = record w { ballot = Some (ballot_at_counter w b (counter_after_raise seen g b w)) }

-- Arm: the timer is armed at the ballot's counter, if all members of some quorum that contains the node have at least
-- that.
unfoldable pub arm : Seen → Ballot → Votes → Votes
arm seen b w =
    if seen.quorum Kind.Ballot (passes (has_counter b.counter) (position w))
    (has_counter b.counter) then record w { armed = b.counter } else w

-- ---- the rules in order
-- a rule that needs the ballot
abbrev pub with_ballot : (Ballot → Votes → Votes) → Votes → Option Ballot → Votes
with_ballot f w None = w
with_ballot f w (Some b) = f b w

-- a rule of the ballot: it changes nothing if there is no ballot
abbrev pub on_ballot : (Ballot → Votes → Votes) → Votes → Votes
on_ballot f w = with_ballot f w w.ballot

-- a rule that acts only in PREPARE
abbrev pub while_preparing : Phase → (Votes → Votes) → Votes → Votes
while_preparing Preparing f w = f w
while_preparing Committing f w = w
while_preparing Externalized f w = w

-- a rule of PREPARE and COMMIT
abbrev pub while_open : Phase → (Votes → Votes) → Votes → Votes
while_open Preparing f w = f w
while_open Committing f w = f w
while_open Externalized f w = w

-- a rule that acts only in PREPARE, by the phase in which it begins
abbrev pub in_prepare : (Votes → Votes) → Votes → Votes
in_prepare f w = while_preparing w.phase f w

-- by the phase in which the rule begins
abbrev pub unless_over : (Votes → Votes) → Votes → Votes
unless_over f w = while_open w.phase f w

-- prepared and committed, each rule with what the one before it made
unfoldable pub voting : Seen → Votes → Votes
voting seen w1 =
    let w2 = on_ballot (accept_prepared seen) w1 in
    let w3 = in_prepare (on_ballot (confirm_prepared seen)) w2 in
    let w4 = on_ballot (λ b w. accept_commit w.phase seen b w) w3 in
    on_ballot (λ b w. confirm_commit w.phase seen b w) w4

-- the counters: raised first, then armed
unfoldable pub counting : Seen → Inputs → Votes → Votes
counting seen g w = on_ballot (arm seen) (on_ballot (raise seen g) w)

-- the rules of balloting: the first ballot, voting, and counters unless a value was externalized by then
abbrev pub balloting : Seen → Inputs → Votes → Votes
balloting seen g w = unless_over (counting seen g) (voting seen (start seen w))

-- all rules: nomination, and then balloting
unfoldable pub pass_rules : ℕ → Seen → Inputs → Votes → Votes
pass_rules own seen g w = balloting seen g (nominate own seen g w)

-- One pass of the rules. After EXTERNALIZE none changes anything.
unfoldable pub pass : ℕ → Seen → Inputs → Votes → Votes
pass own seen g w = unless_over (pass_rules own seen g) w

-- The part of a pass that is nomination.
unfoldable pub nominated_in : ℕ → Seen → Inputs → Votes → Votes
nominated_in own seen g w = unless_over (nominate own seen g) w

-- The part of a pass that is balloting.
unfoldable pub balloted_in : Seen → Inputs → Votes → Votes
balloted_in seen g w = unless_over (balloting seen g) w
