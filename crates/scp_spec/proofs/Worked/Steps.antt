-- Steps of one validator, computed from the definitions.
use Rattle.std.proofs.Common.{◌≡◌, ℕ, true, is_none, Some, None, List, [], ◌∷◌, ◌++◌, refl}
use Rattle.scp_types.specs.Statements.{Sent}
use Rattle.scp_types.specs.Trees.{Slices}
use Rattle.scp_types.specs.declared.statement.Statement.TheVariants.{Nominate, Prepare, Commit, Externalize}
use Rattle.scp_types.specs.declared.kind.Kind.{Kind}
use Rattle.scp_spec.specs.Rows.{row}
use Rattle.scp_spec.specs.Nodes.{Node, fresh, change, step}
use Rattle.scp_types.specs.declared.event.NodeEvent.TheVariants.{Take}
use Rattle.scp_types.specs.declared.event.Out.TheVariants.{ArmBallot, Emit, Externalized as Decided}
use Rattle.scp_spec.specs.Networks.{Step}
use Rattle.scp_spec.specs.Networks.Step.{Opens, Proposes, BallotTimerFires}
use Rattle.scp_spec.specs.Networks.Reply.{Done}
use Rattle.scp_spec.proofs.Worked.Everything.{everything}
use Rattle.scp_spec.proofs.Worked.Letters.{A, B, C, D, E, F, Z, k, m, q, x, y, at, just, two_of_bcd, three_of_bcde, by, to_A, net_of_A, replies}

-- a validator that trusts itself alone externalizes what it proposes, in one event
pub alone_externalizes : replies (net_of_A (just A)) (Opens 1 ∷ Proposes 1 A x ∷ [])
    ≡ Done [] ∷ Done
    (Emit (by A (just A) (Nominate (x ∷ []) (x ∷ []))) ∷ Emit
    (by A (just A) (Externalize (at 1 x) 1)) ∷ Decided x ∷ []) ∷ []
unfolding everything
alone_externalizes = refl

abbrev from_B : Step
from_B = to_A B (just B) (Prepare (at 9 m) (Some (at 9 m)) 6 0 0)

abbrev from_C : Step
from_C = to_A C (just C) (Prepare (at 8 k) (Some (at 8 k)) 6 0 0)

abbrev from_Z : Step
from_Z = to_A Z (just Z) (Prepare (at 5 q) None 0 0 0)

-- B and C block A and both accept all ballots below 6 as aborted; a stranger's ballot is no candidate all the same
pub stranger_names_no_candidate : replies (net_of_A two_of_bcd) (Opens 1 ∷ from_B ∷ from_C ∷ from_Z ∷ [])
    ≡ Done [] ∷ Done [] ∷ Done [] ∷ Done [] ∷ []
unfolding everything
stranger_names_no_candidate = refl

abbrev until_reached : List Step
until_reached = Opens 1 ∷ from_B ∷ from_C ∷ from_Z ∷ to_A D (just Z) (Prepare (at 1 k) None 0 0 0) ∷ []

-- once D names the stranger, its early ballot is accepted through B and C and confirmed by A, B and C, and they raise A
-- to counter 8
pub reached_stranger_counts : replies (net_of_A two_of_bcd) until_reached
    ≡ Done [] ∷ Done [] ∷ Done [] ∷ Done [] ∷ Done
    (ArmBallot 8 ∷ Emit (by A two_of_bcd (Prepare (at 8 q) (Some (at 5 q)) 0 5 5)) ∷ []) ∷ []
unfolding everything
reached_stranger_counts = refl

abbrev nominates : ℕ → Step
nominates u = to_A u (just u) (Nominate (x ∷ []) (x ∷ []))

abbrev prepares : ℕ → ℕ → List ℕ → Step
prepares u n value = to_A u (just E) (Prepare (at n value) (Some (at n value)) 0 0 0)

-- a value that a blocking set accepts is accepted and confirmed without a proposal; a prepared ballot of another value
-- is sent as what may stand beside the ballot, and aborts what is below it once the first value comes back
pub other_value_is_sent_below : replies (net_of_A two_of_bcd)
    (Opens 1 ∷ nominates B ∷ nominates C ∷ prepares B 1 y ∷ prepares C 1 y ∷ prepares B 2 x ∷ prepares C 2 x ∷ [])
    ≡ Done [] ∷ Done [] ∷ Done
    (Emit (by A two_of_bcd (Nominate [] (x ∷ []))) ∷ Emit
    (by A two_of_bcd (Prepare (at 1 x) None 0 0 0)) ∷ []) ∷ Done []
    ∷ Done (Emit (by A two_of_bcd (Prepare (at 1 x) (Some (at 0 y)) 0 0 0)) ∷ []) ∷ Done [] ∷ Done
    (Emit (by A two_of_bcd (Prepare (at 2 x) (Some (at 2 x)) 2 0 0)) ∷ []) ∷ []
unfolding everything
other_value_is_sent_below = refl

abbrev commits_to : ℕ → ℕ → ℕ → Step
commits_to u h c = to_A u (just F) (Commit (at 7 x) 7 h c)

-- two who commit counters 1 to 3 and two who commit 5 to 7 are not joined to 1 to 7
pub intervals_are_not_joined : replies (net_of_A three_of_bcde)
    (Opens 1 ∷ commits_to B 3 1 ∷ commits_to C 3 1 ∷ commits_to D 7 5 ∷ commits_to E 7 5 ∷ to_A F (just F)
    (Prepare (at 7 x) (Some (at 7 x)) 0 0 0) ∷ [])
    ≡ Done [] ∷ Done [] ∷ Done
    (Emit (by A three_of_bcde (Prepare (at 7 x) (Some (at 7 x)) 0 0 0)) ∷ []) ∷ Done [] ∷ Done []
    ∷ Done (ArmBallot 7 ∷ Emit (by A three_of_bcde (Commit (at 7 x) 7 7 5)) ∷ []) ∷ []
unfolding everything
intervals_are_not_joined = refl

-- those who externalized count as infinite: the raise stops at the cap, and no timer is armed there
pub raise_stops_at_the_cap : replies (net_of_A two_of_bcd)
    (Opens 1 ∷ prepares E 3 x ∷ to_A B (just E) (Externalize (at 3 x) 3) ∷ to_A C (just E)
    (Externalize (at 3 x) 3) ∷ BallotTimerFires 1 A 1000 ∷ [])
    ≡ Done [] ∷ Done [] ∷ Done [] ∷ Done (Emit (by A two_of_bcd (Commit (at 1000 x) 1000 3 3)) ∷ []) ∷ Done [] ∷ []
unfolding everything
raise_stops_at_the_cap = refl

-- a timer that has fired is not live again; a prepared ballot of another value resets the ballot whose commit is voted
-- for
pub overtaken_vote_is_reset : replies (net_of_A two_of_bcd)
    (until_reached ++ BallotTimerFires 1 A 8 ∷ BallotTimerFires 1 A 8 ∷ to_A C (just C)
    (Prepare (at 9 m) (Some (at 9 m)) 6 0 0) ∷ [])
    ≡ Done [] ∷ Done [] ∷ Done [] ∷ Done [] ∷ Done
    (ArmBallot 8 ∷ Emit (by A two_of_bcd (Prepare (at 8 q) (Some (at 5 q)) 0 5 5)) ∷ []) ∷ Done
    (Emit (by A two_of_bcd (Prepare (at 9 q) (Some (at 5 q)) 0 5 5)) ∷ [])
    ∷ Done [] ∷ Done (ArmBallot 9 ∷ Emit (by A two_of_bcd (Prepare (at 9 q) (Some (at 9 m)) 6 0 0)) ∷ []) ∷ []
unfolding everything
overtaken_vote_is_reset = refl

-- ---- the greatest counter
-- a ballot at the greatest counter is confirmed and armed, and its timer is not live
abbrev greatest_counter : ℕ
greatest_counter = 4294967295

pub greatest_counter_has_no_timer : replies (net_of_A two_of_bcd)
    (Opens 1 ∷ to_A B (just B) (Prepare (at greatest_counter x) (Some (at greatest_counter x)) 0 0 0) ∷ to_A C (just C)
    (Prepare (at greatest_counter x) (Some (at greatest_counter x)) 0 0 0) ∷ BallotTimerFires 1 A greatest_counter ∷ [])
    ≡ Done [] ∷ Done [] ∷ Done
    (ArmBallot greatest_counter ∷ Emit
    (by A two_of_bcd (Prepare (at greatest_counter x)
    (Some (at greatest_counter x)) 0 greatest_counter greatest_counter)) ∷ []) ∷ Done [] ∷ []
unfolding everything
greatest_counter_has_no_timer = refl

-- ---- accept commit
abbrev commits_five : ℕ → Slices → Step
commits_five u slices = to_A u slices (Commit (at 5 x) 5 5 5)

abbrev prepares_five : ℕ → Step
prepares_five u = to_A u (just u) (Prepare (at 5 x) (Some (at 5 x)) 0 0 0)

-- "confirmed as prepared" is tested at this moment: B helped to confirm the ballot and then names Z alone, so that
-- there is no
-- quorum any more; its commit, though accepted, waits until there is one again
pub confirmed_at_this_moment : replies (net_of_A two_of_bcd)
    (Opens 1 ∷ prepares_five B ∷ prepares_five C ∷ commits_five B (just Z) ∷ commits_five C (just C) ∷ to_A B (just B)
    (Commit (at 6 x) 6 6 5) ∷ [])
    ≡ Done [] ∷ Done [] ∷ Done
    (ArmBallot 5 ∷ Emit (by A two_of_bcd (Prepare (at 5 x) (Some (at 5 x)) 0 5 5)) ∷ []) ∷ Done [] ∷ Done []
    ∷ Done (Emit (by A two_of_bcd (Externalize (at 5 x) 5)) ∷ Decided x ∷ []) ∷ []
unfolding everything
confirmed_at_this_moment = refl

abbrev commits_seven : ℕ → Step
commits_seven u = to_A u (just u) (Commit (at 7 x) 5 7 5)

-- the pass that enters COMMIT does not widen the interval too: counter 7 is accepted as committed but not confirmed as
-- prepared,
-- and the same pass externalizes at counter 5
pub entering_does_not_widen : replies (net_of_A two_of_bcd) (Opens 1 ∷ commits_seven B ∷ commits_seven C ∷ [])
    ≡ Done [] ∷ Done [] ∷ Done (Emit (by A two_of_bcd (Externalize (at 5 x) 5)) ∷ Decided x ∷ []) ∷ []
unfolding everything
entering_does_not_widen = refl

-- ---- nothing replaces an EXTERNALIZE
abbrev with_externalize : Node
with_externalize = (step (fresh 1 A two_of_bcd) (Take (by B (just B) (Externalize (at 3 x) 3)))).0

pub externalize_row_stands : is_none
    (change with_externalize (Take (by B (just B) (Prepare (at 4294967294 x) None 0 0 0)))) ≡ true
unfolding everything
externalize_row_stands = refl

pub externalize_row_is_the_first : row with_externalize.table B Kind.Ballot
    ≡ Some (by B (just B) (Externalize (at 3 x) 3))
unfolding everything
externalize_row_is_the_first = refl

-- ---- a row in the node's own name
abbrev takes_all : List Sent → Node → Node
takes_all [] n = n
takes_all (e ∷ es) n = takes_all es (step n (Take e)).0

abbrev blocked_below_six : Node
blocked_below_six =
    takes_all
    (by B (just B) (Prepare (at 9 m) (Some (at 9 m)) 6 0 0) ∷ by C (just C)
    (Prepare (at 8 k) (Some (at 8 k)) 6 0 0) ∷ []) (fresh 1 A two_of_bcd)

-- it names no candidate: the node's own position stands for it
pub own_row_names_no_candidate : (step blocked_below_six (Take (by A (just A) (Prepare (at 5 q) None 0 0 0)))).1 ≡ []
unfolding everything
own_row_names_no_candidate = refl
