-- What one event gives out is little: five outs at most, two of them emissions.
use Rattle.std.proofs.Common.{◌≡◌, ℕ, ◌+◌, ◌≤◌, Bool, true, false, not, ◌&&◌, ◌==◌, is_none, List, [], ◌∷◌, ◌++◌, length, Option, Some, None, if◌then◌else◌, arith}
use Rattle.scp_types.specs.declared.event.NodeEvent.{NodeEvent}
use Rattle.scp_types.specs.declared.event.Out.{Out}
use Rattle.scp_types.specs.declared.event.Out.TheVariants.{ArmNomination, ArmBallot, Emit, Externalized}
use Rattle.scp_types.specs.declared.ballot.Ballot.{Ballot}
use Rattle.scp_types.specs.declared.statement.Statement.{Statement}
use Rattle.scp_spec.specs.Networks.{emissions}
use Rattle.scp_spec.specs.Nodes.{Node, after_change, node_and_outs, change, externalization, emission_between, is_externalized, outs, step, when}
use Rattle.scp_spec.specs.Sameness.{same_sent}
use Rattle.scp_spec.specs.States.{counter_of, sent_nomination, sent_vote}

-- so many outs, so many of them emissions
record AreFew (most most_emissions : ℕ) (os : List Out) : Type 0 where
  outs : length os ≤ most
  emitted : length (emissions os) ≤ most_emissions

joined-length : (xs ys : List Out) → length (xs ++ ys) ≡ length xs + length ys
joined-length [] ys = omega arith
joined-length (x ∷ xs) ys = let h = joined-length xs ys in omega (arith, h)

joined-emissions : (xs ys : List Out) → length (emissions (xs ++ ys)) ≡ length (emissions xs) + length (emissions ys)
joined-emissions [] ys = omega arith
joined-emissions (ArmNomination r ∷ xs) ys = joined-emissions xs ys
joined-emissions (ArmBallot n ∷ xs) ys = joined-emissions xs ys
joined-emissions (Emit e ∷ xs) ys = let h = joined-emissions xs ys in omega (arith, h)
joined-emissions (Externalized x ∷ xs) ys = joined-emissions xs ys

joined : (a b c d : ℕ) (xs ys : List Out) → AreFew a b xs → AreFew c d ys → AreFew (a + c) (b + d) (xs ++ ys)
joined a b c d xs ys p q =
    let p1 = p.outs in let q1 = q.outs in let p2 = p.emitted in let q2 = q.emitted in
    let l = joined-length xs ys in let m = joined-emissions xs ys in
    record { outs = omega (arith, p1, q1, l); emitted = omega (arith, p2, q2, m) }

few-round : (b : Bool) (r : ℕ) → AreFew 1 0 (when b (ArmNomination r))
few-round true r = record { outs = omega arith; emitted = omega arith }
few-round false r = record { outs = omega arith; emitted = omega arith }

few-armed : (b : Bool) (n : ℕ) → AreFew 1 0 (when b (ArmBallot n))
few-armed true n = record { outs = omega arith; emitted = omega arith }
few-armed false n = record { outs = omega arith; emitted = omega arith }

few-sent : (n : Node) (old new : Option Statement) → AreFew 1 1 (emission_between n old new)
few-sent n old None = record { outs = omega arith; emitted = omega arith }
few-sent n old (Some s) = go (same_sent old (Some s))
  where
    go : (b : Bool) → AreFew 1 1 (if b then [] else Emit (record { sender = n.name; slot = n.slot; slices = n.slices; body = s }) ∷ [])
    go true = record { outs = omega arith; emitted = omega arith }
    go false = record { outs = omega arith; emitted = omega arith }

few-decided : (b : Bool) (o : Option Ballot) → AreFew 1 0 (if b then externalization o else [])
few-decided true None = record { outs = omega arith; emitted = omega arith }
few-decided true (Some x) = record { outs = omega arith; emitted = omega arith }
few-decided false o = record { outs = omega arith; emitted = omega arith }

few-given : (old new : Node) → AreFew 5 2 (outs old new)
unfolding outs
few-given old new =
    joined 4 2 1 0 (((round ++ armed) ++ nominated) ++ voted) last
    (joined 3 1 1 1 ((round ++ armed) ++ nominated) voted
    (joined 2 0 1 1 (round ++ armed) nominated
    (joined 1 0 1 0 round armed
    (few-round (not (new.inputs.round == old.inputs.round) && is_none new.votes.confirmed_prepared) new.inputs.round)
    (few-armed (not (new.votes.armed == old.votes.armed) && (new.votes.armed == counter_of new.votes.ballot) && not (is_externalized new.votes.phase)) new.votes.armed))
    (few-sent new (sent_nomination old.votes) (sent_nomination new.votes)))
    (few-sent new (sent_vote old.votes) (sent_vote new.votes)))
    (few-decided (is_externalized new.votes.phase && not (is_externalized old.votes.phase)) new.votes.ballot)
  where
    round : List Out
    round = when (not (new.inputs.round == old.inputs.round) && is_none new.votes.confirmed_prepared) (ArmNomination new.inputs.round)

    armed : List Out
    armed = when (not (new.votes.armed == old.votes.armed) && (new.votes.armed == counter_of new.votes.ballot) && not (is_externalized new.votes.phase)) (ArmBallot new.votes.armed)

    nominated : List Out
    nominated = emission_between new (sent_nomination old.votes) (sent_nomination new.votes)

    voted : List Out
    voted = emission_between new (sent_vote old.votes) (sent_vote new.votes)

    last : List Out
    last = if is_externalized new.votes.phase && not (is_externalized old.votes.phase) then externalization new.votes.ballot else []

few-answered : (old : Node) (o : Option Node) → AreFew 5 2 (node_and_outs old o).1
few-answered old None = record { outs = omega arith; emitted = omega arith }
few-answered old (Some new) = few-given old new

few-step : (n : Node) (e : NodeEvent) → AreFew 5 2 (step n e).1
unfolding step
few-step n e = few-answered n (after_change (change n e))

-- and two emissions at most
pub few_emissions : (n : Node) (e : NodeEvent) → length (emissions (step n e).1) ≤ 2
few_emissions n e = (few-step n e).emitted
