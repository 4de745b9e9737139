-- The interval that is accepted as committed, once it has another end.
use Rattle.std.specs.Prelude.{ℕ, max, [], ◌∷◌, Some}
use Rattle.scp_types.specs.declared.ballot.Ballot.{Ballot}
use Rattle.scp_types.specs.declared.state.Votes.{Votes}
use Rattle.scp_spec.specs.Candidates.{greatest}
use Rattle.scp_spec.specs.States.{ballot_with}

-- the interval goes from low to the counter of the end, and neither the ballot nor the highest accepted one stays
-- below the end
abbrev pub moved_to : ℕ → Ballot → Ballot → Votes → Votes
moved_to low end b w = record w {
  ballot = Some (ballot_with (max b.counter end.counter) end.value);
  prepared = greatest w.prepared (end ∷ []);
  low = low;
  high = end.counter;
}
