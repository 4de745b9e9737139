-- Votes that rules change, and what they were before.
use Rattle.scp_types.specs.declared.state.Votes.{Votes}

-- votes that rules change: those before any rule, and those after the rules so far
pub record Drafted : Type 0 where
  -- the votes before any rule
  pub before : Votes
  -- the votes after the rules so far
  pub now : Votes

-- what one more rule makes of the votes
abbrev pub after : (Votes → Votes) → Drafted → Drafted
after rule d = record d { now = rule d.now }
