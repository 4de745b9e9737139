-- The orders of values and ballots.
use Rattle.std.specs.Prelude.{ℕ, List}
use Rattle.std.specs.declared.cmp.Ordering.{Ordering}
use Rattle.std.specs.Ordering.{nat_cmp, on, then_cmp}
use Rattle.std.specs.Cmp.Lexicographic.{slice_cmp}
use Rattle.scp_types.specs.declared.ballot.Ballot.{Ballot}

-- the order of bytes: from the left, byte by byte
abbrev pub bytes_cmp : List ℕ → List ℕ → Ordering
bytes_cmp = slice_cmp nat_cmp

-- the order of ballots: by counter, then by value
abbrev pub ballot_cmp : Ballot → Ballot → Ordering
ballot_cmp = then_cmp (on (λ b. b.counter) nat_cmp) (on (λ b. b.value) bytes_cmp)
