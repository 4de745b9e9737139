-- The tests of statements, each as a test of one statement; and what the passes need of what a node sees. `Nominating`
-- and `Passes` stand on it.
use Rattle.std.proofs.Common.{◌≡◌, ℕ, Bool, true, List, Option, sym, ◌∙◌, subst}
use Rattle.scp_types.specs.declared.ballot.Ballot.{Ballot}
use Rattle.scp_types.specs.declared.kind.Kind.{Kind}
use Rattle.scp_types.specs.declared.statement.Statement.{Statement}
use Rattle.scp_types.specs.Votes.{implies_prepare, accepts_prepare, votes_or_accepts_prepare, accepts_ends, votes_or_accepts_ends, accepts_nominate, votes_or_accepts_nominate}
use Rattle.scp_spec.specs.Views.{Seen, passes}

abbrev pub implies : Ballot → Ballot → Bool
implies = implies_prepare

abbrev pub backs_prepare : Ballot → Statement → Bool
backs_prepare t = λ s. votes_or_accepts_prepare s t

abbrev pub takes_prepare : Ballot → Statement → Bool
takes_prepare t = λ s. accepts_prepare s t

abbrev pub backs_commit : List ℕ → ℕ → ℕ → Statement → Bool
backs_commit x low high = λ s. votes_or_accepts_ends s x low high

abbrev pub takes_commit : List ℕ → ℕ → ℕ → Statement → Bool
takes_commit x low high = λ s. accepts_ends s x low high

abbrev pub backs_value : List ℕ → Statement → Bool
backs_value x = λ s. votes_or_accepts_nominate s x

abbrev pub takes_value : List ℕ → Statement → Bool
takes_value x = λ s. accepts_nominate s x

-- a quorum has the node's own position pass, and stays one under another position that passes; blocking grows with the
-- test
pub record Fair (s : Seen) : Type 0 where
  pub own : (k : Kind) (own : Bool) (test : Statement → Bool) → s.quorum k own test ≡ true → own ≡ true
  pub blocks : (k : Kind) (own other : Bool) (test weaker : Statement → Bool)
      → ((x : Statement) → test x ≡ true → weaker x ≡ true) → (own ≡ true → other ≡ true) → s.blocking k own test ≡ true
      → s.blocking k other weaker ≡ true

pub quorum_own : (s : Seen) → Fair s → (k : Kind) (own : Option Statement) (test : Statement → Bool)
    → s.quorum k (passes test own) test ≡ true → passes test own ≡ true
quorum_own s f k own test h = f.own k (passes test own) test h

pub quorum_more : (s : Seen) → Fair s → (k : Kind) (own other : Option Statement) (test : Statement → Bool)
    → passes test other ≡ true → s.quorum k (passes test own) test ≡ true → s.quorum k (passes test other) test ≡ true
quorum_more s f k own other test i h =
    let o : passes test own ≡ true = f.own k (passes test own) test h in
    subst (λ b. s.quorum k b test ≡ true) (o ∙ sym i) h

pub blocking_more : (s : Seen) → Fair s → (k : Kind) (own other : Option Statement) (test weaker : Statement → Bool)
    → ((x : Statement) → test x ≡ true → weaker x ≡ true) → (passes test own ≡ true → passes weaker other ≡ true)
    → s.blocking k (passes test own) test ≡ true → s.blocking k (passes weaker other) weaker ≡ true
blocking_more s f k own other test weaker m g h = f.blocks k (passes test own) (passes weaker other) test weaker m g h
