-- Which statements are well formed, and what an envelope is.
use Rattle.std.specs.Prelude.{◌≡◌, ℕ, ◌+◌, ◌<◌, ◌≤◌, ◌^◌, Bool, true, false, ◌&&◌, not, nat_le, nat_lt, List, length, Option, Some, None, IfSome}
use Rattle.std.specs.List.{AllByRecursion}
use Rattle.std.specs.Ordering.{is_gt}
use Rattle.scp_types.specs.declared.ballot.Ballot.{Ballot}
use Rattle.scp_types.specs.declared.statement.Statement.{Statement}
use Rattle.scp_types.specs.declared.statement.Statement.TheVariants.{Nominate, Prepare, Commit, Externalize}
use Rattle.scp_types.specs.declared.kind.Kind.{Kind}
use Rattle.scp_types.specs.declared.kind.Kind.TheVariants.{Nomination}
use Rattle.scp_types.specs.Trees.{Slices, IsNested, IsName}
use Rattle.scp_types.specs.Orders.{ballot_cmp}
use Rattle.scp_types.specs.Nominations.{IsValue, IsNominationSet, is_nomination_set}

-- which kind a statement is
abbrev pub kind_of : Statement → Kind
kind_of (Nominate voted accepted) = Nomination
kind_of (Prepare b p a h c) = Kind.Ballot
kind_of (Commit b p h c) = Kind.Ballot
kind_of (Externalize b h) = Kind.Ballot

-- ---- the widths of fields
-- a ballot's counter is below 2^32, and its value has 1 to 256 bytes
pub record IsBallot (b : Ballot) : Type 0 where
  pub counter : b.counter < 2 ^ 32
  pub value : IsValue b.value

-- each number and each value of a statement fits where it is kept
abbrev pub HasWidths : Statement → Type 0
HasWidths (Nominate voted accepted) = AllByRecursion IsValue voted × AllByRecursion IsValue accepted
HasWidths (Prepare b p a h c) = IsBallot b × IfSome p IsBallot × (a < 2 ^ 32) × (h < 2 ^ 32) × (c < 2 ^ 32)
HasWidths (Commit b p h c) = IsBallot b × (p < 2 ^ 32) × (h < 2 ^ 32) × (c < 2 ^ 32)
HasWidths (Externalize b h) = IsBallot b × (h < 2 ^ 32)

-- ---- the rules
abbrev pub IsUpTo : Ballot → Ballot → Type 0
IsUpTo a b = is_gt (ballot_cmp a b) ≡ false

pub record IsNomination (voted accepted : List (List ℕ)) : Type 0 where
  pub voted_set : IsNominationSet voted
  pub accepted_set : IsNominationSet accepted
  pub some : 0 < length voted + length accepted

pub record IsPrepare (ballot : Ballot) (prepared : Option Ballot) (a h c : ℕ) : Type 0 where
  pub counted : 1 ≤ ballot.counter
  pub prepared_below : IfSome prepared (λ p. IsUpTo p ballot)
  pub aborted_below : a ≤ ballot.counter
  pub ordered : c ≤ h
  pub high_below : h ≤ ballot.counter

pub record IsCommit (ballot : Ballot) (h c : ℕ) : Type 0 where
  pub counted : 1 ≤ c
  pub ordered : c ≤ h
  pub high_below : h ≤ ballot.counter

pub record IsExternalize (commit : Ballot) (h : ℕ) : Type 0 where
  pub counted : 1 ≤ commit.counter
  pub ordered : commit.counter ≤ h

-- a statement keeps the rules of its kind
abbrev pub IsWellFormed : Statement → Type 0
IsWellFormed (Nominate voted accepted) = IsNomination voted accepted
IsWellFormed (Prepare ballot prepared a h c) = IsPrepare ballot prepared a h c
IsWellFormed (Commit ballot prepared h c) = IsCommit ballot h c
IsWellFormed (Externalize commit h) = IsExternalize commit h

-- ---- envelopes
-- what an envelope says, without where it lies in memory
pub record Sent : Type 0 where
  pub sender : ℕ
  pub slot : ℕ
  pub slices : Slices
  pub body : Statement

-- an envelope's parts have their widths, and its slices and its statement keep their rules
pub record IsEnvelope (e : Sent) : Type 0 where
  pub sender : IsName e.sender
  pub slot : e.slot < 2 ^ 64
  pub slices : IsNested e.slices
  pub widths : HasWidths e.body
  pub rules : IsWellFormed e.body

-- ---- the rules as tests
-- the ballot that may be missing is not above the other one
abbrev pub is_up_to : Option Ballot → Ballot → Bool
is_up_to None b = true
is_up_to (Some a) b = not (is_gt (ballot_cmp a b))

-- a statement keeps the rules of its kind, as a test
abbrev pub is_well_formed : Statement → Bool
is_well_formed (Nominate voted accepted) =
    is_nomination_set voted && (is_nomination_set accepted && nat_lt 0 (length voted + length accepted))
is_well_formed (Prepare ballot prepared a h c) =
    nat_le 1 ballot.counter
    && (is_up_to prepared ballot && (nat_le a ballot.counter && (nat_le c h && nat_le h ballot.counter)))
is_well_formed (Commit ballot prepared h c) = nat_le 1 c && (nat_le c h && nat_le h ballot.counter)
is_well_formed (Externalize commit h) = nat_le 1 commit.counter && nat_le commit.counter h
