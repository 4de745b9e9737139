-- Rosters that a network can have, and what a list of names makes.
use Rattle.std.specs.Prelude.{◌≡◌, ℕ, ◌≤◌, List, length, Option, Some, None}
use Rattle.std.specs.List.Sorted.{IsPermutation}
use Rattle.scp_spec.specs.Rosters.{Shares, Roster}
use Rattle.scp_spec.specs.Sets.{IsAscending}
use Rattle.host_config.specs.Budgets.{AreShares}

-- names and shares that a roster can have: up to 1,024 names, ascending
pub record AreReserved (names : List ℕ) (shares : Shares) : Type 0 where
  pub ascending : IsAscending names
  pub few_names : length names ≤ 1024
  pub limits : AreShares shares.own shares.pair shares.bytes shares.opens

-- a roster has the names that were given, in ascending order, and the shares
pub record IsRosterOf (given : List ℕ) (shares : Shares) (roster : Roster) : Type 0 where
  pub names : IsPermutation given roster.names
  pub ascending : IsAscending roster.names
  pub reserved : roster.shares ≡ shares

-- there is a roster, of these names and shares
abbrev pub HasRosterOf : List ℕ → Shares → Option Roster → Type 0
HasRosterOf given shares None = ⊥
HasRosterOf given shares (Some roster) = IsRosterOf given shares roster
