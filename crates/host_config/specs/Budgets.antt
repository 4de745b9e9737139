-- Budgets and shares that a network can have.
use Rattle.std.specs.Prelude.{ℕ, ◌≤◌, ◌^◌}

-- budgets that a network can have: up to 2^40 events and bytes, 1 to 64 open slots
pub record AreBudgets (events bytes slots : ℕ) : Type 0 where
  pub few_events : events ≤ 2 ^ 40
  pub few_bytes : bytes ≤ 2 ^ 40
  pub some_slots : 1 ≤ slots
  pub few_slots : slots ≤ 64

-- shares that a roster can have: up to 2^40 each
pub record AreShares (own pair bytes opens : ℕ) : Type 0 where
  pub few_own : own ≤ 2 ^ 40
  pub few_pair : pair ≤ 2 ^ 40
  pub few_bytes : bytes ≤ 2 ^ 40
  pub few_opens : opens ≤ 2 ^ 40
