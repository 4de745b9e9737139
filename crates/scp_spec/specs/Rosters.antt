-- Rosters: names of a network for which events and bytes are reserved, so that strangers can't use them up.
use Rattle.std.specs.Prelude.{ℕ, Bool, false, ◌&&◌, ◌==◌, List, length, filter, sum_by, if◌then◌else◌}
use Rattle.scp_spec.specs.Sets.{among}

-- What is reserved. Each opening of a slot gives each hosted node on the roster events of its own. It also gives that
-- node, for each other name on the roster, events and delivered bytes from there. The network gets, once, the events of
-- all openings and closings.
pub record Shares : Type 0 where
  pub own : ℕ
  pub pair : ℕ
  pub bytes : ℕ
  pub opens : ℕ

-- the names of a network for which shares are reserved
pub record Roster : Type 0 where
  pub names : List ℕ
  pub shares : Shares

-- a share of an open slot: a node's own, or what a node gets from another name, the node first
pub data Share : Type 0 where
  Own : ℕ → Share
  Pair : ℕ → ℕ → Share

-- what a step draws on: the network's budgets, its openings and closings, or a share of a slot
pub data Source : Type 0 where
  OfBudgets : Source
  OfOpens : Shares → Source
  OfShare : Shares → ℕ → Share → Source

-- what was drawn on a share of a slot by one event
pub record Draw : Type 0 where
  pub slot : ℕ
  pub share : Share
  pub size : ℕ

-- all names of the share are among these
abbrev pub is_on : List ℕ → Share → Bool
is_on names (Own u) = among names u
is_on names (Pair u from) = among names u && among names from

-- the share of a slot if its names are on the roster; else the budgets
abbrev pub share_or_budgets : Roster → ℕ → Share → Source
share_or_budgets r i s = if is_on r.names s then OfShare r.shares i s else OfBudgets

-- one share
abbrev pub same_share : Share → Share → Bool
same_share (Own u) (Own w) = u == w
same_share (Pair u from) (Pair w other) = (u == w) && (from == other)
same_share _ _ = false

-- what was drawn on a share of a slot
abbrev pub drawn_on : ℕ → Share → List Draw → List Draw
drawn_on i s draws = filter (λ d. (d.slot == i) && same_share d.share s) draws

-- how many events drew on it
abbrev pub events_drawn : ℕ → Share → List Draw → ℕ
events_drawn i s draws = length (drawn_on i s draws)

-- how many delivered bytes they had
abbrev pub bytes_drawn : ℕ → Share → List Draw → ℕ
bytes_drawn i s draws = sum_by (λ d. d.size) (drawn_on i s draws)

-- how many events a share has
abbrev pub events_of : Shares → Share → ℕ
events_of shares (Own u) = shares.own
events_of shares (Pair u from) = shares.pair
