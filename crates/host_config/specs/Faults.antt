-- What is wrong with nodes and rosters that make no network, by tests on the lists as they are given.
use Rattle.std.specs.Prelude.{ℕ, ◌^◌, Bool, not, ◌||◌, ◌==◌, nat_lt, List, [], ◌∷◌, length, Option, Some, None, if◌then◌else◌}
use Rattle.scp_types.specs.Trees.{all_differ}
use Rattle.scp_spec.specs.Networks.{HostedNode}
use Rattle.scp_spec.specs.Rosters.{Shares}
use Rattle.host_config.specs.Configs.{names_of}
use Rattle.host_config.specs.declared.error.ConfigError.{ConfigError}
use Rattle.host_config.specs.declared.error.ConfigError.TheVariants.{NodeTwice, NoNodes, TooManyNodes, NoMemory, RosterTwice, RosterTooLong, ShareTooLarge}

-- the numbers of the errors of a configuration
abbrev pub config_error_number : ConfigError → ℕ
config_error_number NodeTwice = 1
config_error_number NoNodes = 2
config_error_number TooManyNodes = 3
config_error_number NoMemory = 4
config_error_number RosterTwice = 5
config_error_number RosterTooLong = 6
config_error_number ShareTooLarge = 7

-- the error of the first test that holds, if one does
abbrev pub first_fault : List (Bool × ConfigError) → Option ConfigError
first_fault [] = None
first_fault (t ∷ ts) = if t.0 then Some t.1 else first_fault ts

-- what is tested of nodes, in this order
abbrev pub node_tests : List HostedNode → List (Bool × ConfigError)
node_tests nodes =
    (not (all_differ (names_of nodes)), NodeTwice) ∷ (length nodes == 0, NoNodes)
    ∷ (nat_lt 256 (length nodes), TooManyNodes) ∷ []

-- some share of a roster is above the limit
abbrev pub is_too_large : Shares → Bool
is_too_large s = nat_lt (2 ^ 40) s.own || nat_lt (2 ^ 40) s.pair || nat_lt (2 ^ 40) s.bytes || nat_lt (2 ^ 40) s.opens

-- what is tested of a roster, in this order
abbrev pub roster_tests : List ℕ → Shares → List (Bool × ConfigError)
roster_tests names shares =
    (not (all_differ names), RosterTwice) ∷ (nat_lt 1024 (length names), RosterTooLong)
    ∷ (is_too_large shares, ShareTooLarge) ∷ []

-- the test of what was given that an error names, if any: out of memory names none
abbrev pub fault_of : ConfigError → Option ConfigError
fault_of NodeTwice = Some NodeTwice
fault_of NoNodes = Some NoNodes
fault_of TooManyNodes = Some TooManyNodes
fault_of NoMemory = None
fault_of RosterTwice = Some RosterTwice
fault_of RosterTooLong = Some RosterTooLong
fault_of ShareTooLarge = Some ShareTooLarge
