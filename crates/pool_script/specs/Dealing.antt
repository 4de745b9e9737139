-- What is submitted, dealt to the networks.
use Rattle.std.specs.Prelude.{◌≡◌, ◌==◌, ℕ, List, Option, Some, None, filter, is_some, map, not}
use Rattle.std.specs.List.{All}
use Rattle.std.specs.Ordering.{nat_cmp}
use Rattle.std.specs.BTreeMap.{BTreeMap, get}
use Rattle.scp_types.specs.declared.event.Event.{Event}
use Rattle.scp_spec.specs.Hosts.{Config}
use Rattle.scp_spec.specs.Submissions.{config_of}
use Rattle.std.specs.List.Sorted.{IsStrictlySortedBy}
use Rattle.pool_script.specs.declared.dealing.Share.{Share}

-- the events of one network, in order
abbrev pub calls_of : ℕ → List (ℕ × Event) → List (ℕ × Event)
calls_of g calls = filter (λ call. call.0 == g) calls

-- the events of networks of which there is no configuration, in order
abbrev pub calls_elsewhere : List Config → List (ℕ × Event) → List (ℕ × Event)
calls_elsewhere configs calls = filter (λ call. not (is_some (config_of configs call.0))) calls

-- What each network is dealt: its configuration, and its events. They stand ascending by number.
pub record AreNetworkShares (configs : List Config) (calls : List (ℕ × Event)) (shares : List Share) : Type 0 where
  pub rising : IsStrictlySortedBy nat_cmp (map (λ s. s.config.number) shares)
  pub all : (g : ℕ) → config_of (map (λ s. s.config) shares) g ≡ config_of configs g
  pub own : All (λ s. s.calls.items ≡ calls_of s.config.number calls) shares

-- what the network of a number is dealt of these events, if it is declared
abbrev pub HasShare : List Config → List (ℕ × Event) → ℕ → Option Share → Type 0
HasShare configs calls g None = config_of configs g ≡ None
HasShare configs calls g (Some s) = (config_of configs g ≡ Some s.config) × (s.calls.items ≡ calls_of g calls)

-- each network that is declared was dealt its own of these events
abbrev pub AreDealt : List Config → List (ℕ × Event) → BTreeMap ℕ Share → Type 0
AreDealt configs calls shares = (g : ℕ) → HasShare configs calls g (get nat_cmp shares g)
