-- The nodes of a network, by name and by place.
use Rattle.std.specs.Prelude.{◌≡◌, ℕ, suc, ◌≤◌, ◌==◌, List, [], ◌∷◌, length, map, Option, Some, None, option_map, if◌then◌else◌}
pub use Rattle.scp_types.specs.Trees.{rises}
use Rattle.scp_spec.specs.Networks.{HostedNode}
use Rattle.scp_spec.specs.Sets.{IsAscending}

-- the names of hosted nodes
abbrev pub names_of : List HostedNode → List ℕ
names_of nodes = map (λ h. h.name) nodes

-- the place of a name in a list
abbrev pub index_in : List ℕ → ℕ → Option ℕ
index_in [] u = None
index_in (x ∷ xs) u = if x == u then Some 0 else option_map suc (index_in xs u)

-- the place of a hosted node among the others, by its name
abbrev pub index_of_name : List HostedNode → ℕ → Option ℕ
index_of_name nodes u = index_in (names_of nodes) u

-- nodes that a network can host: 1 to 256, ascending by name
pub record AreHostedNodes (nodes : List HostedNode) : Type 0 where
  pub ascending : IsAscending (names_of nodes)
  pub some_nodes : 1 ≤ length nodes
  pub few_nodes : length nodes ≤ 256

-- a list of names is that of the nodes that a network can host
pub record AreNamed (names : List ℕ) (nodes : List HostedNode) : Type 0 where
  pub are_names : names ≡ names_of nodes
  pub are_nodes : AreHostedNodes nodes
