-- Hosted nodes by their places.
use Rattle.std.specs.Prelude.{◌≡◌, ℕ, true, List, Some, is_some, option_map, slice_get, ⊤}
use Rattle.scp_spec.specs.Networks.{HostedNode, Step, slices_of}
use Rattle.scp_spec.specs.Networks.Step.{Opens, Closes, Proposes, Delivers, Hears, NominationTimerFires, BallotTimerFires, Reslices}
use Rattle.host_journal.specs.declared.node_place.NodePlace.{NodePlace}

-- the name of the node that stands at a place
abbrev pub node_name : NodePlace → ℕ
node_name p = p.name.value

-- the node stands at this place among the hosted ones
abbrev pub IsNodePlace : List HostedNode → NodePlace → Type 0
IsNodePlace nodes p = option_map (λ h. h.name) (slice_get nodes p.place) ≡ Some (node_name p)

-- a node of that name is hosted
abbrev pub IsNodeName : List HostedNode → ℕ → Type 0
IsNodeName nodes u = is_some (slices_of nodes u) ≡ true

-- the node of an event, and the one that is heard, are hosted
abbrev pub NamesNodes : List HostedNode → Step → Type 0
NamesNodes nodes (Opens i) = ⊤
NamesNodes nodes (Closes i) = ⊤
NamesNodes nodes (Proposes i u x) = IsNodeName nodes u
NamesNodes nodes (Delivers u size d) = IsNodeName nodes u
NamesNodes nodes (Hears i u from kind k) = IsNodeName nodes u × IsNodeName nodes from
NamesNodes nodes (NominationTimerFires i u r) = IsNodeName nodes u
NamesNodes nodes (BallotTimerFires i u n) = IsNodeName nodes u
NamesNodes nodes (Reslices i u q) = IsNodeName nodes u
