-- Members that two networks host alike.
use Rattle.std.specs.Prelude.{◌≡◌, ◌≢◌, ℕ, List}
use Rattle.scp_spec.specs.Networks.{HostedNode, slices_of}
use Rattle.host_closure.specs.Least.{AreAll, IsLeast}

-- neither hosts a name, or both do, with the same slices
abbrev pub IsHostedAlike : List HostedNode → List HostedNode → ℕ → Type 0
IsHostedAlike one other u = slices_of one u ≡ slices_of other u

abbrev pub IsUnlike : List HostedNode → List HostedNode → ℕ → Type 0
IsUnlike one other u = slices_of one u ≢ slices_of other u

-- two networks host each of the names alike: neither does, or both with the same slices
abbrev pub AreHostedAlike : List HostedNode → List HostedNode → List ℕ → Type 0
AreHostedAlike one other list = AreAll (IsHostedAlike one other) list

-- the least of the names that two networks do not host alike
abbrev pub IsLeastUnlike : List HostedNode → List HostedNode → List ℕ → ℕ → Type 0
IsLeastUnlike one other list u = IsLeast (IsUnlike one other) (IsHostedAlike one other) list u
