-- What each of some nodes gave out.
use Rattle.std.specs.Prelude.{◌≡◌, ◌≢◌, ℕ, List, map, filter, ◌++◌, slice_get, slice_set, Some, IsTrue, IsFalse}
use Rattle.scp_types.specs.declared.event.Out.{Out}
use Rattle.scp_spec.specs.Sets.{Names}
use Rattle.scp_spec.specs.Networks.{HostedNode}
use Rattle.scp_spec.specs.Hosts.{Entry}
use Rattle.scp_spec.specs.Isolation.{is_of, outs_of}

-- each of these names with what it gave out at the slot
abbrev pub outs_of_each : ℕ → List Entry → List ℕ → List (ℕ × List Out)
outs_of_each i run list = map (λ u. (u, outs_of i u run)) list

-- the hosted nodes that are in the set, in their order
abbrev pub hosted_in : Names → List HostedNode → List ℕ
hosted_in R nodes = filter R (map (λ h. h.name) nodes)

-- What an entry adds to a list of nodes with their outs: its own to the node that it is of, if that is one of the
-- names.
pub data IsNoted (i : ℕ) (x : Entry) (list : List ℕ) (old new : List (ℕ × List Out)) : Type 0 where
  nobody : ((k u : ℕ) → slice_get list k ≡ Some u → IsFalse (is_of i u x.event)) → new ≡ old → IsNoted i x list old new
  somebody : (k w : ℕ) → slice_get list k ≡ Some w → IsTrue (is_of i w x.event)
      → ((j u : ℕ) → slice_get list j ≡ Some u → j ≢ k → IsFalse (is_of i u x.event))
      → ((p : ℕ × List Out) → slice_get old k ≡ Some p → new ≡ slice_set old k (p.0, p.1 ++ x.outs))
      → IsNoted i x list old new

-- the entry with this number, if there is one, adds what it gave out
abbrev pub IsNotedAt : ℕ → List Entry → ℕ → List ℕ → List (ℕ × List Out) → List (ℕ × List Out) → Type 0
IsNotedAt i run n list old new = (x : Entry) → slice_get run n ≡ Some x → IsNoted i x list old new
