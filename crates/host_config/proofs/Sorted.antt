-- A sorted list of names rises exactly where no name stands twice in what was sorted.
use Rattle.std.proofs.Common.{◌≡◌, ℕ, ◌<◌, true, List, [], ◌∷◌, length, map, subst, arith}
use Rattle.std.specs.List.Sorted.{IsPermutation, IsNonDecreasing, IsNonDecreasingBy, IsSortedByKey}
use Rattle.std.proofs.Math.Path.{fun_ext}
use Rattle.std.proofs.Math.ListN.{get_or-map}
use Rattle.std.proofs.lemmas.List.{length-map}
use Rattle.std.proofs.lemmas.List.Kept.{AllPairs-from_increasing}
use Rattle.std.proofs.lemmas.List.Sorted.{IsNonDecreasingBy-from_default, IsNonDecreasingBy-from_sort, IsNonDecreasingBy-short, IsPermutation-map}
use Rattle.scp_types.specs.Trees.{all_differ}
use Rattle.scp_types.specs.contracts.node_id.NodeIdOrd.TheImpl.{ghosts as ord}
use Rattle.scp_types.proofs.NameOrder.{name_cmp_is}
use Rattle.scp_types.proofs.RisingNames.{increases, rises-where-differ}
use Rattle.scp_spec.specs.Networks.{HostedNode}
use Rattle.scp_spec.specs.Sets.{IsAscending}
use Rattle.host_config.specs.Configs.{names_of, rises}

pub ascending : (ys : List ℕ) → rises ys ≡ true → IsAscending ys
ascending ys h = AllPairs-from_increasing ys (increases ys h)

sorted-keys : {X : Type 0} (n : X → ℕ) (xs : List X) → IsNonDecreasingBy n xs → IsNonDecreasing (map n xs)
sorted-keys n [] up = IsNonDecreasingBy-short (λ x. x) [] (omega arith)
sorted-keys n (x ∷ xs) up = IsNonDecreasingBy-from_default (λ y. y) (map n (x ∷ xs)) (n x) (λ i j l m.
    let k : j < length (x ∷ xs) = omega (arith, m, length-map (x ∷ xs) n) in
    rw (get_or-map n (x ∷ xs) i x, get_or-map n (x ∷ xs) j x) (up i j x l k))

-- what a sort of nodes by name gives
pub rises-once-sorted-by-name : (nodes sorted_nodes : List HostedNode) → IsPermutation nodes sorted_nodes → IsSortedByKey (λ h. h.name) ord.cmp sorted_nodes → rises (names_of sorted_nodes) ≡ all_differ (names_of nodes)
rises-once-sorted-by-name nodes sorted_nodes moved sorted =
    let by_number = subst (λ f. IsSortedByKey (λ h. h.name) f sorted_nodes) (fun_ext (λ x. fun_ext (λ y. name_cmp_is x y))) sorted in
    let up = sorted-keys (λ h. h.name) sorted_nodes (IsNonDecreasingBy-from_sort (λ h. h.name) sorted_nodes by_number) in
    rises-where-differ (names_of nodes) (names_of sorted_nodes) (IsPermutation-map (λ h. h.name) nodes sorted_nodes moved) up
