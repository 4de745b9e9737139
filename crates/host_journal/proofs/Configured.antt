-- The configured slices of a node, by its place among the hosted ones.
use Rattle.std.proofs.Common.{◌≡◌, ℕ, suc, ◌<◌, ◌==◌, Bool, true, false, length, get_or, List, [], ◌∷◌, slice_get, Option, Some, None, option_map, if◌then◌else◌, refl, ap, ◌∙◌, sym, arith}
use Rattle.std.proofs.lemmas.Bool.Decides.{nat_tests}
use Rattle.std.proofs.lemmas.Option.{slice_get_read}
use Rattle.scp_types.specs.Trees.{Slices}
use Rattle.host_config.specs.Configs.{index_in, index_of_name, names_of}
use Rattle.scp_spec.specs.Networks.{HostedNode, slices_of}

pub within : (nodes : List HostedNode) (u k : ℕ) → index_of_name nodes u ≡ Some k → k < length nodes
within [] u k h = absurd (cc)
within (x ∷ xs) u k h = go (x.name == u) (index_in (names_of xs) u) (λ j e. within xs u j e) refl h
  where
    go : (b : Bool) (o : Option ℕ) → ((j : ℕ) → index_in (names_of xs) u ≡ Some j → j < length xs) → index_in (names_of xs) u ≡ o → (if b then Some 0 else option_map suc o) ≡ Some k → k < suc (length xs)
    go true o ih e q = let z : 0 ≡ k = cc in omega (arith, z)
    go false None ih e q = absurd (cc)
    go false (Some j) ih e q = let z : suc j ≡ k = cc in let l = ih j e in omega (arith, z, l)

-- the slices of the node at a place
abbrev pub slices_in : Option HostedNode → Option Slices
slices_in o = option_map (λ h. h.slices) o

pub found : (nodes : List HostedNode) (u k : ℕ) → index_of_name nodes u ≡ Some k → slices_of nodes u ≡ slices_in (slice_get nodes k)
found [] u k h = absurd (cc)
found (x ∷ xs) u k h = go (x.name == u) (index_in (names_of xs) u) (λ j e. found xs u j e) refl h
  where
    go : (b : Bool) (o : Option ℕ) → ((j : ℕ) → index_in (names_of xs) u ≡ Some j → slices_of xs u ≡ slices_in (slice_get xs j)) → index_in (names_of xs) u ≡ o → (if b then Some 0 else option_map suc o) ≡ Some k
        → (if b then Some x.slices else slices_of xs u) ≡ slices_in (slice_get (x ∷ xs) k)
    go true o ih e q = let z : 0 ≡ k = cc in ap (λ n. slices_in (slice_get (x ∷ xs) n)) z
    go false None ih e q = absurd (cc)
    go false (Some j) ih e q = let z : suc j ≡ k = cc in ih j e ∙ ap (λ n. slices_in (slice_get (x ∷ xs) n)) z

-- those of the hosted node at the place of a name
pub stands : (nodes : List HostedNode) (u k : ℕ) (h : HostedNode) (q : Slices) → index_of_name nodes u ≡ Some k → k < length nodes → h ≡ get_or nodes k h → q ≡ h.slices → Some q ≡ slices_of nodes u
stands nodes u k h q at inside is same =
    ap (λ (s : Slices). Some s) same ∙ sym (found nodes u k at ∙ ap slices_in (slice_get_read nodes (length nodes) k h refl inside is))

-- a name without a place is not hosted
pub missing : (nodes : List HostedNode) (u : ℕ) → index_of_name nodes u ≡ None → slices_of nodes u ≡ None
missing [] u h = refl
missing (x ∷ xs) u h = go (x.name == u) (index_in (names_of xs) u) (λ e. missing xs u e) refl h
  where
    go : (b : Bool) (o : Option ℕ) → (index_in (names_of xs) u ≡ None → slices_of xs u ≡ None) → index_in (names_of xs) u ≡ o → (if b then Some 0 else option_map suc o) ≡ None → (if b then Some x.slices else slices_of xs u) ≡ None
    go true o ih e q = absurd (cc)
    go false None ih e q = ih e
    go false (Some j) ih e q = absurd (cc)

-- the name that stands at the place of a name
pub named : (nodes : List HostedNode) (u k : ℕ) → index_of_name nodes u ≡ Some k → option_map (λ (h : HostedNode). h.name) (slice_get nodes k) ≡ Some u
named [] u k h = absurd (cc)
named (x ∷ xs) u k h = go (x.name == u) (index_in (names_of xs) u) (λ j e. named xs u j e) refl refl h
  where
    go : (b : Bool) (o : Option ℕ) → ((j : ℕ) → index_in (names_of xs) u ≡ Some j → option_map (λ (y : HostedNode). y.name) (slice_get xs j) ≡ Some u) → (x.name == u) ≡ b → index_in (names_of xs) u ≡ o
        → (if b then Some 0 else option_map suc o) ≡ Some k → option_map (λ (y : HostedNode). y.name) (slice_get (x ∷ xs) k) ≡ Some u
    go true o ih is e q =
        let z : 0 ≡ k = cc in
        let same : x.name ≡ u = grind (arith, nat_tests, is) in
        sym (ap (λ n. option_map (λ (y : HostedNode). y.name) (slice_get (x ∷ xs) n)) z) ∙ ap (λ (n : ℕ). Some n) same
    go false None ih is e q = absurd (cc)
    go false (Some j) ih is e q = let z : suc j ≡ k = cc in sym (ap (λ n. option_map (λ (y : HostedNode). y.name) (slice_get (x ∷ xs) n)) z) ∙ ih j e
