-- What was declared of a network is one configuration.
use Rattle.std.proofs.Common.{◌≡◌, ◌∙◌, ◌<◌, ℕ, zero, suc, List, [], ◌∷◌, Option, Some, None, inl, inr, refl, sym, ap, ap₂, subst, arith}
use Rattle.std.specs.List.{Contains}
use Rattle.std.specs.List.Sorted.{IsPermutation}
use Rattle.std.proofs.lemmas.List.Sorted.{Contains-permutation, IsPermutation-sym}
use Rattle.scp_spec.specs.Hosts.{Config}
use Rattle.scp_spec.specs.Networks.{HostedNode}
use Rattle.scp_spec.specs.Rosters.{Roster, Shares}
use Rattle.scp_spec.specs.Sets.{IsAscending}
use Rattle.scp_spec.proofs.Sets.Contained.{contained_cases, contains_head, contains_tail}
use Rattle.scp_spec.proofs.Verdicts.OneList.{one_list}
use Rattle.host_config.specs.Configs.{names_of}
use Rattle.host_config.specs.Rosters.{HasRosterOf}
use Rattle.line_request.specs.Outlines.{IsConfigOf, IsRosterAs, Outlined}

-- ---- lists that ascend by a number of each element

-- two orders of one list have the same elements
moved : {X : Type 0} (given xs ys : List X) → IsPermutation given xs → IsPermutation given ys → (x : X) → Contains xs x → Contains ys x
moved given xs ys p q x c = Contains-permutation given ys x q (Contains-permutation xs given x (IsPermutation-sym given xs p) c)

name-within : (xs : List HostedNode) (h : HostedNode) → Contains xs h → Contains (names_of xs) h.name
name-within [] h c = absurd (let l = c.1 in omega arith)
name-within (x ∷ xs) h c = elim (contained_cases h x xs c) [
  | inl e ↦ subst (λ n. Contains (names_of (x ∷ xs)) n) (ap (λ n. n.name) e) (contains_head x.name (names_of xs))
  | inr k ↦ contains_tail h.name x.name (names_of xs) (name-within xs h k)
]

above-head : (x : ℕ) (xs : List ℕ) → IsAscending (x ∷ xs) → (u : ℕ) → Contains xs u → x < u
above-head x xs h u c = subst (λ z. x < z) c.2 (let l = c.1 in h zero (suc c.0) u (omega arith) (omega arith))

ascending-tail : (x : ℕ) (xs : List ℕ) → IsAscending (x ∷ xs) → IsAscending xs
ascending-tail x xs h = λ i j d l k. h (suc i) (suc j) d (omega arith) (omega arith)

nothing-in : (h : HostedNode) → Contains [] h → ⊥
nothing-in h c = let l = c.1 in omega arith

within-tails : (x y : HostedNode) (xs ys : List HostedNode) → IsAscending (names_of (x ∷ xs)) → x ≡ y
    → ((u : HostedNode) → Contains (x ∷ xs) u → Contains (y ∷ ys) u) → (u : HostedNode) → Contains xs u → Contains ys u
within-tails x y xs ys h e f u c = elim (contained_cases u y ys (f u (contains_tail u x xs c))) [
  | inl k ↦ absurd (let l = above-head x.name (names_of xs) h u.name (name-within xs u c) in let q = ap (λ n. n.name) (e ∙ k) in omega (arith, l, q))
  | inr k ↦ k
]

-- the first of two such lists is one, since each would be below the other
one-head : (x y : HostedNode) (xs ys : List HostedNode) → IsAscending (names_of (x ∷ xs)) → IsAscending (names_of (y ∷ ys)) → Contains (y ∷ ys) x → Contains (x ∷ xs) y → x ≡ y
one-head x y xs ys a b c d = elim (contained_cases x y ys c) [
  | inl e ↦ sym e
  | inr in-others ↦ elim (contained_cases y x xs d) [
    | inl e ↦ e
    | inr in-first ↦ absurd (let l = above-head x.name (names_of xs) a y.name (name-within xs y in-first) in let k = above-head y.name (names_of ys) b x.name (name-within ys x in-others) in omega (arith, l, k))
  ]
]

-- nodes that ascend by name and are the same are one list
one-nodes : (xs ys : List HostedNode) → IsAscending (names_of xs) → IsAscending (names_of ys) → ((u : HostedNode) → Contains xs u → Contains ys u)
    → ((u : HostedNode) → Contains ys u → Contains xs u) → xs ≡ ys
one-nodes [] [] a b f g = refl
one-nodes [] (y ∷ ys) a b f g = absurd (nothing-in y (g y (contains_head y ys)))
one-nodes (x ∷ xs) [] a b f g = absurd (nothing-in x (f x (contains_head x xs)))
one-nodes (x ∷ xs) (y ∷ ys) a b f g =
    let e = one-head x y xs ys a b (f x (contains_head x xs)) (g y (contains_head y ys)) in
    ap₂ (λ (z : HostedNode) (zs : List HostedNode). z ∷ zs) e
    (one-nodes xs ys (ascending-tail x.name (names_of xs) a) (ascending-tail y.name (names_of ys) b) (within-tails x y xs ys a e f) (within-tails y x ys xs b (sym e) g))

-- ---- rosters and configurations

one-roster : (given : List ℕ) (shares : Shares) (r s : Option Roster) → HasRosterOf given shares r → HasRosterOf given shares s → r ≡ s
one-roster given shares None s h k = absurd h
one-roster given shares (Some r) None h k = absurd k
one-roster given shares (Some r) (Some s) h k =
    let names = one_list r.names s.names h.ascending k.ascending (moved given r.names s.names h.names k.names) (moved given s.names r.names k.names h.names) in
    λ i. Some (record { names = names i; shares = (h.reserved ∙ sym k.reserved) i })

same-roster : (d : Option (List ℕ × Shares)) (r s : Option Roster) → IsRosterAs d r → IsRosterAs d s → r ≡ s
same-roster None r s h k = h ∙ sym k
same-roster (Some d) r s h k = one-roster d.0 d.1 r s h k

-- what was declared is one configuration
pub one-config : (g : ℕ) (d : Outlined) (b c : Config) → IsConfigOf g d b → IsConfigOf g d c → b ≡ c
one-config g d b c h k =
    let nodes = one-nodes b.nodes c.nodes h.ascending k.ascending (moved d.nodes b.nodes c.nodes h.nodes k.nodes) (moved d.nodes c.nodes b.nodes k.nodes h.nodes) in
    λ i. record { number = (h.number ∙ sym k.number) i; nodes = nodes i; budgets = (h.budgets ∙ sym k.budgets) i; roster = same-roster d.roster b.roster c.roster h.roster k.roster i }
