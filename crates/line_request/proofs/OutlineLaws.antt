-- What is declared of networks is what a configuration takes.
use Rattle.std.proofs.Common.{◌≡◌, ℕ, ◌<◌, ◌≤◌, ◌+◌, Bool, true, false, not, ◌||◌, ◌==◌, List, [], ◌∷◌, ◌++◌, length, refl, sym, ap, subst, if◌then◌else◌, arith}
use Rattle.std.specs.List.{list_any}
use Rattle.std.proofs.lemmas.Bool.{false≢true}
use Rattle.std.proofs.lemmas.Bool.Decides.{nat_tests}
use Rattle.scp_types.specs.Trees.{Slices, all_differ}
use Rattle.scp_types.proofs.Bools.{both, join, not_is}
use Rattle.scp_spec.specs.Networks.{HostedNode}
use Rattle.host_config.specs.Configs.{names_of}
use Rattle.line_request.specs.Outlines.{Outlined, IsSoundOutline}

swapped : (x u : ℕ) → (x == u) ≡ false → (u == x) ≡ false
swapped x u h = grind (arith, nat_tests)

neither : (a b : Bool) → (a || b) ≡ false → (a ≡ false) × (b ≡ false)
neither true b h = absurd (false≢true (sym h))
neither false b h = (refl, h)

none-more : (p : ℕ → Bool) (xs : List ℕ) (u : ℕ) → list_any p xs ≡ false → p u ≡ false → list_any p (xs ++ u ∷ []) ≡ false
none-more p [] u h n = rw n refl
none-more p (x ∷ xs) u h n =
    let parts = neither (p x) (list_any p xs) h in
    rw (parts.0, none-more p xs u parts.1 n) refl

differ-more : (xs : List ℕ) (u : ℕ) → all_differ xs ≡ true → list_any (λ w. w == u) xs ≡ false → all_differ (xs ++ u ∷ []) ≡ true
differ-more [] u d n = refl
differ-more (x ∷ xs) u d n =
    let h = both (not (list_any (λ w. w == x) xs)) (all_differ xs) d in
    let parts = neither (x == u) (list_any (λ w. w == u) xs) n in
    join (not (list_any (λ w. w == x) (xs ++ u ∷ []))) (all_differ (xs ++ u ∷ []))
    (ap not (none-more (λ w. w == x) xs u (not_is (list_any (λ w. w == x) xs) h.0) (swapped x u parts.0)))
    (differ-more xs u h.1 parts.1)

names-more : (nodes : List HostedNode) (h : HostedNode) → names_of (nodes ++ h ∷ []) ≡ names_of nodes ++ h.name ∷ []
names-more [] h = refl
names-more (x ∷ nodes) h = ap (λ us. x.name ∷ us) (names-more nodes h)

no-name : (nodes : List HostedNode) (u : ℕ) → list_any (λ hosted. hosted.name == u) nodes ≡ false → list_any (λ w. w == u) (names_of nodes) ≡ false
no-name [] u h = refl
no-name (x ∷ nodes) u h =
    let parts = neither (x.name == u) (list_any (λ hosted. hosted.name == u) nodes) h in
    rw (parts.0, no-name nodes u parts.1) refl

length-more : (nodes : List HostedNode) (h : HostedNode) → length (nodes ++ h ∷ []) ≡ length nodes + 1
length-more [] h = refl
length-more (x ∷ nodes) h = omega (arith, length-more nodes h)

-- a node of another name may follow
pub hosted-sound : (d : Outlined) (h : HostedNode) (now : List HostedNode) → IsSoundOutline d → length d.nodes < 256 → list_any (λ hosted. hosted.name == h.name) d.nodes ≡ false
    → now ≡ d.nodes ++ h ∷ [] → IsSoundOutline (record d { nodes = now })
hosted-sound d h now sound few other e = record {
  differ = subst (λ nodes. all_differ (names_of nodes) ≡ true) (sym e)
      (subst (λ us. all_differ us ≡ true) (sym (names-more d.nodes h))
      (differ-more (names_of d.nodes) h.name sound.differ (no-name d.nodes h.name other)));
  few_nodes = subst (λ nodes. length nodes ≤ 256) (sym e) (omega (arith, few, length-more d.nodes h));
  allowed = sound.allowed;
}

-- the same of a list that may have been too short of room
pub hosted-or-same : (d : Outlined) (h : HostedNode) (u : ℕ) (q : Slices) (seen now : List HostedNode) (ok : Bool) → IsSoundOutline d → length d.nodes < 256
    → h ≡ record { name = u; slices = q } → seen ≡ d.nodes → list_any (λ hosted. hosted.name == u) seen ≡ false
    → now ≡ (if ok then d.nodes ++ h ∷ [] else d.nodes) → IsSoundOutline (record d { nodes = now })
hosted-or-same d h u q seen now true sound few is same other e =
    hosted-sound d h now sound few (subst (λ x. list_any (λ hosted. hosted.name == x.name) d.nodes ≡ false) (sym is)
    (subst (λ nodes. list_any (λ hosted. hosted.name == u) nodes ≡ false) same other)) e
hosted-or-same d h u q seen now false sound few is same other e = subst (λ nodes. IsSoundOutline (record d { nodes = nodes })) (sym e) sound
