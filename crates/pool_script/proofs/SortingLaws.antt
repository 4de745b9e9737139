-- What is sorted by slot and name.
use Rattle.std.proofs.Common.{◌≡◌, ◌∙◌, ◌==◌, ◌+◌, get_or, ℕ, List, nat_lt, if◌then◌else◌, sym, ap, arith}
use denote.Ref.{Bor}
use denote.Param.Members.{Mut}
use Rattle.std.specs.Fn.{Called, ComputesKey}
use Rattle.std.specs.List.Sorted.{IsSortedBy, IsSortedByKey}
use Rattle.std.specs.Ordering.{is_lt, nat_cmp, ordering_then}
use Rattle.std.proofs.lemmas.Bool.Decides.{nat_tests}
use Rattle.std.proofs.lemmas.Fn.{always_returns_same}
use Rattle.scp_types.specs.contracts.node_id.NodeIdOrd.TheImpl.{ghosts as ord}
use Rattle.scp_types.proofs.NameOrder.{name_cmp_is}
use Rattle.host_journal.specs.Deciding.{ExternalizedValue}
use Rattle.pool_script.specs.Decisions.{is_lower}

lower_by_numbers : (i j u v : ℕ) → is_lt (ordering_then (nat_cmp i j) (nat_cmp u v)) ≡ (if i == j then nat_lt u v else nat_lt i j)
lower_by_numbers i j u v = grind (arith, nat_tests)

lower_is : (a b : ExternalizedValue) → is_lt (ordering_then (nat_cmp a.slot b.slot) (ord.cmp a.node b.node)) ≡ is_lower a b
lower_is a b = ap (λ o. is_lt (ordering_then (nat_cmp a.slot b.slot) o)) (name_cmp_is a.node b.node) ∙ lower_by_numbers a.slot b.slot a.node b.node

pub lowers : {F : Type 0} {g : Mut F (Bor ExternalizedValue × Unit {0}) (ℕ × ℕ)} {f : F} (ds : List ExternalizedValue)
    → ((key : ExternalizedValue → ℕ × ℕ) → ComputesKey g key f → IsSortedByKey key (λ x y. ordering_then (nat_cmp x.0 y.0) (ord.cmp x.1 y.1)) ds)
    → ((a : Bor ExternalizedValue × Unit {0}) (r : ℕ × ℕ) (f' : F) → Called g f a r f' → (r ≡ (a.0.now.slot, a.0.now.node)) × (f' ≡ f)) → IsSortedBy is_lower ds
lowers {g = g} {f = f} ds up h = λ k d l m.
    sym (lower_is (get_or ds (k + 1) d) (get_or ds k d)) ∙ up (λ d. (d.slot, d.node)) (always_returns_same g (λ a r. r ≡ (a.0.now.slot, a.0.now.node)) f h) k d l m
