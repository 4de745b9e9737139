-- Those of ascending names that are silent are the silent ones.
use Rattle.std.proofs.Common.{◌≡◌, ◌<◌, ◌==◌, ◌&&◌, ℕ, List, ap, ◌∙◌, ◌++◌, append_assoc, filter}
use Rattle.std.proofs.lemmas.List.Kept.{AllPairs-filter}
use Rattle.std.proofs.lemmas.Map.Views.{any-filter_same}
use Rattle.std.proofs.lemmas.Bool.{eqb-true}
use Rattle.scp_spec.specs.Nodes.{Node}
use Rattle.scp_spec.specs.Satisfaction.{names}
use Rattle.scp_spec.specs.Sets.{IsAscending, among}
use Rattle.live_network.specs.Shown.{AreSilent, is_silent}

pub are_silent : (n : Node) (ns us : List ℕ) → IsAscending ns → ((u : ℕ) → among ns u ≡ among (names n.slices) u) → us ≡ filter (is_silent n) ns → AreSilent n us
are_silent n ns us up same is = rw is (record {
  ascending = AllPairs-filter (λ x y. x < y) (is_silent n) ns up;
  exactly = λ u. any-filter_same (λ x. x == u) (is_silent n) (is_silent n u) (λ k e. ap (is_silent n) (eqb-true k u e)) ns ∙ ap (λ b. is_silent n u && b) (same u);
})

-- what is added twice is added together
pub joined : (old now new one other : List ℕ) → now ≡ old ++ one → new ≡ now ++ other → new ≡ old ++ (one ++ other)
joined old now new one other first then = then ∙ (ap (λ t. t ++ other) first ∙ append_assoc old one other)
