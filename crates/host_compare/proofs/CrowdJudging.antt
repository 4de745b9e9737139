-- From the parts of a comparison to its verdict.
use Rattle.std.proofs.Common.{◌≡◌, ℕ, true, List, Option, Some, is_some, IsTrue, sym, ◌∙◌, ap, subst}
use Rattle.std.proofs.Math.Path.{fun_ext}
use Rattle.scp_types.specs.declared.event.Event.{Event}
use Rattle.scp_spec.specs.Sets.{Names, among, AreWithin}
use Rattle.scp_spec.specs.Networks.{HostedNode, slices_of}
use Rattle.scp_spec.specs.Rosters.{Roster}
use Rattle.scp_spec.specs.Hosts.{Config, History, entries, nodes_of}
use Rattle.scp_spec.specs.Isolation.{closure, SameCast}
use Rattle.scp_spec.specs.Submissions.{answers, concerning_steps, config_of, names_on, roster_names, SameReserves}
use Rattle.host_closure.specs.Hosting.{AreHostedAlike}
use Rattle.host_closure.specs.Least.{AreAll}
use Rattle.host_network.specs.Decoding.{reading}
use Rattle.host_compare.specs.Listing.{IsOnRoster}
use Rattle.host_compare.specs.Submitted.{concerning_steps_in}
use Rattle.host_compare.proofs.RunsOf.{concerned_asked}

-- ---- the steps of a submission that concern the listed members are those that concern their closure
pub inputs_are : (g i : ℕ) (R : Names) (members : List ℕ) → ((u : ℕ) → among members u ≡ R u) → (h : History) (c : Config) → config_of h.configs g ≡ Some c → (calls : List (ℕ × Event)) → calls ≡ h.calls
    → concerning_steps_in (among members) i g calls ≡ concerning_steps R i (answers reading h g)
inputs_are g i R members exactly h c is calls e = (λ j. concerning_steps_in (fun_ext exactly j) i g (e j)) ∙ sym (concerned_asked h c g is R i)

-- ---- the members are hosted alike, the same is reserved, and for all of them
module _ (one other : History) (g i v : ℕ) (members : List ℕ) where
  abbrev inner : Names
  inner = closure (nodes_of one.configs g) i v (entries reading one g)

  pub record AreReserved : Type 0 where
    pub cast : SameCast inner v (nodes_of one.configs g) (nodes_of other.configs g)
    pub reserves : SameReserves (config_of one.configs g) (config_of other.configs g)
    pub inside : AreWithin inner (among (roster_names (config_of one.configs g)))

  pub are_reserved : ((u : ℕ) → among members u ≡ inner u) → IsTrue (is_some (slices_of (nodes_of one.configs g) v)) → (nodes others : List HostedNode) → nodes ≡ nodes_of one.configs g → others ≡ nodes_of other.configs g → AreHostedAlike nodes others members
      → (c d : Config) → Some c ≡ config_of one.configs g → Some d ≡ config_of other.configs g → SameReserves (Some c) (Some d) → (r : Roster) → Some r ≡ c.roster → AreAll (IsOnRoster r.names) members → AreReserved
  are_reserved exactly hosted nodes others p q alike c d first second same r roster on = record {
    cast = record { hosted = hosted; same = λ u m. ap (λ (hs : List HostedNode). slices_of hs u) (sym p) ∙ (alike u (exactly u ∙ m) ∙ ap (λ (hs : List HostedNode). slices_of hs u) q) };
    reserves = subst (λ (z : Option Config × Option Config). SameReserves z.0 z.1) (λ j. (first j, second j)) same;
    inside = λ u m. subst (λ (xs : List ℕ). among xs u ≡ true) (ap names_on roster ∙ ap roster_names first) (on u (exactly u ∙ m));
  }
