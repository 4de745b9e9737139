-- Nodes are taken away until the slices of all that are left are satisfied: what is left is the greatest quorum.
use Rattle.std.proofs.Common.{◌≡◌, ℕ, ◌<◌, Bool, true, List, length, filter, Option, IsTrue, ◌↔◌, sym, ◌∙◌}
use Rattle.std.proofs.lemmas.List.Kept.{AllPairs-filter}
use Rattle.scp_spec.specs.Sets.{Names, among, AreWithin, IsAscending}
use Rattle.scp_spec.specs.Quorums.{Quorum, HasQuorum, is_satisfied}
use Rattle.scp_spec.specs.Quorums.{IsMonotone}
use Rattle.scp_spec.proofs.Slices.Quorums.{is_satisfied-more}
use Rattle.scp_slices.proofs.Kept.{among-filter, among-from_filter, filter-all}

module _ {Q : Type 0} (sat : Q → Names → Bool) (slices_at : ℕ → Option Q) where
  abbrev pub stays : List ℕ → Names
  stays us u = is_satisfied sat (slices_at u) (among us)

  -- what is known of the nodes that are left: no quorum among the supporters has lost a node
  pub record IsLeft (supporters us : List ℕ) : Type 0 where
    pub ascending : IsAscending us
    pub within : AreWithin (among us) (among supporters)
    pub all_quorums : (set : Names) → Quorum sat slices_at set → AreWithin set (among supporters) → AreWithin set (among us)

  -- every quorum among the nodes is still among those that stay
  quorum_stays : IsMonotone sat → (us : List ℕ) (set : Names) → Quorum sat slices_at set → AreWithin set (among us) → AreWithin set (among (filter (stays us) us))
  quorum_stays monotone us set quorum within u h =
      among-filter (stays us) us u (within u h) (is_satisfied-more sat slices_at monotone (slices_at u) set (among us) within (quorum.each u h))

  pub still_left : IsMonotone sat → (supporters us : List ℕ) → IsLeft supporters us → IsLeft supporters (filter (stays us) us)
  still_left monotone supporters us left = record {
    ascending = AllPairs-filter (λ u w. u < w) (stays us) us left.ascending;
    within = λ u h. left.within u (among-from_filter (stays us) us u h).0;
    all_quorums = λ set quorum within. quorum_stays monotone us set quorum (left.all_quorums set quorum within);
  }

  -- where all stay, they are a quorum
  is_quorum : (us : List ℕ) (v : ℕ) → length (filter (stays us) us) ≡ length us → among us v ≡ true → Quorum sat slices_at (among us)
  is_quorum us v e h = record {
    some = (v, h);
    each = λ u k. (among-from_filter (stays us) us u (rw (filter-all (stays us) us e) k)).1;
  }

  -- so a node is in a quorum exactly when it is left
  pub answers : (supporters us : List ℕ) (v : ℕ) (b : Bool) → IsLeft supporters us → length (filter (stays us) us) ≡ length us → b ≡ among us v → IsTrue b ↔ HasQuorum sat slices_at (among supporters) v
  answers supporters us v b left e is = (
    λ h. record { set = among us; quorum = is_quorum us v e (sym is ∙ h); within = left.within; member = sym is ∙ h },
    λ h. is ∙ left.all_quorums h.set h.quorum h.within v h.member,
  )
