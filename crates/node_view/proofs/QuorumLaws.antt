-- A quorum among the nodes of a reach is one among all nodes.
use Rattle.std.proofs.Common.{ℕ, Bool, List, filter, Option, IsTrue, ◌↔◌}
use Rattle.std.proofs.lemmas.Bool.{and_parts}
use Rattle.scp_spec.specs.Sets.{Names, among}
use Rattle.scp_spec.specs.Quorums.{HasQuorum, NamesWithin}
use Rattle.scp_spec.specs.Quorums.{IsLocal}
use Rattle.scp_spec.proofs.Slices.Quorums.{cut_answer}
use Rattle.scp_slices.proofs.Kept.{among-filter, among-from_filter}

module _ {Q : Type 0} (sat : Q → Names → Bool) (names : Q → List ℕ) (slices_at : ℕ → Option Q) where
  to_all : (set : Names) (reach : List ℕ) (v : ℕ) → HasQuorum sat slices_at (among (filter set reach)) v → HasQuorum sat slices_at set v
  to_all set reach v h = record { set = h.set; quorum = h.quorum; within = λ u m. (among-from_filter set reach u (h.within u m)).1; member = h.member }

  pub from_all : IsLocal sat names → (set : Names) (reach : List ℕ) → NamesWithin names slices_at (among reach) → (v : ℕ) → IsTrue (among reach v) → HasQuorum sat slices_at set v → HasQuorum sat slices_at (among (filter set reach)) v
  from_all local set reach closed v member h =
      let k = cut_answer sat names slices_at local set (among reach) closed v member h in
      record {
        set = k.set;
        quorum = k.quorum;
        within = λ u m. let p = and_parts (among reach u) (set u) (k.within u m) in among-filter set reach u p.0 p.1;
        member = k.member;
      }

  -- whether there is one among those of a set that are in the reach says whether there is one in the set
  pub quorum_of_all : IsLocal sat names → (set : Names) (reach : List ℕ) → NamesWithin names slices_at (among reach) → (v : ℕ) → IsTrue (among reach v) → (b : Bool)
      → IsTrue b ↔ HasQuorum sat slices_at (among (filter set reach)) v → IsTrue b ↔ HasQuorum sat slices_at set v
  quorum_of_all local set reach closed v member b p = (λ h. to_all set reach v (p.0 h), λ h. p.1 (from_all local set reach closed v member h))
