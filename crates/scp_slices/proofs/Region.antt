-- The supporters inside a region have the answer of all supporters.
use Rattle.std.proofs.Common.{ℕ, Bool, List, filter, Option, IsTrue, ◌↔◌}
use Rattle.std.proofs.lemmas.Bool.{and_parts}
use Rattle.scp_spec.specs.Sets.{Names, among}
use Rattle.scp_spec.specs.Quorums.{HasQuorum, NamesWithin}
use Rattle.scp_spec.specs.Quorums.{IsLocal}
use Rattle.scp_spec.proofs.Slices.Quorums.{cut_answer}
use Rattle.scp_slices.proofs.Kept.{among-filter, among-from_filter}

module _ {Q : Type 0} (sat : Q → Names → Bool) (names : Q → List ℕ) (slices_at : ℕ → Option Q) where
  wider : (us : List ℕ) (region : Names) (v : ℕ) → HasQuorum sat slices_at (among (filter region us)) v → HasQuorum sat slices_at (among us) v
  wider us region v h = record { set = h.set; quorum = h.quorum; within = λ u k. (among-from_filter region us u (h.within u k)).0; member = h.member }

  narrower : IsLocal sat names → (us : List ℕ) (region : Names) → NamesWithin names slices_at region → (v : ℕ) → IsTrue (region v) → HasQuorum sat slices_at (among us) v → HasQuorum sat slices_at (among (filter region us)) v
  narrower local us region named v inside h =
      let k = cut_answer sat names slices_at local (among us) region named v inside h in
      record {
        set = k.set;
        quorum = k.quorum;
        within = λ u m. let p = and_parts (region u) (among us u) (k.within u m) in among-filter region us u p.1 p.0;
        member = k.member;
      }

  pub same_answer : IsLocal sat names → (us : List ℕ) (region : Names) → NamesWithin names slices_at region → (v : ℕ) → IsTrue (region v) → (b : Bool)
      → IsTrue b ↔ HasQuorum sat slices_at (among (filter region us)) v → IsTrue b ↔ HasQuorum sat slices_at (among us) v
  same_answer local us region named v inside b p = (λ h. wider us region v (p.0 h), λ h. p.1 (narrower local us region named v inside h))
