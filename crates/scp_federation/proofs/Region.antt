-- Who is asked inside a region that holds all names has the answer of all.
use Rattle.std.proofs.Common.{◌≡◌, ℕ, Bool, List, filter, Option, Some, None, IsTrue, ◌↔◌, sym, ◌∙◌, subst, refl, inl, inr}
use Rattle.std.specs.Prelude.{IsSomeAnd}
use Rattle.std.proofs.lemmas.Bool.{cases_Bool, and_parts, true≢false}
use Rattle.scp_spec.specs.Sets.{Names, among, both, AreWithin, AreApart}
use Rattle.scp_spec.specs.Satisfaction.{Blocks}
use Rattle.scp_spec.specs.Quorums.{HasQuorum, NamesWithin, IsLocal, cut_to}
use Rattle.scp_spec.proofs.Sets.Tests.{and_is}
use Rattle.scp_spec.proofs.Slices.Quorums.{cut_answer}
use Rattle.scp_slices.proofs.Kept.{among-filter, among-from_filter}

-- a set holds exactly those supporters that lie in a region
record IsInside (inside supporters region : Names) : Type 0 where
  pub within : AreWithin inside supporters
  pub all : AreWithin (cut_to region supporters) inside

module _ {Q : Type 0} (sat : Q → Names → Bool) (names : Q → List ℕ) (local : IsLocal sat names) (slices_at : ℕ → Option Q) where
  same_quorum : (inside supporters region : Names) → IsInside inside supporters region → NamesWithin names slices_at region → (v : ℕ) → IsTrue (region v) → (b : Bool)
      → IsTrue b ↔ HasQuorum sat slices_at inside v → IsTrue b ↔ HasQuorum sat slices_at supporters v
  same_quorum inside supporters region is named v here b p = (λ h. wider (p.0 h), λ h. p.1 (narrower h))
    where
      wider : HasQuorum sat slices_at inside v → HasQuorum sat slices_at supporters v
      wider h = record { set = h.set; quorum = h.quorum; within = λ u k. is.within u (h.within u k); member = h.member }

      narrower : HasQuorum sat slices_at supporters v → HasQuorum sat slices_at inside v
      narrower h =
          let k = cut_answer sat names slices_at local supporters region named v here h in
          record { set = k.set; quorum = k.quorum; within = λ u m. is.all u (k.within u m); member = k.member }

  -- supporters that are a test, by a region that is a list
  pub answer_among : (us kept : List ℕ) (supporters : Names) → kept ≡ filter supporters us → NamesWithin names slices_at (among us) → (v : ℕ) → IsTrue (among us v) → (b : Bool)
      → IsTrue b ↔ HasQuorum sat slices_at (among kept) v → IsTrue b ↔ HasQuorum sat slices_at supporters v
  answer_among us kept supporters e = same_quorum (among kept) supporters (among us) (subst (λ (ws : List ℕ). IsInside (among ws) supporters (among us)) (sym e) (record {
    within = λ u k. (among-from_filter supporters us u k).1;
    all = λ u k. let p = and_parts (among us u) (supporters u) k in among-filter supporters us u p.0 p.1;
  }))

-- likewise those that block slices whose names lie in a region
blocks_among : {Q : Type 0} (sat : Q → Names → Bool) (names : Q → List ℕ) → IsLocal sat names → (q : Q) (us kept : List ℕ) (set : Names) → kept ≡ filter set us → AreWithin (among (names q)) (among us) → (b : Bool)
    → IsTrue b ↔ Blocks sat q (among kept) → IsTrue b ↔ Blocks sat q set
blocks_among sat names local q us kept set e named b p = (λ h. wider (cut.0 h), λ h. cut.1 (narrower h))
  where
    inside : Names
    inside = among (filter set us)

    cut : IsTrue b ↔ Blocks sat q inside
    cut = subst (λ (ws : List ℕ). IsTrue b ↔ Blocks sat q (among ws)) e p

    wider : Blocks sat q inside → Blocks sat q set
    wider blocks apart is = blocks apart (λ u k. elim (cases_Bool (inside u)) [
      | inl e ↦ absurd (true≢false (sym (among-from_filter set us u e).1 ∙ is u k))
      | inr e ↦ e
    ])

    narrower : Blocks sat q set → Blocks sat q inside
    narrower blocks apart is =
        let named_apart = both (among (names q)) apart in
        let still : AreApart named_apart set = λ u k.
        let m = and_parts (among (names q) u) (apart u) k in
        elim (cases_Bool (set u)) [
          | inl e ↦ absurd (true≢false (sym (among-filter set us u (named u m.0) e) ∙ is u m.1))
          | inr e ↦ e
        ] in
        sym (local q named_apart apart (λ u n. and_is (among (names q) u) (apart u) n)) ∙ blocks named_apart still

-- and those that block the slices of a node in the region, where it has any
pub blocking_among : {Q : Type 0} (sat : Q → Names → Bool) (names : Q → List ℕ) → IsLocal sat names → (slices_at : ℕ → Option Q) (us kept : List ℕ) (set : Names) → kept ≡ filter set us
    → NamesWithin names slices_at (among us) → (v : ℕ) → IsTrue (among us v) → (b : Bool)
    → IsTrue b ↔ IsSomeAnd (slices_at v) (λ q. Blocks sat q (among kept)) → IsTrue b ↔ IsSomeAnd (slices_at v) (λ q. Blocks sat q set)
blocking_among {Q} sat names local slices_at us kept set e named v here b = by_slices (slices_at v) refl
  where
    by_slices : (o : Option Q) → slices_at v ≡ o → IsTrue b ↔ IsSomeAnd o (λ q. Blocks sat q (among kept)) → IsTrue b ↔ IsSomeAnd o (λ q. Blocks sat q set)
    by_slices None is p = p
    by_slices (Some q) is p = blocks_among sat names local q us kept set e (named v q here is) b p
