-- Announcements by a party: one entry after another, and following a party's announcements backwards.
use Rattle.std.proofs.Common.{◌≡◌, ℕ, suc, ◌+◌, ◌<◌, ◌==◌, List, [], ◌∷◌, length, get_or, Option, Some, None, if◌then◌else◌, refl, sym, ◌∙◌, ap, subst, inl, inr, arith, add-one}
use Rattle.std.proofs.lemmas.Bool.{cases_lt}
use Rattle.std.proofs.lemmas.List.{get_or_append_left, get_or_push, length_push}
use Rattle.scp_spec.specs.Hosts.{Entry}
use Rattle.host_closure.specs.Announcing.{AnnouncedSlices, announced_at}
use Rattle.host_closure.specs.Turns.{PartyIndex, IsIndexedTo, IsIndex, found_by, is_this, last_below}

module _ (party : Option AnnouncedSlices → Option ℕ) (run : List Entry) where
  pub index_none : IsIndex party run 0 (record { latest = []; earlier = [] })
  index_none = record { counted = refl; latest = λ w. refl; earlier = λ k w l e. absurd (omega arith) }

  module _ (n : ℕ) (d e : PartyIndex) (was : IsIndex party run n d) where
    counted_more : (o : Option ℕ) → IsIndexedTo d e o → length e.earlier ≡ suc n
    counted_more None h = ap length h.1 ∙ (length_push d.earlier None ∙ omega (arith, was.counted))
    counted_more (Some w) h = ap length h.1 ∙ (length_push d.earlier (found_by d.latest w) ∙ omega (arith, was.counted))

    latest_more : (o : Option ℕ) → IsIndexedTo d e o → (w : ℕ) → found_by e.latest w ≡ (if is_this w o then Some n else last_below party run w n)
    latest_more None h w = ap (λ (xs : List (ℕ × ℕ)). found_by xs w) h.0 ∙ was.latest w
    latest_more (Some u) h w = h.0 w ∙ (λ j. if (u == w) then Some (was.counted j) else was.latest w j)

    earlier_before : (o : Option ℕ) → IsIndexedTo d e o → (k : ℕ) → k < n → get_or e.earlier k None ≡ get_or d.earlier k None
    earlier_before None h k l = ap (λ (xs : List (Option ℕ)). get_or xs k None) h.1 ∙ get_or_append_left d.earlier (None ∷ []) None k (omega (arith, l, was.counted))
    earlier_before (Some u) h k l = ap (λ (xs : List (Option ℕ)). get_or xs k None) h.1 ∙ get_or_append_left d.earlier (found_by d.latest u ∷ []) None k (omega (arith, l, was.counted))

    earlier_last : (o : Option ℕ) → IsIndexedTo d e o → (w : ℕ) → o ≡ Some w → get_or e.earlier n None ≡ last_below party run w n
    earlier_last None h w q = cc
    earlier_last (Some u) h w q =
        let same : u ≡ w = cc in
        ap (λ (xs : List (Option ℕ)). get_or xs n None) h.1 ∙ (get_or_push d.earlier (found_by d.latest u) None n was.counted ∙ (was.latest u ∙ ap (λ x. last_below party run x n) same))

    pub index_more : IsIndexedTo d e (party (announced_at run n)) → IsIndex party run (n + 1) e
    index_more h = subst (λ m. IsIndex party run m e) (sym (add-one n)) (record {
      counted = counted_more (party (announced_at run n)) h;
      latest = latest_more (party (announced_at run n)) h;
      earlier = λ k w l s. elim (cases_lt k n) [
        | inl a ↦ earlier_before (party (announced_at run n)) h k a ∙ was.earlier k w a s
        | inr b ↦ at_end k w (omega (arith, b, l)) s
      ];
    })
      where
        at_end : (k w : ℕ) → n ≡ k → party (announced_at run k) ≡ Some w → get_or e.earlier k None ≡ last_below party run w k
        at_end k w q = subst (λ x. party (announced_at run x) ≡ Some w → get_or e.earlier x None ≡ last_below party run w x) q (earlier_last (party (announced_at run n)) h w)
