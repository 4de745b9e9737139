-- The names that a member gives: its configured slices and its announcements one after another, or those that are ready.
use Rattle.std.proofs.Common.{◌≡◌, ℕ, ◌<◌, Bool, true, false, ◌==◌, ◌&&◌, ◌||◌, List, [], ◌∷◌, ◌++◌, length, get_or, slice_get, flat_map, Option, Some, None, if◌then◌else◌, refl, sym, ◌∙◌, ap, subst, inl, inr, IsTrue}
use Rattle.std.proofs.lemmas.Bool.{or_cases, or_left, or_right, and_parts, eq-eqb, eqb-true, false≢true}
use Rattle.scp_types.specs.Trees.{Slices}
use Rattle.scp_spec.specs.Sets.{among, AreWithin}
use Rattle.scp_spec.specs.Satisfaction.{names}
use Rattle.scp_spec.specs.Networks.{HostedNode, slices_of}
use Rattle.scp_spec.specs.Hosts.{Entry}
use Rattle.host_closure.specs.Announcing.{AnnouncedSlices, announced_at, IsNamedBy}
use Rattle.host_closure.specs.Announcing.IsNamedBy.{configured, learnt}
use Rattle.host_closure.specs.Turns.{PartyIndex, IsIndex, IsGiven, IsReady, added_names, all_added, known_names, last_below, ready_at, sender_at}
use Rattle.host_closure.proofs.NameLookups.{among_append}
use Rattle.host_closure.proofs.Walking.{IsWalked, sender_is, walk_begins, walk_goes_on, walk_ends}

-- ---- what is in a joined list
in_flat : (f : ℕ → List ℕ) (xs : List ℕ) (u : ℕ) → among (flat_map f xs) u ≡ true → (n : ℕ) × (among (f n) u ≡ true)
in_flat f [] u h = absurd (false≢true h)
in_flat f (x ∷ xs) u h = elim (or_cases (among (f x) u) (among (flat_map f xs) u) (sym (among_append (f x) (flat_map f xs) u) ∙ h)) [
  | inl k ↦ (x, k)
  | inr k ↦ in_flat f xs u k
]

of_flat : (f : ℕ → List ℕ) (xs : List ℕ) (n u : ℕ) → among xs n ≡ true → among (f n) u ≡ true → among (flat_map f xs) u ≡ true
of_flat f [] n u h g = absurd (false≢true h)
of_flat f (x ∷ xs) n u h g = among_append (f x) (flat_map f xs) u ∙ elim (or_cases (x == n) (among xs n) h) [
  | inl e ↦ or_left (among (f x) u) (among (flat_map f xs) u) (subst (λ y. among (f y) u ≡ true) (sym (eqb-true x n e)) g)
  | inr k ↦ or_right (among (f x) u) (among (flat_map f xs) u) (of_flat f xs n u k g)
]

module _ (nodes : List HostedNode) (i : ℕ) (run : List Entry) (members : List ℕ) (w : ℕ) where
  -- ---- what an announcement adds
  added_at : ℕ → List ℕ
  added_at n = added_names i members w (announced_at run n)

  added_sound : (n u : ℕ) → among (added_at n) u ≡ true → IsNamedBy nodes i run (among members) w u
  unfolding added_at
  added_sound n u h = go (announced_at run n) refl h
    where
      announces : (a : AnnouncedSlices) (b : Bool) → announced_at run n ≡ Some a → (a.slot == i && (a.sender == w && among members a.receiver)) ≡ b → among (if b then names a.slices else []) u ≡ true → IsNamedBy nodes i run (among members) w u
      announces a false e q g = absurd (false≢true g)
      announces a true e q g =
          let p = and_parts (a.slot == i) (a.sender == w && among members a.receiver) q in
          let r = and_parts (a.sender == w) (among members a.receiver) p.1 in
          learnt n a e (eqb-true a.slot i p.0) (eqb-true a.sender w r.0) r.1 g

      go : (o : Option AnnouncedSlices) → announced_at run n ≡ o → among (added_names i members w o) u ≡ true → IsNamedBy nodes i run (among members) w u
      go None e g = absurd (false≢true g)
      go (Some a) e g = announces a (a.slot == i && (a.sender == w && among members a.receiver)) e refl g

  added_there : (n : ℕ) (a : AnnouncedSlices) (u : ℕ) → announced_at run n ≡ Some a → a.slot ≡ i → a.sender ≡ w → IsTrue (among members a.receiver) → IsTrue (among (names a.slices) u) → among (added_at n) u ≡ true
  unfolding added_at
  added_there n a u e s t r g = ap (λ (o : Option AnnouncedSlices). among (added_names i members w o) u) e ∙ go (a.slot == i) (a.sender == w) (among members a.receiver) (eq-eqb a.slot i s) (eq-eqb a.sender w t) r
    where
      go : (x y z : Bool) → x ≡ true → y ≡ true → z ≡ true → among (if (x && (y && z)) then names a.slices else []) u ≡ true
      go true true true p q k = g
      go true true false p q k = absurd (false≢true k)
      go true false z p q k = absurd (false≢true q)
      go false y z p q k = absurd (false≢true p)

  -- ---- a first turn
  -- the names so far, where the announcements from a number on have been followed
  pub record IsGathered (next : Option ℕ) (found : List ℕ) : Type 0 where
    pub walked : IsWalked (sender_at i) run w (λ n. AreWithin (among (added_names i members w (announced_at run n))) (among found)) next
    pub sound : (u : ℕ) → IsTrue (among found u) → IsNamedBy nodes i run (among members) w u
    pub start : AreWithin (among (known_names (slices_of nodes w))) (among found)

  configured_names : (o : Option Slices) → slices_of nodes w ≡ o → (u : ℕ) → IsTrue (among (known_names o) u) → IsNamedBy nodes i run (among members) w u
  configured_names None e u h = absurd (false≢true h)
  configured_names (Some q) e u h = configured q e h

  pub gather_begins : (next : Option ℕ) (started : List ℕ) → next ≡ last_below (sender_at i) run w (length run) → started ≡ known_names (slices_of nodes w) → IsGathered next started
  gather_begins next started e s = record {
    walked = walk_begins (sender_at i) run w (λ n. AreWithin (among (added_names i members w (announced_at run n))) (among started)) next refl e;
    sound = λ u h. configured_names (slices_of nodes w) refl u (ap (λ (xs : List ℕ). among xs u) (sym s) ∙ h);
    start = λ u h. ap (λ (xs : List ℕ). among xs u) s ∙ h;
  }

  pub gather_goes_on : (d : PartyIndex) (number : ℕ) (next : Option ℕ) (old new : List ℕ) → IsIndex (sender_at i) run (length run) d → IsGathered next old → next ≡ Some number
      → new ≡ old ++ added_names i members w (announced_at run number) → IsGathered (get_or d.earlier number None) new
  unfolding added_at
  gather_goes_on d number next old new index way there e = record {
    walked = walk_goes_on (sender_at i) run w d index number next (λ n. AreWithin (among (added_names i members w (announced_at run n))) (among old)) way.walked there
        (λ n. AreWithin (among (added_names i members w (announced_at run n))) (among new)) (λ n h u g. held u (h u g)) (λ u g. joined u ∙ or_right (among old u) (among (added_at number) u) g);
    sound = λ u h. elim (or_cases (among old u) (among (added_at number) u) (sym (joined u) ∙ h)) [ inl k ↦ way.sound u k | inr k ↦ added_sound number u k ];
    start = λ u h. held u (way.start u h);
  }
    where
      joined : (u : ℕ) → among new u ≡ (among old u || among (added_at number) u)
      joined u = ap (λ (xs : List ℕ). among xs u) e ∙ among_append old (added_at number) u

      held : AreWithin (among old) (among new)
      held u h = joined u ∙ or_left (among old u) (among (added_at number) u) h

  pub gather_ends : (next : Option ℕ) (found : List ℕ) → next ≡ None → IsGathered next found → IsGiven nodes i run members w found
  unfolding added_at
  gather_ends next found e way = record { sound = way.sound; complete = λ u h. inr (whole u h) }
    where
      whole : (u : ℕ) → IsNamedBy nodes i run (among members) w u → IsTrue (among found u)
      whole u (configured q e g) = way.start u (ap (λ (o : Option Slices). among (known_names o) u) e ∙ g)
      whole u (learnt n a at t f r g) =
          let Done : ℕ → Type 0 = λ n. AreWithin (among (added_names i members w (announced_at run n))) (among found) in
          walk_ends (sender_at i) run w Done (subst (λ o. IsWalked (sender_at i) run w Done o) e way.walked) n
          (ap (λ (o : Option AnnouncedSlices). sender_at i o) at ∙ (sender_is i a t ∙ ap Some f)) u (added_there n a u at t f r g)

  -- ---- a later turn
  pub given_by_ready : (ready : List (List ℕ)) (place : ℕ) (numbers found : List ℕ) → IsReady nodes i run members ready → place < length ready → slice_get members place ≡ Some w → ready_at ready place ≡ numbers
      → found ≡ all_added i run members w numbers → IsGiven nodes i run members w found
  unfolding added_at
  given_by_ready ready place numbers found is within there at e = record {
    sound = λ u h. let k = in_flat added_at numbers u (ap (λ (xs : List ℕ). among xs u) (sym e) ∙ h) in added_sound k.0 u k.1;
    complete = λ u h. elim (is.covered place w u within there h) [
      | inl m ↦ inl m
      | inr r ↦ elim r [
        | inl due ↦ inr (ap (λ (xs : List ℕ). among xs u) e
            ∙ of_flat added_at numbers due.number u (ap (λ (xs : List ℕ). among xs due.number) (sym at) ∙ due.there) (added_there due.number due.announcement u due.at due.slot due.sender due.receiver due.named))
        | inr none ↦ absurd (false≢true none.1)
      ]
    ];
  }

  -- the same names in another order are given too
  pub given_sorted : (found sorted : List ℕ) → IsGiven nodes i run members w found → ((u : ℕ) → among sorted u ≡ among found u) → IsGiven nodes i run members w sorted
  given_sorted found sorted is same = record {
    sound = λ u h. is.sound u (sym (same u) ∙ h);
    complete = λ u h. elim (is.complete u h) [ inl m ↦ inl m | inr k ↦ inr (same u ∙ k) ];
  }
