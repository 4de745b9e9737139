-- Places are taken away one at a time, and no quorum loses a node.
use Rattle.std.proofs.Common.{◌≡◌, ℕ, zero, suc, ◌+◌, ◌<◌, ◌≤◌, Bool, true, false, cond, ◌==◌, List, [], ◌∷◌, get_or, length, Option, Some, None, refl, sym, subst, ◌∙◌, ap, arith, inl, inr, ◌⊎◌, IsTrue, ◌≢◌}
use Rattle.std.proofs.lemmas.Bool.{cases_lt, true≢false, false≢true, eq-eqb, eqb-true, ne_eqb, or_cases, and_cases}
use Rattle.scp_types.specs.Trees.{Slices}
use Rattle.scp_spec.specs.Sets.{Names, among, AreWithin, IsAscending}
use Rattle.scp_spec.specs.Satisfaction.{sat}
use Rattle.scp_spec.specs.Quorums.{Quorum, HasQuorum, is_satisfied}
use Rattle.scp_spec.proofs.Slices.Quorums.{is_satisfied-more}
use Rattle.scp_spec.proofs.Slices.Satisfaction.{sat_monotone}
use Rattle.scp_bits.specs.Places.{bit_of, Numbered}
use Rattle.scp_bits.specs.Met.{has_needed, nodes_at_from, nodes_at, one_where, IsCleared}
use Rattle.scp_bits.specs.Searching.{met_at, stays_at, AreAgreed, AreCompiled, IsLeft, AllMet, live}
use Rattle.scp_bits.specs.Answering.{IsAnswerAt, IsNothing}
use Rattle.scp_bits.specs.declared.answers.Answers.{Answers}
use Rattle.scp_bits.proofs.Picking.{bit_is}

-- a picked node has a place
abbrev HasPlace : List ℕ → ℕ → List ℕ → ℕ → Type 0
HasPlace us j ws x = (i : ℕ) × (i < length us) × (get_or us i 0 ≡ x) × (bit_of ws (j + i) ≡ 1)

found : (v : Bool) (u x : ℕ) (us : List ℕ) → among (cond v (u ∷ us) us) x ≡ true → ((v ≡ true) × (u ≡ x)) ⊎ (among us x ≡ true)
found true u x us h = elim (or_cases (u == x) (among us x) h) [ inl e ↦ inl (refl, eqb-true u x e) | inr e ↦ inr e ]
found false u x us h = inr h

place_from : (us : List ℕ) (j : ℕ) (ws : List ℕ) (x : ℕ) → among (nodes_at_from j us ws) x ≡ true → HasPlace us j ws x
place_from [] j ws x h = absurd (false≢true h)
place_from (u ∷ us) j ws x h = elim (found (bit_of ws j == 1) u x (nodes_at_from (suc j) us ws) h) [
  | inl e ↦ (0, omega arith, e.1, ap (bit_of ws) (omega arith) ∙ eqb-true (bit_of ws j) 1 e.0)
  | inr e ↦ let p = place_from us (suc j) ws x e in (suc p.0, omega (arith, p.1), p.2, ap (bit_of ws) (omega arith) ∙ p.3)
]

pub place_of_picked : (us ws : List ℕ) (x : ℕ) → among (nodes_at us ws) x ≡ true → (i : ℕ) × (i < length us) × (get_or us i 0 ≡ x) × (bit_of ws i ≡ 1)
place_of_picked us ws x h = let p = place_from us 0 ws x h in (p.0, p.1, p.2, ap (bit_of ws) (omega arith) ∙ p.3)

one_true : (b : Bool) → 1 ≡ one_where b → b ≡ true
one_true true e = refl
one_true false e = absurd (omega arith)

-- and the node at a place of the set is picked
pub picked_there : (us ws : List ℕ) (i : ℕ) → IsAscending us → i < length us → bit_of ws i ≡ 1 → among (nodes_at us ws) (get_or us i 0) ≡ true
picked_there us ws i up within set = one_true (among (nodes_at us ws) (get_or us i 0)) (sym set ∙ bit_is us i (get_or us i 0) ws up within refl)

kept_bit : (place i : ℕ) (old now : List ℕ) → IsCleared place old now → bit_of now i ≡ 1 → bit_of old i ≡ 1
kept_bit place i old now cleared h = by (place == i) (bit_of old i) (sym (cleared.1 i) ∙ h)
  where
    by : (v : Bool) (d : ℕ) → cond v 0 d ≡ 1 → d ≡ 1
    by true d e = absurd (omega arith)
    by false d e = e

-- ---- one place less
module _ (us : List ℕ) (slices_at : ℕ → Option Slices) (cs : List (Option Numbered)) (supporters : Names) (up : IsAscending us) (compiled : AreCompiled us slices_at cs) where
  fewer : (place : ℕ) (old now : List ℕ) → IsCleared place old now → AreWithin (among (nodes_at us now)) (among (nodes_at us old))
  fewer place old now cleared u h =
      let p = place_of_picked us now u h in
      subst (λ x. among (nodes_at us old) x ≡ true) p.2 (picked_there us old p.0 up p.1 (kept_bit place p.0 old now cleared p.3))

  -- a node whose slices are not met is in no quorum among those that are left
  not_met : (place : ℕ) (ws : List ℕ) → IsLeft slices_at supporters (among (nodes_at us ws)) → place < length cs → met_at (get_or cs place None) ws ≡ false
      → (q : Names) → Quorum sat slices_at q → AreWithin q supporters → q (get_or us place 0) ≡ true → ⊥
  not_met place ws left within fails q quorum inside h =
      let u = get_or us place 0 in
      let more = is_satisfied-more sat slices_at sat_monotone (slices_at u) q (among (nodes_at us ws)) (left.all_quorums q quorum inside) (quorum.each u h) in
      false≢true (sym fails ∙ (compiled.each place (omega (arith, within, compiled.as_many)) ws ∙ more))

  stays_there : (place : ℕ) (old now : List ℕ) → IsCleared place old now → (u : ℕ) → (u ≡ get_or us place 0 → ⊥) → among (nodes_at us old) u ≡ true → among (nodes_at us now) u ≡ true
  stays_there place old now cleared u other h =
      let p = place_of_picked us old u h in
      let apart : place ≡ p.0 → ⊥ = λ e. other (sym p.2 ∙ ap (λ i. get_or us i 0) (sym e)) in
      let bit : bit_of now p.0 ≡ 1 = cleared.1 p.0 ∙ (ap (λ b. cond b 0 (bit_of old p.0)) (ne_eqb place p.0 apart) ∙ p.3) in
      subst (λ x. among (nodes_at us now) x ≡ true) p.2 (picked_there us now p.0 up p.1 bit)

  pub one_away : (place : ℕ) (old now : List ℕ) → ((q : Names) → Quorum sat slices_at q → AreWithin q supporters → q (get_or us place 0) ≡ true → ⊥) → IsCleared place old now
      → IsLeft slices_at supporters (among (nodes_at us old)) → IsLeft slices_at supporters (among (nodes_at us now))
  one_away place old now in_none cleared left = record {
    within = λ u h. left.within u (fewer place old now cleared u h);
    all_quorums = λ q quorum inside u h. stays_there place old now cleared u
        (λ e. in_none q quorum inside (ap q (sym e) ∙ h))
        (left.all_quorums q quorum inside u h);
  }

  -- where all are met, those that are left are a quorum
  pub is_quorum : (place : ℕ) (ws : List ℕ) → place < length cs → IsLeft slices_at supporters (among (nodes_at us ws)) → AllMet cs ws → bit_of ws place ≡ 1
      → HasQuorum sat slices_at supporters (get_or us place 0)
  is_quorum place ws within left all set =
      let member = picked_there us ws place up (omega (arith, within, compiled.as_many)) set in
      record {
        set = among (nodes_at us ws);
        quorum = record {
          some = (get_or us place 0, member);
          each = λ u h. let p = place_of_picked us ws u h in
              subst (λ x. is_satisfied sat (slices_at x) (among (nodes_at us ws)) ≡ true) p.2 (sym (compiled.each p.0 p.1 ws) ∙ all p.0 (omega (arith, p.1, compiled.as_many)) p.3);
        };
        within = left.within;
        member = member;
      }

  -- a node that does not stay is in no quorum
  pub no_quorum : (place : ℕ) (ws : List ℕ) → place < length cs → IsLeft slices_at supporters (among (nodes_at us ws)) → stays_at cs ws place ≡ false
      → HasQuorum sat slices_at supporters (get_or us place 0) → ⊥
  no_quorum place ws within left fails h = elim (and_cases (bit_of ws place == 1) (met_at (get_or cs place None) ws) fails) [
    | inl e ↦
        let inside : place < length us = omega (arith, within, compiled.as_many) in
        let member = left.all_quorums h.set h.quorum h.within (get_or us place 0) h.member in
        let one = bit_is us place (get_or us place 0) ws up inside refl ∙ ap one_where member in
        false≢true (sym e ∙ eq-eqb (bit_of ws place) 1 one)
    | inr e ↦ not_met place ws left within e h.set h.quorum h.within h.member
  ]

-- at first all are left
pub at_first : (slices_at : ℕ → Option Slices) (set : Names) → IsLeft slices_at set set
at_first slices_at set = record { within = λ u h. h; all_quorums = λ q quorum inside. inside }

-- ---- each place less counts
same_live : (n place : ℕ) (old now : List ℕ) → IsCleared place old now → n ≤ place → live n now ≡ live n old
same_live zero place old now cleared h = refl
same_live (suc n) place old now cleared h =
    let bit : bit_of now n ≡ bit_of old n = cleared.1 n ∙ ap (λ b. cond b 0 (bit_of old n)) (ne_eqb place n (λ e. absurd (omega arith))) in
    omega (arith, bit, same_live n place old now cleared (omega arith))

pub less_live : (n place : ℕ) (old now : List ℕ) → IsCleared place old now → place < n → bit_of old place ≡ 1 → live n now < live n old
less_live zero place old now cleared h set = absurd (omega arith)
less_live (suc n) place old now cleared h set = elim (cases_lt place n) [
  | inl l ↦
      let bit : bit_of now n ≡ bit_of old n = cleared.1 n ∙ ap (λ b. cond b 0 (bit_of old n)) (ne_eqb place n (λ e. absurd (omega arith))) in
      omega (arith, bit, less_live n place old now cleared l set)
  | inr m ↦
      let e : place ≡ n = omega arith in
      let out : bit_of now n ≡ 0 = cleared.1 n ∙ ap (λ b. cond b 0 (bit_of old n)) (eq-eqb place n e) in
      let was : bit_of old n ≡ 1 = ap (bit_of old) (sym e) ∙ set in
      omega (arith, out, was, same_live n place old now cleared m)
]

-- ---- a sweep
-- where these places are left of the supporters, the node at a place is in no quorum among them
abbrev InNone : List (Option Numbered) → List ℕ → ℕ → Type 0
InNone cs ws i = (us : List ℕ) (slices_at : ℕ → Option Slices) (supporters : Names) → IsAscending us → AreCompiled us slices_at cs
    → IsLeft slices_at supporters (among (nodes_at us ws)) → (q : Names) → Quorum sat slices_at q → AreWithin q supporters → q (get_or us i 0) ≡ true → ⊥

-- what holds of a sweep that began with these places, looked at the first n, and has these left: forms that were met are so while nothing changed, and no node with a form that was not met is in a quorum
pub record Swept (cs : List (Option Numbered)) (n : ℕ) (old now : List ℕ) (changed : Bool) (answers : Answers) : Type 0 where
  pub kept : (us : List ℕ) (slices_at : ℕ → Option Slices) (supporters : Names) → IsAscending us → AreCompiled us slices_at cs
      → IsLeft slices_at supporters (among (nodes_at us old)) → IsLeft slices_at supporters (among (nodes_at us now))
  pub settled : changed ≡ false → AreAgreed cs → (i : ℕ) → i < n → bit_of now i ≡ 1 → IsTrue (met_at (get_or cs i None) now)
  pub same : changed ≡ false → now ≡ old
  pub no_more : live (length cs) now ≤ live (length cs) old
  pub less : changed ≡ true → live (length cs) now < live (length cs) old
  pub met : changed ≡ false → AreAgreed cs → (i : ℕ) (f : Numbered) → get_or cs i None ≡ Some f → bit_of answers.met f.number ≡ 1 → has_needed f.set now ≡ true
  pub unmet : (i : ℕ) (f : Numbered) → i < length cs → get_or cs i None ≡ Some f → bit_of answers.unmet f.number ≡ 1 → InNone cs old i

pub begun : (cs : List (Option Numbered)) (old : List ℕ) (answers : Answers) → IsNothing answers → Swept cs 0 old old false answers
begun cs old answers nothing = record {
  kept = λ us slices_at supporters up compiled left. left;
  settled = λ e agreed i h. absurd (omega arith);
  same = λ e. refl;
  no_more = omega arith;
  less = λ e. absurd (false≢true e);
  met = λ e agreed i f is one. absurd (omega (arith, one, (nothing f.number).0));
  unmet = λ i f within is one. absurd (omega (arith, one, (nothing f.number).1));
}

-- a form of the number of one that is not met now is not met either
none_of_number : (cs : List (Option Numbered)) (n : ℕ) (old now : List ℕ) (changed : Bool) (answers : Answers) → Swept cs n old now changed answers
    → (j : ℕ) (g : Numbered) → get_or cs j None ≡ Some g → has_needed g.set now ≡ false
    → (i : ℕ) (f : Numbered) → i < length cs → get_or cs i None ≡ Some f → g.number ≡ f.number → InNone cs old i
none_of_number cs n old now changed answers so_far j g g_is fails i f within f_is number us slices_at supporters up compiled left =
    let same : f.set ≡ g.set = sym (compiled.agreed j i g f g_is f_is number) in
    not_met us slices_at cs supporters up compiled i now (so_far.kept us slices_at supporters up compiled left) within
    (ap (λ (o : Option Numbered). met_at o now) f_is ∙ (ap (λ c. has_needed c now) same ∙ fails))

-- the node at the next place is in no quorum, where its form is not met
next_in_none : (cs : List (Option Numbered)) (n : ℕ) (old now : List ℕ) (changed : Bool) (answers next : Answers) → Swept cs n old now changed answers → n < length cs
    → (o : Option Numbered) → get_or cs n None ≡ o → IsAnswerAt o now answers next false → InNone cs old n
next_in_none cs n old now changed answers next so_far within None is answer us slices_at supporters up compiled left =
    not_met us slices_at cs supporters up compiled n now (so_far.kept us slices_at supporters up compiled left) within (ap (λ (o : Option Numbered). met_at o now) is)
next_in_none cs n old now changed answers next so_far within (Some f) is answer us slices_at supporters up compiled left = elim (answer.fails refl) [
  | inl e ↦ so_far.unmet n f within is e us slices_at supporters up compiled left
  | inr e ↦ none_of_number cs n old now changed answers so_far n f is e n f within is refl us slices_at supporters up compiled left
]

-- forms that are noted as not met
next_unmet : (cs : List (Option Numbered)) (n : ℕ) (old now : List ℕ) (changed v : Bool) (answers next : Answers) → Swept cs n old now changed answers
    → (o : Option Numbered) → get_or cs n None ≡ o → IsAnswerAt o now answers next v
    → (i : ℕ) (f : Numbered) → i < length cs → get_or cs i None ≡ Some f → bit_of next.unmet f.number ≡ 1 → InNone cs old i
next_unmet cs n old now changed v answers next so_far None is answer i f within f_is one = so_far.unmet i f within f_is (ap (λ (a : Answers). bit_of a.unmet f.number) (sym answer.0) ∙ one)
next_unmet cs n old now changed v answers next so_far (Some g) is answer i f within f_is one = elim (answer.kept_unmet f.number one) [
  | inl e ↦ so_far.unmet i f within f_is e
  | inr e ↦ none_of_number cs n old now changed answers so_far n g is e.1 i f within f_is e.0
]

-- forms that are noted as met
next_met : (cs : List (Option Numbered)) (n : ℕ) (old now : List ℕ) (changed v : Bool) (answers next : Answers) → Swept cs n old now changed answers
    → (o : Option Numbered) → get_or cs n None ≡ o → IsAnswerAt o now answers next v → changed ≡ false → AreAgreed cs
    → (i : ℕ) (f : Numbered) → get_or cs i None ≡ Some f → bit_of next.met f.number ≡ 1 → has_needed f.set now ≡ true
next_met cs n old now changed v answers next so_far None is answer e agreed i f f_is one = so_far.met e agreed i f f_is (ap (λ (a : Answers). bit_of a.met f.number) (sym answer.0) ∙ one)
next_met cs n old now changed v answers next so_far (Some g) is answer e agreed i f f_is one = elim (answer.kept_met f.number one) [
  | inl earlier ↦ so_far.met e agreed i f f_is earlier
  | inr now_met ↦ ap (λ c. has_needed c now) (sym (agreed n i g f is f_is now_met.0)) ∙ now_met.1
]

-- the form at the next place is met, where nothing changed
next_holds : (cs : List (Option Numbered)) (n : ℕ) (old now : List ℕ) (changed : Bool) (answers next : Answers) → Swept cs n old now changed answers
    → (o : Option Numbered) → get_or cs n None ≡ o → IsAnswerAt o now answers next true → changed ≡ false → AreAgreed cs → met_at o now ≡ true
next_holds cs n old now changed answers next so_far None is answer e agreed = absurd (true≢false answer.1)
next_holds cs n old now changed answers next so_far (Some f) is answer e agreed = elim (answer.holds refl) [
  | inl earlier ↦ so_far.met e agreed n f is earlier
  | inr now_met ↦ now_met
]

pub one_fails : (cs : List (Option Numbered)) (n : ℕ) (old now left : List ℕ) (changed : Bool) (answers next : Answers) → Swept cs n old now changed answers → n < length cs
    → bit_of now n ≡ 1 → IsAnswerAt (get_or cs n None) now answers next false → IsCleared n now left → Swept cs (n + 1) old left true next
one_fails cs n old now left changed answers next so_far within set answer cleared = record {
  kept = λ us slices_at supporters up compiled begins. one_away us slices_at cs supporters up compiled n now left
      (next_in_none cs n old now changed answers next so_far within (get_or cs n None) refl answer us slices_at supporters up compiled begins) cleared
      (so_far.kept us slices_at supporters up compiled begins);
  settled = λ e. absurd (true≢false e);
  same = λ e. absurd (true≢false e);
  no_more = omega (arith, so_far.no_more, less_live (length cs) n now left cleared within set);
  less = λ e. omega (arith, so_far.no_more, less_live (length cs) n now left cleared within set);
  met = λ e. absurd (true≢false e);
  unmet = next_unmet cs n old now changed false answers next so_far (get_or cs n None) refl answer;
}

holds_to : (cs : List (Option Numbered)) (n : ℕ) (now : List ℕ) → ((i : ℕ) → i < n → bit_of now i ≡ 1 → IsTrue (met_at (get_or cs i None) now))
    → (bit_of now n ≡ 1 → IsTrue (met_at (get_or cs n None) now)) → (i : ℕ) → i < n + 1 → bit_of now i ≡ 1 → IsTrue (met_at (get_or cs i None) now)
holds_to cs n now before here i h set = elim (cases_lt i n) [
  | inl l ↦ before i l set
  | inr m ↦
      let is : n ≡ i = omega arith in
      subst (λ j. IsTrue (met_at (get_or cs j None) now)) is (here (ap (bit_of now) is ∙ set))
]

pub one_holds : (cs : List (Option Numbered)) (n : ℕ) (old now : List ℕ) (changed : Bool) (answers next : Answers) → Swept cs n old now changed answers
    → IsAnswerAt (get_or cs n None) now answers next true → Swept cs (n + 1) old now changed next
one_holds cs n old now changed answers next so_far answer = record {
  kept = so_far.kept;
  settled = λ e agreed. holds_to cs n now (so_far.settled e agreed) (λ _. next_holds cs n old now changed answers next so_far (get_or cs n None) refl answer e agreed);
  same = so_far.same;
  no_more = so_far.no_more;
  less = so_far.less;
  met = next_met cs n old now changed true answers next so_far (get_or cs n None) refl answer;
  unmet = next_unmet cs n old now changed true answers next so_far (get_or cs n None) refl answer;
}

-- a place that is not in the set
pub one_out : (cs : List (Option Numbered)) (n : ℕ) (old now : List ℕ) (changed : Bool) (answers next : Answers) → Swept cs n old now changed answers
    → (bit_of now n ≢ 1) × (next ≡ answers) → Swept cs (n + 1) old now changed next
one_out cs n old now changed answers next so_far out = subst (λ a. Swept cs (n + 1) old now changed a) (sym out.1) (record {
  kept = so_far.kept;
  settled = λ e agreed. holds_to cs n now (so_far.settled e agreed) (λ one. absurd (out.0 one));
  same = so_far.same;
  no_more = so_far.no_more;
  less = so_far.less;
  met = so_far.met;
  unmet = so_far.unmet;
})
