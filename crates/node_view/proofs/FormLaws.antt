-- A form of slices is one of a list, or new; and so a list of forms grows, and changes at a place.
use Rattle.std.proofs.Common.{◌≡◌, ◌≢◌, ◌⊎◌, ℕ, suc, zero, ◌<◌, ◌≤◌, true, false, ◌==◌, List, [], ◌∷◌, ◌++◌, get_or, set, length, Option, Some, None, unwrap_or, sym, subst, ◌∙◌, ap, arith, inl, inr}
use Rattle.std.proofs.lemmas.Bool.{cases_Bool, cases_lt, eq-eqb, eqb-true, true≢false}
use Rattle.std.proofs.lemmas.List.{get_or-set_same, get_or-set_other, get_or_append_left, length-append}
use Rattle.std.proofs.lemmas.List.Folds.{list_any_at}
use Rattle.std.proofs.Math.Seq.{get_or-append_seam}
use Rattle.scp_types.specs.Trees.{Slices}
use Rattle.scp_spec.specs.Sets.{AreWithin, among}
use Rattle.scp_spec.specs.Satisfaction.{names, sat}
use Rattle.scp_spec.specs.Quorums.{is_satisfied}
use Rattle.scp_bits.specs.Places.{Compiled, Numbered}
use Rattle.scp_bits.specs.Met.{IsCompiled, nodes_at}
use Rattle.scp_bits.specs.Searching.{AreAgreed, AreCompiled, met_at}
use Rattle.node_view.specs.Forms.{AreAllForms, AreBelow, ArePart, Fits, IsFormer, IsFound, IsFoundInEither, IsFoundWithin, IsTwin, MayJoin}

same_form : (f g : Numbered) → Some f ≡ Some g → f ≡ g
same_form f g h = ap (λ (o : Option Numbered). unwrap_or o f) h

module _ (us : List ℕ) (slices_at : ℕ → Option Slices) (fs : List (Option Numbered)) (q : Slices) (f : Numbered) where
  -- a form at a node with these slices is of them
  twin_compiled : ((i : ℕ) → i < length fs → (ws : List ℕ) → met_at (get_or fs i None) ws ≡ is_satisfied sat (slices_at (get_or us i 0)) (among (nodes_at us ws)))
      → IsTwin us slices_at fs q f → IsCompiled false us q f.set
  twin_compiled each t ws =
      ap (λ (o : Option Numbered). met_at o ws) (sym t.there)
      ∙ (each t.place t.inside ws ∙ ap (λ (o : Option Slices). is_satisfied sat o (among (nodes_at us ws))) t.same)

  -- a form that was found may join the list
  pub found_joins : (n m : ℕ) → n < m → IsFound us slices_at fs n q f → AreCompiled us slices_at fs → AreBelow n fs → MayJoin us fs m q f
  found_joins n m room (inl t) are below = record {
    compiled = twin_compiled (λ i h. are.each i (omega (arith, h, are.as_many))) t;
    fits = λ i g at same. are.agreed i t.place g f at t.there same;
    below = omega (arith, room, below t.place f t.there);
  }
  found_joins n m room (inr new) are below = record {
    compiled = new.1;
    fits = λ i g at same. absurd (omega (arith, below i g at, same, new.0));
    below = omega (arith, room, new.0);
  }

  -- one that is found among slices that name the nodes alone is found
  pub found_of : (n : ℕ) → IsFoundWithin us slices_at fs n q f → IsFound us slices_at fs n q f
  found_of n (inl t) = inl t
  found_of n (inr new) = inr (new.0, new.1)

-- a form that was found in either of two lists may join the first
pub either_joins : (us : List ℕ) (slices_at : ℕ → Option Slices) (fs : List (Option Numbered)) (other_at : ℕ → Option Slices) (others : List (Option Numbered)) (q : Slices) (f : Numbered) (n m : ℕ)
    → n < m → IsFoundInEither us slices_at fs other_at others n q f → AreCompiled us other_at others → AreCompiled us slices_at fs → AreBelow n fs → MayJoin us fs m q f
either_joins us slices_at fs other_at others q f n m room (inl found) others_are are below = found_joins us slices_at fs q f n m room (found_of us slices_at fs q f n found) are below
either_joins us slices_at fs other_at others q f n m room (inr new) others_are are below =
    let g = new.1.0 in
    let its : IsCompiled false us q g.set = twin_compiled us other_at others q g (λ i h. others_are.each i (omega (arith, h, others_are.as_many))) new.1.1 in
    let compiled : IsCompiled false us q f.set = subst (λ (c : Compiled). IsCompiled false us q c) (sym new.1.2) its in
    found_joins us slices_at fs q f n m room (inr (new.0, compiled)) are below

-- ---- one form more
-- a form of the longer list is one of the shorter, or the last
at_more : (fs : List (Option Numbered)) (o : Option Numbered) (i : ℕ) (g : Numbered) → get_or (fs ++ o ∷ []) i None ≡ Some g → (get_or fs i None ≡ Some g) ⊎ (o ≡ Some g)
at_more [] o zero g h = inr h
at_more [] o (suc i) g h = inl h
at_more (f ∷ fs) o zero g h = inl h
at_more (f ∷ fs) o (suc i) g h = at_more fs o i g h

module _ (us : List ℕ) (slices_at : ℕ → Option Slices) (fs : List (Option Numbered)) (part : ArePart us slices_at fs) where
  part_more : (o : Option Numbered) → ((ws : List ℕ) → met_at o ws ≡ is_satisfied sat (slices_at (get_or us (length fs) 0)) (among (nodes_at us ws)))
      → ((f : Numbered) → o ≡ Some f → Fits f fs × (f.number ≤ length fs)) → ArePart us slices_at (fs ++ o ∷ [])
  part_more o is joins = record {
    each = λ i h ws. elim (cases_lt i (length fs)) [
      | inl inside ↦ ap (λ (p : Option Numbered). met_at p ws) (get_or_append_left fs (o ∷ []) None i inside) ∙ part.each i inside ws
      | inr behind ↦
          let last : i ≡ length fs = omega (arith, behind, h, length-append fs (o ∷ [])) in
          ap (λ n. met_at (get_or (fs ++ o ∷ []) n None) ws) last
          ∙ (ap (λ (p : Option Numbered). met_at p ws) (get_or-append_seam fs o [] None)
          ∙ (is ws ∙ ap (λ n. is_satisfied sat (slices_at (get_or us n 0)) (among (nodes_at us ws))) (sym last)))
    ];
    agreed = λ i j f g at_f at_g same. elim (at_more fs o i f at_f) [
      | inl old_f ↦ elim (at_more fs o j g at_g) [
        | inl old_g ↦ part.agreed i j f g old_f old_g same
        | inr new_g ↦ (joins g new_g).0 i f old_f same
      ]
      | inr new_f ↦ elim (at_more fs o j g at_g) [
        | inl old_g ↦ sym ((joins f new_f).0 j g old_g (sym same))
        | inr new_g ↦ ap (λ (x : Numbered). x.set) (same_form f g (sym new_f ∙ new_g))
      ]
    ];
    below = λ i f at. elim (at_more fs o i f at) [
      | inl old ↦ omega (arith, part.below i f old, length-append fs (o ∷ []))
      | inr new ↦ omega (arith, (joins f new).1, length-append fs (o ∷ []))
    ];
  }

  -- a node with slices has the form that was found
  pub part_some : (n : ℕ) (q : Slices) (f : Numbered) → length fs ≡ n → Some q ≡ slices_at (get_or us n 0) → IsFound us slices_at fs n q f → ArePart us slices_at (fs ++ Some f ∷ [])
  part_some n q f many some found =
      let own : IsCompiled false us q f.set = elim found [ inl t ↦ twin_compiled us slices_at fs q f part.each t | inr new ↦ new.1 ] in
      let joins : Fits f fs × (f.number ≤ length fs) = elim found [
        | inl t ↦ (λ i g at same. part.agreed i t.place g f at t.there same, omega (arith, part.below t.place f t.there))
        | inr new ↦ (λ i g at same. absurd (omega (arith, part.below i g at, same, new.0, many)), omega (arith, new.0, many))
      ] in
      part_more (Some f)
      (λ ws. own ws ∙ ap (λ (o : Option Slices). is_satisfied sat o (among (nodes_at us ws))) (some ∙ ap (λ k. slices_at (get_or us k 0)) (sym many)))
      (λ g is. subst_joins g (same_form f g is) joins)
    where
      subst_joins : (g : Numbered) → f ≡ g → Fits f fs × (f.number ≤ length fs) → Fits g fs × (g.number ≤ length fs)
      subst_joins g is joins = subst (λ (x : Numbered). Fits x fs × (x.number ≤ length fs)) is joins

  -- and one without has none
  pub part_none : (n : ℕ) → length fs ≡ n → None ≡ slices_at (get_or us n 0) → ArePart us slices_at (fs ++ None ∷ [])
  part_none n many none =
      part_more None
      (λ ws. ap (λ (o : Option Slices). is_satisfied sat o (among (nodes_at us ws))) (none ∙ ap (λ k. slices_at (get_or us k 0)) (sym many)))
      (λ f is. cc)

  -- and where all nodes have their forms, they are compiled
  pub part_whole : length fs ≡ length us → AreAllForms us slices_at fs
  part_whole many = record {
    compiled = record { as_many = many; each = λ i h. part.each i (omega (arith, h, many)); agreed = part.agreed };
    below = subst (λ n. AreBelow n fs) many part.below;
  }

pub part_empty : (us : List ℕ) (slices_at : ℕ → Option Slices) → ArePart us slices_at []
part_empty us slices_at = record {
  each = λ i h. absurd (omega (arith, h));
  agreed = λ i j f g at_f at_g same. cc;
  below = λ i f at. cc;
}

-- ---- another form at a place
at_set : (fs : List (Option Numbered)) (p : ℕ) (f : Numbered) → p < length fs → (i : ℕ) (g : Numbered) → get_or (set fs p (Some f)) i None ≡ Some g → (get_or fs i None ≡ Some g) ⊎ (f ≡ g)
at_set fs p f room i g at = elim (cases_Bool (i == p)) [
  | inl here ↦ inr (same_form f g (sym (get_or-set_same fs p (Some f) None room) ∙ (ap (λ k. get_or (set fs p (Some f)) k None) (sym (eqb-true i p here)) ∙ at)))
  | inr there ↦ inl (sym (get_or-set_other fs p i (Some f) None (λ is. true≢false (sym (eq-eqb i p is) ∙ there))) ∙ at)
]

pub agreed_set : (fs : List (Option Numbered)) (p : ℕ) (f : Numbered) → p < length fs → Fits f fs → AreAgreed fs → AreAgreed (set fs p (Some f))
agreed_set fs p f room fits agreed i j a b at_a at_b same = elim (at_set fs p f room i a at_a) [
  | inl old_a ↦ elim (at_set fs p f room j b at_b) [
    | inl old_b ↦ agreed i j a b old_a old_b same
    | inr new_b ↦ fits i a old_a (same ∙ ap (λ (x : Numbered). x.number) (sym new_b)) ∙ ap (λ (x : Numbered). x.set) new_b
  ]
  | inr new_a ↦ elim (at_set fs p f room j b at_b) [
    | inl old_b ↦ ap (λ (x : Numbered). x.set) (sym new_a) ∙ sym (fits j b old_b (sym same ∙ ap (λ (x : Numbered). x.number) (sym new_a)))
    | inr new_b ↦ ap (λ (x : Numbered). x.set) (sym new_a ∙ new_b)
  ]
]

pub below_set : (fs : List (Option Numbered)) (p : ℕ) (f : Numbered) (n m : ℕ) → p < length fs → n < m → f.number < m → AreBelow n fs → AreBelow m (set fs p (Some f))
below_set fs p f n m room more small below i g at = elim (at_set fs p f room i g at) [
  | inl old ↦ omega (arith, more, below i g old)
  | inr new ↦ omega (arith, small, ap (λ (x : Numbered). x.number) new)
]

pub below_more : (fs : List (Option Numbered)) (n m : ℕ) → n < m → AreBelow n fs → AreBelow m fs
below_more fs n m more below i g at = omega (arith, more, below i g at)

-- ---- forms of a region of other nodes
-- what it has of a node whose rows are the same is the form of the slices that the node has, which name nodes alone that are in both
pub form_again : (all us places : List ℕ) (slices_at : ℕ → Option Slices) (fs : List (Option Numbered)) (sender : ℕ) → IsFormer all slices_at us fs places sender
    → (u : ℕ) (q : Slices) (i : ℕ) (f : Numbered) → i < length us → get_or us i 0 ≡ u → u ≢ sender → get_or fs i None ≡ Some f → slices_at u ≡ Some q → among all u ≡ true
    → IsCompiled false us q f.set × AreWithin (among (names q)) (among us) × AreWithin (among (names q)) (among all)
form_again all us places slices_at fs sender former u q i f inside node other there its listed = (
  λ ws. ap (λ (o : Option Numbered). met_at o ws) (sym there)
      ∙ (former.forms i inside (λ same. other (sym node ∙ same)) ws
      ∙ ap (λ (o : Option Slices). is_satisfied sat o (among (nodes_at us ws))) (ap slices_at node ∙ its)),
  former.within u q (list_any_at (λ y. y == u) us i 0 inside (eq-eqb (get_or us i 0) u node)) other its,
  former.closed u q listed its,
)
