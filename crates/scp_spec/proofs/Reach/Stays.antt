-- Rows that leave the reach of a node as it is. The law `reach_stays` and the crate `host_closure` stand on it.
use Rattle.std.proofs.Common.{◌≡◌, ℕ, Bool, true, false, cond, ◌⊎◌, List, [], ◌∷◌, map, find, Option, Some, None, if◌then◌else◌, IsTrue, is_some, refl, sym, ◌∙◌, ap, ap₂, subst, inl, inr}
use Rattle.std.specs.List.{Contains}
use Rattle.std.proofs.Math.Path.{fun_ext}
use Rattle.std.proofs.lemmas.Bool.{true≢false}
use Rattle.scp_types.specs.Trees.{Slices}
use Rattle.scp_types.specs.Statements.{Sent, kind_of}
use Rattle.scp_spec.specs.Sets.{Names, among, AreWithin}
use Rattle.scp_spec.specs.Satisfaction.{names}
use Rattle.scp_spec.specs.Quorums.{NamesWithin}
use Rattle.scp_spec.specs.Rows.{is_row_of, row, with_row}
use Rattle.scp_spec.specs.Backing.{slices_by}
use Rattle.scp_spec.specs.Closures.{Rule, in_least}
use Rattle.scp_spec.specs.Reach.{rule_of, reach_of, IsReach, StaysWithFirstRows, StaysWithSameSlices, StaysWithStrangers}
use Rattle.scp_spec.proofs.Sets.Finite.{same_test}
use Rattle.scp_spec.proofs.Sets.Contained.{contains_head, contains_tail, contained_cases}
use Rattle.scp_spec.proofs.Statements.Offers.{is_row_of-parts}
use Rattle.scp_spec.proofs.Reach.Chains.{reached-holds, reached-in, reach_names}

-- what a list needs to be the reach in another table
pub same_reach : (own : ℕ) (configured : Slices) (old new : List Sent) (us : List ℕ)
    → ((u : ℕ) → reach_of own configured old u ≡ reach_of own configured new u) → IsReach own configured old us
    → IsReach own configured new us
same_reach own configured old new us same r =
    let exactly : (u : ℕ) → among us u ≡ reach_of own configured new u = λ u. r.exactly u ∙ same u in
    record {
      ascending = r.ascending;
      exactly = exactly;
      closed = λ kind. subst (λ (set : Names). NamesWithin names (slices_by own configured new kind) set)
          (sym (fun_ext exactly)) (reach_names own configured new kind);
    }

-- ---- a row in the place of one with the same slices
same_rule : (x e : Sent) → x.sender ≡ e.sender → x.slices ≡ e.slices → rule_of e ≡ rule_of x
same_rule x e s q =
    ap₂ (λ (u : ℕ) (gives : List ℕ). record { sources = u ∷ []; gives = gives }) (sym s) (ap names (sym q))

same_rules : (e old : Sent) (table : List Sent) → row table e.sender (kind_of e.body) ≡ Some old → old.slices ≡ e.slices
    → map rule_of (with_row e table) ≡ map rule_of table
unfolding row with_row
same_rules e old [] h q = cc
same_rules e old (x ∷ xs) h q = go (is_row_of e.sender (kind_of e.body) x) refl h (same_rules e old xs)
  where
    go : (b : Bool) → is_row_of e.sender (kind_of e.body) x ≡ b
        → cond b (Some x) (find (is_row_of e.sender (kind_of e.body)) xs) ≡ Some old
        → (row xs e.sender (kind_of e.body) ≡ Some old → old.slices ≡ e.slices
        → map rule_of (with_row e xs) ≡ map rule_of xs)
        → map rule_of (if b then e ∷ xs else x ∷ with_row e xs) ≡ rule_of x ∷ map rule_of xs
    go true i r ih =
        let p = is_row_of-parts e.sender (kind_of e.body) x i in
        let same : x ≡ old = cc in
        ap (λ (r : Rule). r ∷ map rule_of xs)
        (same_rule x e p.0 (subst (λ (o : Sent). o.slices ≡ e.slices) (sym same) q))
    go false i r ih = ap (λ (rs : List Rule). rule_of x ∷ rs) (ih r q)

pub stays_with_same_slices : StaysWithSameSlices
unfolding reach_of
stays_with_same_slices own configured table us e old h q r =
    same_reach own configured table (with_row e table) us
    (λ u. ap (λ (rs : List Rule). in_least (record { sources = own ∷ []; gives = names configured } ∷ rs) own u)
    (sym (same_rules e old table h q))) r

-- ---- a row of a sender that is not reached
-- the rows of the new table are the envelope and rows of the old one
pub came : (e x : Sent) (table : List Sent) → Contains (with_row e table) x → (e ≡ x) ⊎ Contains table x
unfolding with_row
came e x [] c = contained_cases x e [] c
came e x (y ∷ ys) c = go (is_row_of e.sender (kind_of e.body) y) c (came e x ys)
  where
    go : (b : Bool) → Contains (if b then e ∷ ys else y ∷ with_row e ys) x
        → (Contains (with_row e ys) x → (e ≡ x) ⊎ Contains ys x) → (e ≡ x) ⊎ Contains (y ∷ ys) x
    go true c ih = elim (contained_cases x e ys c) [ inl same ↦ inl same | inr i ↦ inr (contains_tail x y ys i) ]
    go false c ih = elim (contained_cases x y (with_row e ys) c) [
      | inl same ↦ inr (subst (λ z. Contains (y ∷ ys) z) same (contains_head y ys))
      | inr i ↦ elim (ih i) [ inl same ↦ inl same | inr j ↦ inr (contains_tail x y ys j) ]
    ]

-- only a row of the envelope's sender went
stayed : (e x : Sent) (table : List Sent) → Contains table x → (x.sender ≡ e.sender) ⊎ Contains (with_row e table) x
unfolding with_row
stayed e x [] c = inr (contains_tail x e [] c)
stayed e x (y ∷ ys) c = go (is_row_of e.sender (kind_of e.body) y) refl (contained_cases x y ys c) (stayed e x ys)
  where
    go : (b : Bool) → is_row_of e.sender (kind_of e.body) y ≡ b → ((y ≡ x) ⊎ Contains ys x)
        → (Contains ys x → (x.sender ≡ e.sender) ⊎ Contains (with_row e ys) x)
        → (x.sender ≡ e.sender) ⊎ Contains (if b then e ∷ ys else y ∷ with_row e ys) x
    go true i (inl same) ih =
        inl (subst (λ (z : Sent). z.sender ≡ e.sender) same (is_row_of-parts e.sender (kind_of e.body) y i).0)
    go true i (inr j) ih = inr (contains_tail x e ys j)
    go false i (inl same) ih = inr (subst (λ z. Contains (y ∷ with_row e ys) z) same (contains_head y (with_row e ys)))
    go false i (inr j) ih = elim (ih j) [ inl s ↦ inl s | inr k ↦ inr (contains_tail x y (with_row e ys) k) ]

module _ (own : ℕ) (configured : Slices) (table : List Sent) (e : Sent)
    (stranger : reach_of own configured table e.sender ≡ false) where
  with_it-in : AreWithin (reach_of own configured (with_row e table)) (reach_of own configured table)
  with_it-in = let held = reached-holds own configured table in
      reached-in own configured (with_row e table) (reach_of own configured table) (record {
        itself = held.itself;
        configuration = held.configuration;
        rows = λ x c s. elim (came e x table c) [
          | inl same ↦ absurd
              (true≢false (sym (subst (λ (z : Sent). reach_of own configured table z.sender ≡ true)
              (sym same) s) ∙ stranger))
          | inr i ↦ held.rows x i s
        ];
      })

  without_it-in : AreWithin (reach_of own configured table) (reach_of own configured (with_row e table))
  without_it-in = let held = reached-holds own configured (with_row e table) in
      reached-in own configured table (reach_of own configured (with_row e table)) (record {
        itself = held.itself;
        configuration = held.configuration;
        rows = λ x c s. elim (stayed e x table c) [
          | inl same ↦ absurd
              (true≢false (sym (subst (λ u. reach_of own configured table u ≡ true) same
              (with_it-in x.sender s)) ∙ stranger))
          | inr i ↦ held.rows x i s
        ];
      })

pub stays_with_strangers : StaysWithStrangers
stays_with_strangers own configured table us e h r =
    let stranger : reach_of own configured table e.sender ≡ false = sym (r.exactly e.sender) ∙ h in
    same_reach own configured table (with_row e table) us
    (λ u. same_test (reach_of own configured table u) (reach_of own configured (with_row e table) u)
    (without_it-in own configured table e stranger u) (with_it-in own configured table e stranger u)) r

-- ---- a sender's first row of a kind
-- the others are rows of the old table, and only the sender's row of that kind went
pub went : (e x : Sent) (table : List Sent) → Contains table x
    → (row table e.sender (kind_of e.body) ≡ Some x) ⊎ Contains (with_row e table) x
unfolding row with_row
went e x [] c = inr (contains_tail x e [] c)
went e x (y ∷ ys) c = go (is_row_of e.sender (kind_of e.body) y) (contained_cases x y ys c) (went e x ys)
  where
    go : (b : Bool) → ((y ≡ x) ⊎ Contains ys x)
        → (Contains ys x → (find (is_row_of e.sender (kind_of e.body)) ys ≡ Some x) ⊎ Contains (with_row e ys) x)
        → (cond b (Some y) (find (is_row_of e.sender (kind_of e.body)) ys) ≡ Some x)
        ⊎ Contains (if b then e ∷ ys else y ∷ with_row e ys) x
    go true (inl same) ih = inl (ap Some same)
    go true (inr j) ih = inr (contains_tail x e ys j)
    go false (inl same) ih = inr (subst (λ z. Contains (y ∷ with_row e ys) z) same (contains_head y (with_row e ys)))
    go false (inr j) ih = elim (ih j) [ inl s ↦ inl s | inr k ↦ inr (contains_tail x y (with_row e ys) k) ]

-- where there was no row, none went
none_went : (e x : Sent) (table : List Sent) → row table e.sender (kind_of e.body) ≡ None → Contains table x
    → Contains (with_row e table) x
none_went e x table none c = elim (went e x table c) [
  | inl there ↦ absurd (true≢false (ap (λ (o : Option Sent). is_some o) (sym there ∙ none)))
  | inr stays ↦ stays
]

-- a row that names reached nodes alone leads to no others
pub leads_to_none : (own : ℕ) (configured : Slices) (table : List Sent) (us : List ℕ) (e : Sent)
    → AreWithin (among (names e.slices)) (among us) → IsReach own configured table us
    → AreWithin (reach_of own configured (with_row e table)) (reach_of own configured table)
leads_to_none own configured table us e within r =
    let held = reached-holds own configured table in
    reached-in own configured (with_row e table) (reach_of own configured table) (record {
      itself = held.itself;
      configuration = held.configuration;
      rows = λ x c s. elim (came e x table c) [
        | inl same ↦ λ u h. sym (r.exactly u)
            ∙ within u (subst (λ (z : Sent). IsTrue (among (names z.slices) u)) (sym same) h)
        | inr i ↦ held.rows x i s
      ];
    })

-- so where all that the replaced rows named is named still, no other nodes are reached
pub stays_where : (own : ℕ) (configured : Slices) (table : List Sent) (us : List ℕ) (e : Sent)
    → AreWithin (among (names e.slices)) (among us) → IsReach own configured table us
    → ((x : Sent) → Contains table x → IsTrue (reach_of own configured (with_row e table) x.sender)
    → AreWithin (among (names x.slices)) (reach_of own configured (with_row e table)))
    → IsReach own configured (with_row e table) us
stays_where own configured table us e within r rows =
    let old = reach_of own configured table in
    let new = reach_of own configured (with_row e table) in
    let kept = reached-holds own configured (with_row e table) in
    let fewer : AreWithin new old = leads_to_none own configured table us e within r in
    let more : AreWithin old new = reached-in own configured table new
    (record { itself = kept.itself; configuration = kept.configuration; rows = rows }) in
    same_reach own configured table (with_row e table) us (λ u. same_test (old u) (new u) (more u) (fewer u)) r

pub stays_with_first_rows : StaysWithFirstRows
stays_with_first_rows own configured table us e none within r =
    stays_where own configured table us e within r
    (λ x c s. (reached-holds own configured (with_row e table)).rows x (none_went e x table none c) s)
