-- A row with other slices that drops no name but such as the node reaches by itself: where it names reached nodes alone the reach stays, and else it is narrow by those to whom the row leads.
use Rattle.std.proofs.Common.{◌≡◌, ◌≢◌, ℕ, Bool, true, false, ◌||◌, ◌&&◌, ◌==◌, ◌↔◌, List, [], ◌∷◌, Option, Some, None, if◌then◌else◌, IsTrue, refl, sym, ◌∙◌, ap, ap₂, subst, inl, inr}
use Rattle.std.specs.List.{Contains}
use Rattle.std.proofs.lemmas.Bool.{or_cases, eqb-true, ne_eqb, false≢true}
use Rattle.scp_types.specs.Trees.{Slices}
use Rattle.scp_types.specs.declared.kind.Kind.{Kind}
use Rattle.scp_types.specs.declared.kind.Kind.TheVariants.{Nomination}
use Rattle.scp_types.specs.Statements.{Sent, kind_of}
use Rattle.scp_spec.specs.Sets.{Names, among, also, within, AreWithin}
use Rattle.scp_spec.specs.Satisfaction.{names}
use Rattle.scp_spec.specs.Rows.{is_kind, is_row_of, row, with_row}
use Rattle.scp_spec.specs.Reach.{reach_of, IsReach}
use Rattle.scp_spec.proofs.Sets.Finite.{all_from, within-at}
use Rattle.scp_spec.proofs.Sets.Contained.{contains_head, contains_tail}
use Rattle.scp_spec.proofs.Reach.Chains.{reached-holds, reached-in}
use Rattle.scp_spec.proofs.Statements.Found.{row_contained}
use Rattle.scp_spec.proofs.Statements.Offers.{row-with}
use Rattle.scp_spec.proofs.Reach.Stays.{stays_where, went}
use Rattle.node_reach.specs.Keeping.{DropsNone, kept_names}
use Rattle.node_reach.specs.Sweeps.{names_in_rows_of, names_in_row}
use Rattle.node_reach.specs.Widening.{HoldsRows, IsNarrow}

-- ---- rows of the new table
-- the envelope is one
there : (e : Sent) (table : List Sent) → Contains (with_row e table) e
unfolding with_row
there e [] = contains_head e []
there e (y ∷ ys) = go (is_row_of e.sender (kind_of e.body) y) (there e ys)
  where
    go : (b : Bool) → Contains (with_row e ys) e → Contains (if b then e ∷ ys else y ∷ with_row e ys) e
    go true ih = contains_head e ys
    go false ih = contains_tail e y (with_row e ys) ih

-- ---- the reach
-- A chain through a name that the envelope drops goes from the node's own slices instead: who was reached is.
rows_held : (own : ℕ) (configured : Slices) (table : List Sent) (e : Sent) → DropsNone own configured table e
    → (x : Sent) → Contains table x → IsTrue (reach_of own configured (with_row e table) x.sender) → AreWithin (among (names x.slices)) (reach_of own configured (with_row e table))
rows_held own configured table e drops x c s =
    let new = reach_of own configured (with_row e table) in
    let kept = reached-holds own configured (with_row e table) in
    elim (went e x table c) [
      | inl replaced ↦ λ u h.
          let sender = (row_contained table e.sender (kind_of e.body) x replaced).1 in
          elim (or_cases (among (names e.slices) u) ((own == u) || among (names configured) u) (drops x replaced u h)) [
            | inl again ↦ kept.rows e (there e table) (subst (λ w. IsTrue (new w)) sender s) u again
            | inr by_itself ↦ elim (or_cases (own == u) (among (names configured) u) by_itself) [
              | inl same ↦ subst (λ w. IsTrue (new w)) (eqb-true own u same) kept.itself
              | inr named ↦ kept.configuration u named
            ]
          ]
      | inr i ↦ kept.rows x i s
    ]

-- where it brings none, one through a name that it brings ends where the reach led before
pub reach_stays : (own : ℕ) (configured : Slices) (table : List Sent) (us : List ℕ) (e : Sent) → DropsNone own configured table e → AreWithin (among (names e.slices)) (among us)
    → IsReach own configured table us → IsReach own configured (with_row e table) us
reach_stays own configured table us e drops brings is = stays_where own configured table us e brings is (rows_held own configured table e drops)

-- a row that is of a sender is found as such
other_row : (table : List Sent) (e : Sent) (u : ℕ) (k : Kind) → u ≢ e.sender → row (with_row e table) u k ≡ row table u k
other_row table e u k other =
    row-with e table u k ∙ ap (λ b. if b && is_kind k (kind_of e.body) then Some e else row table u k) (ne_eqb e.sender u (λ same. other (sym same)))

-- what the rows of a node name is in each set that has the node and holds what rows name
named_in_holding : (table : List Sent) (u w : ℕ) (k : Kind) (o : Option Sent) (set : Names) → HoldsRows table set → IsTrue (set u) → row table u k ≡ o → IsTrue (names_in_row o w) → IsTrue (set w)
named_in_holding table u w k None set holds s e h = absurd (false≢true h)
named_in_holding table u w k (Some x) set holds s e h = let r = row_contained table u k x e in holds x r.0 (subst (λ v. IsTrue (set v)) (sym r.1) s) w h

pub named_held : (table : List Sent) (u w : ℕ) (set : Names) → HoldsRows table set → IsTrue (set u) → IsTrue (names_in_rows_of table u w) → IsTrue (set w)
named_held table u w set holds s h = elim (or_cases (names_in_row (row table u Kind.Ballot) w) (names_in_row (row table u Nomination) w) h) [
  | inl i ↦ named_in_holding table u w Kind.Ballot (row table u Kind.Ballot) set holds s refl i
  | inr i ↦ named_in_holding table u w Nomination (row table u Nomination) set holds s refl i
]

-- so who was reached is reached, and the rows of none of them but the sender name others
pub narrow_now : (own : ℕ) (configured : Slices) (table : List Sent) (us : List ℕ) (e : Sent) → DropsNone own configured table e → IsTrue (among us e.sender)
    → IsReach own configured table us → IsNarrow own configured (with_row e table) e.sender us
narrow_now own configured table us e drops sender is =
    let old = reach_of own configured table in
    let was = reached-holds own configured table in
    let now = reached-holds own configured (with_row e table) in
    record {
      itself = is.exactly own ∙ was.itself;
      configuration = λ u h. is.exactly u ∙ was.configuration u h;
      sound = λ u h. reached-in own configured table (reach_of own configured (with_row e table))
          (record { itself = now.itself; configuration = now.configuration; rows = rows_held own configured table e drops }) u (sym (is.exactly u) ∙ h);
      there = sender;
      rows = λ u h other w named. is.exactly w ∙ named_held table u w old was.rows (sym (is.exactly u) ∙ h)
          (sym (ap₂ (λ (a b : Option Sent). names_in_row a w || names_in_row b w) (other_row table e u Kind.Ballot other) (other_row table e u Nomination other)) ∙ named);
    }

-- ---- the test
-- without a row no name is dropped
pub none_dropped : (own : ℕ) (configured : Slices) (table : List Sent) (e : Sent) → None ≡ row table e.sender (kind_of e.body) → IsTrue true ↔ DropsNone own configured table e
none_dropped own configured table e none = (λ yes old is. absurd (cc), λ drops. refl)

-- and else it is as the names of the row say
pub dropped_found : (own : ℕ) (configured : Slices) (table : List Sent) (e r : Sent) (b : Bool) → Some r ≡ row table e.sender (kind_of e.body) → b ≡ within (names r.slices) (kept_names own configured e) → IsTrue b ↔ DropsNone own configured table e
dropped_found own configured table e r b is found = (
  λ yes old same. let one : r ≡ old = cc in subst (λ (x : Sent). AreWithin (among (names x.slices)) (kept_names own configured e)) one (λ u inside. within-at (names r.slices) (kept_names own configured e) u (sym found ∙ yes) inside),
  λ drops. found ∙ all_from (kept_names own configured e) (names r.slices) (drops r (sym is)),
)

-- the names of slices as they are read
pub kept_read : (old new own olds news owns : List ℕ) (node : ℕ) → olds ≡ old → ((u : ℕ) → among news u ≡ among new u) → ((u : ℕ) → among owns u ≡ among own u)
    → within olds (λ u. among news u || also node (among owns) u) ≡ within old (λ u. among new u || also node (among own) u)
kept_read old new own olds news owns node same new_is own_is = λ i. within (same i) (λ u. new_is u i || ((node == u) || own_is u i))
