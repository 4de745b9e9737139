-- A row of one kind, by which the same nodes are reached, changes nothing of what is seen of rows of the other kind.
-- `RulesOfKinds` and `Stirring` stand on it.
use Rattle.std.proofs.Common.{◌≡◌, ℕ, Bool, true, false, not, ◌&&◌, ◌==◌, Option, Some, List, [], ◌∷◌, map, filter, option_map, if◌then◌else◌, refl, sym, ◌∙◌, ap, ap₂, subst}
use Rattle.std.specs.List.{cons_option}
use Rattle.std.proofs.Math.Path.{fun_ext}
use Rattle.std.proofs.lemmas.Bool.{and_parts}
use Rattle.scp_types.specs.Trees.{Slices}
use Rattle.scp_types.specs.declared.kind.Kind.{Kind}
use Rattle.scp_types.specs.declared.kind.Kind.TheVariants.{Nomination}
use Rattle.scp_types.specs.declared.statement.Statement.{Statement}
use Rattle.scp_types.specs.Statements.{Sent, kind_of}
use Rattle.scp_spec.specs.Satisfaction.{sat, is_blocked}
use Rattle.scp_spec.specs.Quorums.{HasQuorum}
use Rattle.scp_spec.specs.Rows.{row, is_row_of, is_kind, with_row}
use Rattle.scp_spec.specs.Backing.{slices_by, is_passed}
use Rattle.scp_spec.specs.Stirring.{ReachesSame}
use Rattle.scp_spec.specs.Views.{Seen, others_reached, rows_seen, led_by, passing_with, quorum_passes, blocking_passes, seen}
use Rattle.scp_spec.proofs.Sets.Finite.{same_test}
use Rattle.scp_spec.proofs.Slices.Satisfaction.{sat_monotone}
use Rattle.scp_spec.proofs.Slices.Quorums.{has_quorum-from, has_quorum-found}
use Rattle.scp_spec.proofs.Statements.Offers.{is_row_of-parts, row-with}
use Rattle.scp_spec.proofs.Nodes.Views.{lists}

-- it is nobody's row of the other kind
pub no_row : (e : Sent) (u : ℕ) (k : Kind) → is_kind k (kind_of e.body) ≡ false → is_row_of u k e ≡ false
no_row e u k h = go (is_row_of u k e) refl
  where
    go : (b : Bool) → is_row_of u k e ≡ b → b ≡ false
    go true i = sym (and_parts (e.sender == u) (is_kind k (kind_of e.body)) i).1 ∙ h
    go false i = refl

row-of_other_kind : (e : Sent) (table : List Sent) (u : ℕ) (k : Kind) → is_kind k (kind_of e.body) ≡ false
    → row (with_row e table) u k ≡ row table u k
row-of_other_kind e table u k h = row-with e table u k ∙ ap (λ b. if b then Some e else row table u k) (no_row e u k h)

-- the rows of that kind, in their order
rows-of_other_kind : (p : ℕ → Bool) (e : Sent) (table : List Sent) (k : Kind) → is_kind k (kind_of e.body) ≡ false
    → filter (λ x. is_kind k (kind_of x.body) && p x.sender) (with_row e table)
    ≡ filter (λ x. is_kind k (kind_of x.body) && p x.sender) table
unfolding with_row
rows-of_other_kind p e [] k h = rw h refl
rows-of_other_kind p e (x ∷ xs) k h = go (is_row_of e.sender (kind_of e.body) x) refl (rows-of_other_kind p e xs k h)
  where
    mine : Sent → Bool
    mine = λ x. is_kind k (kind_of x.body) && p x.sender

    other : is_row_of e.sender (kind_of e.body) x ≡ true → is_kind k (kind_of x.body) ≡ false
    other i = ap (is_kind k) (is_row_of-parts e.sender (kind_of e.body) x i).1 ∙ h

    go : (b : Bool) → is_row_of e.sender (kind_of e.body) x ≡ b → filter mine (with_row e xs) ≡ filter mine xs
        → filter mine (if b then e ∷ xs else x ∷ with_row e xs) ≡ filter mine (x ∷ xs)
    go true i ih = rw h (rw (other i) refl)
    go false i ih = ap (λ ys. if mine x then x ∷ ys else ys) ih

module _ (v : ℕ) (q : Slices) (table : List Sent) (e : Sent) (k : Kind)
    (other : is_kind k (kind_of e.body) ≡ false) where
  rows_seen-still : ReachesSame v q table (with_row e table)
      → rows_seen v q (with_row e table) k ≡ rows_seen v q table k
  unfolding rows_seen
  rows_seen-still reach =
      ap (map (λ (x : Sent). x.body))
      (ap (λ (p : Sent → Bool). filter p (with_row e table))
      (fun_ext (λ (x : Sent). ap (λ b. is_kind k (kind_of x.body) && (not (v == x.sender) && b)) (reach x.sender)))
      ∙ rows-of_other_kind (others_reached v q table) e table k other)

  slices-still : slices_by v q (with_row e table) k ≡ slices_by v q table k
  slices-still =
      fun_ext (λ (u : ℕ). ap (λ (o : Option Sent). if v == u then Some q else option_map (λ e. e.slices) o)
      (row-of_other_kind e table u k other))

  passing-still : (own : Bool) (test : Statement → Bool)
      → passing_with v (with_row e table) k own test ≡ passing_with v table k own test
  passing-still own test =
      fun_ext (λ (u : ℕ). ap (λ (o : Option Sent). if v == u then own else is_passed test o)
      (row-of_other_kind e table u k other))

  quorum-still : (own : Bool) (test : Statement → Bool)
      → quorum_passes v q (with_row e table) k own test ≡ quorum_passes v q table k own test
  unfolding quorum_passes
  quorum-still own test = same_test _ _
      (λ h. has_quorum-from sat (slices_by v q table k) sat_monotone (v ∷ map (λ e. e.sender) table)
      (passing_with v table k own test) v (lists v q table k)
      (subst (λ f. HasQuorum sat f (passing_with v table k own test) v) slices-still
      (subst (λ f. HasQuorum sat (slices_by v q (with_row e table) k) f v) (passing-still own test)
      (has_quorum-found sat (slices_by v q (with_row e table) k) (v ∷ map (λ e. e.sender) (with_row e table))
      (passing_with v (with_row e table) k own test) v h))))
      (λ h. has_quorum-from sat (slices_by v q (with_row e table) k) sat_monotone
      (v ∷ map (λ e. e.sender) (with_row e table)) (passing_with v (with_row e table) k own test) v
      (lists v q (with_row e table) k)
      (subst (λ f. HasQuorum sat f (passing_with v (with_row e table) k own test) v) (sym slices-still)
      (subst (λ f. HasQuorum sat (slices_by v q table k) f v) (sym (passing-still own test))
      (has_quorum-found sat (slices_by v q table k) (v ∷ map (λ e. e.sender) table)
      (passing_with v table k own test) v h))))

  blocking-still : (own : Bool) (test : Statement → Bool)
      → blocking_passes v q (with_row e table) k own test ≡ blocking_passes v q table k own test
  unfolding blocking_passes
  blocking-still own test = ap (λ f. is_blocked q f) (passing-still own test)

-- the leaders' nominations
led-still : (leaders : List ℕ) (table : List Sent) (e : Sent) → is_kind Nomination (kind_of e.body) ≡ false
    → led_by leaders (with_row e table) ≡ led_by leaders table
unfolding led_by
led-still [] table e h = refl
led-still (u ∷ us) table e h =
    ap₂ (λ (o : Option Sent) (ys : List Statement). cons_option (option_map (λ e. e.body) o) ys)
    (row-of_other_kind e table u Nomination h) (led-still us table e h)

-- ---- the two halves of what is seen
abbrev pub nominations_of : Seen → Seen
nominations_of s =
    record {
      rows = λ k. s.rows Nomination;
      led = s.led;
      quorum = λ k. s.quorum Nomination;
      blocking = λ k. s.blocking Nomination;
    }

abbrev pub ballots_of : Seen → Seen
ballots_of s =
    record {
      rows = λ k. s.rows Kind.Ballot;
      led = [];
      quorum = λ k. s.quorum Kind.Ballot;
      blocking = λ k. s.blocking Kind.Ballot;
    }

-- after a ballot row nominations are seen as they were
pub nominations-still : (v : ℕ) (q : Slices) (leaders : List ℕ) (table : List Sent) (e : Sent)
    → kind_of e.body ≡ Kind.Ballot → ReachesSame v q table (with_row e table)
    → nominations_of (seen v q leaders (with_row e table)) ≡ nominations_of (seen v q leaders table)
unfolding seen
nominations-still v q leaders table e kind reach =
    let other : is_kind Nomination (kind_of e.body) ≡ false = ap (is_kind Nomination) kind in
    let rows = rows_seen-still v q table e Nomination other reach in
    let led = led-still leaders table e other in
    let quorum =
    fun_ext (λ (own : Bool). fun_ext
    (λ (test : Statement → Bool). quorum-still v q table e Nomination other own test)) in
    let blocking =
    fun_ext (λ (own : Bool). fun_ext
    (λ (test : Statement → Bool). blocking-still v q table e Nomination other own test)) in
    λ i. record { rows = λ k. rows i; led = led i; quorum = λ k. quorum i; blocking = λ k. blocking i }

-- and after a nomination row ballots
pub ballots-still : (v : ℕ) (q : Slices) (leaders : List ℕ) (table : List Sent) (e : Sent) → kind_of e.body ≡ Nomination
    → ReachesSame v q table (with_row e table)
    → ballots_of (seen v q leaders (with_row e table)) ≡ ballots_of (seen v q leaders table)
unfolding seen
ballots-still v q leaders table e kind reach =
    let other : is_kind Kind.Ballot (kind_of e.body) ≡ false = ap (is_kind Kind.Ballot) kind in
    let rows = rows_seen-still v q table e Kind.Ballot other reach in
    let quorum =
    fun_ext (λ (own : Bool). fun_ext
    (λ (test : Statement → Bool). quorum-still v q table e Kind.Ballot other own test)) in
    let blocking =
    fun_ext (λ (own : Bool). fun_ext
    (λ (test : Statement → Bool). blocking-still v q table e Kind.Ballot other own test)) in
    λ i. record { rows = λ k. rows i; led = []; quorum = λ k. quorum i; blocking = λ k. blocking i }
