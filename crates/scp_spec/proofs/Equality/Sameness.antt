-- The tests of equality are exact. Most other folders, and the crates `node_rules`, `scp_voting`, `node_core` and
-- `node_view` stand on it.
use Rattle.std.proofs.Common.{◌≡◌, ℕ, Bool, true, ◌==◌, List, [], ◌∷◌, Option, Some, None, refl, sym, ap, ap₂}
use Rattle.std.proofs.lemmas.Bool.{and_parts, and_from, eqb-true, eq-eqb, false≢true}
use Rattle.std.specs.Cmp.Lexicographic.{same_text}
use Rattle.scp_types.specs.declared.ballot.Ballot.{Ballot}
use Rattle.scp_types.specs.declared.statement.Statement.{Statement}
use Rattle.scp_types.specs.declared.statement.Statement.TheVariants.{Nominate, Prepare, Commit, Externalize}
use Rattle.scp_types.specs.Votes.{same_value}
use Rattle.scp_types.specs.declared.state.Phase.{Phase}
use Rattle.scp_types.specs.declared.state.Votes.{Votes}
use Rattle.scp_types.specs.declared.state.Phase.TheVariants.{Preparing, Committing, Externalized}
use Rattle.scp_spec.specs.Sameness.{same_values, same_ballot, same_option, same_phase, same_statement, same_sent, same_votes}

pub eqb-refl : (n : ℕ) → (n == n) ≡ true
eqb-refl n = eq-eqb n n refl

pub same_value-refl : (x : List ℕ) → same_value x x ≡ true
same_value-refl [] = refl
same_value-refl (n ∷ ns) = and_from (n == n) (same_value ns ns) (eqb-refl n) (same_value-refl ns)

pub same_value-true : (x y : List ℕ) → same_value x y ≡ true → x ≡ y
same_value-true x y h = same_text x y (sym h)

pub same_values-refl : (xs : List (List ℕ)) → same_values xs xs ≡ true
same_values-refl [] = refl
same_values-refl (x ∷ xs) = and_from (same_value x x) (same_values xs xs) (same_value-refl x) (same_values-refl xs)

pub same_values-true : (xs ys : List (List ℕ)) → same_values xs ys ≡ true → xs ≡ ys
same_values-true [] [] h = refl
same_values-true [] (y ∷ ys) h = absurd (false≢true h)
same_values-true (x ∷ xs) [] h = absurd (false≢true h)
same_values-true (x ∷ xs) (y ∷ ys) h =
    let p = and_parts (same_value x y) (same_values xs ys) h in
    ap₂ (λ (a : List ℕ) (b : List (List ℕ)). a ∷ b) (same_value-true x y p.0) (same_values-true xs ys p.1)

same_ballot-refl : (b : Ballot) → same_ballot b b ≡ true
same_ballot-refl b =
    and_from (b.counter == b.counter) (same_value b.value b.value) (eqb-refl b.counter) (same_value-refl b.value)

pub same_ballot-true : (a b : Ballot) → same_ballot a b ≡ true → a ≡ b
same_ballot-true a b h =
    let p = and_parts (a.counter == b.counter) (same_value a.value b.value) h in
    λ i. record { counter = (eqb-true a.counter b.counter p.0) i; value = (same_value-true a.value b.value p.1) i }

same_option-refl : {A : Type 0} (f : A → A → Bool) → ((a : A) → f a a ≡ true) → (o : Option A)
    → same_option f o o ≡ true
same_option-refl f r None = refl
same_option-refl f r (Some a) = r a

same_option-true : {A : Type 0} (f : A → A → Bool) → ((a b : A) → f a b ≡ true → a ≡ b) → (o p : Option A)
    → same_option f o p ≡ true → o ≡ p
same_option-true f t None None h = refl
same_option-true f t None (Some b) h = absurd (false≢true h)
same_option-true f t (Some a) None h = absurd (false≢true h)
same_option-true {A} f t (Some a) (Some b) h = ap {B = Option A} Some (t a b h)

same_phase-refl : (p : Phase) → same_phase p p ≡ true
same_phase-refl Preparing = refl
same_phase-refl Committing = refl
same_phase-refl Externalized = refl

same_phase-true : (p q : Phase) → same_phase p q ≡ true → p ≡ q
same_phase-true Preparing Preparing h = refl
same_phase-true Committing Committing h = refl
same_phase-true Externalized Externalized h = refl
same_phase-true _ _ h = absurd (false≢true h)

pub same_statement-refl : (s : Statement) → same_statement s s ≡ true
same_statement-refl (Nominate v a) =
    and_from (same_values v v) (same_values a a) (same_values-refl v) (same_values-refl a)
same_statement-refl (Prepare b p a h c) =
    and_from _ _
    (and_from _ _ (and_from _ _ (and_from _ _ (same_ballot-refl b) (same_option-refl same_ballot same_ballot-refl p))
    (eqb-refl a)) (eqb-refl h)) (eqb-refl c)
same_statement-refl (Commit b p h c) =
    and_from _ _ (and_from _ _ (and_from _ _ (same_ballot-refl b) (eqb-refl p)) (eqb-refl h)) (eqb-refl c)
same_statement-refl (Externalize b h) = and_from _ _ (same_ballot-refl b) (eqb-refl h)

pub same_sent-refl : (o : Option Statement) → same_sent o o ≡ true
same_sent-refl o = same_option-refl same_statement same_statement-refl o

pub same_statement-true : (s t : Statement) → same_statement s t ≡ true → s ≡ t
same_statement-true (Nominate xs ys) (Nominate xs' ys') e =
    let p = and_parts (same_values xs xs') (same_values ys ys') e in
    λ i. Nominate ((same_values-true xs xs' p.0) i) ((same_values-true ys ys' p.1) i)
same_statement-true (Prepare b p a h c) (Prepare b' p' a' h' c') e =
    let p4 = and_parts _ (c == c') e in
    let p3 = and_parts _ (h == h') p4.0 in
    let p2 = and_parts _ (a == a') p3.0 in
    let p1 = and_parts (same_ballot b b') (same_option same_ballot p p') p2.0 in
    λ i. Prepare ((same_ballot-true b b' p1.0) i) ((same_option-true same_ballot same_ballot-true p p' p1.1) i)
    ((eqb-true a a' p2.1) i) ((eqb-true h h' p3.1) i) ((eqb-true c c' p4.1) i)
same_statement-true (Commit b p h c) (Commit b' p' h' c') e =
    let p3 = and_parts _ (c == c') e in
    let p2 = and_parts _ (h == h') p3.0 in
    let p1 = and_parts (same_ballot b b') (p == p') p2.0 in
    λ i. Commit ((same_ballot-true b b' p1.0) i) ((eqb-true p p' p1.1) i) ((eqb-true h h' p2.1) i)
    ((eqb-true c c' p3.1) i)
same_statement-true (Externalize b h) (Externalize b' h') e =
    let p = and_parts (same_ballot b b') (h == h') e in
    λ i. Externalize ((same_ballot-true b b' p.0) i) ((eqb-true h h' p.1) i)
same_statement-true _ _ e = absurd (false≢true e)

pub same_sent-true : (o p : Option Statement) → same_sent o p ≡ true → o ≡ p
same_sent-true o p h = same_option-true same_statement same_statement-true o p h

pub same_votes-refl : (w : Votes) → same_votes w w ≡ true
unfolding same_votes
same_votes-refl w =
    and_from _ _
    (and_from _ _ (and_from _ _ (and_from _ _
    (and_from _ _ (and_from _ _ (and_from _ _ (and_from _ _ (and_from _ _ (and_from _ _ (and_from _ _
    (same_values-refl w.voted) (same_values-refl w.accepts)) (same_values-refl w.confirms)) (same_phase-refl w.phase))
    (same_option-refl same_ballot same_ballot-refl w.ballot))
    (same_option-refl same_ballot same_ballot-refl w.prepared)) (eqb-refl w.aborted))
    (same_option-refl same_ballot same_ballot-refl w.confirmed_prepared))
    (same_option-refl same_ballot same_ballot-refl w.commit))
    (eqb-refl w.low)) (eqb-refl w.high)) (eqb-refl w.armed)

pub same_votes-true : (u w : Votes) → same_votes u w ≡ true → u ≡ w
unfolding same_votes
same_votes-true u w h =
    let p11 = and_parts _ (u.armed == w.armed) h in
    let p10 = and_parts _ (u.high == w.high) p11.0 in
    let p9 = and_parts _ (u.low == w.low) p10.0 in
    let p8 = and_parts _ (same_option same_ballot u.commit w.commit) p9.0 in
    let p7 = and_parts _ (same_option same_ballot u.confirmed_prepared w.confirmed_prepared) p8.0 in
    let p6 = and_parts _ (u.aborted == w.aborted) p7.0 in
    let p5 = and_parts _ (same_option same_ballot u.prepared w.prepared) p6.0 in
    let p4 = and_parts _ (same_option same_ballot u.ballot w.ballot) p5.0 in
    let p3 = and_parts _ (same_phase u.phase w.phase) p4.0 in
    let p2 = and_parts _ (same_values u.confirms w.confirms) p3.0 in
    let p1 = and_parts (same_values u.voted w.voted) (same_values u.accepts w.accepts) p2.0 in
    λ i. record {
      voted = (same_values-true u.voted w.voted p1.0) i;
      accepts = (same_values-true u.accepts w.accepts p1.1) i;
      confirms = (same_values-true u.confirms w.confirms p2.1) i;
      phase = (same_phase-true u.phase w.phase p3.1) i;
      ballot = (same_option-true same_ballot same_ballot-true u.ballot w.ballot p4.1) i;
      prepared = (same_option-true same_ballot same_ballot-true u.prepared w.prepared p5.1) i;
      aborted = (eqb-true u.aborted w.aborted p6.1) i;
      confirmed_prepared =
          (same_option-true same_ballot same_ballot-true u.confirmed_prepared w.confirmed_prepared p7.1) i;
      commit = (same_option-true same_ballot same_ballot-true u.commit w.commit p8.1) i;
      low = (eqb-true u.low w.low p9.1) i;
      high = (eqb-true u.high w.high p10.1) i;
      armed = (eqb-true u.armed w.armed p11.1) i;
    }
