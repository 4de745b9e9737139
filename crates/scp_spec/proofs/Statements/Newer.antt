-- The order of ballot statements, and that newer is a strict order. The laws `newer_is_strict` and
-- `statements_are_ordered`, and `Histories` stand on it.
use Rattle.std.proofs.Common.{◌≡◌, ℕ, Bool, true, false, not, ◌&&◌, List, [], ◌∷◌, Option, Some, None, get_or, refl, sym, ◌∙◌, ap, ap₂, inl, inr}
use Rattle.std.specs.Cmp.{IsTotalOrder}
use Rattle.std.specs.Cmp.Lexicographic.{options_total}
use Rattle.std.specs.FinMap.{nat_cmp-IsAntisymmetric, slice_cmp-IsAntisymmetric}
use Rattle.std.specs.Option.{option_cmp}
use Rattle.std.specs.Ordering.{is_gt, ordering_reverse, ordering_then, nat_cmp}
use Rattle.std.specs.declared.cmp.Ordering.{Ordering}
use Rattle.std.specs.declared.cmp.Ordering.TheVariants.{Less, Equal, Greater}
use Rattle.std.proofs.lemmas.Bool.{and_parts, and_from, or_cases, or_left, or_right, cases_Bool, true≢false, false≢true, false_from_ne_true, not-true, not_from_false}
use Rattle.std.proofs.lemmas.Cmp.{upto, tied_itself, on_total, then_total, nat_cmp_total, nat_list_cmp_total, nat_list_eq_equiv}
use Rattle.scp_types.specs.declared.ballot.Ballot.{Ballot}
use Rattle.scp_types.specs.declared.statement.Statement.{Statement}
use Rattle.scp_types.specs.declared.statement.Statement.TheVariants.{Nominate, Prepare, Commit, Externalize}
use Rattle.scp_types.specs.declared.kind.Kind.{Kind}
use Rattle.scp_types.specs.Statements.{kind_of}
use Rattle.scp_types.specs.Orders.{bytes_cmp, ballot_cmp}
use Rattle.scp_types.specs.Votes.{same_value, has_value}
use Rattle.scp_spec.specs.Newer.{Rank, rank_of, rank_cmp, statement_cmp, is_above, has_all, widens, is_newer}
use Rattle.scp_spec.proofs.Equality.Sameness.{same_value-refl}

ballots_ordered : IsTotalOrder ballot_cmp
ballots_ordered =
    then_total (on_total (λ (b : Ballot). b.counter) nat_cmp_total)
    (on_total (λ (b : Ballot). b.value) nat_list_cmp_total)

ranks_ordered : IsTotalOrder rank_cmp
ranks_ordered =
    then_total (on_total (λ (r : Rank). r.phase) nat_cmp_total)
    (then_total (on_total (λ (r : Rank). r.ballot) ballots_ordered)
    (then_total (on_total (λ (r : Rank). r.prepared) (options_total ballots_ordered))
    (on_total (λ (r : Rank). r.counters) nat_list_cmp_total)))

pub statements_ordered : IsTotalOrder statement_cmp
statements_ordered = on_total rank_of (options_total ranks_ordered)

-- ---- ballot statements that tie are one
then_equal : (o p : Ordering) → ordering_then o p ≡ Equal → (o ≡ Equal) × (p ≡ Equal)
then_equal Less p e = cc
then_equal Equal p e = (refl, e)
then_equal Greater p e = cc

same_bytes : (x y : List ℕ) → bytes_cmp x y ≡ Equal → x ≡ y
same_bytes = slice_cmp-IsAntisymmetric nat_cmp-IsAntisymmetric

same_ballot : (b d : Ballot) → ballot_cmp b d ≡ Equal → b ≡ d
same_ballot b d e =
    let p = then_equal (nat_cmp b.counter d.counter) (bytes_cmp b.value d.value) e in
    ap₂ (λ n x. let c : Ballot = record { counter = n; value = x } in c)
    (nat_cmp-IsAntisymmetric b.counter d.counter p.0) (same_bytes b.value d.value p.1)

same_known : (p q : Option Ballot) → option_cmp ballot_cmp p q ≡ Equal → p ≡ q
same_known None None e = refl
same_known None (Some q) e = cc
same_known (Some p) None e = cc
same_known (Some p) (Some q) e = ap (λ (b : Ballot). Some b) (same_ballot p q e)

abbrev rank_in : Ballot → Option Ballot → ℕ → List ℕ → Rank
rank_in b p n xs = record { phase = n; ballot = b; prepared = p; counters = xs }

same_rank : (r s : Rank) → rank_cmp r s ≡ Equal → r ≡ s
same_rank r s e =
    let p = then_equal (nat_cmp r.phase s.phase)
    (ordering_then (ballot_cmp r.ballot s.ballot)
    (ordering_then (option_cmp ballot_cmp r.prepared s.prepared) (bytes_cmp r.counters s.counters))) e in
    let q = then_equal (ballot_cmp r.ballot s.ballot)
    (ordering_then (option_cmp ballot_cmp r.prepared s.prepared) (bytes_cmp r.counters s.counters)) p.1 in
    let t = then_equal (option_cmp ballot_cmp r.prepared s.prepared) (bytes_cmp r.counters s.counters) q.1 in
    let phases : r.phase ≡ s.phase = nat_cmp-IsAntisymmetric r.phase s.phase p.0 in
    let ballots : r.ballot ≡ s.ballot = same_ballot r.ballot s.ballot q.0 in
    let known : r.prepared ≡ s.prepared = same_known r.prepared s.prepared t.0 in
    let counters : r.counters ≡ s.counters = same_bytes r.counters s.counters t.1 in
    ap (λ n. rank_in r.ballot r.prepared n r.counters) phases
    ∙ ap (λ b. rank_in b r.prepared s.phase r.counters) ballots
    ∙ ap (λ o. rank_in s.ballot o s.phase r.counters) known
    ∙ ap (λ xs. rank_in s.ballot s.prepared s.phase xs) counters

abbrev counter : Rank → ℕ → ℕ
counter r n = get_or r.counters n 0

pub ties_are_one : (s t : Statement) → kind_of s ≡ Kind.Ballot → statement_cmp s t ≡ Equal → s ≡ t
ties_are_one (Prepare b p a h c) (Prepare b' p' a' h' c') k e =
    ap (λ (r : Rank). Prepare r.ballot r.prepared (counter r 0) (counter r 1) (counter r 2))
    (same_rank (rank_in b p 1 (a ∷ h ∷ c ∷ [])) (rank_in b' p' 1 (a' ∷ h' ∷ c' ∷ [])) e)
ties_are_one (Commit b p h c) (Commit b' p' h' c') k e =
    ap (λ (r : Rank). Commit r.ballot (counter r 0) (counter r 1) (counter r 2))
    (same_rank (rank_in b None 2 (p ∷ h ∷ c ∷ [])) (rank_in b' None 2 (p' ∷ h' ∷ c' ∷ [])) e)
ties_are_one (Externalize b h) (Externalize b' h') k e =
    ap (λ (r : Rank). Externalize r.ballot (counter r 0))
    (same_rank (rank_in b None 3 (h ∷ [])) (rank_in b' None 3 (h' ∷ [])) e)
ties_are_one _ _ k e = cc

-- ---- what an order gives of "above"
greater_not_less : (o p : Ordering) → o ≡ ordering_reverse p → is_gt o ≡ true → is_gt p ≡ false
greater_not_less o Less e g = refl
greater_not_less o Equal e g = refl
greater_not_less o Greater e g = absurd (false≢true (sym (ap is_gt e) ∙ g))

pub above-itself : (s : Statement) → is_above s s ≡ false
above-itself s = ap is_gt (tied_itself statements_ordered s)

pub above-back : (s t : Statement) → is_above s t ≡ true → is_above t s ≡ false
above-back s t g = greater_not_less (statement_cmp s t) (statement_cmp t s) (statements_ordered.antisymm s t) g

-- what is above the one is above what is not above it
pub above-over : (s t r : Statement) → is_above s t ≡ true → is_above r t ≡ false → is_above s r ≡ true
above-over s t r g h = elim (cases_Bool (is_above s r)) [
  | inl y ↦ y
  | inr n ↦ absurd (true≢false (sym g ∙ upto statements_ordered s r t n h))
]

pub above-along : (s t r : Statement) → is_above s t ≡ true → is_above t r ≡ true → is_above s r ≡ true
above-along s t r g h = above-over s t r g (above-back t r h)

-- what holds the same value as x holds x
has_value-along : (values : List (List ℕ)) (x y : List ℕ) → same_value x y ≡ true → has_value values x ≡ true
    → has_value values y ≡ true
has_value-along (v ∷ vs) x y e h = elim (or_cases (same_value v x) (has_value vs x) h) [
  | inl s ↦ or_left (same_value v y) (has_value vs y) (nat_list_eq_equiv.congr v x y s ∙ e)
  | inr s ↦ or_right (same_value v y) (has_value vs y) (has_value-along vs x y e s)
]
has_value-along [] x y e h = absurd (false≢true h)

has_all-at : (those these : List (List ℕ)) (x : List ℕ) → has_all those these ≡ true → has_value these x ≡ true
    → has_value those x ≡ true
has_all-at those [] x a h = absurd (false≢true h)
has_all-at those (y ∷ ys) x a h =
    let p = and_parts (has_value those y) (has_all those ys) a in
    elim (or_cases (same_value y x) (has_value ys x) h) [
      | inl s ↦ has_value-along those y x s p.0
      | inr s ↦ has_all-at those ys x p.1 s
    ]

has_all-from : (those these : List (List ℕ)) → ((x : List ℕ) → has_value these x ≡ true → has_value those x ≡ true)
    → has_all those these ≡ true
has_all-from those [] f = refl
has_all-from those (y ∷ ys) f =
    and_from (has_value those y) (has_all those ys)
    (f y (or_left (same_value y y) (has_value ys y) (same_value-refl y)))
    (has_all-from those ys (λ x h. f x (or_right (same_value y x) (has_value ys x) h)))

has_all-itself : (values : List (List ℕ)) → has_all values values ≡ true
has_all-itself values = has_all-from values values (λ x h. h)

has_all-along : (a b c : List (List ℕ)) → has_all a b ≡ true → has_all b c ≡ true → has_all a c ≡ true
has_all-along a b c f g = has_all-from a c (λ x h. has_all-at a b x f (has_all-at b c x g h))

-- ---- newer
pub newer-itself : (s : Statement) → is_newer s s ≡ false
newer-itself (Nominate v a) = go (has_all v v) (has_all a a) (has_all-itself v) (has_all-itself a)
  where
    go : (p q : Bool) → p ≡ true → q ≡ true → (p && (q && not (p && q))) ≡ false
    go true true e f = refl
    go true false e f = refl
    go false q e f = refl
newer-itself (Prepare b p a h c) = above-itself (Prepare b p a h c)
newer-itself (Commit b p h c) = above-itself (Commit b p h c)
newer-itself (Externalize b h) = refl

widens-along : (v a v' a' w x : List (List ℕ)) → widens (Nominate v a) v' a' ≡ true → widens (Nominate v' a') w x ≡ true
    → widens (Nominate v a) w x ≡ true
widens-along v a v' a' w x g h =
    let p = and_parts (has_all v v') (has_all a a' && not (has_all v' v && has_all a' a)) g in
    let q = and_parts (has_all a a') (not (has_all v' v && has_all a' a)) p.1 in
    let r = and_parts (has_all v' w) (has_all a' x && not (has_all w v' && has_all x a')) h in
    let s = and_parts (has_all a' x) (not (has_all w v' && has_all x a')) r.1 in
    and_from (has_all v w) (has_all a x && not (has_all w v && has_all x a)) (has_all-along v v' w p.0 r.0)
    (and_from (has_all a x) (not (has_all w v && has_all x a)) (has_all-along a a' x q.0 s.0)
    (not_from_false (has_all w v && has_all x a) (false_from_ne_true (has_all w v && has_all x a) (λ t.
    let b = and_parts (has_all w v) (has_all x a) t in
    false≢true
    (sym (not-true (has_all w v' && has_all x a') s.1)
    ∙ and_from (has_all w v') (has_all x a') (has_all-along w v v' b.0 p.0) (has_all-along x a a' b.1 q.0))))))

pub newer-along : (s t r : Statement) → is_newer s t ≡ true → is_newer t r ≡ true → is_newer s r ≡ true
newer-along (Nominate v a) (Nominate v' a') (Nominate w x) g h = widens-along v a v' a' w x g h
newer-along _ (Nominate v a) (Nominate w x) g h = absurd (false≢true g)
newer-along s (Prepare b p a k c) (Prepare b' p' a' k' c') g h =
    above-along s (Prepare b p a k c) (Prepare b' p' a' k' c') g h
newer-along s (Prepare b p a k c) (Commit b' p' k' c') g h = above-along s (Prepare b p a k c) (Commit b' p' k' c') g h
newer-along s (Commit b p k c) (Prepare b' p' a' k' c') g h =
    above-along s (Commit b p k c) (Prepare b' p' a' k' c') g h
newer-along s (Commit b p k c) (Commit b' p' k' c') g h = above-along s (Commit b p k c) (Commit b' p' k' c') g h
newer-along s (Externalize b k) (Prepare b' p' a' k' c') g h = absurd (false≢true g)
newer-along s (Externalize b k) (Commit b' p' k' c') g h = absurd (false≢true g)
newer-along _ _ _ g h = absurd (false≢true h)
