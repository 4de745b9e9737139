-- The tests of statements decide the rules.
use Rattle.std.proofs.Common.{◌≡◌, ℕ, ◌+◌, true, ◌&&◌, not, leb, ltb, List, [], ◌∷◌, length, Option, Some, None, refl, ap, arith}
use Rattle.std.specs.Prelude.{IfSome}
use Rattle.std.specs.Ordering.{is_lt, is_gt}
use Rattle.std.specs.declared.cmp.Ordering.{Ordering}
use Rattle.std.specs.declared.cmp.Ordering.TheVariants.{Less, Equal, Greater}
use Rattle.std.proofs.lemmas.Bool.{false≢true}
use Rattle.std.proofs.lemmas.Bool.Decides.{nat_tests}
use Rattle.scp_types.specs.declared.ballot.Ballot.{Ballot}
use Rattle.scp_types.specs.declared.statement.Statement.{Statement}
use Rattle.scp_types.specs.declared.statement.Statement.TheVariants.{Nominate, Prepare, Commit, Externalize}
use Rattle.scp_types.specs.Orders.{bytes_cmp, ballot_cmp}
use Rattle.scp_types.specs.Nominations.{Ascending, IsNominationSet, is_ascending, is_nomination_set}
use Rattle.scp_types.specs.Statements.{IsUpTo, IsWellFormed, is_up_to, is_well_formed}
use Rattle.scp_types.proofs.Bools.{both, join, not_is, le_is, is_le}

lt_is : (o : Ordering) → is_lt o ≡ true → o ≡ Less
lt_is Less h = refl
lt_is Equal h = absurd (false≢true h)
lt_is Greater h = absurd (false≢true h)

ascending : (xs : List (List ℕ)) → is_ascending xs ≡ true → Ascending xs
ascending [] h = tt
ascending (x ∷ []) h = tt
ascending (x ∷ y ∷ ys) h =
    let p = both (is_lt (bytes_cmp x y)) (is_ascending (y ∷ ys)) h in (lt_is (bytes_cmp x y) p.0, ascending (y ∷ ys) p.1)

ascending_test : (xs : List (List ℕ)) → Ascending xs → is_ascending xs ≡ true
ascending_test [] h = refl
ascending_test (x ∷ []) h = refl
ascending_test (x ∷ y ∷ ys) h = join (is_lt (bytes_cmp x y)) (is_ascending (y ∷ ys)) (ap is_lt h.0) (ascending_test (y ∷ ys) h.1)

set_is : (xs : List (List ℕ)) → is_nomination_set xs ≡ true → IsNominationSet xs
set_is xs h =
    let p = both (leb (length xs) 16) (is_ascending xs) h in record { few = le_is (length xs) 16 p.0; ascending = ascending xs p.1 }

set_test : (xs : List (List ℕ)) → IsNominationSet xs → is_nomination_set xs ≡ true
set_test xs h = join (leb (length xs) 16) (is_ascending xs) (is_le (length xs) 16 h.few) (ascending_test xs h.ascending)

up_to_is : (p : Option Ballot) (b : Ballot) → is_up_to p b ≡ true → IfSome p (λ q. IsUpTo q b)
up_to_is None b h = tt
up_to_is (Some q) b h = not_is (is_gt (ballot_cmp q b)) h

up_to_test : (p : Option Ballot) (b : Ballot) → IfSome p (λ q. IsUpTo q b) → is_up_to p b ≡ true
up_to_test None b h = refl
up_to_test (Some q) b h = ap not h

pub keeps_rules : (s : Statement) → is_well_formed s ≡ true → IsWellFormed s
keeps_rules (Nominate v a) h =
    let p = both (is_nomination_set v) (is_nomination_set a && ltb 0 (length v + length a)) h in
    let q = both (is_nomination_set a) (ltb 0 (length v + length a)) p.1 in
    record { voted_set = set_is v p.0; accepted_set = set_is a q.0; some = grind (arith, nat_tests, q.1) }
keeps_rules (Prepare b p a h c) e =
    let p1 = both (leb 1 b.counter) (is_up_to p b && (leb a b.counter && (leb c h && leb h b.counter))) e in
    let p2 = both (is_up_to p b) (leb a b.counter && (leb c h && leb h b.counter)) p1.1 in
    let p3 = both (leb a b.counter) (leb c h && leb h b.counter) p2.1 in
    let p4 = both (leb c h) (leb h b.counter) p3.1 in
    record { counted = le_is 1 b.counter p1.0; prepared_below = up_to_is p b p2.0; aborted_below = le_is a b.counter p3.0; ordered = le_is c h p4.0; high_below = le_is h b.counter p4.1 }
keeps_rules (Commit b p h c) e =
    let p1 = both (leb 1 c) (leb c h && leb h b.counter) e in
    let p2 = both (leb c h) (leb h b.counter) p1.1 in
    record { counted = le_is 1 c p1.0; ordered = le_is c h p2.0; high_below = le_is h b.counter p2.1 }
keeps_rules (Externalize b h) e =
    let p1 = both (leb 1 b.counter) (leb b.counter h) e in
    record { counted = le_is 1 b.counter p1.0; ordered = le_is b.counter h p1.1 }

pub passes_test : (s : Statement) → IsWellFormed s → is_well_formed s ≡ true
passes_test (Nominate v a) h =
    join (is_nomination_set v) (is_nomination_set a && ltb 0 (length v + length a)) (set_test v h.voted_set) (join (is_nomination_set a) (ltb 0 (length v + length a)) (set_test a h.accepted_set) (grind (arith, nat_tests, h.some)))
passes_test (Prepare b p a h c) e =
    join (leb 1 b.counter) (is_up_to p b && (leb a b.counter && (leb c h && leb h b.counter))) (is_le 1 b.counter e.counted) (join (is_up_to p b) (leb a b.counter && (leb c h && leb h b.counter)) (up_to_test p b e.prepared_below) (join (leb a b.counter) (leb c h && leb h b.counter) (is_le a b.counter e.aborted_below) (join (leb c h) (leb h b.counter) (is_le c h e.ordered) (is_le h b.counter e.high_below))))
passes_test (Commit b p h c) e =
    join (leb 1 c) (leb c h && leb h b.counter) (is_le 1 c e.counted) (join (leb c h) (leb h b.counter) (is_le c h e.ordered) (is_le h b.counter e.high_below))
passes_test (Externalize b h) e = join (leb 1 b.counter) (leb b.counter h) (is_le 1 b.counter e.counted) (is_le b.counter h e.ordered)
