-- What is voted or accepted at both ends of an interval is so on the whole of it.
use Rattle.std.proofs.Common.{◌≡◌, ℕ, ◌≤◌, Bool, true, false, ◌&&◌, ◌||◌, ◌==◌, not, leb, List, refl, arith}
use Rattle.std.proofs.lemmas.Bool.{false≢true}
use Rattle.scp_types.specs.declared.statement.Statement.{Statement}
use Rattle.scp_types.specs.declared.statement.Statement.TheVariants.{Nominate, Prepare, Commit, Externalize}
use Rattle.scp_types.specs.Votes.{same_value, AcceptsCommit, VotesOrAcceptsCommit, accepts_ends, votes_or_accepts_ends}
use Rattle.scp_types.proofs.Bools.{both, join, or_left, or_false, le_is, is_le}

pub accepts_whole : (s : Statement) (x : List ℕ) (low high : ℕ) → accepts_ends s x low high ≡ true → AcceptsCommit s x low high
accepts_whole (Nominate v a) x low high e n h k = absurd (false≢true e)
accepts_whole (Prepare b p a g c) x low high e n h k = absurd (false≢true e)
accepts_whole (Commit b p g c) x low high e n h k =
    let p1 = both (same_value b.value x) (leb c low && leb high g) e in
    let p2 = both (leb c low) (leb high g) p1.1 in
    let l = le_is c low p2.0 in
    let r = le_is high g p2.1 in
    join (same_value b.value x) (leb c n && leb n g) p1.0 (join (leb c n) (leb n g) (is_le c n (omega arith)) (is_le n g (omega arith)))
accepts_whole (Externalize b g) x low high e n h k =
    let p1 = both (same_value b.value x) (leb b.counter low) e in
    let l = le_is b.counter low p1.1 in
    join (same_value b.value x) (leb b.counter n) p1.0 (is_le b.counter n (omega arith))

pub accepts_both : (s : Statement) (x : List ℕ) (low high : ℕ) → low ≤ high → AcceptsCommit s x low high → accepts_ends s x low high ≡ true
accepts_both (Nominate v a) x low high le h = h low (omega arith) le
accepts_both (Prepare b p a g c) x low high le h = h low (omega arith) le
accepts_both (Commit b p g c) x low high le h =
    let at_low = both (same_value b.value x) (leb c low && leb low g) (h low (omega arith) le) in
    let at_high = both (same_value b.value x) (leb c high && leb high g) (h high le (omega arith)) in
    join (same_value b.value x) (leb c low && leb high g) at_low.0 (join (leb c low) (leb high g) (both (leb c low) (leb low g) at_low.1).0 (both (leb c high) (leb high g) at_high.1).1)
accepts_both (Externalize b g) x low high le h = h low (omega arith) le

pub votes_whole : (s : Statement) (x : List ℕ) (low high : ℕ) → votes_or_accepts_ends s x low high ≡ true → VotesOrAcceptsCommit s x low high
votes_whole (Nominate v a) x low high e n h k = absurd (false≢true e)
votes_whole (Prepare b p a g c) x low high e n h k =
    let p0 = both (not (c == 0)) (same_value b.value x && (leb c low && leb high g)) e in
    let p1 = both (same_value b.value x) (leb c low && leb high g) p0.1 in
    let p2 = both (leb c low) (leb high g) p1.1 in
    let l = le_is c low p2.0 in
    let r = le_is high g p2.1 in
    or_left (not (c == 0) && (same_value b.value x && (leb c n && leb n g))) false (join (not (c == 0)) (same_value b.value x && (leb c n && leb n g)) p0.0 (join (same_value b.value x) (leb c n && leb n g) p1.0 (join (leb c n) (leb n g) (is_le c n (omega arith)) (is_le n g (omega arith)))))
votes_whole (Commit b p g c) x low high e n h k =
    let p1 = both (same_value b.value x) (leb c low) e in
    let l = le_is c low p1.1 in
    or_left (same_value b.value x && leb c n) (same_value b.value x && (leb c n && leb n g)) (join (same_value b.value x) (leb c n) p1.0 (is_le c n (omega arith)))
votes_whole (Externalize b g) x low high e n h k =
    let p1 = both (same_value b.value x) (leb b.counter low) e in
    let l = le_is b.counter low p1.1 in
    join (same_value b.value x) (leb b.counter n) p1.0 (is_le b.counter n (omega arith))

from_commit : (a b c : Bool) → ((a && b) || (a && (b && c))) ≡ true → (a && b) ≡ true
from_commit true true c h = refl
from_commit true false c h = absurd (false≢true h)
from_commit false b c h = absurd (false≢true h)

pub votes_both : (s : Statement) (x : List ℕ) (low high : ℕ) → low ≤ high → VotesOrAcceptsCommit s x low high → votes_or_accepts_ends s x low high ≡ true
votes_both (Nominate v a) x low high le h = h low (omega arith) le
votes_both (Prepare b p a g c) x low high le h =
    let at_low = both (not (c == 0)) (same_value b.value x && (leb c low && leb low g)) (or_false (not (c == 0) && (same_value b.value x && (leb c low && leb low g))) (h low (omega arith) le)) in
    let at_high = both (not (c == 0)) (same_value b.value x && (leb c high && leb high g)) (or_false (not (c == 0) && (same_value b.value x && (leb c high && leb high g))) (h high le (omega arith))) in
    let l = both (same_value b.value x) (leb c low && leb low g) at_low.1 in
    let r = both (same_value b.value x) (leb c high && leb high g) at_high.1 in
    join (not (c == 0)) (same_value b.value x && (leb c low && leb high g)) at_low.0 (join (same_value b.value x) (leb c low && leb high g) l.0 (join (leb c low) (leb high g) (both (leb c low) (leb low g) l.1).0 (both (leb c high) (leb high g) r.1).1))
votes_both (Commit b p g c) x low high le h = from_commit (same_value b.value x) (leb c low) (leb low g) (h low (omega arith) le)
votes_both (Externalize b g) x low high le h = h low (omega arith) le
