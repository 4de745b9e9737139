-- The least set that keeps a list of rules, by tests of the whole list. `Nodes`, `Runs`, `Verdicts`, `Worked` and the
-- crate `host_compare` stand on it.
use Rattle.std.proofs.Common.{◌≡◌, ℕ, true, List}
use Rattle.std.specs.List.{list_all}
use Rattle.std.proofs.lemmas.Bool.{and_parts, and_from}
use Rattle.scp_spec.specs.Sets.{Names}
use Rattle.scp_spec.specs.Closures.{Rule, keeps, in_least}
use Rattle.scp_spec.proofs.Sets.Least.{is_closed-from, is_closed-at, in_least-in, in_least-from, in_least-closed}

-- it lies in each set that contains v and keeps the rules
pub least-in : (rules : List Rule) (v : ℕ) (S : Names) → S v ≡ true → list_all (keeps S) rules ≡ true → (u : ℕ)
    → in_least rules v u ≡ true → S u ≡ true
least-in rules v S i k u h =
    in_least-in rules v S (is_closed-at rules v S (and_from (S v) (list_all (keeps S) rules) i k)) u h

-- what is in each such set is in it
pub least-from : (rules : List Rule) (v u : ℕ)
    → ((S : Names) → S v ≡ true → list_all (keeps S) rules ≡ true → S u ≡ true) → in_least rules v u ≡ true
least-from rules v u f =
    in_least-from rules v u
    (λ S c. let p = and_parts (S v) (list_all (keeps S) rules) (is_closed-from rules v S c) in f S p.0 p.1)

-- it contains v
pub least-start : (rules : List Rule) (v : ℕ) → in_least rules v v ≡ true
least-start rules v = (in_least-closed rules v).start

-- and it keeps the rules
pub least-keeps : (rules : List Rule) (v : ℕ) → list_all (keeps (in_least rules v)) rules ≡ true
least-keeps rules v =
    (and_parts (in_least rules v v) (list_all (keeps (in_least rules v)) rules)
    (is_closed-from rules v (in_least rules v) (in_least-closed rules v))).1
