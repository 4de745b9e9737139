-- No envelope's spelling is too long.
use Rattle.std.proofs.Common.{◌≡◌, ℕ, zero, suc, ◌+◌, ◌*◌, ◌<◌, ◌≤◌, List, [], ◌∷◌, length, Option, Some, None, refl, arith, length-append}
use Rattle.std.specs.Prelude.{IfSome}
use Rattle.std.specs.List.{flat_map, AllByRecursion}
use Rattle.scp_types.specs.declared.ballot.Ballot.{Ballot}
use Rattle.scp_types.specs.declared.statement.Statement.{Statement}
use Rattle.scp_types.specs.declared.statement.Statement.TheVariants.{Nominate, Prepare, Commit, Externalize}
use Rattle.scp_types.specs.Trees.{Members, none, node, inner, Slices, member_count, names_in, depth_of, HaveThresholds, IsNested, most_levels}
use Rattle.scp_types.specs.Nominations.{IsValue}
use Rattle.scp_types.specs.Statements.{Sent, IsBallot, IsWellFormed, HasWidths, IsEnvelope}
use Rattle.scp_codec.specs.Spelling.{name, value, ballot, optional, nominated_values, members, slices, body, spelling, most_bytes}

length-name : (u : ℕ) → length (name u) ≡ 32
unfolding name
length-name u = refl

length-value : (v : List ℕ) → IsValue v → length (value v) ≤ 258
length-value v h = omega (arith, h.1)

length-ballot : (b : Ballot) → IsBallot b → length (ballot b) ≤ 262
length-ballot b h = omega (arith, length-value b.value h.value)

length-optional : (o : Option Ballot) → IfSome o IsBallot → length (optional o) ≤ 263
length-optional None h = omega arith
length-optional (Some b) h = omega (arith, length-ballot b h)

length-values : (vs : List (List ℕ)) → AllByRecursion IsValue vs → length (flat_map value vs) ≤ 258 * length vs
length-values [] h = omega arith
length-values (v ∷ vs) h = omega (arith, length-append (value v) (flat_map value vs), length-value v h.0, length-values vs h.1)

length-body : (s : Statement) → HasWidths s → IsWellFormed s → length (body s) ≤ 8258
length-body (Nominate v a) h r =
    omega (arith, length-append (nominated_values v) (nominated_values a), length-values v h.0, length-values a h.1, r.voted_set.few, r.accepted_set.few)
length-body (Prepare b p x y z) h r =
    simp length-append (omega (arith, length-ballot b h.0, length-optional p h.1))
length-body (Commit b x y z) h r = simp length-append (omega (arith, length-ballot b h.0))
length-body (Externalize b x) h r = simp length-append (omega (arith, length-ballot b h.0))

-- ---- slices: as each inner set has a name in it, there are at most so many inner sets as names and levels allow
abbrev sets_in : Members → ℕ
sets_in none = 0
sets_in (node u rest) = sets_in rest
sets_in (inner k own rest) = 1 + sets_in own + sets_in rest

length-members : (ms : Members) → length (members ms) ≡ 33 * length (names_in ms) + 3 * sets_in ms
length-members none = refl
length-members (node u rest) = omega (arith, length-append (name u) (members rest), length-name u, length-members rest)
length-members (inner k own rest) =
    omega (arith, length-append (members own) (members rest), length-append (names_in own) (names_in rest), length-members own, length-members rest)

has_name : (ms : Members) → HaveThresholds ms → 0 < member_count ms → 0 < length (names_in ms)
has_name none h c = absurd (omega arith)
has_name (node u rest) h c = omega arith
has_name (inner k own rest) h c =
    omega (arith, length-append (names_in own) (names_in rest), has_name own h.1 (omega (arith, h.0.0, h.0.1)))

few_sets : (levels : ℕ) (ms : Members) → HaveThresholds ms → depth_of ms ≤ levels → sets_in ms ≤ levels * length (names_in ms)
few_sets levels none h d = omega arith
few_sets levels (node u rest) h d = more levels (length (names_in rest)) (sets_in rest) (few_sets levels rest h d)
  where
    more : (l n s : ℕ) → s ≤ l * n → s ≤ l * suc n
    more l n s h = omega arith
few_sets zero (inner k own rest) h d = absurd (omega arith)
few_sets (suc l) (inner k own rest) h d =
    let some = has_name own h.1 (omega (arith, h.0.0, h.0.1)) in
    let a = few_sets l own h.1 (omega arith) in
    let b = few_sets (suc l) rest h.2 (omega arith) in
    rw (length-append (names_in own) (names_in rest)) (more l (length (names_in own)) (length (names_in rest)) (sets_in own) (sets_in rest) some a b)
  where
    more : (l m n s t : ℕ) → 0 < m → s ≤ l * m → t ≤ suc l * n → 1 + s + t ≤ suc l * (m + n)
    more l m n s t p a b = omega arith

-- with room for more levels than there are
length-slices : (q : Slices) → IsNested q → length (slices q) ≤ 50000
length-slices q h =
    omega (arith, length-members q.members, few_sets most_levels q.members h.inner_sets h.levels, h.few_names)

pub spelling_is_short : (e : Sent) → IsEnvelope e → length (spelling e) ≤ most_bytes
spelling_is_short e h =
    simp length-append (omega (arith, length-name e.sender, length-slices e.slices h.slices, length-body e.body h.widths h.rules))
