-- What slices mean: which sets of names satisfy them, and which block them.
use Rattle.std.specs.Prelude.{ℕ, ◌+◌, List, Bool, nat_le, nat_lt, if◌then◌else◌, IsTrue, IsFalse, ◌↔◌}
use Rattle.scp_types.specs.Trees.{Members, none, node, inner, Slices, names_in, member_count}
use Rattle.scp_spec.specs.Sets.{Names, AreApart}

-- how many members of a set are nodes in the other set, or inner sets that it satisfies
abbrev pub satisfied_count : Members → Names → ℕ
satisfied_count none set = 0
satisfied_count (node u rest) set = (if set u then 1 else 0) + satisfied_count rest set
satisfied_count (inner k own rest) set =
    (if nat_le k (satisfied_count own set) then 1 else 0) + satisfied_count rest set

-- the set satisfies the slices: at least k members are nodes in it, or inner sets that it satisfies
abbrev pub sat : Slices → Names → Bool
sat q set = nat_le q.threshold (satisfied_count q.members set)

-- all nodes in the tree of slices
abbrev pub names : Slices → List ℕ
names q = names_in q.members

-- the set blocks the slices, of whatever kind: no set apart from it satisfies them
abbrev pub Blocks : {Q : Type 0} → (Q → Names → Bool) → Q → Names → Type 0
Blocks sat q set = (apart : Names) → AreApart apart set → IsFalse (sat q apart)

-- how many members are nodes in the set, or inner sets of which it leaves too few members
abbrev pub blocked_count : Members → Names → ℕ
blocked_count none set = 0
blocked_count (node u rest) set = (if set u then 1 else 0) + blocked_count rest set
blocked_count (inner k own rest) set =
    (if nat_lt (member_count own) (k + blocked_count own set) then 1 else 0) + blocked_count rest set

-- blocking as a test that counts down the tree: fewer members than the threshold are left
abbrev pub is_blocked : Slices → Names → Bool
is_blocked q set = nat_lt (member_count q.members) (q.threshold + blocked_count q.members set)

-- the test by counting finds exactly the sets that block
abbrev pub BlockingIsCounted : Type 0
BlockingIsCounted = (q : Slices) (set : Names) → IsTrue (is_blocked q set) ↔ Blocks sat q set
