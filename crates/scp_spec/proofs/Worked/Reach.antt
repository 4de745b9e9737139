-- Who is reached, in small tables: a ring of three, a stranger that names a member, and a stranger that a member names.
use Rattle.std.proofs.Common.{◌≡◌, ℕ, Bool, true, false, List, [], ◌∷◌, map, refl}
use Rattle.scp_types.specs.declared.statement.Statement.TheVariants.{Nominate}
use Rattle.scp_types.specs.Statements.{Sent}
use Rattle.scp_types.specs.Trees.{Slices}
use Rattle.scp_spec.proofs.Worked.Letters.{A, B, C, D, Z, x, just, two_of_bcd, by}
use Rattle.scp_spec.specs.Sets.{some_set, every_set}
use Rattle.scp_spec.specs.Closures.{in_least}
use Rattle.scp_spec.specs.Reach.{reach_of}

abbrev X : ℕ
X = 88

-- a row of a node that has slices 1[named]
abbrev names_one : ℕ → ℕ → Sent
names_one u named = by u (just named) (Nominate (x ∷ []) [])

-- which of A, B, C, D, Z and X are reached by A
abbrev reaches : Slices → List Sent → List Bool
reaches configured table = map (reach_of A configured table) (A ∷ B ∷ C ∷ D ∷ Z ∷ X ∷ [])

-- A has 1[B], B has 1[C], C has 1[A]
abbrev ring : List Sent
ring = names_one A B ∷ names_one B C ∷ names_one C A ∷ []

pub ring_reaches_its_three : reaches (just B) ring ≡ true ∷ true ∷ true ∷ false ∷ false ∷ false ∷ []
unfolding some_set every_set in_least reach_of
ring_reaches_its_three = refl

pub stranger_that_names_a_member : reaches (just B) (names_one Z A ∷ ring)
    ≡ true ∷ true ∷ true ∷ false ∷ false ∷ false ∷ []
unfolding some_set every_set in_least reach_of
stranger_that_names_a_member = refl

pub stranger_that_a_member_names : reaches two_of_bcd (names_one D Z ∷ [])
    ≡ true ∷ true ∷ true ∷ true ∷ true ∷ false ∷ []
unfolding some_set every_set in_least reach_of
stranger_that_a_member_names = refl

-- a row of the node itself counts, beside its configured slices
pub own_row_counts : reaches (just B) (names_one A Z ∷ []) ≡ true ∷ true ∷ false ∷ false ∷ true ∷ false ∷ []
unfolding some_set every_set in_least reach_of
own_row_counts = refl

-- it reaches itself, though nothing names it
pub alone_reaches_itself : reaches (just B) [] ≡ true ∷ true ∷ false ∷ false ∷ false ∷ false ∷ []
unfolding some_set every_set in_least reach_of
alone_reaches_itself = refl
