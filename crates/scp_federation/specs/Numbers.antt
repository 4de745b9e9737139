-- Slices as a table of names and a list of sets whose members are numbers: of names, or of later sets.
use Rattle.std.specs.Prelude.{◌≡◌, ℕ, zero, suc, ◌+◌, ◌<◌, List, [], ◌∷◌, ◌++◌, length, get_or, map, All, ◌==◌, if◌then◌else◌}
use Rattle.std.specs.Coded.{Coded, code_by, coded×, coded_ℕ, coded_list}
use Rattle.std.proofs.Common.{refl}
use Rattle.scp_types.specs.Trees.{Members, none, node, inner, Slices, IsNested}
use Rattle.scp_types.specs.Shape.{members_of}
use Rattle.scp_types.specs.declared.nested.Member.{Member}
use Rattle.scp_types.specs.declared.nested.Member.TheVariants.{Node, Set}
use Rattle.scp_spec.specs.Sets.{among, IsAscending}
use Rattle.scp_spec.specs.Satisfaction.{names}
use Rattle.scp_federation.specs.declared.flat_set.FlatMember.{FlatMember}
use Rattle.scp_federation.specs.declared.flat_set.FlatMember.TheVariants.{Name, Inner}

-- a set in the form of a list: a threshold over members by number
pub record Level : Type 0 where
  pub threshold : ℕ
  pub members : List FlatMember

-- ---- what numbers stand for
-- slices of nobody, for a number that no set has
abbrev pub nobody : Slices
nobody = record { threshold = 0; members = none }

-- a member, by the names and by what the numbers of sets stand for
abbrev pub member_by : List ℕ → (ℕ → Slices) → FlatMember → Member
member_by us sets (Name i) = Node (get_or us i 0)
member_by us sets (Inner n) = Set (sets n)

-- a set likewise
abbrev pub set_by : List ℕ → (ℕ → Slices) → Level → Slices
set_by us sets s = record { threshold = s.threshold; members = members_of (map (member_by us sets) s.members) }

-- what each number stands for, if these sets have the numbers from this one on: a set's inner sets are among those
-- behind it, and a number that none of them has stands for nobody
abbrev pub sets_from : List ℕ → ℕ → List Level → ℕ → Slices
sets_from us first [] n = nobody
sets_from us first (s ∷ later) n =
    if first == n then set_by us (sets_from us (suc first) later) s else sets_from us (suc first) later n

-- the set with a number, counted from the outermost one, whose number is 0
abbrev pub set_at : List ℕ → List Level → ℕ → Slices
set_at us sets n = sets_from us 0 sets n

-- a member of the set with this number has the number of a name, or of a later set
abbrev pub IsNumber : ℕ → ℕ → ℕ → FlatMember → Type 0
IsNumber names sets own (Name i) = i < names
IsNumber names sets own (Inner n) = (own < n) × (n < sets)

-- each member of each set is the number of a name, or of a later set
abbrev pub AreNumbers : List ℕ → List Level → Type 0
AreNumbers us sets = (n : ℕ) (d : Level) → n < length sets → All (IsNumber (length us) (length sets) n) (get_or sets n d).members

-- there is an outermost set, which stands for slices that keep the rules, and the table has exactly their names
pub record IsFlat (us : List ℕ) (sets : List Level) : Type 0 where
  pub outermost : 0 < length sets
  pub numbers : AreNumbers us sets
  pub ascending : IsAscending us
  pub table : (u : ℕ) → among us u ≡ among (names (set_at us sets 0)) u
  pub rules : IsNested (set_at us sets 0)

-- ---- the numbers of slices
-- how many inner sets there are
abbrev pub count_inner_sets : Members → ℕ
count_inner_sets none = 0
count_inner_sets (node u rest) = count_inner_sets rest
count_inner_sets (inner k own rest) = suc (count_inner_sets own + count_inner_sets rest)

-- how many names of a table stand before one
abbrev pub place_of_name : List ℕ → ℕ → ℕ
place_of_name [] u = 0
place_of_name (x ∷ xs) u = if x == u then 0 else suc (place_of_name xs u)

-- members by number; the sets among them, each before those inside it, have the numbers from this one on
abbrev pub flat_members : List ℕ → ℕ → Members → List FlatMember
flat_members us first none = []
flat_members us first (node u rest) = Name (place_of_name us u) ∷ flat_members us first rest
flat_members us first (inner k own rest) = Inner first ∷ flat_members us (suc first + count_inner_sets own) rest

-- these sets, each before those inside it
abbrev pub flat_levels : List ℕ → ℕ → Members → List Level
flat_levels us first none = []
flat_levels us first (node u rest) = flat_levels us first rest
flat_levels us first (inner k own rest) =
    record { threshold = k; members = flat_members us (suc first) own } ∷ flat_levels us (suc first) own ++ flat_levels us (suc first + count_inner_sets own) rest

-- slices as a list of sets: each set, and then those inside it
abbrev pub levels_of : List ℕ → ℕ → Slices → List Level
levels_of us first q = record { threshold = q.threshold; members = flat_members us (suc first) q.members } ∷ flat_levels us (suc first) q.members

-- ---- a code
abbrev pub member_code : Coded FlatMember
member_code = code_by (ℕ × ℕ) (coded× coded_ℕ coded_ℕ) to from again
  where
    to : FlatMember → ℕ × ℕ
    to (Name i) = (0, i)
    to (Inner n) = (1, n)

    from : ℕ × ℕ → FlatMember
    from (zero, i) = Name i
    from (suc k, n) = Inner n

    again : (m : FlatMember) → from (to m) ≡ m
    again (Name i) = refl
    again (Inner n) = refl

-- sets by number are told apart by their parts, so it is decided whether two are equal
abbrev pub level_code : Coded Level
level_code =
    code_by (ℕ × List FlatMember) (coded× coded_ℕ (coded_list member_code)) (λ s. (s.threshold, s.members))
    (λ p. record { threshold = p.0; members = p.1 }) (λ _. refl)
