-- Slices as trees of names, without where they lie in memory, and the rules that they keep.
use Rattle.std.specs.Prelude.{◌≡◌, ℕ, zero, suc, ◌+◌, ◌<◌, ◌≤◌, ◌^◌, List, [], ◌∷◌, ◌++◌, length, Bool, true, false, ◌&&◌, not, ◌==◌, nat_le, nat_lt, refl, max, AllPairs, ◌≢◌}
use Rattle.std.specs.List.{AllByRecursion, list_any}
use Rattle.std.specs.Coded.{Coded, code_by, coded×, coded_ℕ, coded_list}
use Rattle.std.proofs.Common.{ap, ◌∙◌, arith}

-- the members of a set, one after another: names, and inner sets with their thresholds and members
pub data Members : Type 0 where
  none : Members
  node : ℕ → Members → Members
  inner : ℕ → Members → Members → Members

-- slices: a threshold over members, each of which is a name or an inner set
pub record Slices : Type 0 where
  pub threshold : ℕ
  pub members : Members

-- how many members stand in the set itself
abbrev pub member_count : Members → ℕ
member_count none = 0
member_count (node u rest) = 1 + member_count rest
member_count (inner k own rest) = 1 + member_count rest

-- all names of a tree, in order, as often as they stand in it
abbrev pub names_in : Members → List ℕ
names_in none = []
names_in (node u rest) = u ∷ names_in rest
names_in (inner k own rest) = names_in own ++ names_in rest

-- how many levels of inner sets a tree has
abbrev pub depth_of : Members → ℕ
depth_of none = 0
depth_of (node u rest) = depth_of rest
depth_of (inner k own rest) = max (1 + depth_of own) (depth_of rest)

-- how many members and ends a tree has in all
abbrev pub weight_of : Members → ℕ
weight_of none = 1
weight_of (node u rest) = 1 + weight_of rest
weight_of (inner k own rest) = 1 + weight_of own + weight_of rest

-- ---- the limits
abbrev pub most_members : ℕ
most_members = 64

abbrev pub most_names : ℕ
most_names = 256

-- the most levels of inner sets: 8
abbrev pub most_levels : ℕ
most_levels = 8

-- ---- the rules
-- a name is a number below 2^256: 32 bytes
abbrev pub IsName : ℕ → Type 0
IsName u = u < 2 ^ 256

-- a threshold of at least 1 and at most the number of members, of which there are at most 64
abbrev pub HasThreshold : ℕ → Members → Type 0
HasThreshold k ms = (0 < k) × (k ≤ member_count ms) × (member_count ms ≤ most_members)

-- each inner set has a threshold and members within the limits
abbrev pub HaveThresholds : Members → Type 0
HaveThresholds none = Unit {0}
HaveThresholds (node u rest) = HaveThresholds rest
HaveThresholds (inner k own rest) = HasThreshold k own × HaveThresholds own × HaveThresholds rest

-- slices that keep the rules: thresholds within their sets of at most 64, eight inner levels, 256 names, none twice
pub record IsNested (q : Slices) : Type 0 where
  pub outer : HasThreshold q.threshold q.members
  pub inner_sets : HaveThresholds q.members
  pub levels : depth_of q.members ≤ most_levels
  pub few_names : length (names_in q.members) ≤ most_names
  pub names_differ : AllPairs (λ u w. u ≢ w) (names_in q.members)
  pub names_fit : AllByRecursion IsName (names_in q.members)

-- ---- a code: the members as a list of tokens, each a number and a name
abbrev pub Token : Type 0
Token = ℕ × ℕ

abbrev pub tokens : Members → List Token → List Token
tokens none after = (0, 0) ∷ after
tokens (node u rest) after = (1, u) ∷ tokens rest after
tokens (inner k own rest) after = (suc (suc k), 0) ∷ tokens own (tokens rest after)

-- the members at the front, and the tokens after them
abbrev pub members_at : ℕ → List Token → Members × List Token
members_at zero ts = (none, ts)
members_at (suc fuel) [] = (none, [])
members_at (suc fuel) ((zero, u) ∷ ts) = (none, ts)
members_at (suc fuel) ((suc zero, u) ∷ ts) = (node u (members_at fuel ts).0, (members_at fuel ts).1)
members_at (suc fuel) ((suc (suc k), u) ∷ ts) =
    (inner k (members_at fuel ts).0 (members_at fuel (members_at fuel ts).1).0, (members_at fuel (members_at fuel ts).1).1)

length-tokens : (m : Members) (after : List Token) → length (tokens m after) ≡ weight_of m + length after
length-tokens none after = omega arith
length-tokens (node u rest) after = omega (arith, length-tokens rest after)
length-tokens (inner k own rest) after = omega (arith, length-tokens own (tokens rest after), length-tokens rest after)

pub members-again : (m : Members) (fuel : ℕ) (after : List Token) → weight_of m ≤ fuel
    → members_at fuel (tokens m after) ≡ (m, after)
members-again none zero after h = absurd (omega arith)
members-again none (suc fuel) after h = refl
members-again (node u rest) zero after h = absurd (omega arith)
members-again (node u rest) (suc fuel) after h =
    let e = members-again rest fuel after (omega arith) in ap (λ (p : Members × List Token). (node u p.0, p.1)) e
members-again (inner k own rest) zero after h = absurd (omega arith)
members-again (inner k own rest) (suc fuel) after h =
    let e = members-again own fuel (tokens rest after) (omega arith) in
    let f = members-again rest fuel after (omega arith) in
    ap (λ (p : Members × List Token). (inner k p.0 (members_at fuel p.1).0, (members_at fuel p.1).1)) e ∙ ap (λ (p : Members × List Token). (inner k own p.0, p.1)) f

abbrev pub tokens_of : Members → List Token
tokens_of m = tokens m []

abbrev pub members_from : List Token → Members
members_from ts = (members_at (length ts) ts).0

pub members_from-tokens_of : (m : Members) → members_from (tokens_of m) ≡ m
members_from-tokens_of m =
    ap (λ (p : Members × List Token). p.0) (members-again m (length (tokens_of m)) [] (omega (arith, length-tokens m [])))

-- members are told apart by lists of numbers, so it is decided whether two are equal
abbrev pub members_code : Coded Members
members_code = code_by (List Token) (coded_list (coded× coded_ℕ coded_ℕ)) tokens_of members_from members_from-tokens_of

-- slices are told apart by their threshold and members, so it is decided whether two are equal
abbrev pub slices_code : Coded Slices
slices_code =
    code_by (ℕ × Members) (coded× coded_ℕ members_code) (λ s. (s.threshold, s.members)) (λ p. record { threshold = p.0; members = p.1 }) (λ _. refl)

-- ---- the rules as tests
-- a threshold of at least 1 and at most the number of members, of which there are at most 64, as a test
abbrev pub has_threshold : ℕ → Members → Bool
has_threshold k ms = nat_lt 0 k && (nat_le k (member_count ms) && nat_le (member_count ms) most_members)

-- each inner set has a threshold and members within the limits, and there are at most n levels of them, as a test
abbrev pub is_shaped : ℕ → Members → Bool
is_shaped levels none = true
is_shaped levels (node u rest) = is_shaped levels rest
is_shaped zero (inner k own rest) = false
is_shaped (suc levels) (inner k own rest) = has_threshold k own && (is_shaped levels own && is_shaped (suc levels) rest)

-- there are at most n levels of inner sets, as a test
abbrev pub has_levels : ℕ → Members → Bool
has_levels levels none = true
has_levels levels (node u rest) = has_levels levels rest
has_levels zero (inner k own rest) = false
has_levels (suc levels) (inner k own rest) = has_levels levels own && has_levels (suc levels) rest

-- no name of the list stands twice
abbrev pub all_differ : List ℕ → Bool
all_differ [] = true
all_differ (u ∷ us) = not (list_any (λ w. w == u) us) && all_differ us

-- each name of the list is below the next
abbrev pub rises : List ℕ → Bool
rises [] = true
rises (u ∷ []) = true
rises (u ∷ w ∷ ws) = nat_lt u w && rises (w ∷ ws)
