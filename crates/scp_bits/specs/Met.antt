-- What meets a compiled set, and of which slices it is the compiled form.
use Rattle.std.specs.Prelude.{◌≡◌, ℕ, suc, ◌+◌, ◌-◌, List, [], ◌∷◌, Bool, length, true, false, ◌==◌, nat_le, if◌then◌else◌}
use Rattle.scp_types.specs.Trees.{Slices}
use Rattle.scp_spec.specs.Sets.{Names, among}
use Rattle.scp_spec.specs.Satisfaction.{sat, is_blocked}
use Rattle.scp_bits.specs.Places.{bit_of, places_in, Sets, none, set, Compiled}

-- 1 if the test holds, else 0
abbrev pub one_where : Bool → ℕ
one_where b = if b then 1 else 0

-- how many of the sets are met
abbrev pub sets_met : Sets → List ℕ → ℕ
sets_met none ws = 0
sets_met (set k ms own rest) ws = one_where (nat_le k (places_in ms ws + sets_met own ws)) + sets_met rest ws

-- as many places and inner sets as are needed are in a set of places
abbrev pub has_needed : Compiled → List ℕ → Bool
has_needed c ws = nat_le c.needed (places_in c.masks ws + sets_met c.inner ws)

-- the nodes, from this place on, whose places are in the set
abbrev pub nodes_at_from : ℕ → List ℕ → List ℕ → List ℕ
nodes_at_from i [] ws = []
nodes_at_from i (u ∷ us) ws = if bit_of ws i == 1 then u ∷ nodes_at_from (suc i) us ws else nodes_at_from (suc i) us ws

-- the nodes of a list whose places are in the set
abbrev pub nodes_at : List ℕ → List ℕ → List ℕ
nodes_at us ws = nodes_at_from 0 us ws

-- the set of nodes satisfies the slices or, if that is asked, blocks them
abbrev pub meets : Bool → Slices → Names → Bool
meets true q s = is_blocked q s
meets false q s = sat q s

-- how many of n members are needed to meet a set: its threshold or, to block it, one more than it can spare
abbrev pub needed_of : Bool → ℕ → ℕ → ℕ
needed_of true k n = n + 1 - k
needed_of false k n = k

-- places meet the compiled form exactly if the nodes at those places meet the slices
abbrev pub IsCompiled : Bool → List ℕ → Slices → Compiled → Type 0
IsCompiled blocking us q c = (ws : List ℕ) → has_needed c ws ≡ meets blocking q (among (nodes_at us ws))

-- a place is out of a set of places, and all others are as they were
abbrev pub IsCleared : ℕ → List ℕ → List ℕ → Type 0
IsCleared place old now =
    (length now ≡ length old) × ((i : ℕ) → bit_of now i ≡ (if place == i then 0 else bit_of old i))

-- a place is in a set of places, and all others are as they were
abbrev pub IsAdded : ℕ → List ℕ → List ℕ → Type 0
IsAdded place old now = (length now ≡ length old) × ((i : ℕ) → bit_of now i ≡ (if place == i then 1 else bit_of old i))
