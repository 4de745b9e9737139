-- The numbers of slices stand for them.
use Rattle.std.proofs.Common.{◌≡◌, ℕ, zero, suc, ◌+◌, ◌-◌, ◌<◌, ◌≤◌, true, false, ◌==◌, cond, List, [], ◌∷◌, ◌++◌, length, get_or, set, drop, map, append-nil, refl, sym, ◌∙◌, ap, subst, inl, inr, arith, eq-eqb}
use Rattle.std.specs.Prelude.{All}
use Rattle.std.proofs.lemmas.Bool.{cases_lt, cases_Bool, false≢true, eqb-true, or_cases}
use Rattle.std.proofs.lemmas.Bool.Decides.{nat_tests}
use Rattle.std.proofs.lemmas.List.{length-append, get_or_append_left, get_or-append_right, drop_more, drop_all}
use Rattle.std.proofs.Math.Seq.{set-append_seam}
use mathlib.Core.List.{append_assoc}
use Rattle.scp_types.specs.Trees.{Members, none, node, inner, Slices, names_in, IsNested}
use Rattle.scp_types.specs.Shape.{members_of}
use Rattle.scp_types.specs.declared.nested.Member.{Member}
use Rattle.scp_types.specs.declared.nested.Member.TheVariants.{Node, Set}
use Rattle.scp_spec.specs.Sets.{among, AreWithin, IsAscending}
use Rattle.scp_spec.specs.Satisfaction.{names}
use Rattle.scp_spec.proofs.Sets.Finite.{among_head, among_tail, among_left, among_right}
use Rattle.scp_federation.specs.declared.flat_set.FlatMember.{FlatMember}
use Rattle.scp_federation.specs.declared.flat_set.FlatMember.TheVariants.{Name, Inner}
use Rattle.scp_federation.specs.Numbers.{Level, member_by, set_by, sets_from, set_at, IsNumber, AreNumbers, IsFlat, count_inner_sets, place_of_name, flat_members, flat_levels, levels_of}

-- ---- places of names
pub placed : (xs : List ℕ) (x i : ℕ) → IsAscending xs → i < length xs → get_or xs i 0 ≡ x → i ≡ place_of_name xs x
placed [] x i up h e = absurd (omega arith)
placed (y ∷ ys) x zero up h e = let same : (y == x) ≡ true = eq-eqb y x e in rw (same) refl
placed (y ∷ ys) x (suc i) up h e =
    let below : y < get_or ys i 0 = up 0 (suc i) 0 (omega arith) (omega arith) in
    let other : (y == x) ≡ false = grind (arith, nat_tests) in
    rw (other) (ap suc (placed ys x i (λ j k d l m. up (suc j) (suc k) d (omega arith) (omega arith)) (omega arith) e))

pub has_place : (xs : List ℕ) (x : ℕ) → among xs x ≡ true → (place_of_name xs x < length xs) × (get_or xs (place_of_name xs x) 0 ≡ x)
has_place [] x h = absurd (false≢true h)
has_place (y ∷ ys) x h = elim (cases_Bool (y == x)) [
  | inl e ↦ rw (e) (omega arith, eqb-true y x e)
  | inr e ↦ elim (or_cases (y == x) (among ys x) h) [
    | inl same ↦ absurd (false≢true (sym e ∙ same))
    | inr later ↦ let r = has_place ys x later in rw (e) (omega (arith, r.0), r.1)
  ]
]

-- ---- sets that are added
pub length-levels_in : (us : List ℕ) (n : ℕ) (ms : Members) → length (flat_levels us n ms) ≡ count_inner_sets ms
length-levels_in us n none = refl
length-levels_in us n (node u rest) = length-levels_in us n rest
length-levels_in us n (inner k own rest) =
    omega (arith, length-append (flat_levels us (suc n) own) (flat_levels us (suc n + count_inner_sets own) rest), length-levels_in us (suc n) own, length-levels_in us (suc n + count_inner_sets own) rest)

-- ---- what the numbers stand for
pass_over : (us : List ℕ) (first : ℕ) (sets later : List Level) (m n : ℕ) → m ≡ first + length sets → m ≤ n → sets_from us first (sets ++ later) n ≡ sets_from us m later n
pass_over us first [] later m n e h = let m_is : first ≡ m = omega (arith, e) in rw (m_is) refl
pass_over us first (s ∷ sets) later m n e h =
    let other : (first == n) ≡ false = grind (arith, nat_tests) in
    rw (other) (pass_over us (suc first) sets later m n (omega (arith, e)) h)

again : (ms : Members) (us : List ℕ) (n : ℕ) (after : List Level) (f : ℕ → Slices) → AreWithin (among (names_in ms)) (among us)
    → ((m : ℕ) → n ≤ m → f m ≡ sets_from us n (flat_levels us n ms ++ after) m) → members_of (map (member_by us f) (flat_members us n ms)) ≡ ms
again none us n after f known is = refl
again (node u rest) us n after f known is =
    let here = (has_place us u (known u (among_head u (names_in rest)))).1 in
    let later = again rest us n after f (λ w i. known w (among_tail u w (names_in rest) i)) is in
    λ j. node (here j) (later j)
again (inner k own rest) us n after f known is =
    let own_sets = flat_levels us (suc n) own in
    let m = suc n + count_inner_sets own in
    let rest_sets = flat_levels us m rest in
    let level : Level = record { threshold = k; members = flat_members us (suc n) own } in
    let g = sets_from us (suc n) (own_sets ++ rest_sets ++ after) in
    let inside : members_of (map (member_by us g) (flat_members us (suc n) own)) ≡ own = again own us (suc n) (rest_sets ++ after) g
    (λ w i. known w (among_left (names_in own) (names_in rest) w i))
    (λ x l. ap (λ (xs : List Level). sets_from us (suc n) xs x) (append_assoc own_sets rest_sets after)) in
    let same : (n == n) ≡ true = eq-eqb n n refl in
    let here : f n ≡ record { threshold = k; members = own } =
    is n (omega arith) ∙ (ap (λ x. cond x (set_by us g level) (g n)) same ∙ ap (λ (ms : Members). record { threshold = k; members = ms }) inside) in
    let later : members_of (map (member_by us f) (flat_members us m rest)) ≡ rest = again rest us m after f
    (λ w i. known w (among_right (names_in own) (names_in rest) w i))
    (λ x l. is x (omega (arith, l)) ∙ (ap (λ (xs : List Level). sets_from us n (level ∷ xs) x) (append_assoc own_sets rest_sets after)
    ∙ pass_over us n (level ∷ own_sets) (rest_sets ++ after) m x (omega (arith, length-levels_in us (suc n) own)) l)) in
    λ j. inner (here j).threshold (here j).members (later j)

pub levels_stand : (q : Slices) (us : List ℕ) → AreWithin (among (names q)) (among us) → set_at us (levels_of us 0 q) 0 ≡ q
levels_stand q us known =
    let sets = flat_levels us 1 q.members in
    let inside = again q.members us 1 [] (sets_from us 1 sets) known (λ x l. ap (λ (xs : List Level). sets_from us 1 xs x) (sym (append-nil sets))) in
    λ j. record { threshold = q.threshold; members = inside j }

-- ---- and each is the number of a name or of a later set
are_numbers : (ms : Members) (us : List ℕ) (n total own : ℕ) → AreWithin (among (names_in ms)) (among us) → n + count_inner_sets ms ≤ total → own < n
    → All (IsNumber (length us) total own) (flat_members us n ms)
are_numbers none us n total own known fits l i d h = absurd (omega arith)
are_numbers (node u rest) us n total own known fits l zero d h = (has_place us u (known u (among_head u (names_in rest)))).0
are_numbers (node u rest) us n total own known fits l (suc i) d h =
    are_numbers rest us n total own (λ w e. known w (among_tail u w (names_in rest) e)) fits l i d (omega arith)
are_numbers (inner k ms rest) us n total own known fits l zero d h = (l, omega (arith, fits))
are_numbers (inner k ms rest) us n total own known fits l (suc i) d h =
    are_numbers rest us (suc n + count_inner_sets ms) total own (λ w e. known w (among_right (names_in ms) (names_in rest) w e)) (omega (arith, fits)) (omega (arith, l)) i d (omega arith)

levels_fit : (ms : Members) (us : List ℕ) (n total : ℕ) → AreWithin (among (names_in ms)) (among us) → n + count_inner_sets ms ≤ total
    → (i own : ℕ) (d : Level) → own ≡ n + i → i < length (flat_levels us n ms) → All (IsNumber (length us) total own) (get_or (flat_levels us n ms) i d).members
levels_fit none us n total known fits i own d e h = absurd (omega arith)
levels_fit (node u rest) us n total known fits i own d e h =
    levels_fit rest us n total (λ w x. known w (among_tail u w (names_in rest) x)) fits i own d e h
levels_fit (inner k ms rest) us n total known fits zero own d e h =
    are_numbers ms us (suc n) total own (λ w x. known w (among_left (names_in ms) (names_in rest) w x)) (omega (arith, fits)) (omega (arith, e))
levels_fit (inner k ms rest) us n total known fits (suc i) own d e h =
    let own_sets = flat_levels us (suc n) ms in
    let m = suc n + count_inner_sets ms in
    let rest_sets = flat_levels us m rest in
    let all = length-append own_sets rest_sets in
    let counted = length-levels_in us (suc n) ms in
    elim (cases_lt i (length own_sets)) [
      | inl l ↦ subst (λ (s : Level). All (IsNumber (length us) total own) s.members) (sym (get_or_append_left own_sets rest_sets d i l))
          (levels_fit ms us (suc n) total (λ w x. known w (among_left (names_in ms) (names_in rest) w x)) (omega (arith, fits)) i own d (omega (arith, e)) l)
      | inr l ↦ subst (λ (s : Level). All (IsNumber (length us) total own) s.members) (sym (get_or-append_right own_sets rest_sets (length own_sets) i d refl l))
          (levels_fit rest us m total (λ w x. known w (among_right (names_in ms) (names_in rest) w x)) (omega (arith, fits)) (i - length own_sets) own d (omega (arith, e, l, counted)) (omega (arith, h, l, all)))
    ]

levels_are_numbers : (q : Slices) (us : List ℕ) → AreWithin (among (names q)) (among us) → AreNumbers us (levels_of us 0 q)
levels_are_numbers q us known zero d h =
    are_numbers q.members us 1 (length (levels_of us 0 q)) 0 known (omega (arith, length-levels_in us 1 q.members)) (omega arith)
levels_are_numbers q us known (suc i) d h =
    levels_fit q.members us 1 (length (levels_of us 0 q)) known (omega (arith, length-levels_in us 1 q.members)) i (suc i) d (omega arith) (omega arith)

-- slices that keep the rules are flat so
pub levels_are_flat : (q : Slices) (us : List ℕ) → IsNested q → IsAscending us → ((u : ℕ) → among us u ≡ among (names q) u) → IsFlat us (levels_of us 0 q)
levels_are_flat q us rules up same =
    let known : AreWithin (among (names q)) (among us) = λ u i. same u ∙ i in
    let stands = levels_stand q us known in
    record {
      outermost = omega arith;
      numbers = levels_are_numbers q us known;
      ascending = up;
      table = λ u. same u ∙ ap (λ (x : Slices). among (names x) u) (sym stands);
      rules = subst IsNested (sym stands) rules;
    }

-- ---- one step of the walk over the members in memory
pub next_node : (ms : List Member) (i : ℕ) (m : Member) (u : ℕ) → i < length ms → m ≡ get_or ms i m → m ≡ Node u → drop i ms ≡ Node u ∷ drop (i + 1) ms
next_node ms i m u h is e = drop_more ms i m h ∙ ap (λ (x : Member). x ∷ drop (i + 1) ms) (sym is ∙ e)

pub next_set : (ms : List Member) (i : ℕ) (m : Member) (s : Slices) → i < length ms → m ≡ get_or ms i m → m ≡ Set s → drop i ms ≡ Set s ∷ drop (i + 1) ms
next_set ms i m s h is e = drop_more ms i m h ∙ ap (λ (x : Member). x ∷ drop (i + 1) ms) (sym is ∙ e)

pub node_step : (us : List ℕ) (tree : List Member) (i u : ℕ) (all : List FlatMember) (every : List Level) (ms more : List FlatMember) (sets same : List Level)
    → drop i tree ≡ Node u ∷ drop (i + 1) tree → more ≡ ms ++ Name (place_of_name us u) ∷ [] → same ≡ sets
    → ms ++ flat_members us (length sets) (members_of (drop i tree)) ≡ all → sets ++ flat_levels us (length sets) (members_of (drop i tree)) ≡ every
    → (length sets ≤ length same) × ((more ++ flat_members us (length same) (members_of (drop (i + 1) tree)) ≡ all) × (same ++ flat_levels us (length same) (members_of (drop (i + 1) tree)) ≡ every))
node_step us tree i u all every ms more sets same e f g h k =
    let left = drop (i + 1) tree in
    let as_many : length same ≡ length sets = ap (λ (xs : List Level). length xs) g in (
      omega (arith, as_many),
      (
        (λ j. f j ++ flat_members us (as_many j) (members_of left))
            ∙ (append_assoc ms (Name (place_of_name us u) ∷ []) (flat_members us (length sets) (members_of left))
            ∙ (ap (λ (xs : List Member). ms ++ flat_members us (length sets) (members_of xs)) (sym e) ∙ h)),
        (λ j. g j ++ flat_levels us (as_many j) (members_of left)) ∙ (ap (λ (xs : List Member). sets ++ flat_levels us (length sets) (members_of xs)) (sym e) ∙ k),
      ),
    )

pub set_step : (us : List ℕ) (tree : List Member) (i : ℕ) (s : Slices) (all : List FlatMember) (every : List Level) (ms more : List FlatMember) (sets added : List Level)
    → drop i tree ≡ Set s ∷ drop (i + 1) tree → more ≡ ms ++ Inner (length sets) ∷ [] → added ≡ sets ++ levels_of us (length sets) s
    → ms ++ flat_members us (length sets) (members_of (drop i tree)) ≡ all → sets ++ flat_levels us (length sets) (members_of (drop i tree)) ≡ every
    → (length sets ≤ length added) × ((more ++ flat_members us (length added) (members_of (drop (i + 1) tree)) ≡ all) × (added ++ flat_levels us (length added) (members_of (drop (i + 1) tree)) ≡ every))
set_step us tree i s all every ms more sets added e f g h k =
    let left = drop (i + 1) tree in
    let n = length sets in
    let m = suc n + count_inner_sets s.members in
    let counted : length added ≡ m =
    omega (arith, ap (λ (xs : List Level). length xs) g, length-append sets (levels_of us n s), length-levels_in us (suc n) s.members) in (
      omega (arith, counted),
      (
        (λ j. f j ++ flat_members us (counted j) (members_of left))
            ∙ (append_assoc ms (Inner n ∷ []) (flat_members us m (members_of left)) ∙ (ap (λ (xs : List Member). ms ++ flat_members us n (members_of xs)) (sym e) ∙ h)),
        (λ j. g j ++ flat_levels us (counted j) (members_of left))
            ∙ (append_assoc sets (levels_of us n s) (flat_levels us m (members_of left)) ∙ (ap (λ (xs : List Member). sets ++ flat_levels us n (members_of xs)) (sym e) ∙ k)),
      ),
    )

-- once all members are there, their sets take the place that was kept
pub all_pushed : (us : List ℕ) (tree : List Member) (i n : ℕ) (q : Slices) (kept : Level) (ms : List FlatMember) (before sets : List Level) → length tree ≤ i → n ≡ length before
    → ms ++ flat_members us (length sets) (members_of (drop i tree)) ≡ flat_members us (n + 1) q.members
    → sets ++ flat_levels us (length sets) (members_of (drop i tree)) ≡ before ++ kept ∷ flat_levels us (n + 1) q.members
    → set sets n (record { threshold = q.threshold; members = ms }) ≡ before ++ levels_of us (length before) q
all_pushed us tree i n q kept ms before sets h e f g =
    let none_left : drop i tree ≡ [] = drop_all i tree h in
    let next : n + 1 ≡ suc (length before) = omega (arith, e) in
    let ms_is : ms ≡ flat_members us (suc (length before)) q.members =
    sym (append-nil ms) ∙ (ap (λ (xs : List Member). ms ++ flat_members us (length sets) (members_of xs)) (sym none_left) ∙ (f ∙ ap (λ x. flat_members us x q.members) next)) in
    let sets_are : sets ≡ before ++ kept ∷ flat_levels us (suc (length before)) q.members =
    sym (append-nil sets) ∙ (ap (λ (xs : List Member). sets ++ flat_levels us (length sets) (members_of xs)) (sym none_left)
    ∙ (g ∙ ap (λ x. before ++ kept ∷ flat_levels us x q.members) next)) in
    (λ j. set (sets_are j) (e j) (record { threshold = q.threshold; members = ms_is j }))
    ∙ set-append_seam before kept (flat_levels us (suc (length before)) q.members) (record { threshold = q.threshold; members = flat_members us (suc (length before)) q.members })

names_behind : (ms : List Member) (i u : ℕ) → among (names_in (members_of (drop i ms))) u ≡ true → among (names_in (members_of ms)) u ≡ true
names_behind ms zero u h = h
names_behind [] (suc i) u h = h
names_behind (Node w ∷ ms) (suc i) u h = among_tail w u (names_in (members_of ms)) (names_behind ms i u h)
names_behind (Set s ∷ ms) (suc i) u h = among_right (names_in s.members) (names_in (members_of ms)) u (names_behind ms i u h)

-- a member's names are among those of the set
pub node_within : (ms : List Member) (i u : ℕ) → drop i ms ≡ Node u ∷ drop (i + 1) ms → among (names_in (members_of ms)) u ≡ true
node_within ms i u e =
    names_behind ms i u (ap (λ (xs : List Member). among (names_in (members_of xs)) u) e ∙ among_head u (names_in (members_of (drop (i + 1) ms))))

pub set_within : (ms : List Member) (i u : ℕ) (s : Slices) → drop i ms ≡ Set s ∷ drop (i + 1) ms → among (names_in s.members) u ≡ true → among (names_in (members_of ms)) u ≡ true
set_within ms i u s e h =
    names_behind ms i u (ap (λ (xs : List Member). among (names_in (members_of xs)) u) e ∙ among_left (names_in s.members) (names_in (members_of (drop (i + 1) ms))) u h)
