-- What the numbers of a list of sets stand for.
use Rattle.std.proofs.Common.{◌≡◌, ℕ, zero, suc, ◌+◌, ◌<◌, ◌≤◌, true, false, ◌==◌, List, [], ◌∷◌, length, get_or, drop, map, refl, sym, ◌∙◌, ap, subst, arith}
use Rattle.std.specs.Prelude.{All}
use Rattle.std.proofs.lemmas.Bool.Decides.{nat_tests}
use Rattle.scp_types.specs.Trees.{Slices}
use Rattle.scp_types.specs.Shape.{members_of}
use Rattle.scp_types.specs.declared.nested.Member.{Member}
use Rattle.scp_types.specs.declared.nested.Member.TheVariants.{Node, Set}
use Rattle.scp_federation.specs.declared.flat_set.FlatMember.{FlatMember}
use Rattle.scp_federation.specs.declared.flat_set.FlatMember.TheVariants.{Name, Inner}
use Rattle.scp_federation.specs.Numbers.{Level, member_by, set_by, sets_from, set_at, IsNumber, AreNumbers}

-- a set stands for what its members stand for among those behind it
stands : (us : List ℕ) (first : ℕ) (sets : List Level) (i n : ℕ) (d : Level) → n ≡ first + i → i < length sets
    → sets_from us first sets n ≡ set_by us (sets_from us (suc n) (drop (suc i) sets)) (get_or sets i d)
stands us first [] i n d e h = absurd (omega arith)
stands us first (s ∷ later) zero n d e h =
    let first_is : first ≡ n = omega (arith, e) in
    let same : (first == n) ≡ true = grind (arith, nat_tests) in
    rw (same, first_is) refl
stands us first (s ∷ later) (suc i) n d e h =
    let other : (first == n) ≡ false = grind (arith, nat_tests) in
    rw (other) (stands us (suc first) later i n d (omega (arith, e)) (omega arith))

-- numbers of later sets are looked up among those
among_later : (us : List ℕ) (first : ℕ) (sets : List Level) (j m n : ℕ) → m ≡ first + j → j ≤ length sets → m ≤ n
    → sets_from us first sets n ≡ sets_from us m (drop j sets) n
among_later us first sets zero m n e h k = let m_is : m ≡ first = omega (arith, e) in rw (m_is) refl
among_later us first [] (suc j) m n e h k = absurd (omega arith)
among_later us first (s ∷ later) (suc j) m n e h k =
    let other : (first == n) ≡ false = grind (arith, nat_tests) in
    rw (other) (among_later us (suc first) later j m n (omega (arith, e)) (omega arith) k)

pub same_members : (us : List ℕ) (f g : ℕ → Slices) (names sets own : ℕ) (ms : List FlatMember) → All (IsNumber names sets own) ms
    → ((n : ℕ) → own < n → f n ≡ g n) → map (member_by us f) ms ≡ map (member_by us g) ms
same_members us f g names sets own [] h e = refl
same_members us f g names sets own (Name i ∷ ms) h e =
    ap (λ (rest : List Member). Node (get_or us i 0) ∷ rest) (same_members us f g names sets own ms (λ k d l. h (suc k) d (omega arith)) e)
same_members us f g names sets own (Inner n ∷ ms) h e =
    let first : IsNumber names sets own (Inner n) = h 0 (Inner n) (omega arith) in
    let rest = same_members us f g names sets own ms (λ k d l. h (suc k) d (omega arith)) e in
    ap (λ (s : Slices). Set s ∷ map (member_by us f) ms) (e n first.0) ∙ ap (λ (ns : List Member). Set (g n) ∷ ns) rest

-- what a number stands for is its set, by what all numbers stand for
pub unfolds : (us : List ℕ) (sets : List Level) (n : ℕ) (d : Level) → n < length sets → AreNumbers us sets
    → set_at us sets n ≡ set_by us (set_at us sets) (get_or sets n d)
unfolds us sets n d h numbers =
    let behind : (m : ℕ) → n < m → sets_from us (suc n) (drop (suc n) sets) m ≡ set_at us sets m = λ m l. sym (among_later us 0 sets (suc n) (suc n) m (omega arith) (omega arith) (omega arith)) in
    stands us 0 sets n n d (omega arith) h
    ∙ ap (λ (ms : List Member). record { threshold = (get_or sets n d).threshold; members = members_of ms })
    (same_members us (sets_from us (suc n) (drop (suc n) sets)) (set_at us sets) (length us) (length sets) n (get_or sets n d).members (numbers n d h) behind)

-- the same, where the set and its members are at hand
pub stands_for : (us : List ℕ) (sets : List Level) (n : ℕ) (set : Level) (ms : List FlatMember) → n < length sets → AreNumbers us sets → set ≡ get_or sets n set → ms ≡ set.members
    → set_at us sets n ≡ set_by us (set_at us sets) (record { threshold = set.threshold; members = ms })
stands_for us sets n set ms h numbers is own =
    unfolds us sets n set h numbers
    ∙ (ap (λ (s : Level). set_by us (set_at us sets) s) (sym is) ∙ ap (λ (xs : List FlatMember). set_by us (set_at us sets) (record { threshold = set.threshold; members = xs })) (sym own))

-- and the member at an index has a number
pub number_at : (us : List ℕ) (sets : List Level) (n : ℕ) (set : Level) (ms : List FlatMember) (i : ℕ) (m : FlatMember) → n < length sets → AreNumbers us sets → set ≡ get_or sets n set
    → ms ≡ set.members → i < length ms → get_or ms i (Name 0) ≡ m → IsNumber (length us) (length sets) n m
number_at us sets n set ms i m h numbers is own l e =
    let own_is : (get_or sets n set).members ≡ ms = ap (λ (s : Level). s.members) (sym is) ∙ sym own in
    let each : All (IsNumber (length us) (length sets) n) ms = subst (λ (xs : List FlatMember). All (IsNumber (length us) (length sets) n) xs) own_is (numbers n set h) in
    subst (λ (x : FlatMember). IsNumber (length us) (length sets) n x) e (each i (Name 0) l)
