-- Reading and writing members one after the other, as a loop does.
use Rattle.std.proofs.Common.{◌≡◌, ℕ, zero, suc, length, get_or, drop, subst, ◌-◌, ◌+◌, ◌≤◌, ◌<◌, List, [], ◌∷◌, ◌++◌, Result, Ok, Err, refl, sym, ap, ◌∙◌, append_assoc, arith, inl, inr}
use Rattle.std.proofs.lemmas.List.{append-nil}
use Rattle.scp_codec.specs.declared.error.Fault.{Fault}
use Rattle.scp_codec.specs.declared.error.CodecError.{CodecError}
use Rattle.scp_codec.specs.declared.error.CodecError.TheVariants as errors
use Rattle.scp_types.specs.Trees.{Members, none, node, inner, Slices, names_in, member_count, HasThreshold, HaveThresholds}
use Rattle.scp_types.specs.Shape.{members_of}
use Rattle.scp_types.specs.declared.nested.Member.{Member}
use Rattle.scp_types.specs.declared.nested.Member.TheVariants.{Node, Set}
use Rattle.scp_codec.specs.Steps.{◌>>=◌, Fails, Reads}
use Rattle.scp_codec.specs.Spelling.{members, slices}
use Rattle.scp_codec.specs.Parts.{Part, part_names, part_before, part_of_member}
use Rattle.scp_codec.specs.Reading.{member_at, member_list_at}

abbrev pub join : Members → Members → Members
join none others = others
join (node u rest) others = node u (join rest others)
join (inner k own rest) others = inner k own (join rest others)

abbrev pub single : Part → Members
single m = part_before m none

-- what was read before, and what is still read
abbrev pub with_front : Members → Result (Members × List ℕ) Fault → Result (Members × List ℕ) Fault
with_front front read = read >>= λ x. Ok (join front x.0, x.1)

pub join_none : (ms : Members) → join ms none ≡ ms
join_none none = refl
join_none (node u rest) = ap (node u) (join_none rest)
join_none (inner k own rest) = ap (inner k own) (join_none rest)

pub join_assoc : (a b c : Members) → join (join a b) c ≡ join a (join b c)
join_assoc none b c = refl
join_assoc (node u rest) b c = ap (node u) (join_assoc rest b c)
join_assoc (inner k own rest) b c = ap (inner k own) (join_assoc rest b c)

pub members_of-append : (xs ys : List Member) → members_of (xs ++ ys) ≡ join (members_of xs) (members_of ys)
members_of-append [] ys = refl
members_of-append (Node u ∷ rest) ys = ap (node u) (members_of-append rest ys)
members_of-append (Set s ∷ rest) ys = ap (inner s.threshold s.members) (members_of-append rest ys)

join_single : (m : Part) (ms : Members) → join (single m) ms ≡ part_before m ms
join_single (inl u) ms = refl
join_single (inr q) ms = refl

members_of-single : (m : Member) → members_of (m ∷ []) ≡ single (part_of_member m)
members_of-single (Node u) = refl
members_of-single (Set s) = refl

pub members_of-push : (ms : List Member) (m : Member) → members_of (ms ++ m ∷ []) ≡ join (members_of ms) (single (part_of_member m))
members_of-push ms m = members_of-append ms (m ∷ []) ∙ ap (join (members_of ms)) (members_of-single m)

pub names-join : (a b : Members) → names_in (join a b) ≡ names_in a ++ names_in b
names-join none b = refl
names-join (node u rest) b = ap (λ (t : List ℕ). u ∷ t) (names-join rest b)
names-join (inner t own rest) b = ap (λ (s : List ℕ). names_in own ++ s) (names-join rest b) ∙ sym (append_assoc (names_in own) (names_in rest) (names_in b))

names-single : (m : Part) → names_in (single m) ≡ part_names m
names-single (inl u) = refl
names-single (inr q) = append-nil (names_in q.members)

pub names-push : (ms : List Member) (m : Member) → names_in (members_of (ms ++ m ∷ [])) ≡ names_in (members_of ms) ++ part_names (part_of_member m)
names-push ms m = ap names_in (members_of-push ms m) ∙ names-join (members_of ms) (single (part_of_member m)) ∙ ap (λ (t : List ℕ). names_in (members_of ms) ++ t) (names-single (part_of_member m))

-- the names of one more member are noted behind those before
pub names_noted : (first seen next : List ℕ) (ms : List Member) (m : Member) → seen ≡ first ++ names_in (members_of ms) → next ≡ seen ++ part_names (part_of_member m) → next ≡ first ++ names_in (members_of (ms ++ m ∷ []))
names_noted first seen next ms m e f =
    f ∙ ap (λ (s : List ℕ). s ++ part_names (part_of_member m)) e ∙ append_assoc first (names_in (members_of ms)) (part_names (part_of_member m)) ∙ ap (λ (s : List ℕ). first ++ s) (sym (names-push ms m))

abbrev behind : Part → Members × List ℕ → Result ((Part × Members) × List ℕ) Fault
behind m x = Ok ((m, x.0), x.1)

abbrev put_all : (Part × Members) × List ℕ → Result (Members × List ℕ) Fault
put_all y = Ok (part_before y.0.0 y.0.1, y.1)

regroup : (front : Members) (m : Part) (read : Result (Members × List ℕ) Fault) → with_front front ((read >>= behind m) >>= put_all) ≡ with_front (join front (single m)) read
regroup front m (Ok x) = ap (λ (ms : Members). Ok (ms, x.1)) (ap (join front) (sym (join_single m x.0)) ∙ sym (join_assoc front (single m) x.0))
regroup front m (Err f) = refl

pub goes_on : (set_of : List ℕ → Reads Slices) (front : Members) (count i : ℕ) (seen names : List ℕ) (bytes : List ℕ) (m : Part) (after : List ℕ) (total : Result (Members × List ℕ) Fault) → i < count → member_at set_of seen bytes ≡ Ok (m, after) → names ≡ seen ++ part_names m
    → with_front front (member_list_at set_of (count - i) seen bytes) ≡ total → with_front (join front (single m)) (member_list_at set_of (count - (i + 1)) names after) ≡ total
unfolding member_list_at
goes_on set_of front count i seen names bytes m after total lt h n so_far =
    let k : count - i ≡ suc (count - (i + 1)) = omega arith in
    let e : with_front front (member_list_at set_of (count - i) seen bytes) ≡ with_front (join front (single m)) (member_list_at set_of (count - (i + 1)) (seen ++ part_names m) after) = rw (k, h) (regroup front m (member_list_at set_of (count - (i + 1)) (seen ++ part_names m) after)) in
    rw n (sym e ∙ so_far)

pub ends : (set_of : List ℕ → Reads Slices) (e : CodecError) (front : Members) (count i : ℕ) (seen : List ℕ) (bytes : List ℕ) (total : Result (Members × List ℕ) Fault) → i < count → Fails e (member_at set_of seen bytes)
    → with_front front (member_list_at set_of (count - i) seen bytes) ≡ total → Fails e total
unfolding member_list_at
ends set_of errors.NoMemory front count i seen bytes total lt h so_far = tt
ends set_of (errors.Fault f) front count i seen bytes total lt h so_far =
    let k : count - i ≡ suc (count - (i + 1)) = omega arith in
    let one : with_front front (member_list_at set_of (count - i) seen bytes) ≡ Err f = rw (k, h) refl in
    sym so_far ∙ one

pub is_done : (set_of : List ℕ → Reads Slices) (front : Members) (count i : ℕ) (seen : List ℕ) (bytes : List ℕ) (total : Result (Members × List ℕ) Fault) → count ≤ i → with_front front (member_list_at set_of (count - i) seen bytes) ≡ total → total ≡ Ok (front, bytes)
unfolding member_list_at
is_done set_of front count i seen bytes total le so_far =
    let k : count - i ≡ 0 = omega arith in
    let one : with_front front (member_list_at set_of (count - i) seen bytes) ≡ Ok (front, bytes) = rw k (ap (λ (ms : Members). Ok (ms, bytes)) (join_none front)) in
    sym so_far ∙ one

-- the inner sets among members that keep their thresholds keep them
pub inner_keeps_rules : (ms : List Member) (i : ℕ) (m : Member) (s : Slices) → i < length ms → m ≡ get_or ms i m → m ≡ Set s → HaveThresholds (members_of (drop i ms)) → HasThreshold s.threshold s.members × HaveThresholds s.members
inner_keeps_rules [] i m s lt e f h = absurd (omega arith)
inner_keeps_rules (x ∷ rest) zero m s lt e f h =
    let same : x ≡ Set s = sym e ∙ f in
    let k : HaveThresholds (members_of (Set s ∷ rest)) = subst (λ (y : Member). HaveThresholds (members_of (y ∷ rest))) same h in
    (k.0, k.1)
inner_keeps_rules (x ∷ rest) (suc i) m s lt e f h = inner_keeps_rules rest i m s (omega arith) e f h

-- a threshold and a count are written before the members
pub set_begun : (out one two : List ℕ) (k n : ℕ) (q : Slices) (ms : Members) → one ≡ out ++ k ∷ [] → two ≡ one ++ n ∷ [] → k ≡ q.threshold → n ≡ member_count q.members → ms ≡ q.members → two ++ members ms ≡ out ++ slices q
set_begun out one two k n q ms e f g h i = rw (f, e, g, h, i) (simp append_assoc)
