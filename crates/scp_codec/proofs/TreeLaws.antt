-- The laws of slices: read, spelled, refused and shown.
use Rattle.std.proofs.Common.{◌≡◌, ◌≢◌, ℕ, zero, suc, ◌<◌, ◌≤◌, Bool, true, false, cond, eqb, ltb, ◌==◌, if◌then◌else◌, get_or, List, [], ◌∷◌, ◌++◌, length, Option, Some, None, Result, Ok, Err, refl, sym, ap, subst, ◌∙◌, append_assoc, length-append, arith, inl, inr}
use Rattle.std.specs.List.{AllByRecursion}
use Rattle.std.proofs.lemmas.Bool.{ltb-false, le-ltb, false≢true}
use Rattle.std.proofs.lemmas.Bool.Decides.{nat_tests}
use Rattle.std.proofs.lemmas.List.{append-nil, get_or_append_left}
use Rattle.std.proofs.lemmas.List.Quantifiers.{all_pairs_push}
use Rattle.std.proofs.lemmas.List.Folds.{list_any_at, list_any_none}
use Rattle.std.proofs.Math.Seq.{get_or-append_seam}
use Rattle.scp_codec.specs.declared.error.Fault.{Fault}
use Rattle.scp_codec.specs.declared.error.Fault.TheVariants.{Truncated, Limit, BadSlices, SpareVersion}
use Rattle.scp_types.specs.Trees.{Members, none, node, inner, Slices, member_count, names_in, depth_of, IsName, HasThreshold, IsNested, most_levels}
use Rattle.scp_codec.specs.Formats.{ValidThen, ValidJudged}
use Rattle.scp_codec.specs.Faults.{header_fault, is_among, name_fault, spare_fault}
use Rattle.scp_codec.specs.Spelling.{name, members, slices, first_levels, version_of}
use Rattle.scp_codec.specs.Parts.{Part, part_names, part_before}
use Rattle.scp_codec.specs.Reading.{new_name_at, member_at, member_list_at, header_at, set_with, inner_at, nested_at, slices_at}
use Rattle.scp_codec.specs.Grammar.{header, IsHeader, ShowsHeader, AreNames, IsTree, IsPart, part, ShowsName, ShowsPart, ShowsParts, ShowsSet, ShowsInner, ShowsSlices, levels_in, HasLevels, IsInVersion}
use Rattle.scp_codec.proofs.FieldLaws.{Takes, ok_is}
use Rattle.scp_codec.proofs.FormatLaws.{ValidAs, ValidEither, Laws, Laws-then, Laws-quiet, Laws-judged, Laws-as, Laws-when, Laws-either, Laws-fail, Laws-byte}
use Rattle.scp_codec.proofs.NameLaws.{Laws-name}

-- ---- judgements by one test after another
pub cleared : (b : Bool) (f : Fault) (others : Option Fault) → cond b (Some f) others ≡ None → (b ≡ false) × (others ≡ None)
cleared true f others e = absurd cc
cleared false f others e = (refl, e)

pub never_cut : (b : Bool) (f : Fault) (others : Option Fault) → f ≢ Truncated → others ≢ Some Truncated → cond b (Some f) others ≢ Some Truncated
never_cut true f others h k = λ e. h (some_is f Truncated e)
  where
    some_is : (c d : Fault) → Some c ≡ Some d → c ≡ d
    some_is c d e = cc
never_cut false f others h k = k

abbrev stood : Option Fault
stood = None

pub none_cut : stood ≢ Some Truncated
none_cut e = cc

pub bad_slices_cut : BadSlices ≢ Truncated
bad_slices_cut e = cc

pub limit_cut : Limit ≢ Truncated
limit_cut e = cc

some : (n : ℕ) → eqb n 0 ≡ false → 0 < n
some n e = grind (arith, nat_tests)

not_zero : (n : ℕ) → 0 < n → eqb n 0 ≡ false
not_zero n h = grind (arith, nat_tests)

-- ---- a threshold and a count
header_cut : (h : ℕ × ℕ) → header_fault h ≢ Some Truncated
header_cut h =
    never_cut (eqb h.0 0) BadSlices _ bad_slices_cut (never_cut (ltb h.1 h.0) BadSlices _ bad_slices_cut (never_cut (ltb 64 h.1) Limit None limit_cut none_cut))

Laws-header : Laws header_at header IsHeader ShowsHeader
unfolding header_at
Laws-header = Laws-judged (Laws-quiet Laws-byte (λ k v. Laws-byte)) header_fault header_cut

header_is : (k n : ℕ) → IsHeader (k, n) → (0 < k) × (k ≤ n) × (n ≤ 64)
header_is k n v =
    let a = cleared (eqb k 0) BadSlices (cond (ltb n k) (Some BadSlices) (cond (ltb 64 n) (Some Limit) None)) v.1 in
    let b = cleared (ltb n k) BadSlices (cond (ltb 64 n) (Some Limit) None) a.1 in
    let c = cleared (ltb 64 n) Limit None b.1 in
    (some k a.0, ltb-false _ _ b.0, ltb-false _ _ c.0)

header_from : (k n : ℕ) → 0 < k → k ≤ n → n ≤ 64 → IsHeader (k, n)
header_from k n h i j = ((tt, tt), rw (not_zero k h, le-ltb _ _ i, le-ltb _ _ j) refl)

-- ---- names
all_front : (P : ℕ → Type 0) (xs ys : List ℕ) → AllByRecursion P (xs ++ ys) → AllByRecursion P xs × AllByRecursion P ys
all_front P [] ys h = (tt, h)
all_front P (x ∷ xs) ys h = let r = all_front P xs ys h.1 in ((h.0, r.0), r.1)

all_append : (P : ℕ → Type 0) (xs ys : List ℕ) → AllByRecursion P xs → AllByRecursion P ys → AllByRecursion P (xs ++ ys)
all_append P [] ys h k = k
all_append P (x ∷ xs) ys h k = (h.0, all_append P xs ys h.1 k)

names_front : (xs ys : List ℕ) → AreNames (xs ++ ys) → AreNames xs
names_front xs ys s = record {
  few = omega (arith, length-append xs ys, s.few);
  differ = λ i j d lt h e. s.differ i j d lt (omega (arith, length-append xs ys)) (get_or_append_left xs ys d i (omega arith) ∙ e ∙ sym (get_or_append_left xs ys d j h));
  fit = (all_front IsName xs ys s.fit).0;
}

not_among : (seen : List ℕ) (u : ℕ) → is_among seen u ≡ false → (k : ℕ) (d : ℕ) → k < length seen → get_or seen k d ≢ u
not_among seen u e k d lt same =
    false≢true (sym e ∙ list_any_at (λ w. eqb w u) seen k d lt (equal (get_or seen k d) u same))
  where
    equal : (m n : ℕ) → m ≡ n → eqb m n ≡ true
    equal m n e = grind (arith, nat_tests)

among_none : (seen : List ℕ) (u : ℕ) → AreNames (seen ++ u ∷ []) → is_among seen u ≡ false
among_none seen u s = list_any_none (λ w. eqb w u) seen (λ k d lt. other (get_or seen k d) u (λ e. differs k d lt e))
  where
    other : (m n : ℕ) → m ≢ n → eqb m n ≡ false
    other m n h = grind (arith, nat_tests)

    differs : (k d : ℕ) → k < length seen → get_or seen k d ≡ u → ⊥
    differs k d lt e = s.differ k (length seen) d lt (omega (arith, length-append seen (u ∷ []))) (get_or_append_left seen (u ∷ []) d k lt ∙ e ∙ sym (get_or-append_seam seen u [] d))

fewer : (n : ℕ) → eqb n 256 ≡ false → n ≤ 256 → n < 256
fewer n e h = grind (arith, nat_tests)

not_full : (n m : ℕ) → n < m → m ≤ 256 → eqb n 256 ≡ false
not_full n m h k = grind (arith, nat_tests)

abbrev IsNewName : List ℕ → ℕ → Type 0
IsNewName seen = ValidJudged IsName (name_fault seen)

name_joins : (seen : List ℕ) (u : ℕ) → AreNames seen → IsNewName seen u → AreNames (seen ++ u ∷ [])
name_joins seen u known v =
    let a = cleared (eqb (length seen) 256) Limit (cond (is_among seen u) (Some BadSlices) None) v.1 in
    let b = cleared (is_among seen u) BadSlices None a.1 in
    record {
      few = let room : length seen < 256 = fewer (length seen) a.0 known.few in omega (arith, length-append seen (u ∷ []));
      differ = all_pairs_push (λ a w. a ≢ w) seen u known.differ (not_among seen u b.0);
      fit = all_append IsName seen (u ∷ []) known.fit (v.0, tt);
    }

name_joined : (seen : List ℕ) (u : ℕ) → AreNames (seen ++ u ∷ []) → IsNewName seen u
name_joined seen u s =
    let room : eqb (length seen) 256 ≡ false = not_full (length seen) (length (seen ++ u ∷ [])) (omega (arith, length-append seen (u ∷ []))) s.few in
    ((all_front IsName seen (u ∷ []) s.fit).1.0, rw (room, among_none seen u s) refl)

name_cut : (seen : List ℕ) (u : ℕ) → name_fault seen u ≢ Some Truncated
name_cut seen u = never_cut (eqb (length seen) 256) Limit _ limit_cut (never_cut (is_among seen u) BadSlices None bad_slices_cut none_cut)

Laws-new_name : (seen : List ℕ) → Laws (new_name_at seen) name (IsNewName seen) (ShowsName seen)
unfolding new_name_at
Laws-new_name seen = Laws-judged Laws-name (name_fault seen) (name_cut seen)

-- ---- a member
-- the laws of inner sets, with so many levels left
abbrev LawsInside : ℕ → Type 0
LawsInside levels = (seen : List ℕ) → AreNames seen → Laws (inner_at levels seen) slices (λ q. IsPart levels seen (inr q)) (ShowsInner levels seen)

part_is : (levels : ℕ) (seen : List ℕ) → AreNames seen → (m : Part) → ValidEither (IsNewName seen) (λ q. IsPart levels seen (inr q)) m → IsPart levels seen m
part_is levels seen known (inl u) v = record { thresholds = tt; depth = omega arith; names = name_joins seen u known v }
part_is levels seen known (inr q) v = v

part_from : (levels : ℕ) (seen : List ℕ) (m : Part) → IsPart levels seen m → ValidEither (IsNewName seen) (λ q. IsPart levels seen (inr q)) m
part_from levels seen (inl u) v = name_joined seen u v.names
part_from levels seen (inr q) v = v

Laws-part : (levels : ℕ) → LawsInside levels → (seen : List ℕ) → AreNames seen → Laws (member_at (inner_at levels) seen) part (IsPart levels seen) (ShowsPart (ShowsInner levels) seen)
unfolding member_at
Laws-part levels inside seen known =
    Laws-when (Laws-either 0 1 refl BadSlices bad_slices_cut (Laws-new_name seen) (inside seen known)) (IsPart levels seen) (part_is levels seen known) (part_from levels seen)

-- ---- members, one after another
abbrev AreParts : ℕ → ℕ → List ℕ → Members → Type 0
AreParts levels n seen ms = (member_count ms ≡ n) × IsTree levels seen ms

names-part : (m : Part) → names_in (part_before m none) ≡ part_names m
names-part (inl u) = refl
names-part (inr q) = append-nil (names_in q.members)

part_known : (levels : ℕ) (seen : List ℕ) (m : Part) → IsPart levels seen m → AreNames (seen ++ part_names m)
part_known levels seen m v = subst (λ (us : List ℕ). AreNames (seen ++ us)) (names-part m) v.names

members-put : (m : Part) (ms : Members) → members (part_before m ms) ≡ part m ++ members ms
members-put (inl u) ms = refl
members-put (inr q) ms = refl

count-put : (m : Part) (ms : Members) → member_count (part_before m ms) ≡ suc (member_count ms)
count-put (inl u) ms = omega arith
count-put (inr q) ms = omega arith

no_member : (ms : Members) → member_count ms ≡ 0 → none ≡ ms
no_member none e = refl
no_member (node u rest) e = absurd (omega arith)
no_member (inner k own rest) e = absurd (omega arith)

tree-put : (levels : ℕ) (seen : List ℕ) (m : Part) (ms : Members) → IsPart levels seen m → IsTree levels (seen ++ part_names m) ms → IsTree levels seen (part_before m ms)
tree-put levels seen (inl u) ms v t = record {
  thresholds = t.thresholds;
  depth = t.depth;
  names = subst AreNames (append_assoc seen (u ∷ []) (names_in ms)) t.names;
}
tree-put levels seen (inr q) ms v t = record {
  thresholds = (v.thresholds.0, v.thresholds.1, t.thresholds);
  depth = omega (arith, v.depth, t.depth);
  names = subst AreNames (append_assoc seen (names_in q.members) (names_in ms)) t.names;
}

abbrev Split : ℕ → ℕ → List ℕ → Members → Type 0
Split levels n seen = ValidAs (ValidThen (IsPart levels seen) (λ m. AreParts levels n (seen ++ part_names m))) (λ x. part_before x.0 x.1)

split : (levels n : ℕ) (seen : List ℕ) (ms : Members) → AreParts levels (suc n) seen ms → Split levels n seen ms
split levels n seen none v = absurd (omega (arith, v.0))
split levels n seen (node u rest) v =
    let moved = subst AreNames (sym (append_assoc seen (u ∷ []) (names_in rest))) v.1.names in
    let first : IsPart levels seen (inl u) = record { thresholds = tt; depth = omega arith; names = names_front (seen ++ u ∷ []) (names_in rest) moved } in
    ((inl u, rest), (first, (omega (arith, v.0), record { thresholds = v.1.thresholds; depth = v.1.depth; names = moved })), refl)
split levels n seen (inner k own rest) v =
    let q : Slices = record { threshold = k; members = own } in
    let moved = subst AreNames (sym (append_assoc seen (names_in own) (names_in rest))) v.1.names in
    let front = names_front (seen ++ names_in own) (names_in rest) moved in
    let first : IsPart levels seen (inr q) = record { thresholds = (v.1.thresholds.0, v.1.thresholds.1, tt); depth = omega (arith, v.1.depth); names = subst (λ (us : List ℕ). AreNames (seen ++ us)) (sym (append-nil (names_in own))) front } in
    ((inr q, rest), (first, (omega (arith, v.0), record { thresholds = v.1.thresholds.2; depth = omega (arith, v.1.depth); names = moved })), refl)

joined : (levels n : ℕ) (seen : List ℕ) (ms : Members) → Split levels n seen ms → AreParts levels (suc n) seen ms
joined levels n seen ms v =
    subst (AreParts levels (suc n) seen) v.2 (count-put v.0.0 v.0.1 ∙ ap suc v.1.1.0, tree-put levels seen v.0.0 v.0.1 v.1.0 v.1.1.1)

abbrev no_members : List ℕ → Result (Members × List ℕ) Fault
no_members bytes = Ok (none, bytes)

Laws-parts : (levels : ℕ) → LawsInside levels → (n : ℕ) (seen : List ℕ) → AreNames seen → Laws (member_list_at (inner_at levels) n seen) members (AreParts levels n seen) (ShowsParts levels (ShowsInner levels) n seen)
unfolding member_list_at ShowsParts
Laws-parts levels inside zero seen known = record {
  takes = λ bytes x fits e. subst (λ (y : Members × List ℕ). Takes bytes (members y.0) y.1 × AreParts levels 0 seen y.0) (ok_is (none, bytes) x e) (record { parts = refl; rest_fits = fits }, (refl, empty));
  again = λ ms rest v. subst (λ (w : Members). no_members (members w ++ rest) ≡ Ok (w, rest)) (no_member ms v.0) refl;
  fails = λ bytes f fits e. absurd (no_ok (none, bytes) f e);
  shown = λ front rest f d. absurd d;
  never = λ front f d. absurd d;
}
  where
    no_ok : (x : Members × List ℕ) (d : Fault) → Ok x ≡ Err d → ⊥
    no_ok x d e = cc

    empty : IsTree levels seen none
    empty = record { thresholds = tt; depth = omega arith; names = subst AreNames (sym (append-nil seen)) known }
Laws-parts levels inside (suc n) seen known =
    Laws-when (Laws-as (Laws-then (Laws-part levels inside seen known) (λ m v. Laws-parts levels inside n (seen ++ part_names m) (part_known levels seen m v))) (λ x. part_before x.0 x.1) members (λ x v. members-put x.0 x.1)) (AreParts levels (suc n) seen) (joined levels n seen) (split levels n seen)

-- ---- sets
-- a set that may stand behind the names seen, with so many levels of inner sets in it
pub record IsSet (levels : ℕ) (seen : List ℕ) (q : Slices) : Type 0 where
  pub own : HasThreshold q.threshold q.members
  pub tree : IsTree levels seen q.members

abbrev set_of : (ℕ × ℕ) × Members → Slices
set_of x = record { threshold = x.0.0; members = x.1 }

abbrev Parted : ℕ → List ℕ → Slices → Type 0
Parted levels seen = ValidAs (ValidThen IsHeader (λ h. AreParts levels h.1 seen)) set_of

set_is : (levels : ℕ) (seen : List ℕ) (q : Slices) → Parted levels seen q → IsSet levels seen q
set_is levels seen q v =
    let h = header_is v.0.0.0 v.0.0.1 v.1.0 in
    subst (IsSet levels seen) v.2 (record { own = (h.0, omega (arith, v.1.1.0, h.1), omega (arith, v.1.1.0, h.2)); tree = v.1.1.1 })

set_from : (levels : ℕ) (seen : List ℕ) (q : Slices) → IsSet levels seen q → Parted levels seen q
set_from levels seen q v =
    (((q.threshold, member_count q.members), q.members), (header_from q.threshold (member_count q.members) v.own.0 v.own.1 v.own.2, (refl, v.tree)), refl)

pub Laws-set : (levels : ℕ) → LawsInside levels → (seen : List ℕ) → AreNames seen → Laws (set_with (inner_at levels) seen) slices (IsSet levels seen) (ShowsSet levels (ShowsInner levels) seen)
unfolding set_with
Laws-set levels inside seen known =
    Laws-when (Laws-as (Laws-then Laws-header (λ h v. Laws-parts levels inside h.1 seen known)) set_of slices (λ x v. ap (λ (c : ℕ). x.0.0 ∷ c ∷ members x.1) v.1.0)) (IsSet levels seen) (set_is levels seen) (set_from levels seen)

-- ---- inner sets
inside_is : (levels : ℕ) (seen : List ℕ) (q : Slices) → IsSet levels seen q → IsPart (suc levels) seen (inr q)
inside_is levels seen q v = record {
  thresholds = (v.own, v.tree.thresholds, tt);
  depth = omega (arith, v.tree.depth);
  names = subst (λ (us : List ℕ). AreNames (seen ++ us)) (sym (append-nil (names_in q.members))) v.tree.names;
}

inside_from : (levels : ℕ) (seen : List ℕ) (q : Slices) → IsPart (suc levels) seen (inr q) → IsSet levels seen q
inside_from levels seen q v = record {
  own = v.thresholds.0;
  tree = record { thresholds = v.thresholds.1; depth = omega (arith, v.depth); names = part_known (suc levels) seen (inr q) v };
}

too_deep : (seen : List ℕ) (q : Slices) → IsPart 0 seen (inr q) → ⊥
too_deep seen q v = omega (arith, v.depth)

pub Laws-inner : (levels : ℕ) → LawsInside levels
unfolding inner_at ShowsInner
Laws-inner zero seen known = Laws-when (Laws-fail BadSlices slices bad_slices_cut) (λ q. IsPart 0 seen (inr q)) (λ q v. absurd v) (λ q v. too_deep seen q v)
Laws-inner (suc levels) seen known =
    Laws-when (Laws-set levels (Laws-inner levels) seen known) (λ q. IsPart (suc levels) seen (inr q)) (inside_is levels seen) (inside_from levels seen)

-- ---- the slices of an envelope
pub nothing_seen : AreNames []
nothing_seen = record { few = omega arith; differ = λ i j d lt h. absurd (omega arith); fit = tt }

pub nested_is : (levels : ℕ) (q : Slices) → levels ≤ most_levels → IsSet levels [] q → IsNested q
nested_is levels q few s =
    record { outer = s.own; inner_sets = s.tree.thresholds; levels = omega (arith, s.tree.depth); few_names = s.tree.names.few; names_differ = s.tree.names.differ; names_fit = s.tree.names.fit }

nested_from : (levels : ℕ) (q : Slices) → IsNested q → depth_of q.members ≤ levels → IsSet levels [] q
nested_from levels q h d = record { own = h.outer; tree = record { thresholds = h.inner_sets; depth = d; names = record { few = h.few_names; differ = h.names_differ; fit = h.names_fit } } }

-- no version has more levels than slices may have
pub few_levels : (v : ℕ) → levels_in v ≤ most_levels
few_levels v = go (v == 1)
  where
    go : (b : Bool) → (if b then first_levels else most_levels) ≤ most_levels
    go true = omega arith
    go false = omega arith

Laws-nested : (v : ℕ) → Laws (nested_at (levels_in v)) slices (HasLevels v) (ShowsSet (levels_in v) (ShowsInner (levels_in v)) [])
unfolding nested_at
Laws-nested v =
    Laws-when (Laws-set (levels_in v) (Laws-inner (levels_in v)) [] nothing_seen) (HasLevels v)
    (λ q s. (nested_is (levels_in v) q (few_levels v) s, s.tree.depth)) (λ q h. nested_from (levels_in v) q h.0 h.1)

spare_cut : (v : ℕ) (q : Slices) → spare_fault v q ≢ Some Truncated
spare_cut v q = cut (v == version_of q)
  where
    other : SpareVersion ≢ Truncated
    other e = cc

    cut : (b : Bool) → cond b None (Some SpareVersion) ≢ Some Truncated
    cut true = none_cut
    cut false = never_cut true SpareVersion None other none_cut

pub Laws-slices : (v : ℕ) → Laws (slices_at v) slices (IsInVersion v) (ShowsSlices v)
unfolding slices_at
Laws-slices v = Laws-judged (Laws-nested v) (spare_fault v) (spare_cut v)
