-- Members that join: what stays, and that each is named by an earlier one.
use Rattle.std.proofs.Common.{◌≡◌, ℕ, zero, suc, ◌+◌, ◌<◌, ◌≤◌, Bool, true, false, ◌==◌, List, [], ◌∷◌, ◌++◌, length, take, slice_get, Some, if◌then◌else◌, refl, sym, ◌∙◌, ap, subst, inl, inr, arith}
use Rattle.std.specs.List.{IsDistinct}
use Rattle.std.proofs.lemmas.Bool.{cases_lt, or_cases, or_left, or_right, eqb-true, false≢true}
use Rattle.std.proofs.lemmas.Cmp.{nat_eq_equiv}
use Rattle.std.proofs.lemmas.List.{take-append-le, take_all, take-take, length-map, take-map, length_push, take_more, map_push}
use Rattle.std.proofs.lemmas.Map.Made.{length-le_from_is_member}
use Rattle.std.proofs.lemmas.Option.{slice_get_within, get_or_from_slice_get}
use Rattle.scp_spec.specs.Sets.{Names, among, AreWithin}
use Rattle.scp_spec.specs.Closures.{IsClosed}
use Rattle.scp_spec.specs.Networks.{HostedNode}
use Rattle.scp_spec.specs.Hosts.{Entry}
use Rattle.scp_spec.proofs.Sets.Finite.{among_head, among_tail}
use Rattle.scp_spec.proofs.Sets.Least.{given_by_rule}
use Rattle.scp_spec.proofs.Sets.Derived.{derived-in}
use Rattle.host_closure.specs.Announcing.{IsNamedBy, MemberList, member_names, IsNamedBefore, IsChained}
use Rattle.host_closure.specs.Announcing.IsNamedBy.{configured, learnt}
use Rattle.host_closure.specs.Turns.{NamesAreMembers, AllNamesAreMembers, IsGrown, IsGiven, with_member}
use Rattle.host_closure.proofs.NameLookups.{among_append, member_is}
use Rattle.host_closure.proofs.ClosureSteps.{rules, all_given, all_derived, among_at}
use Rattle.scp_spec.proofs.Sets.Lists.{get_taken}

-- ---- lists
-- what stands in the front stands in the list
taken_among : (n : ℕ) (xs : List ℕ) → AreWithin (among (take n xs)) (among xs)
taken_among zero xs u h = absurd (false≢true h)
taken_among (suc n) [] u h = absurd (false≢true h)
taken_among (suc n) (x ∷ xs) u h = elim (or_cases (x == u) (among (take n xs) u) h) [
  | inl e ↦ or_left (x == u) (among xs u) e
  | inr k ↦ or_right (x == u) (among xs u) (taken_among n xs u k)
]

pub get_appended : {X : Type 0} (xs ys : List X) (k : ℕ) → k < length xs → slice_get (xs ++ ys) k ≡ slice_get xs k
get_appended [] ys k l = absurd (omega arith)
get_appended (x ∷ xs) ys zero l = refl
get_appended (x ∷ xs) ys (suc k) l = get_appended xs ys k (omega arith)

get_last : {X : Type 0} (xs : List X) (x y : X) (k : ℕ) → k ≡ length xs → slice_get (xs ++ x ∷ []) k ≡ Some y → x ≡ y
get_last [] x y zero e h = cc
get_last [] x y (suc k) e h = absurd (omega arith)
get_last (z ∷ zs) x y zero e h = absurd (omega arith)
get_last (z ∷ zs) x y (suc k) e h = get_last zs x y k (omega arith) h

pub names_length : (list : MemberList) → length (member_names list) ≡ length list
names_length list = length-map list (λ m. m.0)

-- a list with the same front has the names of the front
front_names : (old new : MemberList) → take (length old) new ≡ old → take (length old) (member_names new) ≡ member_names old
front_names old new kept = take-map (λ m. m.0) (length old) new ∙ ap member_names kept

front_among : (old new : MemberList) → take (length old) new ≡ old → AreWithin (among (member_names old)) (among (member_names new))
front_among old new kept u h = taken_among (length old) (member_names new) u (ap (λ (xs : List ℕ). among xs u) (front_names old new kept) ∙ h)

pub front_kept : (old mid new : MemberList) → take (length old) mid ≡ old → take (length mid) new ≡ mid → length old ≤ length mid → take (length old) new ≡ old
front_kept old mid new a b l = sym (take-take (length old) (length mid) new l) ∙ (ap (λ (xs : MemberList). take (length old) xs) b ∙ a)

-- ---- who is named stays named where there are more members
pub named_more : (nodes : List HostedNode) (i : ℕ) (run : List Entry) (one other : Names) (w u : ℕ) → AreWithin one other → IsNamedBy nodes i run one w u → IsNamedBy nodes i run other w u
named_more nodes i run one other w u f (configured q e g) = configured q e g
named_more nodes i run one other w u f (learnt n a e s t r g) = learnt n a e s t (f a.receiver r) g

-- a list that another begins with is no longer than that
length_of_front : (old more : MemberList) → take (length old) more ≡ old → length old ≤ length more
length_of_front [] more e = omega arith
length_of_front (x ∷ xs) [] e = cc
length_of_front (x ∷ xs) (y ∷ ys) e = let rest : take (length xs) ys ≡ xs = cc in let l = length_of_front xs ys rest in omega arith

-- ---- one more member
module _ (nodes : List HostedNode) (i : ℕ) (run : List Entry) where
  module _ (v : ℕ) (list : MemberList) (x : ℕ × ℕ) (w : ℕ) (chained : IsChained nodes i v run list) (there : slice_get (member_names list) x.1 ≡ Some w) (named : IsNamedBy nodes i run (among (member_names list)) w x.0) where
    more : MemberList
    more = list ++ x ∷ []

    names_more : member_names more ≡ member_names list ++ x.0 ∷ []
    unfolding more
    names_more = map_push (λ m. m.0) list x

    front_of_names : (k : ℕ) → k ≤ length list → take k (member_names more) ≡ take k (member_names list)
    unfolding more
    front_of_names k l = ap (λ (xs : List ℕ). take k xs) names_more ∙ take-append-le k (member_names list) (x.0 ∷ []) (omega (arith, l, names_length list))

    name_before : (k : ℕ) → k < length list → slice_get (member_names more) k ≡ slice_get (member_names list) k
    unfolding more
    name_before k l = ap (λ (xs : List ℕ). slice_get xs k) names_more ∙ get_appended (member_names list) (x.0 ∷ []) k (omega (arith, l, names_length list))

    in_list : x.1 < length list
    in_list = let l = slice_get_within (member_names list) x.1 w there in omega (arith, l, names_length list)

    link_more : (k : ℕ) (m : ℕ × ℕ) → slice_get more (suc k) ≡ Some m → IsNamedBefore nodes i run more (suc k) m
    unfolding more
    link_more k m e = elim (cases_lt (suc k) (length list)) [
      | inl l ↦ old l (chained.later k m (sym (get_appended list (x ∷ []) (suc k) l) ∙ e))
      | inr l ↦ new (omega (arith, l, slice_get_within (list ++ x ∷ []) (suc k) m e, length_push list x))
    ]
      where
        old : suc k < length list → IsNamedBefore nodes i run list (suc k) m → IsNamedBefore nodes i run more (suc k) m
        old l b = record {
          namer = b.namer;
          there = name_before m.1 (let q = b.before in omega arith) ∙ b.there;
          before = b.before;
          named = subst (λ (xs : List ℕ). IsNamedBy nodes i run (among xs) b.namer m.0) (sym (front_of_names (suc k) (omega arith))) b.named;
        }

        new : suc k ≡ length list → IsNamedBefore nodes i run more (suc k) m
        new q =
            let same : x ≡ m = get_last list x m (suc k) q e in
            let all : take (suc k) (member_names more) ≡ member_names list = front_of_names (suc k) (omega arith) ∙ take_all (suc k) (member_names list) (omega (arith, q, names_length list)) in
            subst (λ (y : ℕ × ℕ). IsNamedBefore nodes i run more (suc k) y) same (record {
              namer = w;
              there = name_before x.1 in_list ∙ there;
              before = let l = in_list in omega (arith, l, q);
              named = subst (λ (xs : List ℕ). IsNamedBy nodes i run (among xs) w x.0) (sym all) named;
            })

    pub chained_more : IsChained nodes i v run (list ++ x ∷ [])
    unfolding more
    chained_more = record { first = get_appended list (x ∷ []) 0 (let l = in_list in omega arith) ∙ chained.first; later = link_more }

  -- ---- a turn
  -- the names up to an index have joined
  pub record IsJoining (given : List ℕ) (initial now : MemberList) (n : ℕ) : Type 0 where
    pub kept : take (length initial) now ≡ initial
    pub longer : length initial ≤ length now
    pub chained : (v : ℕ) → IsChained nodes i v run initial → IsChained nodes i v run now
    pub held : AreWithin (among (take n given)) (among (member_names now))

  pub joining_begins : (given : List ℕ) (list : MemberList) → IsJoining given list list 0
  joining_begins given list = record { kept = take_all (length list) list (omega arith); longer = omega arith; chained = λ v c. c; held = λ u h. absurd (false≢true h) }

  module _ (given : List ℕ) (initial now : MemberList) (place w n x : ℕ) (way : IsJoining given initial now n) (there : slice_get (member_names initial) place ≡ Some w)
      (sound : IsGiven nodes i run (member_names initial) w given) (next : slice_get given n ≡ Some x) where
    taken_more : take (n + 1) given ≡ take n given ++ x ∷ []
    taken_more = take_more given n x (slice_get_within given n x next) ∙ ap (λ y. take n given ++ y ∷ []) (get_or_from_slice_get given n x x next)

    held_more : (new : MemberList) → AreWithin (among (member_names now)) (among (member_names new)) → among (member_names new) x ≡ true → AreWithin (among (take (n + 1) given)) (among (member_names new))
    held_more new f h u m = elim (or_cases (among (take n given) u) (among (x ∷ []) u) (sym (ap (λ (xs : List ℕ). among xs u) taken_more ∙ among_append (take n given) (x ∷ []) u) ∙ m)) [
      | inl k ↦ f u (way.held u k)
      | inr k ↦ elim (or_cases (x == u) false k) [ inl e ↦ subst (λ y. among (member_names new) y ≡ true) (eqb-true x u e) h | inr e ↦ absurd (false≢true e) ]
    ]

    joined : (b : Bool) → among (member_names now) x ≡ b → IsJoining given initial (if b then now else now ++ (x, place) ∷ []) (n + 1)
    joined true e = record { kept = way.kept; longer = way.longer; chained = way.chained; held = held_more now (λ u h. h) e }
    joined false e = record {
      kept = take-append-le (length initial) now ((x, place) ∷ []) way.longer ∙ way.kept;
      longer = let l = way.longer in omega (arith, length_push now (x, place));
      chained = λ v c. chained_more v now (x, place) w (way.chained v c) name_there
          (named_more nodes i run (among (member_names initial)) (among (member_names now)) w x (front_among initial now way.kept) (sound.sound x (among_at given n x next)));
      held = held_more (now ++ (x, place) ∷ []) (λ u h. ap (λ (xs : List ℕ). among xs u) names_now ∙ (among_append (member_names now) (x ∷ []) u ∙ or_left (among (member_names now) u) (among (x ∷ []) u) h))
          (ap (λ (xs : List ℕ). among xs x) names_now ∙ (among_append (member_names now) (x ∷ []) x ∙ or_right (among (member_names now) x) (among (x ∷ []) x) (among_head x [])));
    }
      where
        names_now : member_names (now ++ (x, place) ∷ []) ≡ member_names now ++ x ∷ []
        names_now = map_push (λ m. m.0) now (x, place)

        name_there : slice_get (member_names now) place ≡ Some w
        name_there = sym (get_taken (member_names now) place (length initial) (omega (arith, slice_get_within (member_names initial) place w there, names_length initial)))
            ∙ (ap (λ (xs : List ℕ). slice_get xs place) (front_names initial now way.kept) ∙ there)

    pub joining_goes_on : IsJoining given initial (with_member now x place) (n + 1)
    joining_goes_on = joined (among (member_names now) x) refl

  -- once all have joined, what is given is there, and all that is named
  pub all_held : (given : List ℕ) (initial now : MemberList) → IsJoining given initial now (length given) → AreWithin (among given) (among (member_names now))
  all_held given initial now way u k = way.held u (ap (λ (xs : List ℕ). among xs u) (take_all (length given) given (omega arith)) ∙ k)

  pub turn_settles : (given : List ℕ) (initial now : MemberList) (w : ℕ) → IsJoining given initial now (length given) → IsGiven nodes i run (member_names initial) w given → NamesAreMembers nodes i run (member_names now) (member_names initial) w
  turn_settles given initial now w way sound u h = elim (sound.complete u h) [
    | inl k ↦ front_among initial now way.kept u k
    | inr k ↦ all_held given initial now way u k
  ]

  -- ---- a sweep
  -- the members before a place have had their turn
  pub record IsSweeping (initial now : MemberList) (place : ℕ) : Type 0 where
    pub kept : take (length initial) now ≡ initial
    pub longer : length initial ≤ length now
    pub chained : (v : ℕ) → IsChained nodes i v run initial → IsChained nodes i v run now
    pub settled : (j w : ℕ) → j < place → slice_get (member_names now) j ≡ Some w → NamesAreMembers nodes i run (member_names now) (member_names initial) w

  pub sweeping_begins : (list : MemberList) → IsSweeping list list 0
  sweeping_begins list = record { kept = take_all (length list) list (omega arith); longer = omega arith; chained = λ v c. c; settled = λ j w l. absurd (omega arith) }

  pub sweeping_goes_on : (initial now new : MemberList) (place v : ℕ) → IsSweeping initial now place → place < length now → IsChained nodes i v run initial
      → ((x : ℕ) → IsChained nodes i x run now → IsGrown nodes i x run now new)
      → ((w : ℕ) → slice_get (member_names now) place ≡ Some w → NamesAreMembers nodes i run (member_names new) (member_names now) w)
      → IsSweeping initial new (place + 1)
  sweeping_goes_on initial now new place v way inside chain grown turn =
      let g = grown v (way.chained v chain) in
      let longer : length now ≤ length new = length_of_front now new g.kept in
      let a = way.longer in
      record {
        kept = front_kept initial now new way.kept g.kept way.longer;
        longer = omega arith;
        chained = λ x c. (grown x (way.chained x c)).chained;
        settled = λ j w l e.
            let was : slice_get (member_names now) j ≡ Some w = sym (ap (λ (xs : List ℕ). slice_get xs j) (front_names now new g.kept)) ∙ (get_taken (member_names new) j (length now) (omega arith) ∙ e) in
            elim (cases_lt j place) [
              | inl before ↦ λ u h. front_among now new g.kept u (way.settled j w before was u h)
              | inr here ↦ λ u h. let same : j ≡ place = omega arith in
                  turn w (subst (λ k. slice_get (member_names now) k ≡ Some w) same was) u (named_more nodes i run (among (member_names initial)) (among (member_names now)) w u (front_among initial now way.kept) h)
            ];
      }

  pub sweep_settles : (initial now : MemberList) (place : ℕ) → IsSweeping initial now place → length now ≤ place → AllNamesAreMembers nodes i run (member_names now) (member_names initial)
  sweep_settles initial now place way over j w e = way.settled j w (let l = slice_get_within (member_names now) j w e in omega (arith, l, over, names_length now)) e

  -- after a sweep, what the members name of the old ones is there
  pub settled_of_front : (old new : MemberList) → take (length old) new ≡ old → AllNamesAreMembers nodes i run (member_names new) (member_names old) → AllNamesAreMembers nodes i run (member_names new) (take (length old) (member_names new))
  settled_of_front old new kept settled j w e u h = settled j w e u (subst (λ (xs : List ℕ). IsNamedBy nodes i run (among xs) w u) (front_names old new kept) h)

  -- ---- how many members there can be
  pub members_bound : (v : ℕ) (list : MemberList) → IsChained nodes i v run list → IsDistinct (λ x y. x == y) (member_names list) → length list ≤ suc (length (all_given nodes i run))
  members_bound v list chained once =
      let all = v ∷ all_given nodes i run in
      let closed : IsClosed (rules nodes i run) v (among all) = record {
        start = among_head v (all_given nodes i run);
        each = λ r c w u g. among_tail v u (all_given nodes i run) (given_by_rule (rules nodes i run) r u c g);
      } in
      let few : length (member_names list) ≤ length all = length-le_from_is_member nat_eq_equiv (member_names list) all once
      (λ q h. member_is all q ∙ derived-in (rules nodes i run) v (among all) closed (all_derived nodes i run v list chained q (sym (member_is (member_names list) q) ∙ h))) in
      omega (arith, few, names_length list)

pub one_name : (xs : List ℕ) (k u w : ℕ) → slice_get xs k ≡ Some u → slice_get xs k ≡ Some w → u ≡ w
one_name xs k u w e h = same (sym e ∙ h)
  where
    same : Some u ≡ Some w → u ≡ w
    same q = cc

-- ---- sweep after sweep
-- a chained list in which all is settled of the members up to a place, where that is not 0
pub record IsSwept (nodes : List HostedNode) (i v : ℕ) (run : List Entry) (list : MemberList) (known : ℕ) : Type 0 where
  pub chained : IsChained nodes i v run list
  pub within : known ≤ length list
  pub settled : 0 < known → AllNamesAreMembers nodes i run (member_names list) (take known (member_names list))

first_chained : (nodes : List HostedNode) (i v : ℕ) (run : List Entry) → IsChained nodes i v run ((v, 0) ∷ [])
first_chained nodes i v run = record { first = refl; later = λ k m e. cc }

pub swept_at_first : (nodes : List HostedNode) (i v : ℕ) (run : List Entry) → IsSwept nodes i v run ((v, 0) ∷ []) 0
swept_at_first nodes i v run = record { chained = first_chained nodes i v run; within = omega arith; settled = λ some. absurd (omega arith) }

pub swept_again : (nodes : List HostedNode) (i v : ℕ) (run : List Entry) (old new : MemberList) → IsGrown nodes i v run old new → AllNamesAreMembers nodes i run (member_names new) (member_names old) → IsSwept nodes i v run new (length old)
swept_again nodes i v run old new grown settled = record {
  chained = grown.chained;
  within = length_of_front old new grown.kept;
  settled = λ some. settled_of_front nodes i run old new grown.kept settled;
}

-- there is a first member
some_member : (v : ℕ) (list : MemberList) → slice_get list 0 ≡ Some (v, 0) → 0 < length list
some_member v [] e = cc
some_member v (x ∷ xs) e = omega arith

-- where a sweep added none, all is settled
pub swept_whole : (nodes : List HostedNode) (i v : ℕ) (run : List Entry) (list : MemberList) (known : ℕ) → IsSwept nodes i v run list known → length list ≤ known → AllNamesAreMembers nodes i run (member_names list) (member_names list)
swept_whole nodes i v run list known swept over =
    let all : take known (member_names list) ≡ member_names list = take_all known (member_names list) (omega (arith, over, names_length list)) in
    let some = some_member v list swept.chained.first in
    subst (λ (xs : List ℕ). AllNamesAreMembers nodes i run (member_names list) xs) all (swept.settled (omega (arith, some, over)))
