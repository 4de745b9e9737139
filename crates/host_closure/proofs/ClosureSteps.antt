-- The closure of a journal: members named one by one are derived, and a list in which all is settled is closed.
use Rattle.std.proofs.Common.{◌≡◌, ℕ, zero, suc, ◌<◌, Bool, true, false, ◌||◌, ◌==◌, ◌⊎◌, List, [], ◌∷◌, ◌++◌, take, map, slice_get, Option, Some, None, if◌then◌else◌, refl, sym, ◌∙◌, ap, subst, inl, inr, arith, IsTrue, flat_map}
use Rattle.std.specs.List.{Contains, IsDistinct}
use Rattle.std.proofs.lemmas.Bool.{or_cases, eq-eqb, eqb-true, false≢true}
use Rattle.scp_types.specs.Trees.{Slices}
use Rattle.scp_spec.specs.Sets.{Names, among, AreWithin, IsAscending}
use Rattle.scp_spec.specs.Satisfaction.{names}
use Rattle.scp_spec.specs.Closures.{Rule, Derived, IsClosed}
use Rattle.scp_spec.specs.Closures.Derived.{start, given}
use Rattle.scp_spec.specs.Networks.{HostedNode, Step, slices_of}
use Rattle.scp_spec.specs.Networks.Reading.{Read, Fault}
use Rattle.scp_spec.specs.Networks.Step.{Opens, Closes, Proposes, Delivers, Hears, NominationTimerFires, BallotTimerFires, Reslices}
use Rattle.scp_spec.specs.Hosts.{Entry}
use Rattle.scp_spec.specs.Isolation.{node_rule, announcement_rules, closure}
use Rattle.scp_spec.proofs.Sets.Finite.{among_head, among_tail}
use Rattle.scp_spec.proofs.Sets.Contained.{contains_head, contains_tail, contained_cases}
use Rattle.scp_spec.proofs.Sets.Derived.{least_is}
use Rattle.host_closure.specs.Announcing.{AnnouncedSlices, announced_by, announced_in, announced_at, IsNamedBy, MemberList, member_names, AreMembersAt, IsChained, IsClosureList}
use Rattle.host_closure.specs.Announcing.IsNamedBy.{configured, learnt}
use Rattle.host_closure.specs.Turns.{AllNamesAreMembers}
use Rattle.scp_spec.proofs.Sets.Mapped.{mapped_to, mapped_from}

-- ---- lists
pub contained_left : {X : Type 0} (x : X) (xs ys : List X) → Contains xs x → Contains (xs ++ ys) x
contained_left x [] ys c = absurd (let l = c.1 in omega arith)
contained_left x (z ∷ zs) ys c = elim (contained_cases x z zs c) [
  | inl e ↦ subst (λ w. Contains (w ∷ (zs ++ ys)) x) (sym e) (contains_head x (zs ++ ys))
  | inr k ↦ contains_tail x z (zs ++ ys) (contained_left x zs ys k)
]

pub contained_right : {X : Type 0} (x : X) (xs ys : List X) → Contains ys x → Contains (xs ++ ys) x
contained_right x [] ys c = c
contained_right x (z ∷ zs) ys c = contains_tail x z (zs ++ ys) (contained_right x zs ys c)

pub contained_either : {X : Type 0} (x : X) (xs ys : List X) → Contains (xs ++ ys) x → Contains xs x ⊎ Contains ys x
contained_either x [] ys c = inr c
contained_either x (z ∷ zs) ys c = elim (contained_cases x z (zs ++ ys) c) [
  | inl e ↦ inl (subst (λ w. Contains (w ∷ zs) x) (sym e) (contains_head x zs))
  | inr k ↦ elim (contained_either x zs ys k) [ inl h ↦ inl (contains_tail x z zs h) | inr h ↦ inr h ]
]

-- what a function gives for an element, it gives for the list
contained_flat : {X Y : Type 0} (f : X → List Y) (xs : List X) (n : ℕ) (x : X) (y : Y) → slice_get xs n ≡ Some x → Contains (f x) y → Contains (flat_map f xs) y
contained_flat f [] n x y e c = cc
contained_flat f (z ∷ zs) zero x y e c = let same : z ≡ x = cc in contained_left y (f z) (flat_map f zs) (subst (λ w. Contains (f w) y) (sym same) c)
contained_flat f (z ∷ zs) (suc n) x y e c = contained_right y (f z) (flat_map f zs) (contained_flat f zs n x y e c)

from_flat : {X Y : Type 0} (f : X → List Y) (xs : List X) (y : Y) → Contains (flat_map f xs) y → (n : ℕ) × (x : X) × (slice_get xs n ≡ Some x) × Contains (f x) y
from_flat f [] y c = absurd (let l = c.1 in omega arith)
from_flat f (z ∷ zs) y c = elim (contained_either y (f z) (flat_map f zs) c) [
  | inl h ↦ (0, z, refl, h)
  | inr h ↦ let r = from_flat f zs y h in (suc r.0, r.1, r.2, r.3)
]

-- a name is in a list exactly where it stands at a place
pub among_at : (xs : List ℕ) (n u : ℕ) → slice_get xs n ≡ Some u → among xs u ≡ true
among_at [] n u e = cc
among_at (x ∷ xs) zero u e = let same : x ≡ u = cc in subst (λ w. among (x ∷ xs) w ≡ true) same (among_head x xs)
among_at (x ∷ xs) (suc n) u e = among_tail x u xs (among_at xs n u e)

pub place_among : (xs : List ℕ) (u : ℕ) → among xs u ≡ true → (n : ℕ) × (slice_get xs n ≡ Some u)
place_among [] u h = absurd (false≢true h)
place_among (x ∷ xs) u h = elim (or_cases (x == u) (among xs u) h) [
  | inl e ↦ (0, ap Some (eqb-true x u e))
  | inr k ↦ let r = place_among xs u k in (suc r.0, r.1)
]

pub place_taken : (xs : List ℕ) (k u : ℕ) → among (take k xs) u ≡ true → (n : ℕ) × (n < k) × (slice_get xs n ≡ Some u)
place_taken xs zero u h = absurd (false≢true h)
place_taken [] (suc k) u h = absurd (false≢true h)
place_taken (x ∷ xs) (suc k) u h = elim (or_cases (x == u) (among (take k xs) u) h) [
  | inl e ↦ (0, omega arith, ap Some (eqb-true x u e))
  | inr m ↦ let r = place_taken xs k u m in (suc r.0, let l = r.1 in omega arith, r.2)
]

-- ---- hosted nodes
node_found : (nodes : List HostedNode) (w : ℕ) (q : Slices) → slices_of nodes w ≡ Some q → (h : HostedNode) × Contains nodes h × (h.name ≡ w) × (h.slices ≡ q)
node_found [] w q e = cc
node_found (h ∷ hs) w q e = go (h.name == w) refl e (node_found hs w q)
  where
    go : (b : Bool) → (h.name == w) ≡ b → (if b then Some h.slices else slices_of hs w) ≡ Some q
        → (slices_of hs w ≡ Some q → (g : HostedNode) × Contains hs g × (g.name ≡ w) × (g.slices ≡ q)) → (g : HostedNode) × Contains (h ∷ hs) g × (g.name ≡ w) × (g.slices ≡ q)
    go true n s f = (h, contains_head h hs, eqb-true h.name w n, cc)
    go false n s f = let r = f s in (r.0, contains_tail r.0 h hs r.1, r.2, r.3)

-- where names ascend, each hosted node is found by its name
abbrev node_names : List HostedNode → List ℕ
node_names nodes = map (λ h. h.name) nodes

found_node : (nodes : List HostedNode) (g : HostedNode) → IsAscending (node_names nodes) → Contains nodes g → slices_of nodes g.name ≡ Some g.slices
found_node [] g up c = absurd (let l = c.1 in omega arith)
found_node (h ∷ hs) g up c = elim (contained_cases g h hs c) [
  | inl e ↦ subst (λ (x : HostedNode). slices_of (h ∷ hs) x.name ≡ Some x.slices) e (here (h.name == h.name) (eq-eqb h.name h.name refl))
  | inr k ↦ there (h.name == g.name) refl k (found_node hs g (λ i j d l m. up (suc i) (suc j) d (omega arith) (omega arith)) k)
]
  where
    here : (b : Bool) → b ≡ true → (if b then Some h.slices else slices_of hs h.name) ≡ Some h.slices
    here true e = refl
    here false e = absurd (false≢true e)

    there : (b : Bool) → (h.name == g.name) ≡ b → Contains hs g → slices_of hs g.name ≡ Some g.slices → (if b then Some h.slices else slices_of hs g.name) ≡ Some g.slices
    there false e k f = f
    there true e k f =
        let place = mapped_to (λ (x : HostedNode). x.name) hs g k in
        let less = up 0 (suc place.0) g.name (omega arith) (let l = place.1 in omega arith) in
        let same = eqb-true h.name g.name e in
        let at = place.2 in
        absurd (omega (arith, less, same, at))

-- ---- announcements
-- the rule of an announcement: its sources are receiver and sender, and it gives the names of the slices
record IsRuleOf (a : AnnouncedSlices) (r : Rule) : Type 0 where
  sources : (y : ℕ) → IsTrue (among r.sources y) → (a.receiver ≡ y) ⊎ (a.sender ≡ y)
  receiver : IsTrue (among r.sources a.receiver)
  sender : IsTrue (among r.sources a.sender)
  gives : r.gives ≡ names a.slices

of_both : (a : AnnouncedSlices) → IsRuleOf a (record { sources = a.receiver ∷ a.sender ∷ []; gives = names a.slices })
of_both a = record {
  sources = λ y m. elim (or_cases (a.receiver == y) ((a.sender == y) || false) m) [
    | inl k ↦ inl (eqb-true a.receiver y k)
    | inr k ↦ elim (or_cases (a.sender == y) false k) [ inl j ↦ inr (eqb-true a.sender y j) | inr j ↦ absurd (false≢true j) ]
  ];
  receiver = among_head a.receiver (a.sender ∷ []);
  sender = among_tail a.receiver a.sender (a.sender ∷ []) (among_head a.sender []);
  gives = refl;
}

of_one : (j u : ℕ) (q : Slices) → IsRuleOf (record { slot = j; receiver = u; sender = u; slices = q }) (record { sources = u ∷ []; gives = names q })
of_one j u q = record {
  sources = λ y m. elim (or_cases (u == y) false m) [ inl k ↦ inl (eqb-true u y k) | inr k ↦ absurd (false≢true k) ];
  receiver = among_head u [];
  sender = among_head u [];
  gives = refl;
}

-- the one rule in a list that has one where the slots are the same
only : (b : Bool) (r : Rule) → b ≡ true → Contains {X = Rule} (if b then r ∷ [] else []) r
only true r q = contains_head {X = Rule} r []
only false r q = absurd (false≢true q)

only_one : (b : Bool) (r x : Rule) → Contains {X = Rule} (if b then r ∷ [] else []) x → (b ≡ true) × (x ≡ r)
only_one true r x c = elim (contained_cases x r [] c) [
  | inl m ↦ (refl, sym m)
  | inr m ↦ absurd (let l = m.1 in omega arith)
]
only_one false r x c = absurd (let l = c.1 in omega arith)

-- what an event announces has a rule of the closure
record HasRule (i : ℕ) (s : Step) (a : AnnouncedSlices) : Type 0 where
  rule : Rule
  there : Contains {X = Rule} (announcement_rules i s) rule
  is : IsRuleOf a rule

announced_rule : (i : ℕ) (s : Step) (a : AnnouncedSlices) → announced_by s ≡ Some a → a.slot ≡ i → HasRule i s a
announced_rule i (Delivers u size (Read e)) a h k =
    let now : AnnouncedSlices = record { slot = e.slot; receiver = u; sender = e.sender; slices = e.slices } in
    let same : now ≡ a = cc in
    subst (λ (x : AnnouncedSlices). x.slot ≡ i → HasRule i (Delivers u size (Read e)) x) same (λ q. record {
      rule = record { sources = u ∷ e.sender ∷ []; gives = names e.slices };
      there = only (e.slot == i) (record { sources = u ∷ e.sender ∷ []; gives = names e.slices }) (eq-eqb e.slot i q);
      is = of_both now;
    }) k
announced_rule i (Delivers u size (Fault n)) a h k = cc
announced_rule i (Opens j) a h k = cc
announced_rule i (Closes j) a h k = cc
announced_rule i (Proposes j u x) a h k = cc
announced_rule i (Hears j u f kind n) a h k = cc
announced_rule i (NominationTimerFires j u r) a h k = cc
announced_rule i (BallotTimerFires j u n) a h k = cc
announced_rule i (Reslices j u new) a h k =
    let now : AnnouncedSlices = record { slot = j; receiver = u; sender = u; slices = new } in
    let same : now ≡ a = cc in
    subst (λ (x : AnnouncedSlices). x.slot ≡ i → HasRule i (Reslices j u new) x) same (λ q. record {
      rule = record { sources = u ∷ []; gives = names new };
      there = only (j == i) (record { sources = u ∷ []; gives = names new }) (eq-eqb j i q);
      is = of_one j u new;
    }) k

-- and each rule is that of an announcement
record IsAnnounced (i : ℕ) (s : Step) (r : Rule) : Type 0 where
  announcement : AnnouncedSlices
  by : announced_by s ≡ Some announcement
  at : announcement.slot ≡ i
  is : IsRuleOf announcement r

rule_announced : (i : ℕ) (s : Step) (r : Rule) → Contains (announcement_rules i s) r → IsAnnounced i s r
rule_announced i (Delivers u size (Read e)) r c =
    let now : AnnouncedSlices = record { slot = e.slot; receiver = u; sender = e.sender; slices = e.slices } in
    let o = only_one (e.slot == i) (record { sources = u ∷ e.sender ∷ []; gives = names e.slices }) r c in
    record { announcement = now; by = refl; at = eqb-true e.slot i o.0; is = subst (λ (x : Rule). IsRuleOf now x) (sym o.1) (of_both now) }
rule_announced i (Delivers u size (Fault n)) r c = absurd (let l = c.1 in omega arith)
rule_announced i (Opens j) r c = absurd (let l = c.1 in omega arith)
rule_announced i (Closes j) r c = absurd (let l = c.1 in omega arith)
rule_announced i (Proposes j u x) r c = absurd (let l = c.1 in omega arith)
rule_announced i (Hears j u f kind n) r c = absurd (let l = c.1 in omega arith)
rule_announced i (NominationTimerFires j u x) r c = absurd (let l = c.1 in omega arith)
rule_announced i (BallotTimerFires j u n) r c = absurd (let l = c.1 in omega arith)
rule_announced i (Reslices j u new) r c =
    let now : AnnouncedSlices = record { slot = j; receiver = u; sender = u; slices = new } in
    let o = only_one (j == i) (record { sources = u ∷ []; gives = names new }) r c in
    record { announcement = now; by = refl; at = eqb-true j i o.0; is = subst (λ (x : Rule). IsRuleOf now x) (sym o.1) (of_one j u new) }

-- what stands at a place of a journal and announces something
entry_at : (run : List Entry) (n : ℕ) (a : AnnouncedSlices) → announced_at run n ≡ Some a → (x : Entry) × (slice_get run n ≡ Some x) × (announced_by x.event ≡ Some a)
entry_at run n a e = go (slice_get run n) refl e
  where
    go : (o : Option Entry) → slice_get run n ≡ o → announced_in o ≡ Some a → (x : Entry) × (slice_get run n ≡ Some x) × (announced_by x.event ≡ Some a)
    go None p q = cc
    go (Some x) p q = (x, p, q)

module _ (nodes : List HostedNode) (i : ℕ) (run : List Entry) where
  abbrev pub rules : List Rule
  rules = map node_rule nodes ++ flat_map (λ x. announcement_rules i x.event) run

  -- all names that are given by any rule
  abbrev pub all_given : List ℕ
  all_given = flat_map (λ r. r.gives) rules

  -- ---- whoever is named is given by a rule
  record IsRuled (set : Names) (w u : ℕ) : Type 0 where
    pub rule : Rule
    pub known : Contains rules rule
    pub sources : (x : ℕ) → IsTrue (among rule.sources x) → (x ≡ w) ⊎ IsTrue (set x)
    pub gives : IsTrue (among rule.gives u)

  ruled : (set : Names) (w u : ℕ) → IsNamedBy nodes i run set w u → IsRuled set w u
  ruled set w u (configured q e g) =
      let h = node_found nodes w q e in
      record {
        rule = node_rule h.0;
        known = contained_left (node_rule h.0) (map node_rule nodes) (flat_map (λ x. announcement_rules i x.event) run) (mapped_to node_rule nodes h.0 h.1);
        sources = λ x m. elim (or_cases (h.0.name == x) false m) [ inl k ↦ inl (sym (eqb-true h.0.name x k) ∙ h.2) | inr k ↦ absurd (false≢true k) ];
        gives = subst (λ (s : Slices). IsTrue (among (names s) u)) (sym h.3) g;
      }
  ruled set w u (learnt n a e s t r g) =
      let x = entry_at run n a e in
      let has = announced_rule i x.0.event a x.2 s in
      record {
        rule = has.rule;
        known = contained_right has.rule (map node_rule nodes) (flat_map (λ y. announcement_rules i y.event) run)
            (contained_flat (λ y. announcement_rules i y.event) run n x.0 has.rule x.1 has.there);
        sources = λ y m. elim (has.is.sources y m) [
          | inl k ↦ inr (subst (λ z. IsTrue (set z)) k r)
          | inr k ↦ inl (sym k ∙ t)
        ];
        gives = subst (λ (ns : List ℕ). IsTrue (among ns u)) (sym has.is.gives) g;
      }

  -- ---- each member of a chained list is derived
  module _ (v : ℕ) (list : MemberList) (chained : IsChained nodes i v run list) where
    name_at : (k u : ℕ) → slice_get (member_names list) k ≡ Some u → (m : ℕ × ℕ) × (slice_get list k ≡ Some m) × (m.0 ≡ u)
    name_at k u e = go list k e
      where
        go : (xs : MemberList) (k : ℕ) → slice_get (member_names xs) k ≡ Some u → (m : ℕ × ℕ) × (slice_get xs k ≡ Some m) × (m.0 ≡ u)
        go [] k e = cc
        go (x ∷ xs) zero e = (x, refl, cc)
        go (x ∷ xs) (suc k) e = go xs k e

    -- by the places below a bound
    derived_below : (b k u : ℕ) → k < b → slice_get (member_names list) k ≡ Some u → Derived rules v u
    derived_below zero k u l e = absurd (omega arith)
    derived_below (suc b) zero u l e =
        let m = name_at 0 u e in
        let first : slice_get list 0 ≡ Some (v, 0) = chained.first in
        let pair : m.0 ≡ (v, 0) = same_pair m.0 (v, 0) (sym m.1 ∙ first) in
        subst (λ x. Derived rules v x) (sym (ap (λ (p : ℕ × ℕ). p.0) pair) ∙ m.2) start
      where
        same_pair : (x y : ℕ × ℕ) → Some x ≡ Some y → x ≡ y
        same_pair x y h = cc
    derived_below (suc b) (suc k) u l e =
        let m = name_at (suc k) u e in
        let link = chained.later k m.0 m.1 in
        let r = ruled (among (take (suc k) (member_names list))) link.namer m.0.0 link.named in
        let before = link.before in
        given r.rule r.known (λ x s. elim (r.sources x s) [
          | inl same ↦ subst (λ w. Derived rules v w) (sym same) (derived_below b m.0.1 link.namer (omega arith) link.there)
          | inr taken ↦ let p = place_taken (member_names list) (suc k) x taken in let below = p.1 in derived_below b p.0 x (omega arith) p.2
        ]) (subst (λ w. IsTrue (among r.rule.gives w)) m.2 r.gives)

    pub all_derived : (u : ℕ) → IsTrue (among (member_names list) u) → Derived rules v u
    all_derived u h = let p = place_among (member_names list) u h in derived_below (suc p.0) p.0 u (omega arith) p.1

  -- ---- where all is settled, the list is closed
  all_closed : (v : ℕ) (list : MemberList) → IsAscending (node_names nodes) → IsChained nodes i v run list → AllNamesAreMembers nodes i run (member_names list) (member_names list) → IsClosed rules v (among (member_names list))
  all_closed v list up chained settled = record {
    start = first_in list chained.first;
    each = λ r c within u g. elim (contained_either r (map node_rule nodes) (flat_map (λ x. announcement_rules i x.event) run) c) [
      | inl k ↦ by_node r k within u g
      | inr k ↦ by_announcement r k within u g
    ];
  }
    where
      first_in : (xs : MemberList) → slice_get xs 0 ≡ Some (v, 0) → among (member_names xs) v ≡ true
      first_in [] e = cc
      first_in (x ∷ xs) e = let same : x.0 ≡ v = cc in subst (λ w. among (member_names (x ∷ xs)) w ≡ true) same (among_head x.0 (member_names xs))

      by_node : (r : Rule) → Contains (map node_rule nodes) r → AreWithin (among r.sources) (among (member_names list)) → (u : ℕ) → IsTrue (among r.gives u) → among (member_names list) u ≡ true
      by_node r k within u g =
          let h = mapped_from node_rule nodes r k in
          let member : among (member_names list) h.0.name ≡ true = subst (λ (x : Rule). AreWithin (among x.sources) (among (member_names list))) (sym h.2) within h.0.name (among_head h.0.name []) in
          let place = place_among (member_names list) h.0.name member in
          settled place.0 h.0.name place.1 u (configured h.0.slices (found_node nodes h.0 up h.1) (subst (λ (x : Rule). IsTrue (among x.gives u)) (sym h.2) g))

      by_announcement : (r : Rule) → Contains (flat_map (λ x. announcement_rules i x.event) run) r → AreWithin (among r.sources) (among (member_names list)) → (u : ℕ) → IsTrue (among r.gives u) → among (member_names list) u ≡ true
      by_announcement r k within u g =
          let x = from_flat (λ (y : Entry). announcement_rules i y.event) run r k in
          let ruled_by = rule_announced i x.1.event r x.3 in
          let a = ruled_by.announcement in
          let receiver : among (member_names list) a.receiver ≡ true = within a.receiver ruled_by.is.receiver in
          let sender : among (member_names list) a.sender ≡ true = within a.sender ruled_by.is.sender in
          let place = place_among (member_names list) a.sender sender in
          let at : announced_at run x.0 ≡ Some a = ap announced_in x.2 ∙ ruled_by.by in
          settled place.0 a.sender place.1 u (learnt x.0 a at ruled_by.at refl receiver (subst (λ (ns : List ℕ). IsTrue (among ns u)) ruled_by.is.gives g))

  -- a chained list in which all is settled is the closure
  pub is_closure : (v : ℕ) (list : MemberList) → IsAscending (node_names nodes) → IsChained nodes i v run list → AllNamesAreMembers nodes i run (member_names list) (member_names list) → IsDistinct (λ x y. x == y) (member_names list) → AreMembersAt nodes i v run 0 list → IsClosureList nodes i v run list
  unfolding closure
  is_closure v list up chained settled once in_turn = record {
    chained = chained;
    once = once;
    in_turn = in_turn;
    exactly = λ u. ap (λ (set : Names). set u) (least_is rules v (among (member_names list)) (all_closed v list up chained settled) (all_derived v list chained));
  }
