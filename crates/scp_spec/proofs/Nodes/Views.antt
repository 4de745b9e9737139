-- What a node sees is what it sees of the rows of a set that is closed under its slices and those rows. `Passes`,
-- `Runs`, and the crates `scp_voting` and `node_view` stand on it.
use Rattle.std.proofs.Common.{◌≡◌, ℕ, Bool, true, false, not, cond, ◌&&◌, ◌||◌, ◌==◌, Option, Some, None, List, [], ◌∷◌, map, filter, option_map, find, if◌then◌else◌, refl, sym, ◌∙◌, ap, ap₂, subst, inl, inr}
use Rattle.std.specs.List.{list_all, cons_option}
use Rattle.std.proofs.Math.Path.{fun_ext}
use Rattle.std.proofs.lemmas.Bool.{cases_Bool, or_cases, and_parts, and_from, true≢false, not-true, eqb-true}
use Rattle.scp_types.specs.Trees.{Slices}
use Rattle.scp_types.specs.declared.kind.Kind.{Kind}
use Rattle.scp_types.specs.declared.kind.Kind.TheVariants.{Nomination}
use Rattle.scp_types.specs.declared.statement.Statement.{Statement}
use Rattle.scp_types.specs.Statements.{Sent, kind_of}
use Rattle.scp_spec.specs.Sets.{Names, among, both, within}
use Rattle.scp_spec.specs.Satisfaction.{sat, is_blocked, names}
use Rattle.scp_spec.specs.Quorums.{Lists, NamesWithin}
use Rattle.scp_spec.specs.Rows.{row, is_row_of, is_kind}
use Rattle.scp_spec.specs.Backing.{slices_by, is_passed}
use Rattle.scp_spec.specs.Closures.{Rule, keeps, in_least}
use Rattle.scp_spec.specs.Reach.{reach_of, rule_of}
use Rattle.scp_spec.specs.Views.{others_reached, rows_seen, led_by, passing_with, quorum_passes, blocking_passes, seen}
use Rattle.scp_spec.proofs.Sets.Finite.{same_test, all_from, within-at, among_head, among_tail}
use Rattle.scp_spec.proofs.Slices.Satisfaction.{outside, sat_local, sat_monotone, sat_outside}
use Rattle.scp_spec.proofs.Slices.Quorums.{has_quorum-from, has_quorum-found, quorum_agree}
use Rattle.scp_spec.proofs.Sets.Least.{keeps-at, keeps-from}
use Rattle.scp_spec.proofs.Sets.RuleLists.{least-in, least-from}
use Rattle.scp_spec.proofs.Sets.Lists.{find_filter, filter_filter, all_weaker}

-- the rows of the senders in R
abbrev pub cut : Names → List Sent → List Sent
cut R table = filter (λ e. R e.sender) table

-- what a sender in R announces lies in R
abbrev pub announces_in : Names → Sent → Bool
announces_in R e = not (R e.sender) || within (names e.slices) R

-- the row of a sender in R
pub row-cut : (R : Names) (table : List Sent) (u : ℕ) (k : Kind) → R u ≡ true → row (cut R table) u k ≡ row table u k
unfolding row
row-cut R table u k i =
    find_filter (λ (e : Sent). R e.sender) (is_row_of u k)
    (λ e h. ap R (eqb-true e.sender u (and_parts (e.sender == u) (is_kind k (kind_of e.body)) h).0) ∙ i) table

-- whether what there is passes
abbrev pub if_some : {X : Type 0} → (X → Bool) → Option X → Bool
if_some p None = true
if_some p (Some x) = p x

-- what holds of all rows holds of a row, and a row is of its sender
pub row-all : (P : Sent → Bool) (table : List Sent) (u : ℕ) (k : Kind) → list_all P table ≡ true
    → if_some (λ e. P e && (e.sender == u)) (row table u k) ≡ true
unfolding row
row-all P [] u k h = refl
row-all P (e ∷ es) u k h =
    let p = and_parts (P e) (list_all P es) h in go (is_row_of u k e) refl p.0 (row-all P es u k p.1)
  where
    go : (b : Bool) → is_row_of u k e ≡ b → P e ≡ true
        → if_some (λ e. P e && (e.sender == u)) (find (is_row_of u k) es) ≡ true
        → if_some (λ e. P e && (e.sender == u)) (cond b (Some e) (find (is_row_of u k) es)) ≡ true
    go true i p f = and_from (P e) (e.sender == u) p (and_parts (e.sender == u) (is_kind k (kind_of e.body)) i).0
    go false i p f = f

-- R holds v, the names of v's slices, and the names that senders in R announced
pub record Closing (R : Names) (v : ℕ) (q : Slices) (table : List Sent) : Type 0 where
  pub has : R v ≡ true
  pub own : within (names q) R ≡ true
  pub rows : list_all (announces_in R) table ≡ true

abbrev pub names_of_row : Option Sent → List ℕ
names_of_row None = []
names_of_row (Some e) = names e.slices

-- the names in a row of a sender in R
pub row-names : (R : Names) (table : List Sent) → list_all (announces_in R) table ≡ true → (u : ℕ) (k : Kind)
    → R u ≡ true → within (names_of_row (row table u k)) R ≡ true
row-names R table h u k i = go (row table u k) (row-all (announces_in R) table u k h)
  where
    go : (o : Option Sent) → if_some (λ e. announces_in R e && (e.sender == u)) o ≡ true
        → within (names_of_row o) R ≡ true
    go None p = refl
    go (Some e) p =
        let a = and_parts (announces_in R e) (e.sender == u) p in
        elim (or_cases (not (R e.sender)) (within (names e.slices) R) a.0) [
          | inl n ↦ absurd (true≢false (sym (ap R (eqb-true e.sender u a.1) ∙ i) ∙ not-true _ n))
          | inr w ↦ w
        ]

one_in : (S : Names) (u : ℕ) → within (u ∷ []) S ≡ true → S u ≡ true
one_in S u w = (and_parts (S u) true w).0

in_one : (S : Names) (u : ℕ) → S u ≡ true → within (u ∷ []) S ≡ true
in_one S u i = and_from (S u) true i refl

-- what a row of a sender in R names
row-within : (R : Names) (e : Sent) → announces_in R e ≡ true → R e.sender ≡ true → within (names e.slices) R ≡ true
row-within R e a i = elim (or_cases (not (R e.sender)) (within (names e.slices) R) a) [
  | inl n ↦ absurd (true≢false (sym i ∙ not-true _ n))
  | inr w ↦ w
]

-- Reach lies in R
pub reached-in : (R : Names) (v : ℕ) (q : Slices) (table : List Sent) → Closing R v q table → (u : ℕ)
    → reach_of v q table u ≡ true → R u ≡ true
unfolding reach_of
reached-in R v q table c u h = least-in (first ∷ map rule_of table) v R c.has
    (and_from (keeps R first) (list_all (keeps R) (map rule_of table)) (keeps-from R first (λ w. c.own))
    (go table c.rows)) u h
  where
    first : Rule
    first = record { sources = v ∷ []; gives = names q }

    go : (es : List Sent) → list_all (announces_in R) es ≡ true → list_all (keeps R) (map rule_of es) ≡ true
    go [] a = refl
    go (e ∷ es) a = let p = and_parts (announces_in R e) (list_all (announces_in R) es) a in
        and_from (keeps R (rule_of e)) (list_all (keeps R) (map rule_of es))
        (keeps-from R (rule_of e) (λ w. row-within R e p.0 (one_in R e.sender w))) (go es p.1)

-- Reach is the same of the rows of R alone
pub reached-cut : (R : Names) (v : ℕ) (q : Slices) (table : List Sent) → Closing R v q table → (u : ℕ)
    → reach_of v q table u ≡ reach_of v q (cut R table) u
unfolding reach_of
reached-cut R v q table c u = same_test _ _ less more
  where
    first : Rule
    first = record { sources = v ∷ []; gives = names q }

    -- a set that keeps the rules of the cut, cut itself, keeps all
    up : (S : Names) (es : List Sent) → list_all (announces_in R) es ≡ true
        → list_all (keeps S) (map rule_of (cut R es)) ≡ true → list_all (keeps (both R S)) (map rule_of es) ≡ true
    up S [] a h = refl
    up S (e ∷ es) a h =
        let q = and_parts (announces_in R e) (list_all (announces_in R) es) a in
        elim (cases_Bool (R e.sender)) [
          | inl i ↦ let p = and_parts (keeps S (rule_of e)) (list_all (keeps S) (map rule_of (cut R es))) (rw i at h) in
              and_from (keeps (both R S) (rule_of e)) (list_all (keeps (both R S)) (map rule_of es))
              (keeps-from (both R S) (rule_of e) (λ w. all_from (both R S) (names e.slices) (λ y n. and_from (R y) (S y)
              (within-at (names e.slices) R y (row-within R e q.0 i) n)
              (within-at (names e.slices) S y
              (keeps-at S (rule_of e) p.0
              (in_one S e.sender (and_parts (R e.sender) (S e.sender) (one_in (both R S) e.sender w)).1)) n))))
              (up S es q.1 p.1)
          | inr o ↦ and_from (keeps (both R S) (rule_of e)) (list_all (keeps (both R S)) (map rule_of es))
              (keeps-from (both R S) (rule_of e)
              (λ w. absurd (true≢false (sym (and_parts (R e.sender) (S e.sender)
              (one_in (both R S) e.sender w)).0 ∙ o))))
              (up S es q.1 (rw o at h))
        ]

    down : (S : Names) (es : List Sent) → list_all (keeps S) (map rule_of es) ≡ true
        → list_all (keeps S) (map rule_of (cut R es)) ≡ true
    down S [] h = refl
    down S (e ∷ es) h =
        let p = and_parts (keeps S (rule_of e)) (list_all (keeps S) (map rule_of es)) h in
        elim (cases_Bool (R e.sender)) [
          | inl i ↦ rw i
              (and_from (keeps S (rule_of e)) (list_all (keeps S) (map rule_of (cut R es))) p.0 (down S es p.1))
          | inr o ↦ rw o (down S es p.1)
        ]

    less : in_least (first ∷ map rule_of table) v u ≡ true → in_least (first ∷ map rule_of (cut R table)) v u ≡ true
    less h = least-from (first ∷ map rule_of (cut R table)) v u (λ S j k.
        let p = and_parts (keeps S first) (list_all (keeps S) (map rule_of (cut R table))) k in
        (and_parts (R u) (S u) (least-in (first ∷ map rule_of table) v (both R S) (and_from (R v) (S v) c.has j)
        (and_from (keeps (both R S) first) (list_all (keeps (both R S)) (map rule_of table))
        (keeps-from (both R S) first (λ w. all_from (both R S) (names q)
        (λ y n. and_from (R y) (S y) (within-at (names q) R y c.own n)
        (within-at (names q) S y (keeps-at S first p.0 (in_one S v j)) n))))
        (up S table c.rows p.1)) u h)).1)

    more : in_least (first ∷ map rule_of (cut R table)) v u ≡ true → in_least (first ∷ map rule_of table) v u ≡ true
    more h = least-from (first ∷ map rule_of table) v u (λ S j k.
        let p = and_parts (keeps S first) (list_all (keeps S) (map rule_of table)) k in
        least-in (first ∷ map rule_of (cut R table)) v S j
        (and_from (keeps S first) (list_all (keeps S) (map rule_of (cut R table))) p.0 (down S table p.1)) u h)

-- the rows that are seen
rows_seen-cut : (R : Names) (v : ℕ) (q : Slices) (table : List Sent) → Closing R v q table → (k : Kind)
    → rows_seen v q table k ≡ rows_seen v q (cut R table) k
unfolding rows_seen
rows_seen-cut R v q table c k =
    let now : Sent → Bool = λ e. is_kind k (kind_of e.body) && others_reached v q table e.sender in
    let within_R : (e : Sent) → now e ≡ true → R e.sender ≡ true = λ e h.
    reached-in R v q table c e.sender
    (and_parts (not (v == e.sender)) (reach_of v q table e.sender)
    (and_parts (is_kind k (kind_of e.body)) (others_reached v q table e.sender) h).1).1 in
    ap (map (λ (e : Sent). e.body))
    (sym (filter_filter (λ (e : Sent). R e.sender) now within_R table)
    ∙ ap (λ (p : Sent → Bool). filter p (cut R table))
    (fun_ext (λ (e : Sent). ap (λ b. is_kind k (kind_of e.body) && (not (v == e.sender) && b))
    (reached-cut R v q table c e.sender))))

-- the leaders' rows
led_by-cut : (R : Names) (table : List Sent) (leaders : List ℕ) → within leaders R ≡ true
    → led_by leaders table ≡ led_by leaders (cut R table)
unfolding led_by
led_by-cut R table [] w = refl
led_by-cut R table (u ∷ us) w = let p = and_parts (R u) (within us R) w in
    ap₂ (λ (o : Option Sent) (ys : List Statement). cons_option (option_map (λ e. e.body) o) ys)
    (sym (row-cut R table u Nomination p.0)) (led_by-cut R table us p.1)

-- who has a row sent something
row-sender : (table : List Sent) (u : ℕ) (k : Kind) (e : Sent) → row table u k ≡ Some e
    → among (map (λ e. e.sender) table) u ≡ true
row-sender table u k e h =
    let p : (among (map (λ e. e.sender) table) e.sender && (e.sender == u)) ≡ true =
    subst (λ o. if_some (λ e. among (map (λ e. e.sender) table) e.sender && (e.sender == u)) o ≡ true) h
    (row-all (λ e. among (map (λ e. e.sender) table) e.sender) table u k (all_senders table)) in
    let a = and_parts (among (map (λ e. e.sender) table) e.sender) (e.sender == u) p in
    subst (λ y. among (map (λ e. e.sender) table) y ≡ true) (eqb-true e.sender u a.1) a.0
  where
    all_senders : (es : List Sent) → list_all (λ e. among (map (λ e. e.sender) es) e.sender) es ≡ true
    all_senders [] = refl
    all_senders (x ∷ xs) =
        and_from (among (map (λ e. e.sender) (x ∷ xs)) x.sender)
        (list_all (λ e. among (map (λ e. e.sender) (x ∷ xs)) e.sender) xs)
        (among_head x.sender (map (λ e. e.sender) xs))
        (all_weaker (λ e. among (map (λ e. e.sender) xs) e.sender) (λ e. among (map (λ e. e.sender) (x ∷ xs)) e.sender)
        (λ e h. among_tail x.sender e.sender (map (λ e. e.sender) xs) h) xs (all_senders xs))

slices_by-cut : (R : Names) (v : ℕ) (q : Slices) (table : List Sent) (k : Kind) (u : ℕ) → R u ≡ true
    → slices_by v q table k u ≡ slices_by v q (cut R table) k u
slices_by-cut R v q table k u i =
    ap (λ (o : Option Sent). if v == u then Some q else option_map (λ e. e.slices) o) (sym (row-cut R table u k i))

passing_with-cut : (R : Names) (v : ℕ) (table : List Sent) (k : Kind) (own : Bool) (test : Statement → Bool) (u : ℕ)
    → R u ≡ true → passing_with v table k own test u ≡ passing_with v (cut R table) k own test u
passing_with-cut R v table k own test u i =
    ap (λ (o : Option Sent). if v == u then own else is_passed test o) (sym (row-cut R table u k i))

-- whose slices are known is v or sent something
pub lists : (v : ℕ) (q : Slices) (table : List Sent) (k : Kind)
    → Lists (v ∷ map (λ e. e.sender) table) (slices_by v q table k)
lists v q table k u p h = go (v == u) (row table u k) refl refl h
  where
    go : (b : Bool) (o : Option Sent) → (v == u) ≡ b → row table u k ≡ o
        → (if b then Some q else option_map (λ e. e.slices) o) ≡ Some p
        → (b || among (map (λ e. e.sender) table) u) ≡ true
    go true o e r s = refl
    go false None e r s = cc
    go false (Some x) e r s = row-sender table u k x r

-- the slices that are known of a node in R lie in R
known_in : (R : Names) (v : ℕ) (q : Slices) (table : List Sent) → Closing R v q table → (k : Kind)
    → NamesWithin names (slices_by v q table k) R
known_in R v q table c k u p i h y n = go (v == u) (row table u k) (row-names R table c.rows u k i) h
  where
    go : (b : Bool) (o : Option Sent) → within (names_of_row o) R ≡ true
        → (if b then Some q else option_map (λ e. e.slices) o) ≡ Some p → R y ≡ true
    go true o w s =
        let e : q ≡ p = cc in within-at (names q) R y c.own (subst (λ (t : Slices). among (names t) y ≡ true) (sym e) n)
    go false None w s = cc
    go false (Some x) w s =
        let e : x.slices ≡ p = cc in
        within-at (names x.slices) R y w (subst (λ (t : Slices). among (names t) y ≡ true) (sym e) n)

quorum_passes-cut : (R : Names) (v : ℕ) (q : Slices) (table : List Sent) → Closing R v q table
    → (k : Kind) (own : Bool) (test : Statement → Bool)
    → quorum_passes v q table k own test ≡ quorum_passes v q (cut R table) k own test
unfolding quorum_passes
quorum_passes-cut R v q table c k own test = same_test _ _
    (λ h. has_quorum-from sat (slices_by v q (cut R table) k) sat_monotone (v ∷ map (λ e. e.sender) (cut R table))
    (passing_with v (cut R table) k own test) v (lists v q (cut R table) k)
    (quorum_agree sat names (slices_by v q table k) sat_local (slices_by v q (cut R table) k)
    (passing_with v table k own test) (passing_with v (cut R table) k own test) R
    (known_in R v q table c k) (slices_by-cut R v q table k) (passing_with-cut R v table k own test) v c.has
    (has_quorum-found sat (slices_by v q table k) (v ∷ map (λ e. e.sender) table)
    (passing_with v table k own test) v h)))
    (λ h. has_quorum-from sat (slices_by v q table k) sat_monotone (v ∷ map (λ e. e.sender) table)
    (passing_with v table k own test) v (lists v q table k)
    (quorum_agree sat names (slices_by v q (cut R table) k) sat_local (slices_by v q table k)
    (passing_with v (cut R table) k own test) (passing_with v table k own test) R
    (λ u p i e. known_in R v q table c k u p i (slices_by-cut R v q table k u i ∙ e))
    (λ u i. sym (slices_by-cut R v q table k u i)) (λ u i. sym (passing_with-cut R v table k own test u i)) v c.has
    (has_quorum-found sat (slices_by v q (cut R table) k) (v ∷ map (λ e. e.sender) (cut R table))
    (passing_with v (cut R table) k own test) v h)))

not_alike : (a b : Bool) → not a ≡ not b → a ≡ b
not_alike true true h = refl
not_alike true false h = sym h
not_alike false true h = sym h
not_alike false false h = refl

-- sets that agree on the names block both or neither
pub is_blocked-local : (q : Slices) (a b : Names) → ((u : ℕ) → among (names q) u ≡ true → a u ≡ b u)
    → is_blocked q a ≡ is_blocked q b
is_blocked-local q a b f = not_alike (is_blocked q a) (is_blocked q b)
    (sym (sat_outside q a) ∙ (sat_local q (outside a) (outside b) (λ u n. ap not (f u n)) ∙ sat_outside q b))

blocking_passes-cut : (R : Names) (v : ℕ) (q : Slices) (table : List Sent) → Closing R v q table
    → (k : Kind) (own : Bool) (test : Statement → Bool)
    → blocking_passes v q table k own test ≡ blocking_passes v q (cut R table) k own test
unfolding blocking_passes
blocking_passes-cut R v q table c k own test =
    is_blocked-local q (passing_with v table k own test) (passing_with v (cut R table) k own test)
    (λ u n. passing_with-cut R v table k own test u (within-at (names q) R u c.own n))

-- What a node sees of its table is what it sees of the rows of R: all that the rules read.
pub seen-cut : (R : Names) (v : ℕ) (q : Slices) (leaders : List ℕ) (table : List Sent) → Closing R v q table
    → within leaders R ≡ true → seen v q leaders table ≡ seen v q leaders (cut R table)
unfolding seen
seen-cut R v q leaders table c w = λ i. record {
  rows = (fun_ext (λ k. rows_seen-cut R v q table c k)) i;
  led = (led_by-cut R table leaders w) i;
  quorum = (fun_ext (λ k. fun_ext (λ own. fun_ext (λ test. quorum_passes-cut R v q table c k own test)))) i;
  blocking = (fun_ext (λ k. fun_ext (λ own. fun_ext (λ test. blocking_passes-cut R v q table c k own test)))) i;
}
