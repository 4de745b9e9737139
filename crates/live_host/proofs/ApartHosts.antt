-- Hosts by their networks.
use Rattle.std.specs.Prelude.{◌≡◌, ◌≢◌, ◌⊎◌, ◌+◌, ◌≤◌, ◌==◌, ◌∷◌, [], ℕ, Bool, true, false, cond, length, List, Option, Some, None}
use Rattle.std.specs.declared.cmp.Ordering.{Ordering}
use Rattle.std.specs.Ordering.{is_eq, nat_cmp}
use Rattle.std.specs.BTreeMap.{is_at}
use Rattle.std.specs.Map.{lookup, remove_entry}
use Rattle.std.proofs.Common.{◌∙◌, Less, Equal, Greater, refl, sym, ap, subst, inl, inr, arith, true≢false}
use Rattle.std.proofs.lemmas.Bool.Decides.{Decides-eqb}
use Rattle.host_network.specs.Standing.{Machine}
use Rattle.line_request.specs.Outlines.{waiting_at}
use Rattle.live_host.specs.Apart.{AreFrom, HasRoomForNetwork, HasRoomToSpare, HostsAreAlikeByNetworks, IsOrdered, NetworksOfAlikeHostsAreAlike, OthersStay, alone, only}
use Rattle.live_host.specs.Futures.{AreAllAlike, IsAlike}
use Rattle.live_host.specs.Futures.AreAllAlike.{both_run, none_runs}
use Rattle.live_host.specs.Hosts.{Live, live_at}
use Rattle.live_host.proofs.AlikeMachines.{AreFoundAlike, found-alike}
use Rattle.live_host.proofs.Alone.{IsOrder, at-itself, found-alone, none-below, order-of, removed-apart, removed-ascend, removed-is-gone, skipped}

-- ---- entries that are found alike
-- of both there is none, or two of which this holds
abbrev AreFoundBy : {X : Type 0} → (X → X → Type 0) → Option X → Option X → Type 0
AreFoundBy R None None = Unit {0}
AreFoundBy R None (Some y) = ⊥
AreFoundBy R (Some x) None = ⊥
AreFoundBy R (Some x) (Some y) = R x y

-- entries have the same numbers, and this holds of those of each
abbrev AreMet : {X : Type 0} → (X → X → Type 0) → List (ℕ × X) → List (ℕ × X) → Type 0
AreMet R [] [] = Unit {0}
AreMet R [] (f ∷ fs) = ⊥
AreMet R (e ∷ es) [] = ⊥
AreMet R (e ∷ es) (f ∷ fs) = (e.0 ≡ f.0) × R e.1 f.1 × AreMet R es fs

found-first : {X : Type 0} (e : ℕ × X) (es : List (ℕ × X)) → lookup (is_at (nat_cmp e.0)) (e ∷ es) ≡ Some e.1
found-first e es = ap (λ o. cond (is_eq o) (Some e.1) (lookup (is_at (nat_cmp e.0)) es)) (at-itself e.0)

found-as : {X : Type 0} (R : X → X → Type 0) (o p o' p' : Option X) → o ≡ o' → p ≡ p' → AreFoundBy R o p → AreFoundBy R o' p'
found-as R o p o' p' one two both = subst (λ x. AreFoundBy R x p') one (subst (AreFoundBy R o) two both)

met : {X : Type 0} (R : X → X → Type 0) (j k : ℕ) (es fs : List (ℕ × X)) → AreFrom j es → AreFrom k fs
    → ((h : ℕ) → AreFoundBy R (lookup (is_at (nat_cmp h)) es) (lookup (is_at (nat_cmp h)) fs)) → AreMet R es fs
met R j k [] [] ascend also found = tt
met R j k [] (f ∷ fs) ascend also found = found-as R _ _ None (Some f.1) refl (found-first f fs) (found f.0)
met R j k (e ∷ es) [] ascend also found = found-as R _ _ (Some e.1) None (found-first e es) refl (found e.0)
met {X} R j k (e ∷ es) (f ∷ fs) ascend also found =
    by (nat_cmp e.0 f.0) (order-of e.0 f.0) (met R (e.0 + 1) (f.0 + 1) es fs ascend.1 also.1)
  where
    rest : e.0 ≡ f.0 → (h : ℕ) (same : Bool) → (h == e.0) ≡ same
        → AreFoundBy R (lookup (is_at (nat_cmp h)) es) (lookup (is_at (nat_cmp h)) fs)
    rest is h true at =
        let here : h ≡ e.0 = (Decides-eqb h e.0).0 at in
        found-as R None None _ _ (sym (none-below h (e.0 + 1) es ascend.1 (omega arith)))
        (sym (none-below h (f.0 + 1) fs also.1 (omega arith))) tt
    rest is h false at =
        let one : h ≢ e.0 = λ here. true≢false (sym ((Decides-eqb h e.0).1 here) ∙ at) in
        let other : h ≢ f.0 = λ here. one (here ∙ sym is) in
        found-as R _ _ _ _ (skipped h e.0 e.1 (lookup (is_at (nat_cmp h)) es) one)
        (skipped h f.0 f.1 (lookup (is_at (nat_cmp h)) fs) other) (found h)

    by : (o : Ordering) → IsOrder e.0 f.0 o
        → (((h : ℕ) → AreFoundBy R (lookup (is_at (nat_cmp h)) es) (lookup (is_at (nat_cmp h)) fs)) → AreMet R es fs)
        → AreMet R (e ∷ es) (f ∷ fs)
    by Less order others =
        absurd (found-as R _ _ (Some e.1) None (found-first e es)
        (none-below e.0 f.0 (f ∷ fs) (omega arith, also.1) order) (found e.0))
    by Equal order others = (
      order,
      found-as R _ _ (Some e.1) (Some f.1) (found-first e es)
          (ap (λ h. lookup (is_at (nat_cmp h)) (f ∷ fs)) order ∙ found-first f fs) (found e.0),
      others (λ h. rest order h (h == e.0) refl),
    )
    by Greater order others =
        absurd (found-as R _ _ None (Some f.1) (none-below f.0 e.0 (e ∷ es) (omega arith, ascend.1) order)
        (found-first f fs) (found f.0))

-- ---- the same entries
same-if-met : {X : Type 0} (es fs : List (ℕ × X)) → AreMet (λ x y. x ≡ y) es fs → es ≡ fs
same-if-met [] [] both = refl
same-if-met [] (f ∷ fs) both = absurd both
same-if-met (e ∷ es) [] both = absurd both
same-if-met {X} (e ∷ es) (f ∷ fs) both =
    let first : e ≡ f = ap (λ g. (g, e.1)) both.0 ∙ ap (λ x. (f.0, x)) both.1 in
    ap (λ x. x ∷ es) first ∙ ap (λ l. f ∷ l) (same-if-met es fs both.2)

found-same : {X : Type 0} (o p : Option X) → o ≡ p → AreFoundBy (λ x y. x ≡ y) o p
found-same None None is = tt
found-same None (Some y) is = absurd (cc)
found-same (Some x) None is = absurd (cc)
found-same (Some x) (Some y) is = cc

pub same-entries : {X : Type 0} (es fs : List (ℕ × X)) → AreFrom 0 es → AreFrom 0 fs
    → ((h : ℕ) → lookup (is_at (nat_cmp h)) es ≡ lookup (is_at (nat_cmp h)) fs) → es ≡ fs
same-entries es fs ascend also found =
    same-if-met es fs (met (λ x y. x ≡ y) 0 0 es fs ascend also (λ h. found-same _ _ (found h)))

-- ---- alike networks
alike-if-met : (ms ns : List (ℕ × Machine)) → AreMet IsAlike ms ns → AreAllAlike ms ns
alike-if-met [] [] both = none_runs
alike-if-met [] (n ∷ ns) both = absurd both
alike-if-met (m ∷ ms) [] both = absurd both
alike-if-met (m ∷ ms) (n ∷ ns) both =
    subst (λ g. AreAllAlike (m ∷ ms) ((g, n.1) ∷ ns)) both.0 (both_run both.1 (alike-if-met ms ns both.2))

by-alike : (o p : Option Machine) → AreFoundAlike o p → AreFoundBy IsAlike o p
by-alike None None alike = tt
by-alike None (Some n) alike = alike
by-alike (Some m) None alike = alike
by-alike (Some m) (Some n) alike = alike

pub waits-as-alone : (g : ℕ) (l other : Live) → (alone g other).waiting ≡ (alone g l).waiting
    → waiting_at other.waiting g ≡ waiting_at l.waiting g
waits-as-alone g l other is =
    sym (found-alone g other.waiting) ∙ ap (λ ws. waiting_at ws g) is ∙ found-alone g l.waiting

pub hosts_are_alike_by_networks : HostsAreAlikeByNetworks
hosts_are_alike_by_networks l other ordered also alike = record {
  bytes = (alike 0).bytes;
  waiting = same-entries other.waiting l.waiting also.waiting ordered.waiting
      (λ h. waits-as-alone h l other (alike h).waiting);
  running = alike-if-met l.running other.running
      (met IsAlike 0 0 l.running other.running ordered.running also.running
      (λ h. found-as IsAlike _ _ _ _ (found-alone h l.running) (found-alone h other.running)
      (by-alike _ _ (found-alike (is_at (nat_cmp h)) (alike h).running))));
}

both-only : (g : ℕ) (o p : Option Machine) → AreFoundAlike o p → AreAllAlike (only g o) (only g p)
both-only g None None alike = none_runs
both-only g None (Some n) alike = absurd alike
both-only g (Some m) None alike = absurd alike
both-only g (Some m) (Some n) alike = both_run alike none_runs

pub networks_of_alike_hosts_are_alike : NetworksOfAlikeHostsAreAlike
networks_of_alike_hosts_are_alike l other g alike = record {
  bytes = alike.bytes;
  waiting = ap (λ ws. only g (waiting_at ws g)) alike.waiting;
  running = both-only g (live_at l g) (live_at other g) (found-alike (is_at (nat_cmp g)) alike.running);
}

-- ---- room
-- one, where something is found
abbrev pub found-count : {X : Type 0} → Option X → ℕ
found-count None = 0
found-count (Some x) = 1

pub count-removed : {X : Type 0} (test : ℕ → Bool) (es : List (ℕ × X))
    → length es ≡ length (remove_entry test es) + found-count (lookup test es)
count-removed test [] = refl
count-removed {X} test (e ∷ es) = by (test e.0) (count-removed test es)
  where
    by : (is : Bool) → length es ≡ length (remove_entry test es) + found-count (lookup test es)
        → length (e ∷ es) ≡ length (cond is es (e ∷ remove_entry test es)) + found-count (cond is (Some e.1) (lookup test es))
    by true rest = omega arith
    by false rest = omega (arith, rest)

pub at-most-one : {X : Type 0} (o : Option X) → found-count o ≤ 1
at-most-one None = omega arith
at-most-one (Some x) = omega arith

-- but for the entry of one number they are the same
same-others : {X : Type 0} (g : ℕ) (es fs : List (ℕ × X)) → AreFrom 0 es → AreFrom 0 fs
    → ((h : ℕ) → h ≢ g → lookup (is_at (nat_cmp h)) es ≡ lookup (is_at (nat_cmp h)) fs)
    → remove_entry (is_at (nat_cmp g)) es ≡ remove_entry (is_at (nat_cmp g)) fs
same-others g es fs ascend also found =
    same-entries (remove_entry (is_at (nat_cmp g)) es) (remove_entry (is_at (nat_cmp g)) fs)
    (removed-ascend (is_at (nat_cmp g)) 0 es ascend) (removed-ascend (is_at (nat_cmp g)) 0 fs also)
    (λ h. by h (h == g) refl)
  where
    by : (h : ℕ) (same : Bool) → (h == g) ≡ same
        → lookup (is_at (nat_cmp h)) (remove_entry (is_at (nat_cmp g)) es)
        ≡ lookup (is_at (nat_cmp h)) (remove_entry (is_at (nat_cmp g)) fs)
    by h true at =
        subst (λ k. lookup (is_at (nat_cmp k)) (remove_entry (is_at (nat_cmp g)) es)
        ≡ lookup (is_at (nat_cmp k)) (remove_entry (is_at (nat_cmp g)) fs)) (sym ((Decides-eqb h g).0 at))
        (removed-is-gone g 0 es ascend ∙ sym (removed-is-gone g 0 fs also))
    by h false at =
        let differ : h ≢ g = λ here. true≢false (sym ((Decides-eqb h g).1 here) ∙ at) in
        removed-apart g h es differ ∙ found h differ ∙ sym (removed-apart g h fs differ)

-- a host whose other networks are those of one that has room to spare has room
pub room-next-to : (g : ℕ) (l other : Live) → IsOrdered l → IsOrdered other → OthersStay g l other → HasRoomToSpare l
    → HasRoomForNetwork other
room-next-to g l other ordered also stay room =
    let waiting =
    ap length (same-others g other.waiting l.waiting also.waiting ordered.waiting
    (λ h differ. sym (waits-as-alone h other l (ap (λ x. x.waiting) (sym (stay h differ)))))) in
    let running =
    ap length (same-others g other.running l.running also.running ordered.running
    (λ h differ. sym (found-alone h other.running) ∙ ap (λ x. lookup (is_at (nat_cmp h)) x.running) (stay h differ)
    ∙ found-alone h l.running)) in
    let one = count-removed (is_at (nat_cmp g)) l.waiting in
    let two = count-removed (is_at (nat_cmp g)) l.running in
    let three = count-removed (is_at (nat_cmp g)) other.waiting in
    let four = count-removed (is_at (nat_cmp g)) other.running in
    let few : found-count (waiting_at other.waiting g) + found-count (live_at other g) ≤ 1 = by (also.apart g) in
    omega (arith, waiting, running, one, two, three, four, few, room)
  where
    by : (waiting_at other.waiting g ≡ None) ⊎ (live_at other g ≡ None)
        → found-count (waiting_at other.waiting g) + found-count (live_at other g) ≤ 1
    by (inl is) =
        let at : found-count (waiting_at other.waiting g) ≡ 0 = ap found-count is in
        let most = at-most-one (live_at other g) in omega (arith, at, most)
    by (inr is) =
        let at : found-count (live_at other g) ≡ 0 = ap found-count is in
        let most = at-most-one (waiting_at other.waiting g) in omega (arith, at, most)
