-- What is read of two networks that are alike, and what comes of them.
use Rattle.std.specs.Prelude.{◌≡◌, ◌+◌, ◌-◌, ◌∷◌, [], ℕ, suc, Bool, true, false, cond, List, Option, Some, None, length, option_map}
use Rattle.std.specs.declared.cmp.Ordering.{Ordering}
use Rattle.std.specs.Ordering.{match_ordering, nat_cmp}
use Rattle.std.specs.BTreeMap.{insert_entry}
use Rattle.std.specs.Map.{lookup, remove_entry, set_value}
use Rattle.std.proofs.Common.{◌∙◌, Less, Equal, Greater, refl, sym, ap, subst, arith}
use Rattle.scp_types.specs.declared.event.Event.TheVariants.{Deliver}
use Rattle.scp_spec.specs.Hosts.{Config}
use Rattle.scp_spec.specs.Networks.{Step}
use Rattle.scp_spec.specs.Rosters.{Roster}
use Rattle.host_network.specs.Decoding.{step_of}
use Rattle.host_network.specs.Standing.{IsStood, Machine, net_of, node_at}
use Rattle.live_network.specs.Telling.{IsServedBy}
use Rattle.live_network.specs.declared.served.Served.{Served}
use Rattle.live_network.specs.Left.{left_of}
use Rattle.live_network.specs.declared.left.Left.{Left}
use Rattle.live_feed.specs.declared.answering.Drawn.{Drawn}
use Rattle.line_script.specs.Script.{Bytes}
use Rattle.live_host.specs.Futures.{AreAllAlike, AreBothMoved, IsAlike, moved, moved_budgets, moved_net, moved_roster}
use Rattle.live_host.specs.Futures.AreAllAlike.{both_run, none_runs}
use Rattle.live_host.specs.Hosts.{AreServed, IsNodeText, IsShownOf, begun, drawn, not_there, used_of}
use Rattle.live_host.specs.Hosts.AreServed.{next_node, none_left}
use Rattle.live_host.specs.declared.all.NodeAnswer.{NodeAnswer}
use Rattle.live_host.proofs.MovedBack.{moved_machines_serve_no_more}
use Rattle.live_host.proofs.MovedMachines.{moved_machines_serve_alike}
use Rattle.live_host.proofs.MovedParts.{roster_with, same-budgets, same-machine}

-- ---- what is read
same-less : (a b d : ℕ) → (a + d) - (b + d) ≡ a - b
same-less a b d = omega arith

abbrev drawn-as : ℕ → ℕ → ℕ → Drawn
drawn-as events bytes opens = record { events = events; bytes = bytes; opens = opens }

-- what was drawn between two states does not depend on what was used up before them
drawn-moves : (d : Drawn) (m after : Machine) → drawn (moved d m) (moved d after) ≡ drawn m after
drawn-moves d m after =
    ap (λ n. drawn-as n ((after.bytes + d.bytes) - (m.bytes + d.bytes)) ((after.opens + d.opens) - (m.opens + d.opens)))
    (same-less after.events m.events d.events)
    ∙ ap (λ n. drawn-as (after.events - m.events) n ((after.opens + d.opens) - (m.opens + d.opens)))
    (same-less after.bytes m.bytes d.bytes)
    ∙ ap (drawn-as (after.events - m.events) (after.bytes - m.bytes)) (same-less after.opens m.opens d.opens)

pub drawn-alike : (d e : Drawn) (m n after next : Machine) → AreBothMoved d e m n → AreBothMoved d e after next
    → drawn n next ≡ drawn m after
drawn-alike d e m n after next before behind =
    ap (λ x. drawn x next) before.other_is ∙ ap (drawn (moved e before.common)) behind.other_is
    ∙ drawn-moves e before.common behind.common
    ∙ sym (ap (λ x. drawn x after) before.one_is ∙ ap (drawn (moved d before.common)) behind.one_is
    ∙ drawn-moves d before.common behind.common)

pub nodes-alike : (m n : Machine) → IsAlike m n → n.config.nodes ≡ m.config.nodes
nodes-alike m n (d, e, alike) =
    ap (λ x. x.config.nodes) alike.other_is ∙ sym (ap (λ x. x.config.nodes) alike.one_is)

abbrev left-as : ℕ → ℕ → ℕ → Option ℕ → Left
left-as events bytes slots opens = record { events = events; bytes = bytes; slots = slots; opens = opens }

opens-left : (d used : ℕ) (r : Option Roster) (more : Drawn) → more.opens ≡ d
    → option_map (λ r. r.shares.opens - (used + d)) (option_map (moved_roster more) r)
    ≡ option_map (λ r. r.shares.opens - used) r
opens-left d used None more is = refl
opens-left d used (Some r) more is =
    ap Some (ap (λ n. (r.shares.opens + n) - (used + d)) is ∙ same-less r.shares.opens used d)

left-moves : (d : Drawn) (m : Machine) → left_of (moved d m).config (used_of (moved d m)) ≡ left_of m.config (used_of m)
left-moves d m =
    ap (λ n. left-as n ((m.config.budgets.bytes + d.bytes) - (m.bytes + d.bytes)) (m.config.budgets.slots - length m.slots)
    (option_map (λ r. r.shares.opens - (m.opens + d.opens)) (option_map (moved_roster d) m.config.roster)))
    (same-less m.config.budgets.events m.events d.events)
    ∙ ap (λ n. left-as (m.config.budgets.events - m.events) n (m.config.budgets.slots - length m.slots)
    (option_map (λ r. r.shares.opens - (m.opens + d.opens)) (option_map (moved_roster d) m.config.roster)))
    (same-less m.config.budgets.bytes m.bytes d.bytes)
    ∙ ap (left-as (m.config.budgets.events - m.events) (m.config.budgets.bytes - m.bytes)
    (m.config.budgets.slots - length m.slots)) (opens-left d.opens m.opens m.config.roster d refl)

pub left-alike : (m n : Machine) → IsAlike m n → left_of n.config (used_of n) ≡ left_of m.config (used_of m)
left-alike m n (d, e, alike) =
    ap (λ x. left_of x.config (used_of x)) alike.other_is ∙ left-moves e alike.common
    ∙ sym (ap (λ x. left_of x.config (used_of x)) alike.one_is ∙ left-moves d alike.common)

shown-moves : (d e : Drawn) (n g i u : ℕ) (m : Machine) (text : Bytes)
    → IsShownOf n g i u (moved d m) text → IsShownOf n g i u (moved e m) text
shown-moves d e n g i u m text shown net stands =
    subst (λ x. IsNodeText n g i (not_there m.config u) (node_at x i u) text) (sym stands.is)
    (shown (moved_net d (net_of m net.draws)) (record { is = refl; tallied = stands.tallied }))

pub shown-alike : (n g i u : ℕ) (m other : Machine) (text : Bytes) → IsAlike m other
    → IsShownOf n g i u m text → IsShownOf n g i u other text
shown-alike n g i u m other text (d, e, alike) shown =
    subst (λ x. IsShownOf n g i u x text) (sym alike.other_is)
    (shown-moves d e n g i u alike.common text (subst (λ x. IsShownOf n g i u x text) alike.one_is shown))

-- ---- what comes of them
pub served-alike : (d e : Drawn) (m n after : Machine) (step : Step) (s : Served) → AreBothMoved d e m n
    → IsServedBy m step after s → (next : Machine) × IsServedBy n step next s × AreBothMoved d e after next
served-alike d e m n after step s alike served =
    let one = subst (λ x. IsServedBy x step after s) alike.one_is served in
    let back = moved_machines_serve_no_more d alike.common after step s alike.stood one in (
      moved e back.0,
      subst (λ x. IsServedBy x step (moved e back.0) s) (sym alike.other_is)
          (moved_machines_serve_alike e alike.common back.0 step s back.3),
      record { common = back.0; stood = back.1; one_is = back.2; other_is = refl },
    )

pub all-served-alike : (d e : Drawn) (bytes : Bytes) {us : List ℕ} {m : Machine} {answers : List NodeAnswer}
    {after : Machine} → AreServed bytes us m answers after → (n : Machine) → AreBothMoved d e m n
    → (next : Machine) × AreServed bytes us n answers next × AreBothMoved d e after next
all-served-alike d e bytes none_left n alike = (n, none_left, alike)
all-served-alike d e bytes (next_node {old} {now} a served others) n alike =
    let here = served-alike d e old n now (step_of (Deliver a.node bytes)) a.served alike served in
    let rest = all-served-alike d e bytes others here.0 here.2 in
    (rest.0, next_node a here.1 rest.1, rest.2)

-- ---- a network that begins
abbrev nothing : Drawn
nothing = record { events = 0; bytes = 0; opens = 0 }

add-none : (n : ℕ) → n ≡ n + 0
add-none n = omega arith

roster-stays : (r : Option Roster) → r ≡ option_map (moved_roster nothing) r
roster-stays None = refl
roster-stays (Some r) = ap (λ n. Some (roster_with r n)) (add-none r.shares.opens)

pub stays : (m : Machine) → m ≡ moved nothing m
stays m =
    same-machine m _ _ _ _ _ _ _ _ _ _
    (same-budgets m.config.budgets (moved_budgets nothing m.config.budgets) (add-none m.config.budgets.events)
    (add-none m.config.budgets.bytes) refl)
    (roster-stays m.config.roster) (add-none m.events) (add-none m.bytes) (add-none m.opens)

pub alike-itself : (m : Machine) → IsStood m → IsAlike m m
alike-itself m stood = (nothing, nothing, record { common = m; stood = stood; one_is = stays m; other_is = stays m })

pub begun-alike : (c : Config) → IsAlike (begun c) (begun c)
begun-alike c = alike-itself (begun c) ([], λ k slot below. absurd (omega (arith, below)))

pub alike-the-other : (m n : Machine) → IsAlike m n → IsAlike n m
alike-the-other m n (d, e, alike) =
    (e, d, record { common = alike.common; stood = alike.stood; one_is = alike.other_is; other_is = alike.one_is })

-- ---- networks by number
-- of both there is none, or there are two that are alike
abbrev pub AreFoundAlike : Option Machine → Option Machine → Type 0
AreFoundAlike None None = Unit {0}
AreFoundAlike None (Some n) = ⊥
AreFoundAlike (Some m) None = ⊥
AreFoundAlike (Some m) (Some n) = IsAlike m n

pub found-alike : (test : ℕ → Bool) {ms ns : List (ℕ × Machine)} → AreAllAlike ms ns
    → AreFoundAlike (lookup test ms) (lookup test ns)
found-alike test none_runs = tt
found-alike test (both_run {g} {m} {n} {ms} {ns} alike others) = by (test g) (found-alike test others)
  where
    by : (is : Bool) → AreFoundAlike (lookup test ms) (lookup test ns)
        → AreFoundAlike (cond is (Some m) (lookup test ms)) (cond is (Some n) (lookup test ns))
    by true rest = alike
    by false rest = rest

pub none-found : (o p : Option Machine) → AreFoundAlike o p → o ≡ None → p ≡ None
none-found None None alike is = refl
none-found None (Some n) alike is = absurd alike
none-found (Some m) p alike is = absurd (cc)

pub one-found : (o p : Option Machine) (m : Machine) → AreFoundAlike o p → o ≡ Some m
    → (n : Machine) × (p ≡ Some n) × IsAlike m n
one-found None p m alike is = absurd (cc)
one-found (Some x) None m alike is = absurd alike
one-found (Some x) (Some n) m alike is = (n, refl, subst (λ y. IsAlike y n) (cc) alike)

pub counts-alike : {ms ns : List (ℕ × Machine)} → AreAllAlike ms ns → length ns ≡ length ms
counts-alike none_runs = refl
counts-alike (both_run alike others) = ap suc (counts-alike others)

pub set-alike : (test : ℕ → Bool) (m n : Machine) → IsAlike m n → {ms ns : List (ℕ × Machine)} → AreAllAlike ms ns
    → AreAllAlike (set_value test ms m) (set_value test ns n)
set-alike test m n alike none_runs = none_runs
set-alike test m n alike (both_run {g} {m = x} {n = y} {ms} {ns} were others) =
    by (test g) (set-alike test m n alike others)
  where
    by : (is : Bool) → AreAllAlike (set_value test ms m) (set_value test ns n)
        → AreAllAlike (cond is ((g, m) ∷ ms) ((g, x) ∷ set_value test ms m))
        (cond is ((g, n) ∷ ns) ((g, y) ∷ set_value test ns n))
    by true rest = both_run alike others
    by false rest = both_run were rest

pub removed-alike : (test : ℕ → Bool) {ms ns : List (ℕ × Machine)} → AreAllAlike ms ns
    → AreAllAlike (remove_entry test ms) (remove_entry test ns)
removed-alike test none_runs = none_runs
removed-alike test (both_run {g} {m} {n} {ms} {ns} were others) = by (test g) (removed-alike test others)
  where
    by : (is : Bool) → AreAllAlike (remove_entry test ms) (remove_entry test ns)
        → AreAllAlike (cond is ms ((g, m) ∷ remove_entry test ms)) (cond is ns ((g, n) ∷ remove_entry test ns))
    by true rest = others
    by false rest = both_run were rest

pub inserted-alike : (g : ℕ) (m n : Machine) → IsAlike m n → {ms ns : List (ℕ × Machine)} → AreAllAlike ms ns
    → AreAllAlike (insert_entry nat_cmp ms g m) (insert_entry nat_cmp ns g n)
inserted-alike g m n alike none_runs = both_run alike none_runs
inserted-alike g m n alike (both_run {g = k} {m = x} {n = y} {ms} {ns} were others) =
    by (nat_cmp g k) (inserted-alike g m n alike others)
  where
    by : (o : Ordering) → AreAllAlike (insert_entry nat_cmp ms g m) (insert_entry nat_cmp ns g n)
        → AreAllAlike (match_ordering o ((g, m) ∷ (k, x) ∷ ms) ((k, m) ∷ ms) ((k, x) ∷ insert_entry nat_cmp ms g m))
        (match_ordering o ((g, n) ∷ (k, y) ∷ ns) ((k, n) ∷ ns) ((k, y) ∷ insert_entry nat_cmp ns g n))
    by Less rest = both_run alike (both_run were others)
    by Equal rest = both_run alike others
    by Greater rest = both_run were rest

pub all-alike-the-other : {ms ns : List (ℕ × Machine)} → AreAllAlike ms ns → AreAllAlike ns ms
all-alike-the-other none_runs = none_runs
all-alike-the-other (both_run {m} {n} alike others) = both_run (alike-the-other m n alike) (all-alike-the-other others)

-- what is alike anything is alike itself
pub all-alike-themselves : {ms ns : List (ℕ × Machine)} → AreAllAlike ms ns → AreAllAlike ms ms
all-alike-themselves none_runs = none_runs
all-alike-themselves (both_run (d, e, alike) others) =
    both_run
    (d, d, record { common = alike.common; stood = alike.stood; one_is = alike.one_is; other_is = alike.one_is })
    (all-alike-themselves others)
