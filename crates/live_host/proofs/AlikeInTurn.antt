-- Two networks that are each alike a third are alike.
use Rattle.std.specs.Prelude.{◌≡◌, ◌+◌, ◌-◌, ℕ, List, Option, Some, None, option_map}
use Rattle.std.proofs.Common.{◌∙◌, refl, sym, ap, arith}
use Rattle.scp_spec.specs.Rosters.{Roster}
use Rattle.host_network.specs.Standing.{Machine}
use Rattle.live_feed.specs.declared.answering.Drawn.{Drawn}
use Rattle.live_host.specs.Futures.{AreAllAlike, IsAlike, MovedIsAlike, moved, moved_budgets, moved_roster}
use Rattle.live_host.specs.Futures.AreAllAlike.{both_run, none_runs}
use Rattle.live_host.proofs.MovedParts.{lowered_budgets, lowered_roster, machine_with, roster_with, same-budgets, same-machine}

-- ---- moved twice
-- so much, and so much
abbrev both : Drawn → Drawn → Drawn
both d e = record { events = d.events + e.events; bytes = d.bytes + e.bytes; opens = d.opens + e.opens }

add-twice : (n a b : ℕ) → (n + a) + b ≡ n + (a + b)
add-twice n a b = omega arith

roster-twice : (d e : Drawn) (r : Option Roster)
    → option_map (moved_roster e) (option_map (moved_roster d) r) ≡ option_map (moved_roster (both d e)) r
roster-twice d e None = refl
roster-twice d e (Some r) = ap (λ n. Some (roster_with r n)) (add-twice r.shares.opens d.opens e.opens)

moved-twice : (d e : Drawn) (m : Machine) → moved e (moved d m) ≡ moved (both d e) m
moved-twice d e m =
    same-machine m _ _ _ _ _ _ _ _ _ _
    (same-budgets (moved_budgets e (moved_budgets d m.config.budgets)) (moved_budgets (both d e) m.config.budgets)
    (add-twice m.config.budgets.events d.events e.events) (add-twice m.config.budgets.bytes d.bytes e.bytes) refl)
    (roster-twice d e m.config.roster) (add-twice m.events d.events e.events) (add-twice m.bytes d.bytes e.bytes)
    (add-twice m.opens d.opens e.opens)

-- ---- two that are moved to one are moved from one
-- so much, less so much
abbrev less : Drawn → Drawn → Drawn
less d e = record { events = d.events - e.events; bytes = d.bytes - e.bytes; opens = d.opens - e.opens }

-- so much less is declared, and as much less is used up
abbrev lowered : Drawn → Machine → Machine
lowered d m = record m {
  config = record m.config {
    budgets = lowered_budgets d m.config.budgets;
    roster = option_map (lowered_roster d) m.config.roster;
  };
  events = m.events - d.events;
  bytes = m.bytes - d.bytes;
  opens = m.opens - d.opens;
}

one-meets : (a b e f : ℕ) → a + e ≡ b + f → a ≡ (a - (f - e)) + (f - e)
one-meets a b e f sums = omega (arith, sums)

other-meets : (a b e f : ℕ) → a + e ≡ b + f → b ≡ (a - (f - e)) + (e - f)
other-meets a b e f sums = omega (arith, sums)

same-roster : (a b : Roster) → Some a ≡ Some b → a ≡ b
same-roster a b same = cc

roster-one : (d e : Drawn) (r s : Option Roster) → option_map (moved_roster d) r ≡ option_map (moved_roster e) s
    → r ≡ option_map (moved_roster (less e d)) (option_map (lowered_roster (less e d)) r)
roster-one d e None s same = refl
roster-one d e (Some r) None same = absurd (cc)
roster-one d e (Some r) (Some s) same =
    ap (λ n. Some (roster_with r n))
    (one-meets r.shares.opens s.shares.opens d.opens e.opens
    (ap (λ x. x.shares.opens) (same-roster (moved_roster d r) (moved_roster e s) same)))

roster-other : (d e : Drawn) (r s : Option Roster) → option_map (moved_roster d) r ≡ option_map (moved_roster e) s
    → s ≡ option_map (moved_roster (less d e)) (option_map (lowered_roster (less e d)) r)
roster-other d e None None same = refl
roster-other d e None (Some s) same = absurd (cc)
roster-other d e (Some r) None same = absurd (cc)
roster-other d e (Some r) (Some s) same =
    let one = same-roster (moved_roster d r) (moved_roster e s) same in
    ap Some (sym (ap (λ x. roster_with x s.shares.opens) one))
    ∙ ap (λ n. Some (roster_with r n))
    (other-meets r.shares.opens s.shares.opens d.opens e.opens (ap (λ x. x.shares.opens) one))

one-of-two : (d e : Drawn) (m n : Machine) → moved d m ≡ moved e n → m ≡ moved (less e d) (lowered (less e d) m)
one-of-two d e m n same =
    same-machine m _ _ _ _ _ _ _ _ _ _
    (same-budgets m.config.budgets (moved_budgets (less e d) (lowered_budgets (less e d) m.config.budgets))
    (one-meets m.config.budgets.events n.config.budgets.events d.events e.events (ap (λ x. x.config.budgets.events) same))
    (one-meets m.config.budgets.bytes n.config.budgets.bytes d.bytes e.bytes (ap (λ x. x.config.budgets.bytes) same)) refl)
    (roster-one d e m.config.roster n.config.roster (ap (λ x. x.config.roster) same))
    (one-meets m.events n.events d.events e.events (ap (λ x. x.events) same))
    (one-meets m.bytes n.bytes d.bytes e.bytes (ap (λ x. x.bytes) same))
    (one-meets m.opens n.opens d.opens e.opens (ap (λ x. x.opens) same))

other-of-two : (d e : Drawn) (m n : Machine) → moved d m ≡ moved e n → n ≡ moved (less d e) (lowered (less e d) m)
other-of-two d e m n same =
    sym (ap (λ x. machine_with x n.config.budgets n.config.roster n.events n.bytes n.opens) same)
    ∙ same-machine m _ _ _ _ _ _ _ _ _ _
    (same-budgets n.config.budgets (moved_budgets (less d e) (lowered_budgets (less e d) m.config.budgets))
    (other-meets m.config.budgets.events n.config.budgets.events d.events e.events (ap (λ x. x.config.budgets.events) same))
    (other-meets m.config.budgets.bytes n.config.budgets.bytes d.bytes e.bytes (ap (λ x. x.config.budgets.bytes) same))
    (sym (ap (λ x. x.config.budgets.slots) same)))
    (roster-other d e m.config.roster n.config.roster (ap (λ x. x.config.roster) same))
    (other-meets m.events n.events d.events e.events (ap (λ x. x.events) same))
    (other-meets m.bytes n.bytes d.bytes e.bytes (ap (λ x. x.bytes) same))
    (other-meets m.opens n.opens d.opens e.opens (ap (λ x. x.opens) same))

-- ---- in turn
pub moved-is-alike : MovedIsAlike
moved-is-alike d m n (a, b, alike) = (
  a,
  both b d,
  record {
    common = alike.common;
    stood = alike.stood;
    one_is = alike.one_is;
    other_is = ap (moved d) alike.other_is ∙ moved-twice b d alike.common;
  },
)

pub alike-in-turn : (l m n : Machine) → IsAlike l m → IsAlike m n → IsAlike l n
alike-in-turn l m n (a, b, first) (c, d, second) =
    let same : moved b first.common ≡ moved c second.common = sym first.other_is ∙ second.one_is in
    let common : Machine = lowered (less c b) first.common in (
      both (less c b) a,
      both (less b c) d,
      record {
        common = common;
        stood = first.stood;
        one_is = first.one_is ∙ ap (moved a) (one-of-two b c first.common second.common same)
            ∙ moved-twice (less c b) a common;
        other_is = second.other_is ∙ ap (moved d) (other-of-two b c first.common second.common same)
            ∙ moved-twice (less b c) d common;
      },
    )

pub all-alike-in-turn : {ls ms : List (ℕ × Machine)} → AreAllAlike ls ms → {ns : List (ℕ × Machine)}
    → AreAllAlike ms ns → AreAllAlike ls ns
all-alike-in-turn none_runs none_runs = none_runs
all-alike-in-turn (both_run {m = l} {n = m} one others) (both_run {n} two more) =
    both_run (alike-in-turn l m n one two) (all-alike-in-turn others more)
