-- The lines of several slots that are closed at the end may be left out of a run.
use Rattle.std.specs.List.{AllByRecursion}
use Rattle.std.specs.Prelude.{◌≡◌, ◌+◌, ◌∷◌, [], ◌==◌, ℕ, false, List, None, Option, Some, map, option_map}
use Rattle.std.proofs.Common.{◌∙◌, refl, sym, ap, arith}
use Rattle.scp_spec.specs.Hosts.{Config}
use Rattle.scp_spec.specs.Networks.{instances_at}
use Rattle.scp_spec.specs.Rosters.{Roster}
use Rattle.host_network.specs.FiledSlots.{slot_of}
use Rattle.host_network.specs.Standing.{IsStood, Machine}
use Rattle.live_feed.specs.declared.answering.Drawn.{Drawn}
use Rattle.live_host.specs.Futures.{moved, moved_budgets, moved_config, moved_roster}
use Rattle.live_host.specs.Hosts.{begun}
use Rattle.live_host.specs.Erasing.{AllClosedSlotsAreErased, AreOthers, AreOthersOf, AreServedInTurn, IsLineErasable, Line, both_amounts, drawn_at_slot, drawn_of, is_line_at}
use Rattle.live_host.specs.Erasing.AreOthersOf.{next_slot, no_slots}
use Rattle.live_host.proofs.AlikeMachines.{stays}
use Rattle.live_host.proofs.MovedParts.{roster_with, same-budgets, same-machine}
use Rattle.live_host.proofs.ErasedRuns.{begun-stood, closed_slots_are_erased, others_draw_as_much, run-stood}

-- ---- moved twice
add-twice : (n a b : ℕ) → (n + a) + b ≡ n + (a + b)
add-twice n a b = omega arith

roster-twice : (d e : Drawn) (r : Option Roster)
    → option_map (moved_roster e) (option_map (moved_roster d) r) ≡ option_map (moved_roster (both_amounts d e)) r
roster-twice d e None = refl
roster-twice d e (Some r) = ap (λ n. Some (roster_with r n)) (add-twice r.shares.opens d.opens e.opens)

moved-twice : (d e : Drawn) (m : Machine) → moved e (moved d m) ≡ moved (both_amounts d e) m
moved-twice d e m =
    same-machine m _ _ _ _ _ _ _ _ _ _
    (same-budgets (moved_budgets e (moved_budgets d m.config.budgets)) (moved_budgets (both_amounts d e) m.config.budgets)
    (add-twice m.config.budgets.events d.events e.events) (add-twice m.config.budgets.bytes d.bytes e.bytes) refl)
    (roster-twice d e m.config.roster) (add-twice m.events d.events e.events) (add-twice m.bytes d.bytes e.bytes)
    (add-twice m.opens d.opens e.opens)

-- ---- in turn
keep-all : (i : ℕ) (lines : List Line) → AllByRecursion IsLineErasable lines
    → AllByRecursion (λ l. is_line_at i l ≡ false → IsLineErasable l) lines
keep-all i [] kept = tt
keep-all i (l ∷ lines) kept = (λ off. kept.0, keep-all i lines kept.1)

closed-too : (m left : Machine) (slots : List ℕ) → left.slots ≡ m.slots
    → AllByRecursion (λ i. instances_at (map slot_of m.slots) i ≡ None) slots
    → AllByRecursion (λ i. instances_at (map slot_of left.slots) i ≡ None) slots
closed-too m left [] same closed = tt
closed-too m left (i ∷ slots) same closed =
    (ap (λ ss. instances_at (map slot_of ss) i) same ∙ closed.0, closed-too m left slots same closed.1)

others-draw : (i : ℕ) (slots : List ℕ) (lines others : List Line) → AllByRecursion (λ k. (i == k) ≡ false) slots
    → AreOthers i lines others → drawn_of slots others ≡ drawn_of slots lines
others-draw i [] lines others apart are = refl
others-draw i (k ∷ slots) lines others apart are =
    ap (λ d. both_amounts d (drawn_at_slot k others)) (others-draw i slots lines others apart.1 are)
    ∙ ap (both_amounts (drawn_of slots lines)) (others_draw_as_much i k lines others apart.0 are)

-- what is left without these slots
abbrev IsLeftOf : List ℕ → Config → List Line → Machine → Type 0
IsLeftOf slots c lines m =
    (less : Config) × (others : List Line) × (left : Machine) × (c ≡ moved_config (drawn_of slots lines) less)
    × AreOthersOf slots lines others × AreServedInTurn (begun less) others left × IsStood left
    × (m ≡ moved (drawn_of slots lines) left)

-- without one slot, and then without the others
one-more : (i : ℕ) (slots : List ℕ) (c less : Config) (lines between : List Line) (m still : Machine)
    → AllByRecursion (λ k. (i == k) ≡ false) slots → AreOthers i lines between
    → c ≡ moved_config (drawn_at_slot i lines) less → m ≡ moved (drawn_at_slot i lines) still → IsLeftOf slots less between still
    → IsLeftOf (i ∷ slots) c lines m
one-more i slots c less lines between m still apart are is so more =
    let d : Drawn = drawn_at_slot i lines in
    let e : Drawn = drawn_of slots lines in
    let same = others-draw i slots lines between apart are in (
      more.0,
      more.1,
      more.2,
      is ∙ ap (moved_config d) (more.3 ∙ ap (λ x. moved_config x more.0) same)
          ∙ ap (λ x. x.config) (moved-twice e d (begun more.0)),
      next_slot are more.4,
      more.5,
      more.6,
      so ∙ ap (moved d) (more.7 ∙ ap (λ x. moved x more.2) same) ∙ moved-twice e d more.2,
    )

pub all_closed_slots_are_erased : AllClosedSlotsAreErased
all_closed_slots_are_erased [] c lines m apart run kept closed = (
  c,
  lines,
  m,
  ap (λ x. x.config) (stays (begun c)),
  no_slots,
  run,
  (run-stood (begun-stood c) run).0,
  stays m,
)
all_closed_slots_are_erased (i ∷ slots) c lines m apart run kept closed =
    let first = closed_slots_are_erased i c lines m run (keep-all i lines kept) closed.0 in
    one-more i slots c first.0 lines first.1 m first.2 apart.0 first.4 first.3 first.7
    (all_closed_slots_are_erased slots first.0 first.1 first.2 apart.1 first.5 first.8
    (closed-too m first.2 slots (sym (ap (λ x. x.slots) first.7)) closed.1))
