-- What the lines of a script that prints nothing do is determined, and what its end does.
use Rattle.std.proofs.Common.{◌≡◌, ◌∙◌, ℕ, List, Ok, Err, inl, inr, refl, sym, subst}
use Rattle.std.specs.Prelude.{Result}
use Rattle.line_script.specs.Script.{Bytes}
use Rattle.line_script.specs.Runs.{Passes, Runs}
use Rattle.line_script.specs.Runs.Passes.{skipped, told}
use Rattle.line_script.specs.declared.run.Stop.{Stop}
use Rattle.host_journal.specs.Logs.{Log}
use Rattle.line_request.specs.Outlines.{Outlined, Waiting}
use Rattle.line_run.specs.Determined.{AreRunsAlike, BecomeAlike, EndsDoOneThing, LinesDoOneThing, RunsDoOneThing}
use Rattle.line_run.specs.Hosting.{Hosting, logs_joined}
use Rattle.line_run.specs.Joining.{HasJoined, HaveJoined}
use Rattle.line_run.specs.Unprinted.{RefusesUnprinted, TellsUnprinted, Unprinted, trace_after}
use Rattle.line_run.proofs.Configured.{one-config}
use Rattle.line_run.proofs.DeterminedLaws.{one-told}
use Rattle.line_run.proofs.OneCut.{one-fields}

-- networks are alike themselves
pub alike : (h : Hosting) → AreRunsAlike h h
alike h = record { waiting = refl; named = record { numbers = λ g. refl; running = λ g. refl; served = λ g. refl }; unheard = λ g i. refl; logs = refl }

pub lines_do_one_thing : LinesDoOneThing
lines_do_one_thing one other new last fields p q a (g, outcome, done, silent, memory, trace) (k, also, does, quiet, had, traced) =
    let becomes = one-told one.hosting other.hosting new.hosting last.hosting fields g k outcome also done does memory had a in
    (becomes.1, λ same. trace ∙ ((λ i. trace_after (becomes.0 i) (becomes.1.logs i) (same i)) ∙ sym traced))

one-passing : (one other new last : Unprinted) (line p q : Bytes) → AreRunsAlike one.hosting other.hosting → Passes TellsUnprinted one line p new → Passes TellsUnprinted other line q last
    → BecomeAlike one other new last
one-passing one other new last line p q a (skipped h) (skipped k) = (a, λ same. same)
one-passing one other new last line p q a (skipped h) (told runs are tells) = absurd (runs h)
one-passing one other new last line p q a (told runs are tells) (skipped k) = absurd (runs k)
one-passing one other new last line p q a (told {fields = fields} {printed = said} runs are tells) (told {fields = others} {printed = also} runs_too are_too tells_too) =
    lines_do_one_thing one other new last fields said also a tells
    (subst (λ (fs : List Bytes). TellsUnprinted other fs also last) (sym (one-fields line fields others are are_too)) tells_too)

no-ok : {A B : Type 0} (x : A) (y : B) → ◌≡◌ {A = Result A B} (Ok x) (Err y) → ⊥
no-ok x y h = cc

one-run : (one other new last : Unprinted) (lines : List (ℕ × Bytes)) (p q : Bytes) (r s : Result (Unit {0}) Stop) → r ≡ Ok tt → s ≡ Ok tt → AreRunsAlike one.hosting other.hosting
    → Runs TellsUnprinted RefusesUnprinted one lines p r new → Runs TellsUnprinted RefusesUnprinted other lines q s last → BecomeAlike one other new last
one-run one other new last lines p q r s ok fine a (Runs.bad fails) more = absurd (no-ok _ _ (sym ok))
one-run one other new last lines p q r s ok fine a Runs.short more = absurd (no-ok _ _ (sym ok))
one-run one other new last lines p q r s ok fine a Runs.ends Runs.ends = (a, λ same. same)
one-run one other new last lines p q r s ok fine a Runs.ends Runs.short = absurd (no-ok _ _ (sym fine))
one-run one other new last lines p q r s ok fine a (Runs.next passes more) (Runs.bad fails) = absurd (no-ok _ _ (sym fine))
one-run one other new last lines p q r s ok fine a (Runs.next passes more) Runs.short = absurd (no-ok _ _ (sym fine))
one-run one other new last lines p q r s ok fine a (Runs.next {t = t} {line = line} passes more) (Runs.next {t = u} passes_too more_too) =
    let now = one-passing one other t u line _ _ a passes passes_too in
    let later = one-run t u new last _ _ _ r s ok fine now.0 more more_too in
    (later.0, λ same. later.1 (now.1 same))

pub runs_do_one_thing : RunsDoOneThing
runs_do_one_thing one other new last lines p q a h k = one-run one other new last lines p q (Ok tt) (Ok tt) refl refl a h k

-- ---- the end of a script

one-joining : (g : ℕ) (d : Outlined) (old other new last : List Log) → old ≡ other → HasJoined logs_joined g d old new → HasJoined logs_joined g d other last → new ≡ last
one-joining g d old other new last same (inl h) (inl k) = h.1 ∙ (same ∙ sym k.1)
one-joining g d old other new last same (inl h) (inr k) = absurd (k.1.some_nodes h.0)
one-joining g d old other new last same (inr h) (inl k) = absurd (h.1.some_nodes k.0)
one-joining g d old other new last same (inr h) (inr k) =
    let config : h.0 ≡ k.0 = one-config g d h.0 k.0 h.1 k.1 in
    h.2 ∙ ((λ i. logs_joined (config i) (same i)) ∙ sym k.2)

one-end : (ws : Waiting) (old other new last : List Log) → old ≡ other → HaveJoined logs_joined ws old new → HaveJoined logs_joined ws other last → new ≡ last
one-end ws old other new last same HaveJoined.none HaveJoined.none = same
one-end ws old other new last same (HaveJoined.next {g = g} {d = d} {now = now} h rest) (HaveJoined.next {now = later} k more) =
    one-end _ now later new last (one-joining g d old other now later same h k) rest more

pub ends_do_one_thing : EndsDoOneThing
ends_do_one_thing one other new last ws logs h k = (
  one-end one.hosting.waiting one.hosting.logs other.hosting.logs new.hosting.logs last.hosting.logs logs h.0
      (subst (λ (x : Waiting). HaveJoined logs_joined x other.hosting.logs last.hosting.logs) (sym ws) k.0),
  λ same. h.1 ∙ (same ∙ sym k.1),
)
