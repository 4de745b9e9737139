-- Lines that each do something to one network.
use Rattle.std.specs.Prelude.{◌≡◌, ◌+◌, ◌++◌, ◌∷◌, [], ℕ, Bool, true, false, List, if◌then◌else◌}
use Rattle.std.proofs.Common.{refl, subst}
use Rattle.line_script.specs.Script.{Bytes}
use Rattle.live_feed.specs.Served.{LineReply, ServesAll}
use Rattle.live_feed.specs.Served.ServesAll.{next, none}
use Rattle.live_feed.specs.WholeLines.{given}
use Rattle.live_host.specs.Apart.{IsOrdered, alone, is_done_to, texts_of_lines, lines_of_network}
use Rattle.live_host.specs.Futures.{AreAlike, behind_number}
use Rattle.live_host.specs.Hosts.{Live, Serves}
use Rattle.live_host.specs.Merging.{LinesAloneAreServed, LinesAloneInTurn, OwnLinesRunAlone, RunsAlone}
use Rattle.live_host.specs.Merging.RunsAlone.{next_line, none_left}
use Rattle.live_host.proofs.ApartLines.{hosts_stay_ordered}
use Rattle.live_host.proofs.ApartRuns.{alike-after, begins-ordered, is-another, is-its, is-kept, is-own}
use Rattle.live_host.proofs.Numbers.{numbers_stand_in_front}

served-alone : {longest g : ℕ} {l new : Live} {lines : List Bytes} → RunsAlone longest g l lines new → AreAlike l l
    → (n : ℕ) → (text : Bytes) × ServesAll Serves longest l n lines lines text new
served-alone none_left alike n = ([], none)
served-alone {longest} (next_line {l} {now} {new} {line} {lines} number a d serves some is others) alike n =
    let by = numbers_stand_in_front l now number (given longest line) a alike serves in
    let b : LineReply = record { text = behind_number n by.0; done = a.done } in
    let rest = served-alone others (alike-after l now number (given longest line) a alike serves) (n + 1) in (
      behind_number n by.0 ++ rest.0,
      subst
          (λ kept. ServesAll Serves longest l n (line ∷ lines) (kept ∷ lines) (behind_number n by.0 ++ rest.0) new)
          (is-kept longest l now n line b d (by.2 n) some) (next b (by.2 n) rest.1),
    )

pub lines_alone_are_served : LinesAloneAreServed
lines_alone_are_served longest g l new lines alike runs = served-alone runs alike

alone-in-turn : {longest g : ℕ} {l now : Live} {lines : List Bytes} → RunsAlone longest g l lines now → (new : Live)
    (more : List Bytes) → RunsAlone longest g now more new → RunsAlone longest g l (lines ++ more) new
alone-in-turn none_left new more runs = runs
alone-in-turn (next_line number a d serves some is others) new more runs =
    next_line number a d serves some is (alone-in-turn others new more runs)

pub lines_alone_in_turn : LinesAloneInTurn
lines_alone_in_turn longest g l now new lines more one other = alone-in-turn one new more other

own-alone : (longest g : ℕ) {l t : Live} {n : ℕ} {lines journal : List Bytes} {text : Bytes}
    (run : ServesAll Serves longest l n lines journal text t) → IsOrdered l
    → RunsAlone longest g (alone g l) (texts_of_lines (lines_of_network g run)) (alone g t)
own-alone longest g none ordered = none_left
own-alone longest g (next {s} {t = now} {u} {n} {line} a serves others) ordered =
    by (is_done_to g a.done) refl
    (own-alone longest g others (hosts_stay_ordered s now n (given longest line) a ordered serves))
  where
    by : (is : Bool) → is_done_to g a.done ≡ is → RunsAlone longest g (alone g now) (texts_of_lines (lines_of_network g others)) (alone g u)
        → RunsAlone longest g (alone g s)
        (texts_of_lines (if is then record { number = n; line = line; reply = a } ∷ lines_of_network g others else lines_of_network g others))
        (alone g u)
    by true is rest =
        let its = is-its g a.done is in
        next_line n a its.0 (is-own g s now n (given longest line) a its.0 ordered serves its.1 its.2) its.1 its.2 rest
    by false is rest =
        subst (λ l. RunsAlone longest g l (texts_of_lines (lines_of_network g others)) (alone g u))
        (is-another g s now n (given longest line) a ordered serves is) rest

pub own_lines_run_alone : OwnLinesRunAlone
own_lines_run_alone longest bytes n lines journal text t run g = own-alone longest g run (begins-ordered bytes)
