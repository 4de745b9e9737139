-- The lines of a slot may be left out of those that were applied, once it is closed.
use Rattle.std.specs.Prelude.{◌≡◌, ◌++◌, ◌∷◌, [], cond, not, map, ℕ, Bool, true, false, List, Option, Some, None, if◌then◌else◌}
use Rattle.std.specs.List.{AllByRecursion}
use Rattle.std.proofs.Common.{◌∙◌, refl, sym, ap, subst, inl, inr, true≢false}
use Rattle.scp_types.specs.declared.event.Event.{Event}
use Rattle.scp_types.specs.declared.event.Event.TheVariants as event
use Rattle.scp_types.specs.declared.event.Refusal.{Refusal}
use Rattle.scp_spec.specs.Networks.{Net, effect, instances_at}
use Rattle.scp_spec.specs.Networks.Reply.{Done}
use Rattle.scp_spec.specs.Networks.Step.{Closes}
use Rattle.scp_spec.proofs.Networks.OpenSlots.{instances_at-drop}
use Rattle.host_network.specs.Decoding.{step_of}
use Rattle.host_network.specs.FiledSlots.{AreTallied, CountedSlot, slot_of}
use Rattle.host_network.specs.Standing.{IsStood, Machine, StandsFor, net_of}
use Rattle.live_network.specs.Serving.{Ending, IsServed, ToldReply, waits_after}
use Rattle.live_network.specs.Serving.Ending.{IsDone}
use Rattle.live_network.specs.Serving.IsServed.{done, refused}
use Rattle.live_network.specs.Telling.{IsServedBy, ending_by}
use Rattle.live_network.specs.declared.served.Served.{Served}
use Rattle.line_script.specs.Script.{Bytes}
use Rattle.live_feed.specs.WholeLines.{given}
use Rattle.live_feed.specs.declared.answering.Deed.TheVariants as deed
use Rattle.live_feed.specs.declared.answering.Drawn.{Drawn}
use Rattle.line_request.specs.declared.ask.Ask.{Ask}
use Rattle.line_request.specs.declared.ask.Ask.TheVariants as ask
use Rattle.live_host.specs.Compacted.{AppliedLine, AreServedFor, IsAskedBy, IsServedFor, RefusedLinesStayAlike, SlotsMayBeErased, all_drawn, but_at_slot, done_as, is_at_slot, lines_at_slot}
use Rattle.live_host.specs.Lowering.{runs_alone}
use Rattle.live_host.specs.Compacted.AreServedFor.{next_served, none_served}
use Rattle.live_host.specs.Compacted.IsAskedBy.{asks_event, asks_for_all}
use Rattle.live_host.specs.Erasing.{AreOthers, AreServedInTurn, CameAllAs, CameAs, IsLine, IsLineErasable, IsSameLine, Line, StandsAsWell, both_amounts, drawn_at_slot, drawn_by, is_line_at, none_drawn}
use Rattle.live_host.specs.Erasing.AreOthers.{no_others, one_other, one_there}
use Rattle.live_host.specs.Erasing.AreServedInTurn.{ended, goes_on}
use Rattle.live_host.specs.Erasing.CameAllAs.{next_came, none_came}
use Rattle.live_host.specs.Erasing.Line.{OfBytes, OfEvent}
use Rattle.live_host.specs.Futures.{IsAlike, moved, moved_config}
use Rattle.live_host.specs.Hosts.{AreAllAnswered, IsAskAnswered, IsEventAnswered, Serves, deed_at, deed_by, deed_of_all, drawn, slot_of_answer, slot_of_answers}
use Rattle.live_host.specs.declared.all.NodeAnswer.{NodeAnswer}
use Rattle.live_host.proofs.AlikeMachines.{stays}
use Rattle.live_host.proofs.ApartLines.{not-done}
use Rattle.live_host.proofs.CompactedAsked.{placed, what-it-asks}
use Rattle.live_host.proofs.CompactedMade.{IsEventDeed, replied, same-deed}
use Rattle.live_host.proofs.CompactedNoted.{itself}
use Rattle.live_host.proofs.CompactedRefused.{found-machine, refused-line, same-machine}
use Rattle.live_host.proofs.CompactedServed.{applied-drew, applied-is-done, all-applied}
use Rattle.live_host.proofs.ErasedNets.{passed-tests, step-passed}
use Rattle.live_host.proofs.ErasedRuns.{begun-stood, begun-to, both-none, closed_slots_are_erased, line-kept, run-stood, same-line-at}
use Rattle.live_host.proofs.ErasedServed.{heard-none, stepped-to}

-- ---- a line that closes a slot
-- an event did that
closed-by : (o : Option Refusal) (x : Event) (k i : ℕ) (d c : Drawn) → deed_by o x k d ≡ deed.Closed i c
    → (o ≡ None) × (step_of x ≡ Closes i) × (d ≡ c)
closed-by (Some r) x k i d c is = absurd (cc)
closed-by None x k i d c is = let closes = by x is in (refl, closes.0, closes.1)
  where
    by : (x : Event) → deed_at x k d ≡ deed.Closed i c → (step_of x ≡ Closes i) × (d ≡ c)
    by (event.OpenSlot j) is = absurd (cc)
    by (event.CloseSlot j) is = let here : j ≡ i = cc in (ap Closes here, cc)
    by _ is = absurd (cc)

all-close-none : (o : Option ℕ) (d c : Drawn) (i : ℕ) → deed_of_all o d ≡ deed.Closed i c → ⊥
all-close-none None d c i is = cc
all-close-none (Some j) d c i is = cc

-- what the network served
record IsClosing (i : ℕ) (d : Drawn) (m after : Machine) : Type 0 where
  came : Served
  served : IsServedBy m (Closes i) after came
  took : came.refused ≡ None
  drew : drawn m after ≡ d

closing-of : (longest : ℕ) (bytes : Bool) (g n i : ℕ) (line text : Bytes) (d : Drawn) (m after : Machine)
    → Serves (runs_alone bytes g m) n (given longest line) (replied text g (deed.Closed i d)) (runs_alone bytes g after)
    → IsClosing i d m after
closing-of longest bytes g n i line text d m after serves =
    let asks = what-it-asks n (given longest line) (runs_alone bytes g m) (runs_alone bytes g after)
    (replied text g (deed.Closed i d)) (done_as g (deed.Closed i d)) serves refl in
    by asks.asked asks.answered
  where
    one : (x : Event)
        → IsEventAnswered n g x (runs_alone bytes g m) (replied text g (deed.Closed i d)) (runs_alone bytes g after)
        → IsClosing i d m after
    one x (None, at, (is, same)) =
        not-done (replied text g (deed.Closed i d)) (done_as g (deed.Closed i d)) (ap (λ x. x.done) is) refl
    one x (Some found, at, (now, s, served, is, says)) =
        let did = closed-by s.refused x s.slot i (drawn found now) d
        (same-deed g (deed.Closed i d) _ (replied text g (deed.Closed i d)) (ap (λ x. x.done) says) refl) in
        subst (IsClosing i d m) (sym (same-machine bytes g after now (is ∙ placed bytes g m now)))
        (subst (λ f. IsClosing i d f now) (found-machine bytes g m found at)
        (record {
          came = s;
          served = subst (λ e. IsServedBy found e now s) did.1 served;
          took = did.0;
          drew = did.2;
        }))

    all : (given_bytes : Bytes)
        → AreAllAnswered n g given_bytes (runs_alone bytes g m) (replied text g (deed.Closed i d)) (runs_alone bytes g after)
        → IsClosing i d m after
    all given_bytes (None, at, (is, same)) =
        not-done (replied text g (deed.Closed i d)) (done_as g (deed.Closed i d)) (ap (λ x. x.done) is) refl
    all given_bytes (Some found, at, (now, answers, served, is, says)) =
        absurd (all-close-none (slot_of_answers answers) (drawn found now) d i
        (same-deed g (deed.Closed i d) _ (replied text g (deed.Closed i d)) (ap (λ x. x.done) says) refl))

    by : (asked : Ask)
        → IsAskAnswered n g asked (runs_alone bytes g m) (replied text g (deed.Closed i d)) (runs_alone bytes g after)
        → IsClosing i d m after
    by (ask.Declare x) (false, declares, is) =
        not-done (replied text g (deed.Closed i d)) (done_as g (deed.Closed i d)) (ap (λ x. x.done) is) refl
    by (ask.Declare x) (true, declares, is) = absurd
        (subst IsEventDeed
        (sym (same-deed g (deed.Closed i d) deed.Declared (replied text g (deed.Closed i d)) (ap (λ x. x.done) is) refl)) tt)
    by (ask.Serve x) (false, now, begins, (is, same)) =
        not-done (replied text g (deed.Closed i d)) (done_as g (deed.Closed i d)) (ap (λ x. x.done) is) refl
    by (ask.Serve x) (true, now, same, answered) =
        one x (subst
        (λ l. IsEventAnswered n g x l (replied text g (deed.Closed i d)) (runs_alone bytes g after)) same answered)
    by (ask.ForAll given_bytes) (false, now, begins, (is, same)) =
        not-done (replied text g (deed.Closed i d)) (done_as g (deed.Closed i d)) (ap (λ x. x.done) is) refl
    by (ask.ForAll given_bytes) (true, now, same, answered) =
        all given_bytes (subst
        (λ l. AreAllAnswered n g given_bytes l (replied text g (deed.Closed i d)) (runs_alone bytes g after)) same answered)
    by ask.Left answered = not-done (replied text g (deed.Closed i d)) (done_as g (deed.Closed i d)) answered.1 refl
    by (ask.Show j u) answered = not-done (replied text g (deed.Closed i d)) (done_as g (deed.Closed i d)) answered.1 refl
    by ask.Drop (false, drops, is) =
        not-done (replied text g (deed.Closed i d)) (done_as g (deed.Closed i d)) (ap (λ x. x.done) is) refl
    by ask.Drop (true, drops, is) = absurd
        (subst IsEventDeed
        (sym (same-deed g (deed.Closed i d) deed.Dropped (replied text g (deed.Closed i d)) (ap (λ x. x.done) is) refl)) tt)

-- the slot is closed then
net-closed : {net after : Net} {ending : Ending} {ts : List ToldReply} (i : ℕ) (stale : Bool)
    → IsServed net (Closes i) ending ts after → ending ≡ IsDone stale → instances_at after.slots i ≡ None
unfolding effect
net-closed i stale (refused r tried) is = absurd (cc)
net-closed {net} {after} i stale (done {now} os tried heard) is =
    let first = stepped-to net (Closes i) os now tried in
    let passed = step-passed net (Closes i) (passed-tests net (Closes i) os first.0) in
    let none : Done [] ≡ Done os = sym (ap (λ x. x.1) passed) ∙ first.0 in
    let no_outs : os ≡ [] = cc in
    let still : after ≡ now = (heard-none heard (ap (λ outs. waits_after net (Closes i) (Done outs)) no_outs)).1 in
    ap (λ x. instances_at x.slots i) (still ∙ first.1 ∙ ap (λ x. x.0) passed) ∙ instances_at-drop net.slots i

closed-there : (i : ℕ) (d : Drawn) (m after : Machine) → IsStood m → IsClosing i d m after
    → instances_at (map slot_of after.slots) i ≡ None
closed-there i d m after (draws, tallied) closes =
    let later = closes.served.served (net_of m draws) (record { is = refl; tallied = tallied }) in
    ap (λ x. instances_at x.slots i) (sym later.2.is)
    ∙ net-closed i closes.came.stale later.1 (ap (λ o. ending_by o closes.came.stale) closes.took)

-- ---- runs
pub run-more : {m now after : Machine} {lines : List Line} (l : Line) → AreServedInTurn m lines now → IsLine l now after
    → AreServedInTurn m (lines ++ l ∷ []) after
run-more l ended line = goes_on l line ended
run-more l (goes_on k first others) line = goes_on k first (run-more l others line)

pub served-more : {longest g : ℕ} {es : List AppliedLine} {lines : List Line} (e : AppliedLine) (l : Line)
    → AreServedFor longest g es lines → IsServedFor longest g e l → AreServedFor longest g (es ++ e ∷ []) (lines ++ l ∷ [])
served-more e l none_served is_for = next_served is_for none_served
served-more e l (next_served first others) is_for = next_served first (served-more e l others is_for)

kept-more : (i : ℕ) {longest g : ℕ} {es : List AppliedLine} {lines : List Line} (l : Line) → is_line_at i l ≡ true
    → AreServedFor longest g es lines
    → AllByRecursion (λ l. is_line_at i l ≡ false → IsLineErasable l) (lines ++ l ∷ [])
kept-more i l there none_served = (λ off. absurd (true≢false (sym there ∙ off)), tt)
kept-more i l there (next_served is_for others) = (λ off. is_for.kept, kept-more i l there others)

-- ---- what was drawn
asked-drew : (longest g : ℕ) (e : AppliedLine) {l : Line} → IsAskedBy longest g e l → drawn_by l ≡ e.drawn
asked-drew longest g e (asks_event x s d asks did) =
    applied-drew x s.slot e.slot d e.drawn
    (subst (λ o. deed_by o x s.slot d ≡ deed.Applied e.slot e.drawn)
    (applied-is-done s.refused x s.slot e.slot d e.drawn did) did)
asked-drew longest g e (asks_for_all bytes answers d asks did) = (all-applied (slot_of_answers answers) d e.drawn e.slot did).1

drawn-in-all : (i : ℕ) {longest g : ℕ} {es : List AppliedLine} {lines : List Line} (s : Served) (d : Drawn)
    → AreServedFor longest g es lines
    → drawn_at_slot i (lines ++ OfEvent (Closes i) s d ∷ []) ≡ all_drawn (lines_at_slot i es) d
drawn-in-all i s d none_served =
    ap (λ b. if b then both_amounts d none_drawn else none_drawn) (itself i) ∙ sym (both-none d)
drawn-in-all i {longest} {g} s d (next_served {e} {es} {l} {lines} is_for others) =
    by (drawn_at_slot i (lines ++ OfEvent (Closes i) s d ∷ [])) (is_line_at i l) (is_at_slot i e) (is_for.at i)
    (asked-drew longest g e is_for.asked) (drawn-in-all i s d others)
  where
    by : (rest : Drawn) (b c : Bool) → b ≡ c → drawn_by l ≡ e.drawn → rest ≡ all_drawn (lines_at_slot i es) d
        → (if b then both_amounts (drawn_by l) rest else rest) ≡ all_drawn (cond c (e ∷ lines_at_slot i es) (lines_at_slot i es)) d
    by rest true true is one more = ap (λ c. both_amounts c rest) one ∙ ap (both_amounts e.drawn) more
    by rest true false is one more = absurd (true≢false is)
    by rest false true is one more = absurd (true≢false (sym is))
    by rest false false is one more = more

-- ---- the other lines
-- the same came of a line that was applied
same-slots : {answers others : List NodeAnswer} → CameAllAs answers others
    → slot_of_answers others ≡ slot_of_answers answers
same-slots none_came = refl
same-slots (next_came {a} {b} {answers} {others} node came more) = by came (same-slots more)
  where
    by : CameAs a.served b.served → slot_of_answers others ≡ slot_of_answers answers
        → slot_of_answers (b ∷ others) ≡ slot_of_answers (a ∷ answers)
    by (inl is) same =
        ap (λ s. slot_of_answer s.refused s.slot (slot_of_answers others)) is
        ∙ ap (slot_of_answer a.served.refused a.served.slot) same
    by (inr (r, other, was, never, is)) same =
        ap (λ s. slot_of_answer s.refused s.slot (slot_of_answers others)) is ∙ same
        ∙ sym (ap (λ o. slot_of_answer o a.served.slot (slot_of_answers answers)) was)

asked-too : (longest g : ℕ) (e : AppliedLine) {l : Line} → IsAskedBy longest g e l → (k : Line) → IsSameLine l k
    → IsAskedBy longest g e k
asked-too longest g e (asks_event x s d asks did) (OfEvent f t c) (step, came, drew) =
    subst (λ f. IsAskedBy longest g e (OfEvent f t c)) (sym step)
    (subst (λ c. IsAskedBy longest g e (OfEvent (step_of x) t c)) (sym drew) (by came))
  where
    by : CameAs s t → IsAskedBy longest g e (OfEvent (step_of x) t d)
    by (inl is) = subst (λ t. IsAskedBy longest g e (OfEvent (step_of x) t d)) (sym is) (asks_event x s d asks did)
    by (inr (r, other, was, never, is)) =
        let none = applied-is-done s.refused x s.slot e.slot d e.drawn did in
        let why : None ≡ Some r = sym none ∙ was in absurd (cc)
asked-too longest g e (asks_event x s d asks did) (OfBytes bytes answers c) same = absurd same
asked-too longest g e (asks_for_all bytes answers d asks did) (OfEvent f t c) same = absurd same
asked-too longest g e (asks_for_all bytes answers d asks did) (OfBytes twin others c) (is, came, drew) =
    subst (λ b. IsAskedBy longest g e (OfBytes b others c)) (sym is)
    (asks_for_all bytes others c asks
    (ap (λ o. deed_of_all o c) (same-slots came) ∙ ap (deed_of_all (slot_of_answers answers)) drew ∙ did))

served-too : (longest g : ℕ) (e : AppliedLine) (l k : Line) → IsServedFor longest g e l → IsSameLine l k
    → IsServedFor longest g e k
served-too longest g e l k is_for same = record {
  asked = asked-too longest g e is_for.asked k same;
  at = λ i. (same-line-at i l k same).0 ∙ is_for.at i;
  kept = line-kept l k same is_for.kept;
}

others-served : (i : ℕ) {longest g : ℕ} {es : List AppliedLine} {lines others : List Line} (close : Line)
    → is_line_at i close ≡ true → AreServedFor longest g es lines → AreOthers i (lines ++ close ∷ []) others
    → AreServedFor longest g (but_at_slot i es) others
others-served i close there none_served (one_there on no_others) = none_served
others-served i close there none_served (one_other off same more) = absurd (true≢false (sym there ∙ off))
others-served i {longest} {g} close there (next_served {e} {es} is_for are_for) (one_there {others} on more) =
    subst (λ b. AreServedFor longest g (cond (not b) (e ∷ but_at_slot i es) (but_at_slot i es)) others)
    (sym on ∙ is_for.at i) (others-served i close there are_for more)
others-served i {longest} {g} close there (next_served {e} {es} {l} is_for are_for) (one_other {k} {others} off same more) =
    subst (λ b. AreServedFor longest g (cond (not b) (e ∷ but_at_slot i es) (but_at_slot i es)) (k ∷ others))
    (sym off ∙ is_for.at i)
    (next_served (served-too longest g e l k is_for same) (others-served i close there are_for more))

-- ---- a slot is closed
alike-moved : (d : Drawn) (after left : Machine) → IsStood left → after ≡ moved d left → IsAlike after left
alike-moved d after left stood is =
    (d, none_drawn, record { common = left; stood = stood; one_is = is; other_is = stays left })

pub slots_may_be_erased : SlotsMayBeErased
slots_may_be_erased longest bytes g n i line text d c es m after applied serves =
    let closes = closing-of longest bytes g n i line text d m after serves in
    let close : Line = OfEvent (Closes i) closes.came d in
    let stood = (run-stood (begun-stood c) applied.run).0 in
    let left = closed_slots_are_erased i c (applied.lines ++ close ∷ []) after
    (run-more close applied.run (closes.served, closes.drew)) (kept-more i close (itself i) applied.served)
    (closed-there i d m after stood closes) in
    let drew = drawn-in-all i closes.came d applied.served in (
      left.0,
      left.2,
      subst (λ x. c ≡ moved_config x left.0) drew left.3,
      record {
        lines = left.1;
        served = others-served i close (itself i) applied.served left.4;
        run = left.5;
      },
      alike-moved (drawn_at_slot i (applied.lines ++ close ∷ [])) after left.2 left.6 left.7,
    )

-- ---- refused lines
abbrev with_slots : Machine → List CountedSlot → Machine
with_slots m slots = record m { slots = slots }

abbrev machine_from : Net → List CountedSlot → Machine
machine_from net slots = record {
  config = record { number = net.number; nodes = net.nodes; budgets = net.budgets; roster = net.roster };
  slots = slots;
  events = net.events;
  bytes = net.bytes;
  opens = net.opens;
}

pub refused_lines_stay_alike : RefusedLinesStayAlike
refused_lines_stay_alike longest bytes g n line text c es m after left applied (more, other, are) serves =
    let as_well = refused-line longest bytes g n line text m after serves in
    let same_slots : m.slots ≡ are.common.slots = ap (λ m. m.slots) are.one_is in
    let left_slots : left.slots ≡ are.common.slots = ap (λ m. m.slots) are.other_is in
    let draws = are.stood.0 in
    let tallied : AreTallied draws m.slots = subst (AreTallied draws) (sym same_slots) are.stood.1 in
    let stands : StandsFor after (net_of m draws) =
    as_well (net_of m draws) (record { is = refl; tallied = tallied }) in
    let slots_are : map slot_of m.slots ≡ map slot_of after.slots = ap (λ n. n.slots) stands.is in
    let common : Machine = with_slots are.common after.slots in
    let after_is : after ≡ moved more common =
    ap (λ n. machine_from n after.slots) (sym stands.is) ∙ ap (λ m. with_slots m after.slots) are.one_is in
    let alike : IsAlike after (with_slots left after.slots) = (
      more,
      other,
      record {
        common = common;
        stood = (draws, stands.tallied);
        one_is = after_is;
        other_is = ap (λ m. with_slots m after.slots) are.other_is;
      },
    ) in
    let left_as_well : StandsAsWell left (with_slots left after.slots) =
    λ net here. record {
      is = here.is ∙ ap (λ s. record (net_of left net.draws) { slots = s })
          (ap (map slot_of) (left_slots ∙ sym same_slots) ∙ slots_are);
      tallied = (as_well (net_of m net.draws) (record {
        is = refl;
        tallied = subst (AreTallied net.draws) (left_slots ∙ sym same_slots) here.tallied;
      })).tallied;
    } in (
      with_slots left after.slots,
      record {
        lines = applied.lines;
        served = applied.served;
        run = (begun-to c applied.lines left (with_slots left after.slots) applied.run left_as_well).0;
      },
      alike,
    )
