-- An event that is refused changes nothing that matters.
use Rattle.std.specs.Prelude.{◌≡◌, ◌∷◌, [], ℕ, Bool, true, false, List, Option, Some, None}
use Rattle.std.proofs.Common.{◌∙◌, refl, sym, ap, subst}
use Rattle.scp_types.specs.declared.event.Event.{Event}
use Rattle.scp_types.specs.declared.event.Event.TheVariants as event
use Rattle.scp_types.specs.declared.event.Refusal.{Refusal}
use Rattle.scp_spec.specs.Networks.{Net, Step}
use Rattle.host_network.specs.Decoding.{step_of}
use Rattle.host_network.specs.Standing.{Machine, StandsFor}
use Rattle.line_script.specs.Script.{Bytes}
use Rattle.live_network.specs.Serving.{Ending, IsServed, ToldReply}
use Rattle.live_network.specs.Serving.Ending.{IsDone, IsRefused}
use Rattle.live_network.specs.Serving.IsServed.{done, refused}
use Rattle.live_network.specs.Telling.{IsServedBy, ending_by}
use Rattle.live_network.specs.declared.served.Served.{Served}
use Rattle.live_feed.specs.WholeLines.{given}
use Rattle.live_feed.specs.declared.answering.Deed.TheVariants as deed
use Rattle.live_feed.specs.declared.answering.Drawn.{Drawn}
use Rattle.line_request.specs.declared.ask.Ask.{Ask}
use Rattle.line_request.specs.declared.ask.Ask.TheVariants as ask
use Rattle.live_host.specs.Compacted.{done_as}
use Rattle.live_host.specs.Lowering.{runs_alone}
use Rattle.live_host.specs.Erasing.{StandsAsWell}
use Rattle.live_host.specs.Hosts.{AreAllAnswered, AreServed, IsAskAnswered, IsEventAnswered, Serves, deed_at, deed_by, deed_of_all, live_at, slot_of_answer, slot_of_answers}
use Rattle.live_host.specs.Hosts.AreServed.{next_node, none_left}
use Rattle.live_host.proofs.ApartLines.{not-done}
use Rattle.live_host.proofs.CompactedAsked.{placed, runs-there, what-it-asks}
use Rattle.live_host.proofs.CompactedMade.{IsEventDeed, replied, same-deed}
use Rattle.live_host.specs.declared.all.NodeAnswer.{NodeAnswer}

-- ---- what is refused
-- what a network served that was refused is what it was
abbrev IsRefusedNet : Ending → Net → Net → Type 0
IsRefusedNet (IsRefused r) net after = after ≡ net
IsRefusedNet (IsDone stale) net after = Unit {0}

refused-net : {net after : Net} {e : Step} {ending : Ending} {told : List ToldReply} → IsServed net e ending told after
    → IsRefusedNet ending net after
refused-net (refused r tried) = refl
refused-net (done os tried heard) = tt

refused-stands : (m after : Machine) (e : Step) (s : Served) (r : Refusal) → s.refused ≡ Some r → IsServedBy m e after s
    → StandsAsWell m after
refused-stands m after e s r is serves net stands =
    let then = serves.served net stands in
    let same : then.0 ≡ net = subst (λ o. IsRefusedNet (ending_by o s.stale) net then.0) is (refused-net then.1) in
    subst (StandsFor after) same then.2

-- an event that did nothing was refused
event-refused : (o : Option Refusal) (e : Event) (i : ℕ) (d : Drawn) → deed_by o e i d ≡ deed.Refused
    → (r : Refusal) × (o ≡ Some r)
event-refused (Some r) e i d is = (r, refl)
event-refused None e i d is = absurd (by e is)
  where
    by : (e : Event) → deed_at e i d ≡ deed.Refused → ⊥
    by (event.OpenSlot j) is = cc
    by (event.CloseSlot j) is = cc
    by _ is = cc

all-refused : (o : Option ℕ) (d : Drawn) → deed_of_all o d ≡ deed.Refused → o ≡ None
all-refused None d is = refl
all-refused (Some i) d is = absurd (cc)

first-refused : (o : Option Refusal) (i : ℕ) (others : Option ℕ) → slot_of_answer o i others ≡ None
    → ((r : Refusal) × (o ≡ Some r)) × (others ≡ None)
first-refused None i others is = absurd (cc)
first-refused (Some r) i others is = ((r, refl), is)

each-refused : (bytes : Bytes) {us : List ℕ} {m after : Machine} {answers : List NodeAnswer}
    → AreServed bytes us m answers after → slot_of_answers answers ≡ None → StandsAsWell m after
each-refused bytes none_left is net stands = stands
each-refused bytes (next_node {old} {now} a serves others) is net stands =
    let first = first-refused a.served.refused a.served.slot _ is in
    each-refused bytes others first.1 net (refused-stands old now _ a.served first.0.0 first.0.1 serves net stands)

-- ---- a line that is refused
abbrev machine_of_one : Machine → List (ℕ × Machine) → Machine
machine_of_one m [] = m
machine_of_one m (e ∷ es) = e.1

pub same-machine : (bytes : Bool) (g : ℕ) (m n : Machine) → runs_alone bytes g m ≡ runs_alone bytes g n → m ≡ n
same-machine bytes g m n is = ap (λ l. machine_of_one m l.running) is

pub found-machine : (bytes : Bool) (g : ℕ) (m found : Machine) → live_at (runs_alone bytes g m) g ≡ Some found → found ≡ m
found-machine bytes g m found is = let here = sym is ∙ runs-there bytes g m in cc

pub refused-line : (longest : ℕ) (bytes : Bool) (g n : ℕ) (line text : Bytes) (m after : Machine)
    → Serves (runs_alone bytes g m) n (given longest line) (replied text g deed.Refused) (runs_alone bytes g after)
    → StandsAsWell m after
refused-line longest bytes g n line text m after serves =
    let asks = what-it-asks n (given longest line) (runs_alone bytes g m) (runs_alone bytes g after) (replied text g deed.Refused)
    (done_as g deed.Refused) serves refl in
    by asks.asked asks.answered
  where
    one : (e : Event) → IsEventAnswered n g e (runs_alone bytes g m) (replied text g deed.Refused) (runs_alone bytes g after)
        → StandsAsWell m after
    one e (None, at, (is, same)) = not-done (replied text g deed.Refused) (done_as g deed.Refused) (ap (λ x. x.done) is) refl
    one e (Some found, at, (next, s, serves, is, says)) =
        let was = event-refused s.refused e s.slot _
        (same-deed g deed.Refused _ (replied text g deed.Refused) (ap (λ x. x.done) says) refl) in
        let same = same-machine bytes g after next (is ∙ placed bytes g m next) in
        subst (StandsAsWell m) (sym same)
        (subst (λ f. StandsAsWell f next) (found-machine bytes g m found at)
        (refused-stands found next (step_of e) s was.0 was.1 serves))

    all : (given_bytes : Bytes)
        → AreAllAnswered n g given_bytes (runs_alone bytes g m) (replied text g deed.Refused) (runs_alone bytes g after)
        → StandsAsWell m after
    all given_bytes (None, at, (is, same)) =
        not-done (replied text g deed.Refused) (done_as g deed.Refused) (ap (λ x. x.done) is) refl
    all given_bytes (Some found, at, (next, answers, serves, is, says)) =
        let was = all-refused (slot_of_answers answers) _
        (same-deed g deed.Refused _ (replied text g deed.Refused) (ap (λ x. x.done) says) refl) in
        let same = same-machine bytes g after next (is ∙ placed bytes g m next) in
        subst (StandsAsWell m) (sym same)
        (subst (λ f. StandsAsWell f next) (found-machine bytes g m found at) (each-refused given_bytes serves was))

    by : (asked : Ask) → IsAskAnswered n g asked (runs_alone bytes g m) (replied text g deed.Refused) (runs_alone bytes g after)
        → StandsAsWell m after
    by (ask.Declare x) (false, declares, is) =
        not-done (replied text g deed.Refused) (done_as g deed.Refused) (ap (λ x. x.done) is) refl
    by (ask.Declare x) (true, declares, is) = absurd
        (subst IsEventDeed
        (sym (same-deed g deed.Refused deed.Declared (replied text g deed.Refused) (ap (λ x. x.done) is) refl)) tt)
    by (ask.Serve e) (false, now, begins, (is, same)) =
        not-done (replied text g deed.Refused) (done_as g deed.Refused) (ap (λ x. x.done) is) refl
    by (ask.Serve e) (true, now, same, answered) =
        one e (subst
        (λ l. IsEventAnswered n g e l (replied text g deed.Refused) (runs_alone bytes g after)) same answered)
    by (ask.ForAll given_bytes) (false, now, begins, (is, same)) =
        not-done (replied text g deed.Refused) (done_as g deed.Refused) (ap (λ x. x.done) is) refl
    by (ask.ForAll given_bytes) (true, now, same, answered) =
        all given_bytes (subst
        (λ l. AreAllAnswered n g given_bytes l (replied text g deed.Refused) (runs_alone bytes g after)) same answered)
    by ask.Left answered = not-done (replied text g deed.Refused) (done_as g deed.Refused) answered.1 refl
    by (ask.Show i u) answered = not-done (replied text g deed.Refused) (done_as g deed.Refused) answered.1 refl
    by ask.Drop (false, drops, is) =
        not-done (replied text g deed.Refused) (done_as g deed.Refused) (ap (λ x. x.done) is) refl
    by ask.Drop (true, drops, is) = absurd
        (subst IsEventDeed
        (sym (same-deed g deed.Refused deed.Dropped (replied text g deed.Refused) (ap (λ x. x.done) is) refl)) tt)
