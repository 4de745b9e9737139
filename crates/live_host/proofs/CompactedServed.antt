-- The lines that were applied, as a network serves them, with memory for all that they are answered.
use Rattle.std.specs.List.{AllByRecursion, flat_map}
use Rattle.std.specs.Prelude.{◌≡◌, ◌==◌, ◌++◌, ◌∷◌, [], not, map, length, ℕ, Bool, true, false, List, Option, Some, None, if◌then◌else◌}
use Rattle.std.proofs.Common.{◌∙◌, refl, sym, ap, subst, append_assoc, eq-eqb}
use Rattle.std.proofs.lemmas.Bool.{eqb-true}
use Rattle.scp_types.specs.declared.event.Event.{Event}
use Rattle.scp_types.specs.declared.event.Event.TheVariants as event
use Rattle.scp_types.specs.declared.event.Out.{Out}
use Rattle.scp_types.specs.declared.event.Refusal.{Refusal}
use Rattle.scp_types.specs.declared.event.Refusal.TheVariants.{BadEnvelope, NoMemory, NoSuchNode}
use Rattle.scp_spec.specs.Networks.{Net, Reading, Step, is_hosted, net_step}
use Rattle.scp_spec.specs.Networks.Reading.{Fault, Read}
use Rattle.scp_spec.specs.Networks.Reply.{Done, Refused}
use Rattle.scp_spec.specs.Networks.Step.{BallotTimerFires, Closes, Delivers, Hears, NominationTimerFires, Opens, Proposes, Reslices}
use Rattle.host_network.specs.Decoding.{reading, step_of}
use Rattle.host_network.specs.Standing.{IsStood, Machine, net_of}
use Rattle.live_network.specs.Serving.{Ending, IsServed, ToldReply}
use Rattle.live_network.specs.Serving.Ending.{IsDone, IsRefused}
use Rattle.live_network.specs.Serving.IsServed.{done, refused}
use Rattle.live_network.specs.Telling.{IsServedBy, IsToldAt, ending_by, ending_of, tellings_of}
use Rattle.live_network.specs.declared.served.Served.{Served}
use Rattle.line_script.specs.Script.{Bytes}
use Rattle.live_feed.specs.WholeLines.{given}
use Rattle.live_feed.specs.declared.answering.Deed.TheVariants as deed
use Rattle.live_feed.specs.declared.answering.Drawn.{Drawn}
use Rattle.line_request.specs.declared.ask.Ask.{Ask}
use Rattle.line_request.specs.declared.ask.Ask.TheVariants as ask
use Rattle.host_config.specs.Configs.{names_of}
use Rattle.live_host.specs.Blocks.{TellsOfNoWant, block_of, closing_line, closing_of, front_of_line, line_of_telling, text_of_reply, want_of_memory}
use Rattle.live_host.specs.Compacted.{AppliedLine, AreServedFor, DoAll, IsAskedBy, IsServedFor, LineAsks, done_as, line_deed_of}
use Rattle.live_host.specs.Lowering.{runs_alone}
use Rattle.live_host.specs.Compacted.AreServedFor.{next_served, none_served}
use Rattle.live_host.specs.Compacted.DoAll.{no_deed, one_deed}
use Rattle.live_host.specs.Compacted.IsAskedBy.{asks_event, asks_for_all}
use Rattle.live_host.specs.Erasing.{AreServedInTurn, HadMemoryToServe, IsEnough, IsLine, IsNoRefusedOpening, Line, is_reading_at, is_step_at}
use Rattle.live_host.specs.Erasing.AreServedInTurn.{ended, goes_on}
use Rattle.live_host.specs.Erasing.Line.{OfBytes, OfEvent}
use Rattle.live_host.specs.Hosts.{AreAllAnswered, AreServed, IsAskAnswered, IsEventAnswered, Serves, block_of_answers, closing_of_answers, deed_at, deed_by, deed_of, deed_of_all, drawn, lines_of_answer, lines_of_answers, slot_of_answer, slot_of_answers}
use Rattle.live_host.specs.Hosts.AreServed.{next_node, none_left}
use Rattle.live_host.specs.declared.all.NodeAnswer.{NodeAnswer}
use Rattle.live_host.proofs.ApartLines.{not-done}
use Rattle.live_host.proofs.CompactedAsked.{placed, runs-there, what-it-asks}
use Rattle.live_host.proofs.CompactedMade.{IsEventDeed, replied, same-deed}
use Rattle.live_host.proofs.CompactedRefused.{found-machine, same-machine}
use Rattle.live_host.proofs.ErasedMachines.{served-stood}
use Rattle.live_host.proofs.ErasedNets.{passed-tests}
use Rattle.live_host.proofs.ErasedParts.{other-way}
use Rattle.live_host.proofs.ErasedServed.{stepped-to}

-- ---- what is told of want of memory
-- nothing behind a part of a block
behind-it : (a b : Bytes) → TellsOfNoWant (a ++ b) → TellsOfNoWant b
behind-it a b tells front rest is =
    tells (a ++ front) rest (ap (λ x. a ++ x) is ∙ sym (append_assoc a front (want_of_memory ++ rest)))

line-is-enough : (bytes : Bool) (n g i : ℕ) (t : ToldReply) (rest : Bytes)
    → TellsOfNoWant (line_of_telling bytes n g i t ++ rest) → IsEnough t
line-is-enough bytes n g i t rest tells is =
    tells (front_of_line n g i t.node) rest
    (append_assoc (front_of_line n g i t.node) (text_of_reply bytes t.reply ++ 10 ∷ []) rest
    ∙ ap (λ r. front_of_line n g i t.node ++ ((text_of_reply bytes r ++ 10 ∷ []) ++ rest)) is)

lines-are-enough : (bytes : Bool) (n g i : ℕ) (ts : List ToldReply) (rest : Bytes)
    → TellsOfNoWant (flat_map (line_of_telling bytes n g i) ts ++ rest) → AllByRecursion IsEnough ts
lines-are-enough bytes n g i [] rest tells = tt
lines-are-enough bytes n g i (t ∷ ts) rest tells =
    let here = subst TellsOfNoWant
    (append_assoc (line_of_telling bytes n g i t) (flat_map (line_of_telling bytes n g i) ts) rest) tells in (
      line-is-enough bytes n g i t (flat_map (line_of_telling bytes n g i) ts ++ rest) here,
      lines-are-enough bytes n g i ts rest
          (behind-it (line_of_telling bytes n g i t) (flat_map (line_of_telling bytes n g i) ts ++ rest) here),
    )

-- an event that was refused tells nothing
abbrev ToldIf : Ending → List ToldReply → Type 0
ToldIf (IsRefused r) ts = ts ≡ []
ToldIf (IsDone stale) ts = Unit {0}

told-if : {net after : Net} {e : Step} {ending : Ending} {ts : List ToldReply} → IsServed net e ending ts after → ToldIf ending ts
told-if (refused r tried) = refl
told-if (done os tried heard) = tt

refused-tells : (m after : Machine) (e : Step) (s : Served) (r : Refusal) → IsStood m → s.refused ≡ Some r
    → IsServedBy m e after s → tellings_of s.told.items ≡ []
refused-tells m after e s r (draws, tallied) is served =
    subst (λ o. ToldIf (ending_by o s.stale) (tellings_of s.told.items)) is
    (told-if (served.served (net_of m draws) (record { is = refl; tallied = tallied })).1)

node-had-memory : (bytes : Bool) (n g i : ℕ) (a : NodeAnswer) (m after : Machine) (e : Step) (rest : Bytes) → IsStood m
    → IsServedBy m e after a.served → TellsOfNoWant (lines_of_answer bytes n g i a ++ rest) → HadMemoryToServe a.served
node-had-memory bytes n g i a m after e rest stood served tells = by a.served.refused refl
  where
    at : (o : Option Refusal) → a.served.refused ≡ o
        → TellsOfNoWant (lines_of_answer bytes n g i (record { node = a.node; served = record a.served { refused = o } }) ++ rest)
    at o is = subst
        (λ o. TellsOfNoWant (lines_of_answer bytes n g i (record { node = a.node; served = record a.served { refused = o } }) ++ rest))
        is tells

    by : (o : Option Refusal) → a.served.refused ≡ o → HadMemoryToServe a.served
    by None is = record {
      refused = λ want. let never : None ≡ Some NoMemory = sym is ∙ want in cc;
      told = lines-are-enough bytes n g i (tellings_of a.served.told.items) rest (at None is);
    }
    by (Some r) is = record {
      refused = λ want.
          let why : Some r ≡ Some NoMemory = sym is ∙ want in
          let here : r ≡ NoMemory = cc in
          line-is-enough bytes n g i (record { node = a.node; reply = Refused r }) rest (at (Some r) is) (ap Refused here);
      told = subst (AllByRecursion IsEnough) (sym (refused-tells m after e a.served r stood is served)) tt;
    }

all-had-memory : (bytes : Bool) (n g i : ℕ) (text : Bytes) {us : List ℕ} {m after : Machine} {answers : List NodeAnswer}
    (rest : Bytes) → IsStood m → AreServed text us m answers after
    → TellsOfNoWant (flat_map (lines_of_answer bytes n g i) answers ++ rest)
    → AllByRecursion (λ a. HadMemoryToServe a.served) answers
all-had-memory bytes n g i text rest stood none_left tells = tt
all-had-memory bytes n g i text {m = m} rest stood (next_node {now} {answers} a served others) tells =
    let here = subst TellsOfNoWant
    (append_assoc (lines_of_answer bytes n g i a) (flat_map (lines_of_answer bytes n g i) answers) rest) tells in (
      node-had-memory bytes n g i a m now (step_of (event.Deliver a.node text))
          (flat_map (lines_of_answer bytes n g i) answers ++ rest) stood served here,
      all-had-memory bytes n g i text rest
          (served-stood m (step_of (event.Deliver a.node text)) now a.served stood served).0 others
          (behind-it (lines_of_answer bytes n g i a) (flat_map (lines_of_answer bytes n g i) answers ++ rest) here),
    )

-- ---- slots
turned : (i j : ℕ) → (i == j) ≡ (j == i)
turned i j = by (i == j) refl
  where
    by : (b : Bool) → (i == j) ≡ b → b ≡ (j == i)
    by true is = sym (eq-eqb j i (sym (eqb-true i j is)))
    by false is = sym (other-way i j is)

-- an event that is not refused is a step of the network
done-so : {net after : Net} {e : Step} {ending : Ending} {ts : List ToldReply} (stale : Bool)
    → IsServed net e ending ts after → ending ≡ IsDone stale → (os : List Out) × ((net_step net e).1 ≡ Done os)
done-so stale (refused r tried) is = absurd (cc)
done-so {net} {e = e} stale (done {now} os tried heard) is = (os, (stepped-to net e os now tried).0)

done-by : (m after : Machine) (e : Step) (s : Served) → IsStood m → IsServedBy m e after s → s.refused ≡ None
    → (net : Net) × (os : List Out) × ((net_step net e).1 ≡ Done os)
done-by m after e s (draws, tallied) served is =
    let steps = done-so s.stale (served.served (net_of m draws) (record { is = refl; tallied = tallied })).1
    (ap (λ o. ending_by o s.stale) is) in
    (net_of m draws, steps.0, steps.1)

-- bytes that are no envelope are refused
faulty-never : (net : Net) (u size n : ℕ) (os : List Out) → (net_step net (Delivers u size (Fault n))).1 ≡ Done os → ⊥
faulty-never net u size n os is = by (is_hosted net u) (passed-tests net (Delivers u size (Fault n)) os is)
  where
    by : (hosts : Bool) → (if not hosts then Some NoSuchNode else Some (BadEnvelope n)) ≡ None → ⊥
    by true none = cc
    by false none = cc

delivered-at : (m after : Machine) (u : ℕ) (text : Bytes) (s : Served) → IsStood m
    → IsServedBy m (step_of (event.Deliver u text)) after s → s.refused ≡ None
    → (i : ℕ) → is_reading_at i (reading text) ≡ (s.slot == i)
delivered-at m after u text s stood served is i =
    let was = done-by m after (step_of (event.Deliver u text)) s stood served is in
    by (reading text)
    (subst (λ o. IsToldAt o s.slot (Delivers u (length text) (reading text))) is served.slot) was.0 was.1 was.2
  where
    by : (said : Reading) → IsToldAt None s.slot (Delivers u (length text) said) → (net : Net) (os : List Out)
        → (net_step net (Delivers u (length text) said)).1 ≡ Done os → is_reading_at i said ≡ (s.slot == i)
    by (Read e) at net os stepped = turned i e.slot ∙ ap (λ j. j == i) (sym at)
    by (Fault n) at net os stepped = absurd (faulty-never net u (length text) n os stepped)

-- ---- what an event did
pub applied-is-done : (o : Option Refusal) (x : Event) (k j : ℕ) (d c : Drawn) → deed_by o x k d ≡ deed.Applied j c → o ≡ None
applied-is-done None x k j d c is = refl
applied-is-done (Some r) x k j d c is = absurd (cc)

pub applied-drew : (x : Event) (k j : ℕ) (d c : Drawn) → deed_at x k d ≡ deed.Applied j c → d ≡ c
applied-drew (event.OpenSlot i) k j d c is = cc
applied-drew (event.CloseSlot i) k j d c is = absurd (cc)
applied-drew _ k j d c is = cc

kept-if-done : (e : Step) (s : Served) → s.refused ≡ None → IsNoRefusedOpening e s
kept-if-done (Opens i) s is = is
kept-if-done (Closes i) s is = tt
kept-if-done (Proposes i u x) s is = tt
kept-if-done (Delivers u size said) s is = tt
kept-if-done (Hears i u from kind k) s is = tt
kept-if-done (NominationTimerFires i u n) s is = tt
kept-if-done (BallotTimerFires i u n) s is = tt
kept-if-done (Reslices i u q) s is = tt

-- it was applied at its slot
applied-at : (m after : Machine) (x : Event) (s : Served) (j : ℕ) (d c : Drawn) → IsStood m
    → IsServedBy m (step_of x) after s → s.refused ≡ None → deed_at x s.slot d ≡ deed.Applied j c
    → (i : ℕ) → is_step_at i (step_of x) ≡ (j == i)
applied-at m after x s j d c stood served is did i =
    by x served (subst (λ o. IsToldAt o s.slot (step_of x)) is served.slot) did
  where
    slot-is : (k l : ℕ) → k ≡ s.slot → deed.Applied k d ≡ deed.Applied j c → s.slot ≡ l → (i == l) ≡ (j == i)
    slot-is k l same applied at =
        let here : k ≡ j = cc in
        turned i l ∙ ap (λ l. l == i) (sym at ∙ sym same ∙ here)

    by : (x : Event) → IsServedBy m (step_of x) after s → IsToldAt None s.slot (step_of x)
        → deed_at x s.slot d ≡ deed.Applied j c → is_step_at i (step_of x) ≡ (j == i)
    by (event.OpenSlot k) served at did = let here : k ≡ j = cc in turned i k ∙ ap (λ k. k == i) here
    by (event.CloseSlot k) served at did = absurd (cc)
    by (event.Propose k u v) served at did = slot-is s.slot k refl did at
    by (event.Deliver u text) served at did =
        let here : s.slot ≡ j = cc in delivered-at m after u text s stood served is i ∙ ap (λ j. j == i) here
    by (event.Hear k u from kind number) served at did = slot-is s.slot k refl did at
    by (event.NominationTimer k u r) served at did = slot-is s.slot k refl did at
    by (event.BallotTimer k u n) served at did = slot-is s.slot k refl did at
    by (event.Reslice k u q) served at did = slot-is s.slot k refl did at

-- bytes for all nodes were applied at the slot that they name
pub all-applied : (o : Option ℕ) (d c : Drawn) (j : ℕ) → deed_of_all o d ≡ deed.Applied j c → (o ≡ Some j) × (d ≡ c)
all-applied None d c j is = absurd (cc)
all-applied (Some i) d c j is = (cc, cc)

all-applied-at : (text : Bytes) (j : ℕ) {us : List ℕ} {m after : Machine} {answers : List NodeAnswer} → IsStood m
    → AreServed text us m answers after → slot_of_answers answers ≡ Some j
    → (i : ℕ) → is_reading_at i (reading text) ≡ (j == i)
all-applied-at text j stood none_left is i = absurd (cc)
all-applied-at text j {m = m} stood (next_node {now} {answers} a served others) is i =
    by a.served.refused refl is
    (λ at. all-applied-at text j (served-stood m (step_of (event.Deliver a.node text)) now a.served stood served).0 others at i)
  where
    by : (o : Option Refusal) → a.served.refused ≡ o → slot_of_answer o a.served.slot (slot_of_answers answers) ≡ Some j
        → (slot_of_answers answers ≡ Some j → is_reading_at i (reading text) ≡ (j == i))
        → is_reading_at i (reading text) ≡ (j == i)
    by None took at more =
        let here : a.served.slot ≡ j = cc in
        delivered-at m now a.node text a.served stood served took i ∙ ap (λ j. j == i) here
    by (Some r) took at more = more at

-- ---- a line that was applied
-- what the network of such a line served
abbrev IsLineOf : ℕ → ℕ → AppliedLine → Machine → Machine → Type 0
IsLineOf longest g e m after = (l : Line) × IsServedFor longest g e l × IsLine l m after

event-line : (longest : ℕ) (bytes : Bool) (g n : ℕ) (m after : Machine) (e : AppliedLine) (text : Bytes) (x : Event) (s : Served)
    → IsStood m → TellsOfNoWant text → LineAsks longest g e.text (ask.Serve x) → IsServedBy m (step_of x) after s
    → text ≡ block_of bytes n g s.slot (tellings_of s.told.items) (ending_of s)
    → deed_of x s (drawn m after) ≡ deed.Applied e.slot e.drawn → IsLineOf longest g e m after
event-line longest bytes g n m after e text x s stood tells asks served says did =
    let took : s.refused ≡ None = applied-is-done s.refused x s.slot e.slot (drawn m after) e.drawn did in
    let applied : deed_at x s.slot (drawn m after) ≡ deed.Applied e.slot e.drawn =
    subst (λ o. deed_by o x s.slot (drawn m after) ≡ deed.Applied e.slot e.drawn) took did in (
      OfEvent (step_of x) s (drawn m after),
      record {
        asked = asks_event x s (drawn m after) asks did;
        at = applied-at m after x s e.slot (drawn m after) e.drawn stood served took applied;
        kept = (
          kept-if-done (step_of x) s took,
          record {
            refused = λ want. let never : None ≡ Some NoMemory = sym took ∙ want in cc;
            told = lines-are-enough bytes n g s.slot (tellings_of s.told.items) (closing_line n (closing_of (ending_of s)))
                (subst TellsOfNoWant says tells);
          },
        );
      },
      (served, refl),
    )

bytes-line : (longest : ℕ) (bytes : Bool) (g n : ℕ) (m after : Machine) (e : AppliedLine) (text given_bytes : Bytes)
    (answers : List NodeAnswer) → IsStood m → TellsOfNoWant text → LineAsks longest g e.text (ask.ForAll given_bytes)
    → AreServed given_bytes (names_of m.config.nodes) m answers after → text ≡ block_of_answers bytes n g answers
    → deed_of_all (slot_of_answers answers) (drawn m after) ≡ deed.Applied e.slot e.drawn → IsLineOf longest g e m after
bytes-line longest bytes g n m after e text given_bytes answers stood tells asks served says did =
    let at = (all-applied (slot_of_answers answers) (drawn m after) e.drawn e.slot did).0 in (
      OfBytes given_bytes answers (drawn m after),
      record {
        asked = asks_for_all given_bytes answers (drawn m after) asks did;
        at = all-applied-at given_bytes e.slot stood served at;
        kept = all-had-memory bytes n g e.slot given_bytes (closing_line n (closing_of_answers answers)) stood served
            (subst TellsOfNoWant
            (says ∙ ap (λ o. lines_of_answers o bytes n g answers ++ closing_line n (closing_of_answers answers)) at)
            tells);
      },
      (served, refl),
    )

pub line-of : (longest : ℕ) (bytes : Bool) (g n : ℕ) (m after : Machine) (e : AppliedLine) (text : Bytes) → IsStood m
    → TellsOfNoWant text
    → Serves (runs_alone bytes g m) n (given longest e.text) (replied text g (deed.Applied e.slot e.drawn))
    (runs_alone bytes g after)
    → IsLineOf longest g e m after
line-of longest bytes g n m after e text stood tells serves =
    let asks = what-it-asks n (given longest e.text) (runs_alone bytes g m) (runs_alone bytes g after)
    (replied text g (deed.Applied e.slot e.drawn)) (done_as g (deed.Applied e.slot e.drawn)) serves refl in
    by asks.asked asks.back asks.answered
  where
    one : (x : Event) → LineAsks longest g e.text (ask.Serve x)
        → IsEventAnswered n g x (runs_alone bytes g m) (replied text g (deed.Applied e.slot e.drawn)) (runs_alone bytes g after)
        → IsLineOf longest g e m after
    one x asks (None, at, (is, same)) =
        not-done (replied text g (deed.Applied e.slot e.drawn)) (done_as g (deed.Applied e.slot e.drawn))
        (ap (λ x. x.done) is) refl
    one x asks (Some found, at, (next, s, served, is, says)) =
        let here = found-machine bytes g m found at in
        subst (IsLineOf longest g e m) (sym (same-machine bytes g after next (is ∙ placed bytes g m next)))
        (subst (λ f. IsLineOf longest g e f next) here
        (event-line longest bytes g n found next e text x s (subst IsStood (sym here) stood) tells asks served
        (ap (λ x. x.text) says)
        (same-deed g (deed.Applied e.slot e.drawn) _ (replied text g (deed.Applied e.slot e.drawn)) (ap (λ x. x.done) says)
        refl)))

    all : (given_bytes : Bytes) → LineAsks longest g e.text (ask.ForAll given_bytes)
        → AreAllAnswered n g given_bytes (runs_alone bytes g m) (replied text g (deed.Applied e.slot e.drawn))
        (runs_alone bytes g after)
        → IsLineOf longest g e m after
    all given_bytes asks (None, at, (is, same)) =
        not-done (replied text g (deed.Applied e.slot e.drawn)) (done_as g (deed.Applied e.slot e.drawn))
        (ap (λ x. x.done) is) refl
    all given_bytes asks (Some found, at, (next, answers, served, is, says)) =
        let here = found-machine bytes g m found at in
        subst (IsLineOf longest g e m) (sym (same-machine bytes g after next (is ∙ placed bytes g m next)))
        (subst (λ f. IsLineOf longest g e f next) here
        (bytes-line longest bytes g n found next e text given_bytes answers (subst IsStood (sym here) stood) tells asks served
        (ap (λ x. x.text) says)
        (same-deed g (deed.Applied e.slot e.drawn) _ (replied text g (deed.Applied e.slot e.drawn)) (ap (λ x. x.done) says)
        refl)))

    by : (asked : Ask) → LineAsks longest g e.text asked
        → IsAskAnswered n g asked (runs_alone bytes g m) (replied text g (deed.Applied e.slot e.drawn)) (runs_alone bytes g after)
        → IsLineOf longest g e m after
    by (ask.Declare x) asks (false, declares, is) =
        not-done (replied text g (deed.Applied e.slot e.drawn)) (done_as g (deed.Applied e.slot e.drawn))
        (ap (λ x. x.done) is) refl
    by (ask.Declare x) asks (true, declares, is) = absurd
        (subst IsEventDeed
        (sym (same-deed g (deed.Applied e.slot e.drawn) deed.Declared (replied text g (deed.Applied e.slot e.drawn))
        (ap (λ x. x.done) is) refl)) tt)
    by (ask.Serve x) asks (false, now, begins, (is, same)) =
        not-done (replied text g (deed.Applied e.slot e.drawn)) (done_as g (deed.Applied e.slot e.drawn))
        (ap (λ x. x.done) is) refl
    by (ask.Serve x) asks (true, now, same, answered) =
        one x asks
        (subst
        (λ l. IsEventAnswered n g x l (replied text g (deed.Applied e.slot e.drawn)) (runs_alone bytes g after)) same answered)
    by (ask.ForAll given_bytes) asks (false, now, begins, (is, same)) =
        not-done (replied text g (deed.Applied e.slot e.drawn)) (done_as g (deed.Applied e.slot e.drawn))
        (ap (λ x. x.done) is) refl
    by (ask.ForAll given_bytes) asks (true, now, same, answered) =
        all given_bytes asks
        (subst
        (λ l. AreAllAnswered n g given_bytes l (replied text g (deed.Applied e.slot e.drawn)) (runs_alone bytes g after)) same
        answered)
    by ask.Left asks answered =
        not-done (replied text g (deed.Applied e.slot e.drawn)) (done_as g (deed.Applied e.slot e.drawn)) answered.1 refl
    by (ask.Show i u) asks answered =
        not-done (replied text g (deed.Applied e.slot e.drawn)) (done_as g (deed.Applied e.slot e.drawn)) answered.1 refl
    by ask.Drop asks (false, drops, is) =
        not-done (replied text g (deed.Applied e.slot e.drawn)) (done_as g (deed.Applied e.slot e.drawn))
        (ap (λ x. x.done) is) refl
    by ask.Drop asks (true, drops, is) = absurd
        (subst IsEventDeed
        (sym (same-deed g (deed.Applied e.slot e.drawn) deed.Dropped (replied text g (deed.Applied e.slot e.drawn))
        (ap (λ x. x.done) is) refl)) tt)

-- ---- and back
-- the lines do what they did
line-does : (longest : ℕ) (bytes : Bool) (g : ℕ) (m after : Machine) (e : AppliedLine) {l : Line} → IsAskedBy longest g e l
    → IsLine l m after
    → (text : Bytes) × Serves (runs_alone bytes g m) 1 (given longest e.text) (replied text g (deed.Applied e.slot e.drawn))
    (runs_alone bytes g after)
line-does longest bytes g m after e (asks_event x s d asks did) line =
    let text = block_of bytes 1 g s.slot (tellings_of s.told.items) (ending_of s) in (
      text,
      asks 1 (runs_alone bytes g m) (runs_alone bytes g after) (replied text g (deed.Applied e.slot e.drawn)) (
        true,
        runs_alone bytes g m,
        refl,
        (
          Some m,
          runs-there bytes g m,
          (
            after,
            s,
            line.0,
            sym (placed bytes g m after),
            ap (replied text g) (sym (ap (deed_of x s) line.1 ∙ did)),
          ),
        ),
      ),
    )
line-does longest bytes g m after e (asks_for_all given_bytes answers d asks did) line =
    let text = block_of_answers bytes 1 g answers in (
      text,
      asks 1 (runs_alone bytes g m) (runs_alone bytes g after) (replied text g (deed.Applied e.slot e.drawn)) (
        true,
        runs_alone bytes g m,
        refl,
        (
          Some m,
          runs-there bytes g m,
          (
            after,
            answers,
            line.0,
            sym (placed bytes g m after),
            ap (replied text g) (sym (ap (deed_of_all (slot_of_answers answers)) line.1 ∙ did)),
          ),
        ),
      ),
    )

pub all-done : (longest : ℕ) (bytes : Bool) (g : ℕ) {m after : Machine} {es : List AppliedLine} {lines : List Line}
    → AreServedFor longest g es lines → AreServedInTurn m lines after
    → DoAll longest g (runs_alone bytes g m) (map line_deed_of es) (runs_alone bytes g after)
all-done longest bytes g none_served ended = no_deed
all-done longest bytes g {m = m} (next_served {e} is_for others) (goes_on {now} l line run) =
    let does = line-does longest bytes g m now e is_for.asked line in
    one_deed 1 does.0 (line_deed_of e) does.1 (all-done longest bytes g others run)
