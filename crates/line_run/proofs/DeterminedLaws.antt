-- What lines that print nothing do is determined.
use Rattle.std.proofs.Common.{◌≡◌, ◌≢◌, ◌∙◌, ◌==◌, ◌||◌, ◌&&◌, ◌++◌, not, ℕ, Bool, true, false, List, [], ◌∷◌, Option, Some, None, Ok, Err, is_some, if◌then◌else◌, inl, inr, refl, sym, ap, subst}
use Rattle.std.specs.Prelude.{All, Result}
use Rattle.std.proofs.lemmas.Bool.{eqb-true}
use Rattle.std.proofs.lemmas.List.Elements.{All-head, All-tail}
use Rattle.std.proofs.lemmas.Option.{none-some}
use Rattle.line_script.specs.Script.{Bytes}
use Rattle.scp_types.specs.Statements.{Sent}
use Rattle.scp_types.specs.declared.event.Event.{Event}
use Rattle.scp_types.specs.declared.event.Event.TheVariants as event
use Rattle.scp_types.specs.declared.event.Out.{Out}
use Rattle.scp_types.specs.declared.event.Refusal.{Refusal}
use Rattle.scp_types.specs.declared.event.Refusal.TheVariants.{NoMemory}
use Rattle.scp_spec.specs.Networks.{Step, emissions, is_open}
use Rattle.scp_spec.specs.Runs.{refusal_of, state_of}
use Rattle.scp_spec.specs.Rosters.{Shares}
use Rattle.host_config.specs.Configs.{names_of}
use Rattle.host_network.specs.declared.applied.Given.{Given}
use Rattle.host_network.specs.Decoding.{step_of}
use Rattle.host_network.specs.Marks.{named}
use Rattle.host_network.specs.declared.emission.Emission.{Emission}
use Rattle.host_journal.specs.Logs.{IsRefused, Log, with_entry}
use Rattle.host_world.specs.Worlds.{IsAnswered, IsAnsweredAt, items_of, log_at, logs_set, logs_without, marks_at}
use Rattle.line_request.specs.Naming.{IsForgotten, IsWithout, Named, is_in, named_with, served_with, with_number}
use Rattle.line_request.specs.Outlines.{IsRevised, Outlined, Waiting, waiting_at, waiting_set, waiting_without, with_roster}
use Rattle.line_request.specs.Preparing.{Prepares}
use Rattle.line_request.specs.Taking.{is_declared, takes, takes_roster}
use Rattle.line_request.specs.declared.order.Order.{Order}
use Rattle.line_request.specs.declared.order.Order.TheVariants as order
use Rattle.line_request.specs.declared.request.Declaration.{Declaration}
use Rattle.line_request.specs.declared.request.Declaration.TheVariants.{Net, Node, Roster}
use Rattle.line_request.specs.declared.request.Request.TheVariants.{Declare, Apply, Settle}
use Rattle.line_run.specs.Determined.{AreNamedAlike, AreRunsAlike, AreUnheardAlike, HaveSame}
use Rattle.line_run.specs.Hosting.{Hosting, IsNetworkBegun, logs_joined}
use Rattle.line_run.specs.Joining.{NetworkIsNamedAt}
use Rattle.line_run.specs.declared.outcome.Outcome.{Outcome}
use Rattle.line_run.specs.declared.outcome.Outcome.TheVariants.{Declared, Answer, Answers, Settled}
use Rattle.line_run.specs.Running.{Does, IsDeclaredSo, IsLineCarriedOut}
use Rattle.line_run.specs.ServedNetworks.{AllIsHeard as AllHeard, AnswerIsHeardOf, AreAllDelivered, AreDelivered, AreDeliveredTo, HaveOthersHeard, IsDropAnswered, IsEventServed, IsHeardAt, IsHeardByOthers, hosted_names_in}
use Rattle.line_run.specs.ServedNetworks.AreDelivered.{next_node, none_left}
use Rattle.line_run.specs.ServedNetworks.HaveOthersHeard.{all_heard, one_heard}
use Rattle.line_run.specs.Settling.{AreHandedOn, HasSettled, HasSettledAt, HasSettledIn, IsGivenOut, IsHeardBy, hearing, others}
use Rattle.line_run.specs.Settling.AreHandedOn.{cut_short, none_waits, one_waits}
use Rattle.line_run.specs.Settling.IsHeardBy.{by_all, by_one, refused}
use Rattle.line_run.specs.Unheard.{WaitsAfter, Unheard, WaitThere, WaitsBehind, slot_closed_by, named_emissions, first_emitted, unheard_at}
use Rattle.line_run.specs.Unprinted.{HadMemory}
use Rattle.line_run.specs.BadLines.{IsOfWords, two-orders}
use Rattle.line_run.proofs.Configured.{one-config}
use Rattle.line_run.proofs.NumberedRows.{has-inserted, is-at}

-- ---- small laws

one-some : {A : Type 0} (o p : Option A) (a b : A) → o ≡ p → o ≡ Some a → p ≡ Some b → a ≡ b
one-some o p a b same e f = let g : Some a ≡ Some b = sym e ∙ (same ∙ f) in cc

some-or-none : {A : Type 0} (o p : Option A) (a : A) → o ≡ p → o ≡ Some a → p ≡ None → ⊥
some-or-none o p a same e f = none-some a (sym f ∙ (sym same ∙ e))

ok-or-err : {A B : Type 0} (x : A) (y : B) → ◌≡◌ {A = Result A B} (Ok x) (Err y) → ⊥
ok-or-err x y h = cc

one-err : {A B : Type 0} (x y : B) → ◌≡◌ {A = Result A B} (Err x) (Err y) → x ≡ y
one-err x y h = cc

-- ---- what is kept of the networks

with-one-more : (g : ℕ) (us vs : List ℕ) → HaveSame us vs → HaveSame (with_number us g) (with_number vs g)
with-one-more g us vs same j = has-inserted g j us ∙ (ap (λ b. (g == j) || b) (same j) ∙ sym (has-inserted g j vs))

named-alike : (g : ℕ) (o : Option Outlined) (m n : Named) → AreNamedAlike m n → AreNamedAlike (named_with g o m) (named_with g o n)
named-alike g None m n a = record { numbers = with-one-more g m.numbers n.numbers a.numbers; running = a.running; served = a.served }
named-alike g (Some d) m n a = record {
  numbers = with-one-more g m.numbers n.numbers a.numbers;
  running = with-one-more g m.running n.running a.running;
  served = a.served;
}

served-alike : (g : ℕ) (m n : Named) → AreNamedAlike m n → AreNamedAlike (served_with g m) (served_with g n)
served-alike g m n a = record { numbers = a.numbers; running = a.running; served = with-one-more g m.served n.served a.served }

without-one : (g : ℕ) (us vs xs ys : List ℕ) → HaveSame us vs → IsWithout g us xs → IsWithout g vs ys → HaveSame xs ys
without-one g us vs xs ys same h k j = go (g == j) refl
  where
    go : (b : Bool) → (g == j) ≡ b → is_in xs j ≡ is_in ys j
    go true e = ap (is_in xs) (sym (eqb-true g j e)) ∙ (h.gone ∙ (sym k.gone ∙ ap (is_in ys) (eqb-true g j e)))
    go false e = h.others j (is-at g j ∙ e) ∙ (same j ∙ sym (k.others j (is-at g j ∙ e)))

forgotten-alike : (g : ℕ) (m n p q : Named) → AreNamedAlike m n → IsForgotten g m p → IsForgotten g n q → AreNamedAlike p q
forgotten-alike g m n p q a h k = record {
  numbers = without-one g m.numbers n.numbers p.numbers q.numbers a.numbers h.numbers k.numbers;
  running = without-one g m.running n.running p.running q.running a.running h.running k.running;
  served = without-one g m.served n.served p.served q.served a.served h.served k.served;
}

-- ---- an event

none-or-some : {A : Type 0} (o : Option A) (a : A) → o ≡ None → o ≡ Some a → ⊥
none-or-some o a e f = none-some a (sym e ∙ f)

-- a refusal that is not want of memory is the one that applies
refusal-is : (l : Log) (e : Step) (r : Refusal) → IsRefused l e r → (◌≡◌ {A = Result (List Out) Refusal} (Err r) (Err NoMemory) → ⊥) → refusal_of l.config l.entries e ≡ Some r
refusal-is l e r (inl short) had = absurd (had (ap (λ x. Err x) short.0))
refusal-is l e r (inr is) had = is

-- an answer is one, and the journals after it
one-answer : (o : Option Log) (logs new last : List Log) (e : Step) (r s : Result (List Out) Refusal) → IsAnsweredAt o logs e r new → IsAnsweredAt o logs e s last
    → r ≢ Err NoMemory → s ≢ Err NoMemory → (r ≡ s) × (new ≡ last)
one-answer None logs new last e r s h k m n = (h.0 ∙ sym k.0, h.1 ∙ sym k.1)
one-answer (Some l) logs new last e (Ok os) (Ok ps) h k m n =
    let same : os ≡ ps = h.0.1 ∙ sym k.0.1 in
    (ap (λ x. Ok x) same, h.1 ∙ (ap (λ x. logs_set (with_entry l e x) logs) same ∙ sym k.1))
one-answer (Some l) logs new last e (Ok os) (Err s) h k m n = absurd (none-or-some (refusal_of l.config l.entries e) s h.0.0 (refusal-is l e s k.0 n))
one-answer (Some l) logs new last e (Err r) (Ok ps) h k m n = absurd (none-or-some (refusal_of l.config l.entries e) r k.0.0 (refusal-is l e r h.0 m))
one-answer (Some l) logs new last e (Err r) (Err s) h k m n =
    let o = refusal_of l.config l.entries e in
    (ap (λ x. Err x) (one-some o o r s refl (refusal-is l e r h.0 m) (refusal-is l e s k.0 n)), h.1 ∙ sym k.1)

-- an answer is not that memory is short, whether its outs are a list or not
items-had : (r : Result Given Refusal) → r ≢ Err NoMemory → items_of r ≢ Err NoMemory
items-had (Ok v) had h = ok-or-err v.outs.items NoMemory h
items-had (Err r) had h = had (ap (λ x. Err x) (one-err r NoMemory h))

-- what an event is answered, and the journals after it
one-answered : (g : ℕ) (e : Event) (r s : Result Given Refusal) (old other new last : List Log) → old ≡ other → IsAnswered old g e r new → IsAnswered other g e s last → r ≢ Err NoMemory → s ≢ Err NoMemory
    → (items_of r ≡ items_of s) × (new ≡ last)
one-answered g e r s old other new last same h k m n =
    one-answer (log_at old g) old new last (step_of e) (items_of r) (items_of s) h
    (subst (λ (x : List Log). IsAnsweredAt (log_at x g) x (step_of e) (items_of s) last) (sym same) k) (items-had r m) (items-had s n)

given-had : (r : Given) → ◌≢◌ {A = Result Given Refusal} (Ok r) (Err NoMemory)
given-had r h = ok-or-err r NoMemory h

-- a refusal was not that memory is short
refusal-had : (r : Refusal) → ◌≢◌ {A = Option Refusal} (Some r) (Some NoMemory) → ◌≢◌ {A = Result Given Refusal} (Err r) (Err NoMemory)
refusal-had r had h = had (ap (λ x. Some x) (one-err r NoMemory h))

one-ok : (xs ys : List Out) → ◌≡◌ {A = Result (List Out) Refusal} (Ok xs) (Ok ys) → xs ≡ ys
one-ok xs ys h = cc

-- what an event gave out, by its outs and its marks
same-emitted : (g : ℕ) (e : Event) (r s : Given) (old other : List Log) → old ≡ other → r.outs.items ≡ s.outs.items → r.marks.items ≡ marks_at old g e → s.marks.items ≡ marks_at other g e → named_emissions r ≡ named_emissions s
same-emitted g e r s old other same outs marks also =
    let ks : r.marks.items ≡ s.marks.items = marks ∙ (ap (λ ls. marks_at ls g e) same ∙ sym also) in
    λ i. named (emissions (outs i)) (ks i)

-- ---- hearings

-- nodes that hear the same where the journals are the same
one-hearing : (g slot : ℕ) (e d : Emission) (us vs : List ℕ) (old other new last : List Log) (more also_more : List Emission) (p q : Option Refusal) → e ≡ d → us ≡ vs → old ≡ other → IsHeardBy g slot e us old more p new
    → IsHeardBy g slot d vs other also_more q last → p ≢ Some NoMemory → q ≢ Some NoMemory → (p ≡ q) × (more ≡ also_more) × (new ≡ last)
one-hearing g slot e d us vs old other new last more also_more p q is names same by_all by_all m n = (refl, refl, same)
one-hearing g slot e d us vs old other new last more also_more p q is names same by_all (by_one r given rest) m n = absurd (cc)
one-hearing g slot e d us vs old other new last more also_more p q is names same by_all (refused r answer) m n = absurd (cc)
one-hearing g slot e d us vs old other new last more also_more p q is names same (by_one r given rest) by_all m n = absurd (cc)
one-hearing g slot e d us vs old other new last more also_more p q is names same (refused r answer) by_all m n = absurd (cc)
one-hearing g slot e d us vs old other new last more also_more p q is names same (by_one {u = u} {us = us_left} {now = now} {more = some} r given rest) (by_one {u = v} {us = vs_left} {now = later} {more = also} s also_given also_rest) m n =
    let first : u ≡ v = cc in
    let left : us_left ≡ vs_left = cc in
    let heard : hearing slot u e ≡ hearing slot v d = λ i. hearing slot (first i) (is i) in
    let there = subst (λ (x : Event). IsGivenOut g x other s later) (sym heard) also_given in
    let both = one-answered g (hearing slot u e) (Ok r) (Ok s) old other now later same given.0 there.0 (given-had r) (given-had s) in
    let outs : r.outs.items ≡ s.outs.items = one-ok r.outs.items s.outs.items both.0 in
    let behind = one-hearing g slot e d us_left vs_left now later new last some also p q is left both.1 rest also_rest m n in
    (behind.0, (λ i. same-emitted g (hearing slot u e) r s old other same outs given.1 there.1 i ++ behind.1 i), behind.2)
one-hearing g slot e d us vs old other new last more also_more p q is names same (by_one {u = u} {now = now} r given rest) (refused {u = v} s answer) m n =
    let first : u ≡ v = cc in
    let heard : hearing slot u e ≡ hearing slot v d = λ i. hearing slot (first i) (is i) in
    let both = one-answered g (hearing slot u e) (Ok r) (Err s) old other now last same given.0 (subst (λ (x : Event). IsAnswered other g x (Err s) last) (sym heard) answer) (given-had r) (refusal-had s n) in
    absurd (ok-or-err r.outs.items s both.0)
one-hearing g slot e d us vs old other new last more also_more p q is names same (refused {u = u} r answer) (by_one {u = v} {now = later} s given rest) m n =
    let first : u ≡ v = cc in
    let heard : hearing slot u e ≡ hearing slot v d = λ i. hearing slot (first i) (is i) in
    let both = one-answered g (hearing slot u e) (Err r) (Ok s) old other new later same answer (subst (λ (x : Event). IsAnswered other g x (Ok s) later) (sym heard) given.0) (refusal-had r m) (given-had s) in
    absurd (ok-or-err s.outs.items r (sym both.0))
one-hearing g slot e d us vs old other new last more also_more p q is names same (refused {u = u} r answer) (refused {u = v} s also) m n =
    let first : u ≡ v = cc in
    let heard : hearing slot u e ≡ hearing slot v d = λ i. hearing slot (first i) (is i) in
    let both = one-answered g (hearing slot u e) (Err r) (Err s) old other new last same answer (subst (λ (x : Event). IsAnswered other g x (Err s) last) (sym heard) also) (refusal-had r m) (refusal-had s n) in
    (ap (λ x. Some x) (one-err r s both.0), refl, both.1)

none-is-no-memory : ◌≡◌ {A = Option Refusal} None (Some NoMemory) → ⊥
none-is-no-memory h = none-some NoMemory h

-- ---- a line that settles

one-handing : (g slot : ℕ) (names : List ℕ) (old other new last : List Log) (es ds left also_left : List Emission) (p q : Option Refusal) → old ≡ other → es ≡ ds → AreHandedOn g slot names old es p left new
    → AreHandedOn g slot names other ds q also_left last → p ≢ Some NoMemory → q ≢ Some NoMemory → (p ≡ q) × (left ≡ also_left) × (new ≡ last)
one-handing g slot names old other new last es ds left also_left p q same wait none_waits none_waits m n = (refl, refl, same)
one-handing g slot names old other new last es ds left also_left p q same wait none_waits (one_waits heard rest) m n = absurd (cc)
one-handing g slot names old other new last es ds left also_left p q same wait none_waits (cut_short r heard) m n = absurd (cc)
one-handing g slot names old other new last es ds left also_left p q same wait (one_waits heard rest) none_waits m n = absurd (cc)
one-handing g slot names old other new last es ds left also_left p q same wait (cut_short r heard) none_waits m n = absurd (cc)
one-handing g slot names old other new last es ds left also_left p q same wait (one_waits {now = now} {e = e} {es = behind} {more = more} heard rest) (one_waits {now = later} {e = d} {es = also_behind} {more = also_more} also also_rest) m n =
    let first : e ≡ d = cc in
    let others_wait : behind ≡ also_behind = cc in
    let both = one-hearing g slot e d (others e names) (others d names) old other now later more also_more None None first (λ i. others (first i) names) same heard also none-is-no-memory none-is-no-memory in
    one-handing g slot names now later new last (behind ++ more) (also_behind ++ also_more) left also_left p q both.2 (λ i. others_wait i ++ both.1 i) rest also_rest m n
one-handing g slot names old other new last es ds left also_left p q same wait (one_waits {now = now} {e = e} {more = more} heard rest) (cut_short {e = d} {more = also_more} r also) m n =
    let first : e ≡ d = cc in
    let both = one-hearing g slot e d (others e names) (others d names) old other now last more also_more None (Some r) first (λ i. others (first i) names) same heard also none-is-no-memory n in
    absurd (none-some r both.0)
one-handing g slot names old other new last es ds left also_left p q same wait (cut_short {e = e} {more = more} r heard) (one_waits {now = later} {e = d} {more = also_more} also also_rest) m n =
    let first : e ≡ d = cc in
    let both = one-hearing g slot e d (others e names) (others d names) old other new later more also_more (Some r) None first (λ i. others (first i) names) same heard also m none-is-no-memory in
    absurd (none-some r (sym both.0))
one-handing g slot names old other new last es ds left also_left p q same wait (cut_short {e = e} {es = behind} {more = more} r heard) (cut_short {e = d} {es = also_behind} {more = also_more} s also) m n =
    let first : e ≡ d = cc in
    let both = one-hearing g slot e d (others e names) (others d names) old other new last more also_more (Some r) (Some s) first (λ i. others (first i) names) same heard also m n in
    (both.0, (λ i. wait i ++ both.1 i), both.2)

-- what waits at one slot is changed in the same way
put-alike : (g i : ℕ) (es ds : List Emission) (old other new last : Unheard) → es ≡ ds → AreUnheardAlike old other → WaitThere g i es old new → WaitThere g i ds other last → AreUnheardAlike new last
put-alike g i es ds old other new last is same h k j n = h j n ∙ ((λ z. if (g == j) && (i == n) then is z else same j n z) ∙ sym (k j n))

as-before : (old other new last : Hosting) → new ≡ old → last ≡ other → AreRunsAlike old other → AreRunsAlike new last
as-before old other new last h k a = subst (λ (x : Hosting × Hosting). AreRunsAlike x.0 x.1) (λ i. (sym h i, sym k i)) a

one-settling-at : (b : Bool) (g slot : ℕ) (names : List ℕ) (old other new last : Hosting) (p q : Option Refusal) → AreRunsAlike old other
    → HasSettledAt b g slot names old p new → HasSettledAt b g slot names other q last → p ≢ Some NoMemory → q ≢ Some NoMemory → AreRunsAlike new last
one-settling-at false g slot names old other new last p q a h k m n = as-before old other new last h.0 k.0 a
one-settling-at true g slot names old other new last p q a h k m n =
    let both = one-handing g slot names old.logs other.logs new.logs last.logs (unheard_at old.unheard g slot) (unheard_at other.unheard g slot) h.0 k.0 p q a.logs (a.unheard g slot) h.1 k.1 m n in
    record {
      waiting = h.3.0 ∙ (a.waiting ∙ sym k.3.0);
      named = subst (λ (x : Named × Named). AreNamedAlike x.0 x.1) (λ i. (sym h.3.1 i, sym k.3.1 i)) a.named;
      unheard = put-alike g slot h.0 k.0 old.unheard other.unheard new.unheard last.unheard both.1 a.unheard h.2 k.2;
      logs = both.2;
    }

one-settling : (g slot : ℕ) (old other new last : Hosting) (p q : Option Refusal) → AreRunsAlike old other → HasSettled g slot old p new → HasSettled g slot other q last
    → p ≢ Some NoMemory → q ≢ Some NoMemory → AreRunsAlike new last
one-settling g slot old other new last p q a h k m n =
    go (log_at old.logs g) h (subst (λ (ls : List Log). HasSettledIn (log_at ls g) g slot other q last) (sym a.logs) k)
  where
    go : (l : Option Log) → HasSettledIn l g slot old p new → HasSettledIn l g slot other q last → AreRunsAlike new last
    go None h k = as-before old other new last h.0 k.0 a
    go (Some l) h k = one-settling-at (is_open (state_of l.config l.entries) slot) g slot (names_of l.config.nodes) old other new last p q a h k m n

-- ---- a served network

one-telling : (g slot : ℕ) (e d : Emission) (us vs : List ℕ) (old other new last : List Log) (more also_more : List Emission) → e ≡ d → us ≡ vs → old ≡ other → HaveOthersHeard g slot e us old more new → HaveOthersHeard g slot d vs other also_more last
    → (more ≡ also_more) × (new ≡ last)
one-telling g slot e d us vs old other new last more also_more is names same all_heard all_heard = (refl, same)
one-telling g slot e d us vs old other new last more also_more is names same all_heard (one_heard ended heard memory rest) = absurd (cc)
one-telling g slot e d us vs old other new last more also_more is names same (one_heard ended heard memory rest) all_heard = absurd (cc)
one-telling g slot e d us vs old other new last more also_more is names same (one_heard {u = u} {us = us_left} {now = now} {some = some} {more = later_more} ended heard memory rest) (one_heard {u = v} {us = vs_left} {now = later} {some = also} {more = also_later} finished also_heard had also_rest) =
    let first : u ≡ v = cc in
    let left : us_left ≡ vs_left = cc in
    let both = one-hearing g slot e d (others e (u ∷ [])) (others d (v ∷ [])) old other now later some also ended finished is (λ i. others (is i) (first i ∷ [])) same heard also_heard memory had in
    let behind = one-telling g slot e d us_left vs_left now later new last later_more also_later is left both.2 rest also_rest in
    ((λ i. both.1 i ++ behind.0 i), behind.1)

one-all-heard : (g slot : ℕ) (names : List ℕ) (old other new last : List Log) (es ds : List Emission) → old ≡ other → es ≡ ds → AllHeard g slot names old es new → AllHeard g slot names other ds last → new ≡ last
one-all-heard g slot names old other new last es ds same wait AllHeard.none_waits AllHeard.none_waits = same
one-all-heard g slot names old other new last es ds same wait AllHeard.none_waits (AllHeard.one_waits told more) = absurd (cc)
one-all-heard g slot names old other new last es ds same wait (AllHeard.one_waits told rest) AllHeard.none_waits = absurd (cc)
one-all-heard g slot names old other new last es ds same wait (AllHeard.one_waits {now = now} {e = e} {es = behind} {more = more} told rest) (AllHeard.one_waits {now = later} {e = d} {es = also_behind} {more = also_more} also also_rest) =
    let first : e ≡ d = cc in
    let others_wait : behind ≡ also_behind = cc in
    let both = one-telling g slot e d names names old other now later more also_more first refl same told also in
    one-all-heard g slot names now later new last (behind ++ more) (also_behind ++ also_more) both.1 (λ i. others_wait i ++ both.0 i) rest also_rest

one-heard-at : (g : ℕ) (o o_too : Option Sent) (r s : Given) (old other new last : List Log) → o ≡ o_too → named_emissions r ≡ named_emissions s → old ≡ other → IsHeardAt g o r old new → IsHeardAt g o_too s other last → new ≡ last
one-heard-at g o o_too r s old other new last first emitted same h k = at o h (subst (λ x. IsHeardAt g x s other last) (sym first) k)
  where
    by : (x : Sent) (names : Option (List ℕ)) → IsHeardByOthers g x.slot names old (named_emissions r) new → IsHeardByOthers g x.slot names other (named_emissions s) last → new ≡ last
    by x None h k = h ∙ (same ∙ sym k)
    by x (Some names) h k = one-all-heard g x.slot names old other new last (named_emissions r) (named_emissions s) same emitted h k

    at : (o : Option Sent) → IsHeardAt g o r old new → IsHeardAt g o s other last → new ≡ last
    at None h k = h ∙ (same ∙ sym k)
    at (Some x) h k = by x (hosted_names_in (log_at old g)) h (subst (λ (ls : List Log). IsHeardByOthers g x.slot (hosted_names_in (log_at ls g)) other (named_emissions s) last) (sym same) k)

-- ---- an event

one-noting : (c : Option ℕ) (g : ℕ) (r s : Given) (old other new last : Unheard) → r.outs.items ≡ s.outs.items → named_emissions r ≡ named_emissions s → AreUnheardAlike old other → WaitsAfter c g r old new → WaitsAfter c g s other last
    → AreUnheardAlike new last
one-noting (Some i) g r s old other new last outs emitted a h k = put-alike g i [] [] old other new last refl a h k
one-noting None g r s old other new last outs emitted a h k = go (first_emitted r.outs.items) h (subst (λ o. WaitsBehind o g s other last) (sym (ap first_emitted outs)) k)
  where
    go : (o : Option Sent) → WaitsBehind o g r old new → WaitsBehind o g s other last → AreUnheardAlike new last
    go None h k = λ j n. ap (λ u. unheard_at u j n) h ∙ (a j n ∙ sym (ap (λ u. unheard_at u j n) k))
    go (Some x) h k = put-alike g x.slot _ _ old other new last (λ i. a g x.slot i ++ emitted i) a h k

one-serving : (g : ℕ) (e : Event) (r s : Result Given Refusal) (old other new last : Hosting) → AreRunsAlike old other → IsEventServed g e r old new → IsEventServed g e s other last
    → r ≢ Err NoMemory → s ≢ Err NoMemory → AreRunsAlike new last
one-serving g e r s old other new last a h k m n =
    let after = all (is_in old.named.served g) r s both.0 h.2 (subst (λ (b : Bool). AnswerIsHeardOf b g e s k.0 other last) (sym (a.named.served g)) k.2) in
    record {
      waiting = h.3.0 ∙ (a.waiting ∙ sym k.3.0);
      named = subst (λ (x : Named × Named). AreNamedAlike x.0 x.1) (λ i. (sym h.3.1 i, sym k.3.1 i)) a.named;
      unheard = after.1;
      logs = after.0;
    }
  where
    both : (items_of r ≡ items_of s) × (h.0 ≡ k.0)
    both = one-answered g e r s old.logs other.logs h.0 k.0 a.logs h.1 k.1 m n

    all : (b : Bool) (x y : Result Given Refusal) → items_of x ≡ items_of y → AnswerIsHeardOf b g e x h.0 old new → AnswerIsHeardOf b g e y k.0 other last → (new.logs ≡ last.logs) × AreUnheardAlike new.unheard last.unheard
    all b (Ok x) (Err y) is heard also = absurd (ok-or-err x.outs.items y is)
    all b (Err x) (Ok y) is heard also = absurd (ok-or-err y.outs.items x (sym is))
    all b (Err x) (Err y) is heard also = (heard.0 ∙ (both.1 ∙ sym also.0), λ j i. ap (λ u. unheard_at u j i) heard.1 ∙ (a.unheard j i ∙ sym (ap (λ u. unheard_at u j i) also.1)))
    all true (Ok x) (Ok y) is heard also =
        let outs = one-ok x.outs.items y.outs.items is in
        let emitted = same-emitted g e x y old.logs other.logs a.logs outs heard.0 also.0 in (
          one-heard-at g (first_emitted x.outs.items) (first_emitted y.outs.items) x y h.0 k.0 new.logs last.logs (ap first_emitted outs) emitted both.1 heard.1.0 also.1.0,
          λ j i. ap (λ u. unheard_at u j i) heard.1.1 ∙ (a.unheard j i ∙ sym (ap (λ u. unheard_at u j i) also.1.1)),
        )
    all false (Ok x) (Ok y) is heard also =
        let outs = one-ok x.outs.items y.outs.items is in
        let emitted = same-emitted g e x y old.logs other.logs a.logs outs heard.0 also.0 in
        (heard.1.0 ∙ (both.1 ∙ sym also.1.0), one-noting (slot_closed_by e) g x y old.unheard other.unheard new.unheard last.unheard outs emitted a.unheard heard.1.1 also.1.1)

one-delivery : (g : ℕ) (bytes : Bytes) (us : List ℕ) (old other new last : Hosting) (rs ss : List (Result Given Refusal)) → AreRunsAlike old other
    → AreDelivered g bytes us old rs new → AreDelivered g bytes us other ss last → All (λ r. r ≢ Err NoMemory) rs → All (λ r. r ≢ Err NoMemory) ss → AreRunsAlike new last
one-delivery g bytes us old other new last rs ss a none_left none_left m n = a
one-delivery g bytes us old other new last rs ss a (next_node {u = u} {now = now} {rs = others_rs} r one rest) (next_node {now = later} {rs = others_ss} s also more) m n =
    let had : Result Given Refusal → Type 0 = λ x. x ≢ Err NoMemory in
    let both = one-serving g (event.Deliver u bytes) r s old other now later a one also (All-head had r others_rs m) (All-head had s others_ss n) in
    one-delivery g bytes _ now later new last others_rs others_ss both rest more (All-tail had r others_rs m) (All-tail had s others_ss n)

one-delivery-to : (g : ℕ) (bytes : Bytes) (names : Option (List ℕ)) (old other new last : Hosting) (rs ss : List (Result Given Refusal)) → AreRunsAlike old other
    → AreDeliveredTo g bytes names old rs new → AreDeliveredTo g bytes names other ss last → All (λ r. r ≢ Err NoMemory) rs → All (λ r. r ≢ Err NoMemory) ss → AreRunsAlike new last
one-delivery-to g bytes None old other new last rs ss a h k m n = as-before old other new last h.0 k.0 a
one-delivery-to g bytes (Some names) old other new last rs ss a h k m n = one-delivery g bytes names old other new last rs ss a h k m n

one-delivery-to-all : (g : ℕ) (bytes : Bytes) (old other new last : Hosting) (rs ss : List (Result Given Refusal)) → AreRunsAlike old other
    → AreAllDelivered g bytes old rs new → AreAllDelivered g bytes other ss last → All (λ r. r ≢ Err NoMemory) rs → All (λ r. r ≢ Err NoMemory) ss → AreRunsAlike new last
one-delivery-to-all g bytes old other new last rs ss a h k m n =
    one-delivery-to g bytes (hosted_names_in (log_at old.logs g)) old other new last rs ss a h
    (subst (λ (ls : List Log). AreDeliveredTo g bytes (hosted_names_in (log_at ls g)) other ss last) (sym a.logs) k) m n

one-drop : (b c : Bool) (g : ℕ) (old other new last : Hosting) (r s : Result (List Out) Refusal) → b ≡ c → AreRunsAlike old other → IsDropAnswered b g old r new → IsDropAnswered c g other s last → AreRunsAlike new last
one-drop b c g old other new last r s same a h k = go b h (subst (λ (x : Bool). IsDropAnswered x g other s last) (sym same) k)
  where
    go : (x : Bool) → IsDropAnswered x g old r new → IsDropAnswered x g other s last → AreRunsAlike new last
    go false h k = as-before old other new last h.1 k.1 a
    go true h k = record {
      waiting = h.1.waiting ∙ (ap (λ ws. waiting_without ws g) a.waiting ∙ sym k.1.waiting);
      named = forgotten-alike g old.named other.named new.named last.named a.named h.1.named k.1.named;
      unheard = λ j i. ap (λ u. unheard_at u j i) h.1.unheard ∙ (a.unheard j i ∙ sym (ap (λ u. unheard_at u j i) k.1.unheard));
      logs = h.1.logs ∙ (ap (λ ls. logs_without g ls) a.logs ∙ sym k.1.logs);
    }

-- ---- a network that is named, and a declaration

one-beginning : (g : ℕ) (old other new last : Hosting) → AreRunsAlike old other → IsNetworkBegun g old new → IsNetworkBegun g other last → AreRunsAlike new last
one-beginning g old other new last a h k =
    go (waiting_at old.waiting g) h.0 h.2 (subst (λ (x : Waiting). NetworkIsNamedAt logs_joined g (waiting_at x g) x last.waiting other.logs last.logs) (sym a.waiting) k.0)
    (k.2 ∙ ap (λ ws. named_with g (waiting_at ws g) other.named) (sym a.waiting))
  where
    wait : AreUnheardAlike new.unheard last.unheard
    wait j i = ap (λ u. unheard_at u j i) h.1 ∙ (a.unheard j i ∙ sym (ap (λ u. unheard_at u j i) k.1))

    go : (o : Option Outlined) → NetworkIsNamedAt logs_joined g o old.waiting new.waiting old.logs new.logs → new.named ≡ named_with g o old.named
        → NetworkIsNamedAt logs_joined g o old.waiting last.waiting other.logs last.logs → last.named ≡ named_with g o other.named → AreRunsAlike new last
    go None h n k m = record {
      waiting = h.0 ∙ sym k.0;
      named = subst (λ (x : Named × Named). AreNamedAlike x.0 x.1) (λ i. (sym n i, sym m i)) (named-alike g None old.named other.named a.named);
      unheard = wait;
      logs = h.1 ∙ (a.logs ∙ sym k.1);
    }
    go (Some d) h n k m =
        let same : h.1.0 ≡ k.1.0 = one-config g d h.1.0 k.1.0 h.1.1 k.1.1 in
        record {
          waiting = h.0 ∙ sym k.0;
          named = subst (λ (x : Named × Named). AreNamedAlike x.0 x.1) (λ i. (sym n i, sym m i)) (named-alike g (Some d) old.named other.named a.named);
          unheard = wait;
          logs = h.1.2 ∙ ((λ i. logs_joined (same i) (a.logs i)) ∙ sym k.1.2);
        }

one-revision : (g : ℕ) (change : Outlined → Outlined) (ws us vs : Waiting) → IsRevised g change ws us → IsRevised g change ws vs → us ≡ vs
one-revision g change ws us vs h k =
    h.2 ∙ (ap (λ d. waiting_set ws g (change d)) (one-some (waiting_at ws g) (waiting_at ws g) h.0 k.0 refl h.1 k.1) ∙ sym k.2)

one-preparation : (g : ℕ) (d : Declaration) (ws us vs : Waiting) → Prepares g d ws us → Prepares g d ws vs → us ≡ vs
one-preparation g (Net b) ws us vs h k = h.1 ∙ sym k.1
one-preparation g (Node u q) ws us vs h k = one-revision g _ ws us vs h k
one-preparation g (Roster r) ws us vs h k = one-revision g _ ws us vs h k

one-declaration : (g : ℕ) (d : Declaration) (m n : Named) (old other new last : Hosting) → AreRunsAlike old other → AreNamedAlike m n → IsDeclaredSo g d m old new → IsDeclaredSo g d n other last → AreRunsAlike new last
one-declaration g d m n old other new last a same h k = record {
  waiting = one-preparation g d old.waiting new.waiting last.waiting h.prepared (subst (λ (ws : Waiting). Prepares g d ws last.waiting) (sym a.waiting) k.prepared);
  named = subst (λ (x : Named × Named). AreNamedAlike x.0 x.1) (λ i. (sym h.named_is i, sym k.named_is i)) same;
  unheard = λ j i. ap (λ u. unheard_at u j i) h.unheard ∙ (a.unheard j i ∙ sym (ap (λ u. unheard_at u j i) k.unheard));
  logs = h.logs ∙ (a.logs ∙ sym k.logs);
}

-- ---- a line

declared-alike : (g : ℕ) (old other : Hosting) → AreRunsAlike old other → is_declared old.waiting old.named g ≡ is_declared other.waiting other.named g
declared-alike g old other a = λ i. is_some (waiting_at (a.waiting i) g) || a.named.running g i

one-order : (g : ℕ) (o : Order) (outcome also : Outcome) (old other new last : Hosting) → Does g o old outcome new → Does g o other also last → HadMemory outcome → HadMemory also → AreRunsAlike old other → AreRunsAlike new last
one-order g (order.Request (Declare d)) Declared Declared old other new last h k m n a = one-declaration g d old.named other.named old other new last a a.named h k
one-order g (order.Request (Apply e)) (Answer r) (Answer s) old other new last h k m n a =
    one-serving g e r s h.1.0 k.1.0 new last (one-beginning g old other h.1.0 k.1.0 a h.1.1 k.1.1) h.1.2 k.1.2 m n
one-order g (order.Request (Settle slot)) (Settled i ended) (Settled j also) old other new last h k m n a =
    one-settling g slot h.1.0 k.1.0 new last ended also (one-beginning g old other h.1.0 k.1.0 a h.1.1 k.1.1) h.1.2 k.1.2 m n
one-order g (order.Serve b) Declared Declared old other new last h k m n a =
    one-declaration g (Net b) (served_with g old.named) (served_with g other.named) old other new last a (served-alike g old.named other.named a.named) h k
one-order g (order.ForAll bytes) (Answers rs) (Answers ss) old other new last h k m n a =
    one-delivery-to-all g bytes h.1.0 k.1.0 new last rs.items ss.items (one-beginning g old other h.1.0 k.1.0 a h.1.1 k.1.1) h.1.2 k.1.2 m n
one-order g order.Drop (Answer r) (Answer s) old other new last h k m n a =
    one-drop (is_declared old.waiting old.named g) (is_declared other.waiting other.named g) g old other new last (items_of r) (items_of s) (declared-alike g old other a) a h.1 k.1
one-order g (order.Request (Declare d)) Declared also old other new last h k m n a = absurd k
one-order g (order.Request (Apply e)) (Answer r) also old other new last h k m n a = absurd k
one-order g (order.Request (Settle slot)) (Settled i ended) also old other new last h k m n a = absurd k
one-order g (order.Serve b) Declared also old other new last h k m n a = absurd k
one-order g (order.ForAll bytes) (Answers rs) also old other new last h k m n a = absurd k
one-order g order.Drop (Answer r) also old other new last h k m n a = absurd k
one-order g o outcome also old other new last h k m n a = absurd h

-- what a roster does, each other does with the same names and shares
does-roster : (g : ℕ) (old new : Hosting) (outcome : Outcome) → IsOfWords (λ r. Does g (order.Request r) old outcome new)
does-roster g old new Declared d e names shares h = record {
  taken = sym taken-too ∙ h.taken;
  prepared = subst (λ (x : List ℕ × Shares). IsRevised g (λ o. with_roster o x.0 x.1) old.waiting new.waiting) (λ i. (names i, shares i)) h.prepared;
  named_is = h.named_is;
  unheard = h.unheard;
  logs = h.logs;
}
  where
    taken-too : takes old.waiting old.named g (Roster d) ≡ takes old.waiting old.named g (Roster e)
    taken-too = λ i. not (is_in old.named.numbers g) && takes_roster (waiting_at old.waiting g) (names i) (shares i)
does-roster g old new outcome d e names shares h = absurd h

-- a line is of one network, and what it does is determined
pub one-told : (old other new last : Hosting) (fields : List Bytes) (g k : ℕ) (outcome also : Outcome) → IsLineCarriedOut g fields old outcome new → IsLineCarriedOut k fields other also last
    → HadMemory outcome → HadMemory also → AreRunsAlike old other → (g ≡ k) × AreRunsAlike new last
one-told old other new last fields g k outcome also (o, ordered, h) (d, same, does) m n a =
    two-orders (λ x y. Does x y old outcome new → (x ≡ k) × AreRunsAlike new last) (λ x r s names shares so h. so (does-roster x old new outcome s r (sym names) (sym shares) h)) fields (Some (g, o))
    (Some (k, d)) ordered same (λ h. (refl, one-order k d outcome also old other new last h does m n a)) h
