-- What waits to be handed on is found in the journals.
use Rattle.std.proofs.Common.{◌≡◌, ◌∙◌, ◌==◌, ◌||◌, ◌&&◌, ◌+◌, ◌≤◌, ◌<◌, ◌++◌, ◌⊎◌, ℕ, suc, Bool, true, false, not, nat_lt, List, [], ◌∷◌, length, Option, Some, None, Ok, Err, cond, is_some, if◌then◌else◌, inl, inr, refl, sym, ap, ap₂, subst, append_assoc, arith}
use Rattle.std.specs.Prelude.{Result}
use Rattle.std.proofs.lemmas.Bool.{and_parts, eqb-true, false≢true, lt-ltb, ltb-true, not-true, or_parts}
use Rattle.scp_types.specs.Statements.{Sent}
use Rattle.scp_types.specs.declared.event.Event.{Event}
use Rattle.scp_types.specs.declared.event.Out.{Out}
use Rattle.scp_types.specs.declared.event.Refusal.{Refusal}
use Rattle.scp_spec.specs.Networks.{Budgets, Step, emissions, is_open}
use Rattle.scp_spec.specs.Hosts.{Config}
use Rattle.scp_spec.specs.Runs.{state_of}
use Rattle.host_config.specs.Configs.{names_of}
use Rattle.host_network.specs.declared.applied.Given.{Given}
use Rattle.host_network.specs.declared.emission.Emission.{Emission}
use Rattle.host_network.specs.Decoding.{step_of}
use Rattle.host_network.specs.Marks.{named, slot_and_node_of}
use Rattle.host_journal.specs.Logs.{Log, with_entry}
use Rattle.std.specs.BTreeMap.{is_at}
use Rattle.std.specs.Map.{remove_entry}
use Rattle.std.specs.Ordering.{nat_cmp}
use Rattle.host_world.specs.Worlds.{IsAnswered, IsAnsweredAt, items_of, log_at, logs_set, logs_with, logs_without, marks_in_log}
use Rattle.host_world.proofs.Histories.{has-number}
use Rattle.host_world.proofs.Leaving.{at-left}
use Rattle.line_request.specs.Outlines.{Outlined, IsConfigOf, IsRevised, Waiting, bare_outline, waiting_at, waiting_without}
use Rattle.line_run.specs.Hosting.{Hosting, IsNetworkBegun, logs_joined, new_hosting}
use Rattle.line_run.specs.Joining.{NetworkIsNamedAt}
use Rattle.line_request.specs.Naming.{IsForgotten, Named, is_in, named_with, served_with}
use Rattle.line_request.specs.Preparing.{Prepares}
use Rattle.line_run.specs.Running.{IsDeclaredSo}
use Rattle.line_run.specs.ServedNetworks.{AnswerIsHeardOf, IsEventServed, IsTakenBack}
use Rattle.line_run.specs.Settling.{AreHandedOn, HasSettled, HasSettledAt, HasSettledIn, IsGivenOut, IsHeardBy, hearing}
use Rattle.line_run.specs.Settling.IsHeardBy.{by_all, by_one, refused}
use Rattle.line_run.specs.Settling.AreHandedOn.{none_waits, one_waits, cut_short}
use Rattle.line_request.specs.Taking.{declared_count, takes}
use Rattle.line_request.specs.declared.request.Declaration.{Declaration}
use Rattle.line_request.specs.declared.request.Declaration.TheVariants.{Net, Node, Roster}
use Rattle.line_run.specs.ByJournals.{EmissionsAreFound, EmissionsAreFoundIn, CanAllJoin, FollowsJournals, LinesFollowJournals, RunsFollowJournals, at_number}
use Rattle.line_run.specs.Unheard.{WaitsAfter, WaitThere, WaitsBehind, slot_closed_by, named_emissions, first_emitted, unheard_at}
use Rattle.line_run.proofs.NumberedRows.{at-inserted, at-removed, at-set, equal-flip, equal-self, has-inserted, is-at, keys-inserted, length-inserted, length-removed, length-set, once-inserted, once-removed, once-set}
use Rattle.line_run.proofs.OutsAtPlaces.{first-from}
use Rattle.line_run.proofs.MarkedEmissions.{closes-as, found-both, found-later, found-now, given-there, nothing-given}
use Rattle.line_run.proofs.Keeping.{HearingsKeep, LinesKeep, handed-on-keeps, heard-of-keeps, line-keeps, runs-keep}

is-none : {A : Type 0} (o : Option A) → is_some o ≡ false → o ≡ None
is-none None h = refl
is-none (Some x) h = absurd (false≢true (sym h))

equal-itself : (n : ℕ) → (n == n) ≡ true
equal-itself n = equal-self n

-- ---- journals by number

log-set : (ls : List Log) (m : Log) (j : ℕ) → is_some (log_at ls m.config.number) ≡ true → log_at (logs_set m ls) j ≡ (if m.config.number == j then Some m else log_at ls j)
log-set [] m j there = absurd (false≢true there)
log-set (k ∷ ks) m j there = go (k.config.number == m.config.number) refl there (log-set ks m j)
  where
    go : (b : Bool) → (k.config.number == m.config.number) ≡ b → is_some (if b then Some k else log_at ks m.config.number) ≡ true
        → (is_some (log_at ks m.config.number) ≡ true → log_at (logs_set m ks) j ≡ (if m.config.number == j then Some m else log_at ks j))
        → log_at (if b then m ∷ ks else k ∷ logs_set m ks) j ≡ (if m.config.number == j then Some m else (if k.config.number == j then Some k else log_at ks j))
    go true e h rest = by (m.config.number == j) (ap (λ n. n == j) (eqb-true k.config.number m.config.number e))
      where
        by : (b : Bool) → (k.config.number == j) ≡ b → (if b then Some m else log_at ks j) ≡ (if b then Some m else (if k.config.number == j then Some k else log_at ks j))
        by true f = refl
        by false f = rw f refl
    go false e h rest = by (k.config.number == j) refl (m.config.number == j) refl (rest h)
      where
        by : (b : Bool) → (k.config.number == j) ≡ b → (c : Bool) → (m.config.number == j) ≡ c → log_at (logs_set m ks) j ≡ (if c then Some m else log_at ks j)
            → (if b then Some k else log_at (logs_set m ks) j) ≡ (if c then Some m else (if b then Some k else log_at ks j))
        by true f true g r = absurd (false≢true (sym e ∙ (ap (λ n. n == m.config.number) (eqb-true k.config.number j f) ∙ (equal-flip j m.config.number ∙ g))))
        by true f false g r = refl
        by false f true g r = r
        by false f false g r = r

length-log-set : (ls : List Log) (m : Log) → length (logs_set m ls) ≡ length ls
length-log-set [] m = refl
length-log-set (k ∷ ks) m = go (k.config.number == m.config.number) (length-log-set ks m)
  where
    go : (b : Bool) → length (logs_set m ks) ≡ length ks → length (if b then m ∷ ks else k ∷ logs_set m ks) ≡ suc (length ks)
    go true h = refl
    go false h = ap suc h

log-with : (ls : List Log) (l : Log) (j : ℕ) → log_at (logs_with l ls) j ≡ (if l.config.number == j then Some l else log_at ls j)
log-with [] l j = refl
log-with (k ∷ ks) l j = go (nat_lt k.config.number l.config.number) refl (log-with ks l j)
  where
    lies-below : (a b : ℕ) → a < b → a ≡ b → ⊥
    lies-below a b h e = omega (arith, h, e)

    go : (b : Bool) → nat_lt k.config.number l.config.number ≡ b → log_at (logs_with l ks) j ≡ (if l.config.number == j then Some l else log_at ks j)
        → log_at (if b then k ∷ logs_with l ks else l ∷ k ∷ ks) j ≡ (if l.config.number == j then Some l else (if k.config.number == j then Some k else log_at ks j))
    go false e rest = refl
    go true e rest = by (k.config.number == j) refl (l.config.number == j) refl rest
      where
        by : (b : Bool) → (k.config.number == j) ≡ b → (c : Bool) → (l.config.number == j) ≡ c → log_at (logs_with l ks) j ≡ (if c then Some l else log_at ks j)
            → (if b then Some k else log_at (logs_with l ks) j) ≡ (if c then Some l else (if b then Some k else log_at ks j))
        by true f true g r = absurd (lies-below k.config.number l.config.number (ltb-true k.config.number l.config.number e) (eqb-true k.config.number j f ∙ sym (eqb-true l.config.number j g)))
        by true f false g r = refl
        by false f true g r = r
        by false f false g r = r

length-log-with : (ls : List Log) (l : Log) → length (logs_with l ls) ≡ length ls + 1
length-log-with [] l = omega arith
length-log-with (k ∷ ks) l = go (nat_lt k.config.number l.config.number) (length-log-with ks l)
  where
    go : (b : Bool) → length (logs_with l ks) ≡ length ks + 1 → length (if b then k ∷ logs_with l ks else l ∷ k ∷ ks) ≡ suc (length ks) + 1
    go true h = omega (arith, h)
    go false h = omega arith

-- ---- an event

no-ok : {A B : Type 0} (x : A) (y : B) → ◌≡◌ {A = Result A B} (Ok x) (Err y) → ⊥
no-ok x y h = cc

-- an event of the network of a number leaves a slot open: it is of another network, or it does not close the slot
abbrev IsLeftOpen : ℕ → Event → ℕ → ℕ → Type 0
IsLeftOpen g e j i = ((g == j) ≡ false) ⊎ ((c : ℕ) → slot_closed_by e ≡ Some c → (c == i) ≡ false)

-- the journals after an event that was applied
now-at : (logs now : List Log) (g j : ℕ) (l : Log) (e : Step) (os : List Out) → log_at logs g ≡ Some l → now ≡ logs_set (with_entry l e os) logs → log_at now j ≡ (if g == j then Some (with_entry l e os) else log_at logs j)
now-at logs now g j l e os at is =
    let new : Log = with_entry l e os in
    let named : new.config.number ≡ g = has-number logs g l at in
    let there : is_some (log_at logs new.config.number) ≡ true = ap (λ n. is_some (log_at logs n)) named ∙ ap (λ (o : Option Log). is_some o) at in
    ap (λ (xs : List Log). log_at xs j) is ∙ (log-set logs new j there ∙ ap (λ n. if n == j then Some new else log_at logs j) named)

-- what is found at a slot that is left open is found after the event
answer-finds : (logs now : List Log) (g : ℕ) (e : Event) (r : Result (List Out) Refusal) (o : Option Log) → log_at logs g ≡ o → IsAnsweredAt o logs (step_of e) r now → (j i : ℕ) (es : List Emission) → IsLeftOpen g e j i
    → EmissionsAreFoundIn (log_at logs j) i es → EmissionsAreFoundIn (log_at now j) i es
answer-finds logs now g e (Ok os) None at h j i es left found = absurd (no-ok _ _ h.0)
answer-finds logs now g e (Err r) None at h j i es left found = subst (λ (ls : List Log). EmissionsAreFoundIn (log_at ls j) i es) (sym h.1) found
answer-finds logs now g e (Err r) (Some l) at h j i es left found = subst (λ (ls : List Log). EmissionsAreFoundIn (log_at ls j) i es) (sym h.1) found
answer-finds logs now g e (Ok os) (Some l) at h j i es left found =
    subst (λ (o : Option Log). EmissionsAreFoundIn o i es) (sym (now-at logs now g j l (step_of e) os at h.1)) (go (g == j) refl left)
  where
    go : (b : Bool) → (g == j) ≡ b → IsLeftOpen g e j i → EmissionsAreFoundIn (if b then Some (with_entry l (step_of e) os) else log_at logs j) i es
    go false is w = found
    go true is (inl other) = absurd (false≢true (sym other ∙ is))
    go true is (inr w) =
        found-later l (step_of e) os i es h.0 (closes-as e i w) (subst (λ (o : Option Log). EmissionsAreFoundIn o i es) (ap (log_at logs) (sym (eqb-true g j is)) ∙ at) found)

pub answered-finds : (g : ℕ) (e : Event) (r : Result Given Refusal) (logs now : List Log) → IsAnswered logs g e r now → (j i : ℕ) (es : List Emission) → IsLeftOpen g e j i → EmissionsAreFoundIn (log_at logs j) i es → EmissionsAreFoundIn (log_at now j) i es
answered-finds g e r logs now h = answer-finds logs now g e (items_of r) (log_at logs g) refl h

-- what an event emitted is found after it, at the slot of the event
given-finds : (g : ℕ) (e : Event) (logs now : List Log) (r : Given) (i u : ℕ) → slot_and_node_of (step_of e) ≡ Some (i, u) → IsGivenOut g e logs r now → EmissionsAreFoundIn (log_at now g) i (named_emissions r)
given-finds g e logs now r i u place h = go (log_at logs g) refl h.0 h.1
  where
    go : (o : Option Log) → log_at logs g ≡ o → IsAnsweredAt o logs (step_of e) (Ok r.outs.items) now → r.marks.items ≡ marks_in_log o (step_of e) → EmissionsAreFoundIn (log_at now g) i (named_emissions r)
    go None at k marks = absurd (no-ok _ _ k.0)
    go (Some l) at k marks =
        subst (λ (o : Option Log). EmissionsAreFoundIn o i (named_emissions r)) (sym (now-at logs now g g l (step_of e) r.outs.items at k.1 ∙ itself (g == g) (equal-itself g)))
        (subst (λ (ks : List ℕ). EmissionsAreFound (state_of l.config (with_entry l (step_of e) r.outs.items).entries) i (named (emissions r.outs.items) ks)) (sym marks) (found-now l (step_of e) r.outs.items i u k.0 place))
      where
        itself : (b : Bool) → b ≡ true → (if b then Some (with_entry l (step_of e) r.outs.items) else log_at logs g) ≡ Some (with_entry l (step_of e) r.outs.items)
        itself true is = refl
        itself false is = absurd (false≢true is)

-- what is emitted first is of the slot of the event
first-place : (g : ℕ) (e : Event) (logs now : List Log) (r : Given) (x : Sent) → IsGivenOut g e logs r now → first_emitted r.outs.items ≡ Some x → (u : ℕ) × (slot_and_node_of (step_of e) ≡ Some (x.slot, u))
first-place g e logs now r x h first = go (log_at logs g) h.0
  where
    nothing-first : (os : List Out) → os ≡ [] → first_emitted os ≡ Some x → ⊥
    nothing-first os none is = let gone : None ≡ Some x = sym (ap first_emitted none) ∙ is in cc

    by : (l : Log) (o : Option (ℕ × ℕ)) → slot_and_node_of (step_of e) ≡ o → IsAnsweredAt (Some l) logs (step_of e) (Ok r.outs.items) now → (u : ℕ) × (slot_and_node_of (step_of e) ≡ Some (x.slot, u))
    by l None place k = absurd (nothing-first r.outs.items (nothing-given l (step_of e) r.outs.items k.0 place) first)
    by l (Some at) place k =
        let own = first-from at.0 at.1 r.outs.items x (given-there l (step_of e) r.outs.items at.0 at.1 k.0 place) first in
        (at.1, place ∙ ap (λ n. Some (n, at.1)) (sym own.1))

    go : (o : Option Log) → IsAnsweredAt o logs (step_of e) (Ok r.outs.items) now → (u : ℕ) × (slot_and_node_of (step_of e) ≡ Some (x.slot, u))
    go None k = absurd (no-ok _ _ k.0)
    go (Some l) k = by l (slot_and_node_of (step_of e)) refl k

-- ---- hearings

-- a hearing leaves all slots open
hearing-finds : (j i : ℕ) (es : List Emission) (g slot : ℕ) → HearingsKeep (λ logs. EmissionsAreFoundIn (log_at logs j) i es) g slot
hearing-finds j i es g slot u e r old new p h = answered-finds g (hearing slot u e) r old new h j i es (inr (λ c is. absurd (none-closed c is))) p
  where
    none-closed : (c : ℕ) → None ≡ Some c → ⊥
    none-closed c h = cc

join-found : (o : Option Log) (i : ℕ) (es ds : List Emission) → EmissionsAreFoundIn o i es → EmissionsAreFoundIn o i ds → EmissionsAreFoundIn o i (es ++ ds)
join-found None i es ds h k = ap (λ (xs : List Emission). xs ++ ds) h ∙ k
join-found (Some l) i es ds h k = found-both (state_of l.config l.entries) i es ds h k

none-found : (o : Option Log) (i : ℕ) → EmissionsAreFoundIn o i []
none-found None i = refl
none-found (Some l) i = tt

tail-found : (o : Option Log) (i : ℕ) (e : Emission) (es : List Emission) → EmissionsAreFoundIn o i (e ∷ es) → EmissionsAreFoundIn o i es
tail-found None i e es h = absurd (cc)
tail-found (Some l) i e es h = h.1

heard-finds : (g slot : ℕ) (e : Emission) (us : List ℕ) (old new : List Log) (more : List Emission) (ended : Option Refusal) (es : List Emission) → IsHeardBy g slot e us old more ended new
    → EmissionsAreFoundIn (log_at old g) slot es → EmissionsAreFoundIn (log_at new g) slot (es ++ more)
heard-finds g slot e us old new more ended es by_all found = join-found (log_at old g) slot es [] found (none-found (log_at old g) slot)
heard-finds g slot e us old new more ended es (by_one {u = u} {now = now} {more = rest} r given later) found =
    subst (λ (xs : List Emission). EmissionsAreFoundIn (log_at new g) slot xs) (append_assoc es (named_emissions r) rest)
    (heard-finds g slot e _ now new rest ended (es ++ named_emissions r) later
    (join-found (log_at now g) slot es (named_emissions r) (hearing-finds g slot es g slot u e (Ok r) old now found given.0) (given-finds g (hearing slot u e) old now r slot u refl given)))
heard-finds g slot e us old new more ended es (refused {u = u} r answer) found =
    join-found (log_at new g) slot es [] (hearing-finds g slot es g slot u e (Err r) old new found answer) (none-found (log_at new g) slot)

left-found : (g slot : ℕ) (names : List ℕ) (old new : List Log) (es left : List Emission) (ended : Option Refusal) → AreHandedOn g slot names old es ended left new → EmissionsAreFoundIn (log_at old g) slot es → EmissionsAreFoundIn (log_at new g) slot left
left-found g slot names old new es left ended none_waits found = found
left-found g slot names old new es left ended (one_waits {now = now} {e = e} {es = rest} {more = more} h later) found =
    left-found g slot names now new (rest ++ more) left ended later (heard-finds g slot e _ old now more None rest h (tail-found (log_at old g) slot e rest found))
left-found g slot names old new es left ended (cut_short {e = e} {es = rest} {more = more} r h) found = heard-finds g slot e _ old new more (Some r) (e ∷ rest) h found

-- ---- an event and who hears of it

-- no network comes or goes while nodes hear
-- no network comes or goes
pub record SameNumbers (logs now : List Log) : Type 0 where
  pub there : (j : ℕ) → is_some (log_at now j) ≡ is_some (log_at logs j)
  pub count : length now ≡ length logs

same-numbers : (logs now : List Log) → now ≡ logs → SameNumbers logs now
same-numbers logs now e = record { there = λ j. ap (λ (xs : List Log). is_some (log_at xs j)) e; count = ap (λ (xs : List Log). length xs) e }

answer-numbers : (logs now : List Log) (g : ℕ) (e : Step) (r : Result (List Out) Refusal) (o : Option Log) → log_at logs g ≡ o → IsAnsweredAt o logs e r now → SameNumbers logs now
answer-numbers logs now g e (Ok os) None at h = absurd (no-ok _ _ h.0)
answer-numbers logs now g e (Err r) None at h = same-numbers logs now h.1
answer-numbers logs now g e (Err r) (Some l) at h = same-numbers logs now h.1
answer-numbers logs now g e (Ok os) (Some l) at h =
    let new : Log = with_entry l e os in
    let named : new.config.number ≡ g = has-number logs g l at in
    let there : is_some (log_at logs new.config.number) ≡ true = ap (λ n. is_some (log_at logs n)) named ∙ ap (λ (o : Option Log). is_some o) at in
    record {
      there = λ j. ap (λ (xs : List Log). is_some (log_at xs j)) h.1 ∙ (ap (λ (o : Option Log). is_some o) (log-set logs new j there) ∙ some-as new j (new.config.number == j) refl there);
      count = ap (λ (xs : List Log). length xs) h.1 ∙ length-log-set logs new;
    }
  where
    some-as : (m : Log) (j : ℕ) (b : Bool) → (m.config.number == j) ≡ b → is_some (log_at logs m.config.number) ≡ true → is_some (if b then Some m else log_at logs j) ≡ is_some (log_at logs j)
    some-as m j true e k = sym (ap (λ n. is_some (log_at logs n)) (sym (eqb-true m.config.number j e)) ∙ k)
    some-as m j false e k = refl

room-as : (ws us : Waiting) (n k : Named) (logs now : List Log) → us ≡ ws → k ≡ n → SameNumbers logs now → CanAllJoin ws n logs → CanAllJoin us k now
room-as ws us n k logs now w e same h =
    let count = same.count in
    let counted = h.counted in
    let short : length now ≤ length n.running = omega (arith, count, counted) in
    subst (λ (x : Waiting × Named). CanAllJoin x.0 x.1 now) (λ i. (sym w i, sym e i))
    (record { joined = λ g. same.there g ∙ h.joined g; counted = short; apart = h.apart; once = h.once; few = h.few })

another : (us : List ℕ) (g j : ℕ) → is_in us g ≡ false → is_in us j ≡ true → (g == j) ≡ false
another us g j absent there = go (g == j) refl
  where
    go : (b : Bool) → (g == j) ≡ b → b ≡ false
    go true is = absurd (false≢true (sym absent ∙ (ap (is_in us) (eqb-true g j is) ∙ there)))
    go false is = refl

pub answered-numbers : (g : ℕ) (e : Event) (r : Result Given Refusal) (logs now : List Log) → IsAnswered logs g e r now → SameNumbers logs now
answered-numbers g e r logs now h = answer-numbers logs now g (step_of e) (items_of r) (log_at logs g) refl h

hearing-numbers : (logs : List Log) (g slot : ℕ) → HearingsKeep (λ now. SameNumbers logs now) g slot
hearing-numbers logs g slot u e r old new p h =
    let more = answered-numbers g (hearing slot u e) r old new h in
    record { there = λ j. more.there j ∙ p.there j; count = more.count ∙ p.count }

-- what waits at a slot is found, where these emissions wait there now
waits-found : (logs : List Log) (g i : ℕ) (es : List Emission) (old new : _) → WaitThere g i es old new → EmissionsAreFoundIn (log_at logs g) i es → ((j k : ℕ) → ((g == j) && (i == k)) ≡ false → EmissionsAreFoundIn (log_at logs j) k (unheard_at old j k))
    → (j k : ℕ) → EmissionsAreFoundIn (log_at logs j) k (unheard_at new j k)
waits-found logs g i es old new wait here others j k = subst (λ (xs : List Emission). EmissionsAreFoundIn (log_at logs j) k xs) (sym (wait j k)) (go (g == j) refl (i == k) refl)
  where
    go : (a : Bool) → (g == j) ≡ a → (b : Bool) → (i == k) ≡ b → EmissionsAreFoundIn (log_at logs j) k (if a && b then es else unheard_at old j k)
    go true e true f = subst (λ (x : ℕ × ℕ). EmissionsAreFoundIn (log_at logs x.0) x.1 es) (λ z. (eqb-true g j e z, eqb-true i k f z)) here
    go true e false f = others j k (ap (λ b. b && (i == k)) e ∙ f)
    go false e b f = others j k (ap (λ c. c && (i == k)) e)

module _ (g : ℕ) (e : Event) (r : Result Given Refusal) (old new : Hosting) (s : FollowsJournals old) (h : IsEventServed g e r old new) where
  -- what waits at a slot that the event leaves open
  still : (j k : ℕ) → IsLeftOpen g e j k → EmissionsAreFoundIn (log_at h.0 j) k (unheard_at old.unheard j k)
  still j k left = answered-finds g e r old.logs h.0 h.1 j k (unheard_at old.unheard j k) left (s.found j k)

  -- what waits where the network is served, or where the event is of another one
  else_where : (j k : ℕ) → is_in old.named.served g ≡ true → EmissionsAreFoundIn (log_at h.0 j) k (unheard_at old.unheard j k)
  else_where j k plain = go (g == j) refl
    where
      go : (b : Bool) → (g == j) ≡ b → EmissionsAreFoundIn (log_at h.0 j) k (unheard_at old.unheard j k)
      go false is = still j k (inl is)
      go true is =
          subst (λ (xs : List Emission). EmissionsAreFoundIn (log_at h.0 j) k xs) (sym (s.served j k (ap (is_in old.named.served) (sym (eqb-true g j is)) ∙ plain))) (none-found (log_at h.0 j) k)

  refused-closes : (x : Refusal) → r ≡ Err x → (j k : ℕ) → EmissionsAreFoundIn (log_at h.0 j) k (unheard_at old.unheard j k)
  refused-closes x is j k = subst (λ (ls : List Log). EmissionsAreFoundIn (log_at ls j) k (unheard_at old.unheard j k)) (sym (go (log_at old.logs g) (subst (λ (a : Result Given Refusal). IsAnswered old.logs g e a h.0) is h.1))) (s.found j k)
    where
      go : (l : Option Log) → IsAnsweredAt l old.logs (step_of e) (Err x) h.0 → h.0 ≡ old.logs
      go None k = k.1
      go (Some l) k = k.1

  noted-found : (x : Given) → IsGivenOut g e old.logs x h.0 → (c : Option ℕ) → slot_closed_by e ≡ c → WaitsAfter c g x old.unheard new.unheard → (j k : ℕ) → EmissionsAreFoundIn (log_at h.0 j) k (unheard_at new.unheard j k)
  noted-found x given (Some i) closed noted =
      waits-found h.0 g i [] old.unheard new.unheard noted (none-found (log_at h.0 g) i) (λ j k other. still j k (left j k (g == j) refl other))
    where
      left : (j k : ℕ) (b : Bool) → (g == j) ≡ b → ((g == j) && (i == k)) ≡ false → IsLeftOpen g e j k
      left j k false is other = inl is
      left j k true is other = inr (λ c same. ap (λ n. n == k) (one c (sym closed ∙ same)) ∙ (sym (ap (λ b. b && (i == k)) is) ∙ other))
        where
          one : (c : ℕ) → Some i ≡ Some c → c ≡ i
          one c h = cc
  noted-found x given None closed noted = behind (first_emitted x.outs.items) refl noted
    where
      open-still : (j k : ℕ) → EmissionsAreFoundIn (log_at h.0 j) k (unheard_at old.unheard j k)
      open-still j k = still j k (inr (λ c same. absurd (none-closed c (sym closed ∙ same))))
        where
          none-closed : (c : ℕ) → None ≡ Some c → ⊥
          none-closed c h = cc

      behind : (o : Option Sent) → first_emitted x.outs.items ≡ o → WaitsBehind o g x old.unheard new.unheard → (j k : ℕ) → EmissionsAreFoundIn (log_at h.0 j) k (unheard_at new.unheard j k)
      behind None first w j k = subst (λ u. EmissionsAreFoundIn (log_at h.0 j) k (unheard_at u j k)) (sym w) (open-still j k)
      behind (Some y) first w j k =
          let place = first-place g e old.logs h.0 x y given first in
          waits-found h.0 g y.slot (unheard_at old.unheard g y.slot ++ named_emissions x) old.unheard new.unheard w
          (join-found (log_at h.0 g) y.slot (unheard_at old.unheard g y.slot) (named_emissions x) (open-still g y.slot) (given-finds g e old.logs h.0 x y.slot place.0 place.1 given))
          (λ m n other. open-still m n) j k

  -- where all has been heard of
  all-found : (b : Bool) → is_in old.named.served g ≡ b → (a : Result Given Refusal) → r ≡ a → AnswerIsHeardOf b g e a h.0 old new → (j k : ℕ) → EmissionsAreFoundIn (log_at new.logs j) k (unheard_at new.unheard j k)
  all-found b plain (Err x) is heard j k =
      subst (λ (p : List Log × List Emission). EmissionsAreFoundIn (log_at p.0 j) k p.1) (λ i. (sym heard.0 i, unheard_at (sym heard.1 i) j k)) (refused-closes x is j k)
  all-found true plain (Ok x) is heard j k =
      subst (λ u. EmissionsAreFoundIn (log_at new.logs j) k (unheard_at u j k)) (sym heard.1.1)
      (heard-of-keeps (λ logs. EmissionsAreFoundIn (log_at logs j) k (unheard_at old.unheard j k)) g (λ slot. hearing-finds j k (unheard_at old.unheard j k) g slot) (first_emitted x.outs.items) x h.0 new.logs (else_where j k plain) heard.1.0)
  all-found false plain (Ok x) is heard j k =
      subst (λ (ls : List Log). EmissionsAreFoundIn (log_at ls j) k (unheard_at new.unheard j k)) (sym heard.1.0)
      (noted-found x (subst (λ (a : Result Given Refusal). IsAnswered old.logs g e a h.0) is h.1, heard.0) (slot_closed_by e) refl heard.1.1 j k)

  same-after : (b : Bool) (a : Result Given Refusal) → AnswerIsHeardOf b g e a h.0 old new → SameNumbers old.logs new.logs
  same-after b (Err x) heard = subst (λ (ls : List Log). SameNumbers old.logs ls) (sym heard.0) (answered-numbers g e r old.logs h.0 h.1)
  same-after true (Ok x) heard =
      heard-of-keeps (λ logs. SameNumbers old.logs logs) g (λ slot. hearing-numbers old.logs g slot) (first_emitted x.outs.items) x h.0 new.logs (answered-numbers g e r old.logs h.0 h.1) heard.1.0
  same-after false (Ok x) heard = subst (λ (ls : List Log). SameNumbers old.logs ls) (sym heard.1.0) (answered-numbers g e r old.logs h.0 h.1)

  -- in other networks that are served nothing waits
  noted-elsewhere : (x : Given) (c : Option ℕ) → WaitsAfter c g x old.unheard new.unheard → (j k : ℕ) → (g == j) ≡ false → unheard_at new.unheard j k ≡ unheard_at old.unheard j k
  noted-elsewhere x (Some i) noted j k other = noted j k ∙ ap (λ b. if b && (i == k) then [] else unheard_at old.unheard j k) other
  noted-elsewhere x None noted j k other = behind (first_emitted x.outs.items) noted
    where
      behind : (o : Option Sent) → WaitsBehind o g x old.unheard new.unheard → unheard_at new.unheard j k ≡ unheard_at old.unheard j k
      behind None w = ap (λ u. unheard_at u j k) w
      behind (Some y) w = w j k ∙ ap (λ b. if b && (y.slot == k) then unheard_at old.unheard g y.slot ++ named_emissions x else unheard_at old.unheard j k) other

  nothing-served : (b : Bool) → is_in old.named.served g ≡ b → (a : Result Given Refusal) → AnswerIsHeardOf b g e a h.0 old new → (j k : ℕ) → is_in old.named.served j ≡ true → unheard_at new.unheard j k ≡ []
  nothing-served b plain (Err x) heard j k is = ap (λ u. unheard_at u j k) heard.1 ∙ s.served j k is
  nothing-served true plain (Ok x) heard j k is = ap (λ u. unheard_at u j k) heard.1.1 ∙ s.served j k is
  nothing-served false plain (Ok x) heard j k is = noted-elsewhere x (slot_closed_by e) heard.1.1 j k (another old.named.served g j plain is) ∙ s.served j k is

  served-follows : FollowsJournals new
  served-follows = record {
    room = room-as old.waiting new.waiting old.named new.named old.logs new.logs h.3.0 h.3.1 (same-after (is_in old.named.served g) r h.2) s.room;
    found = all-found (is_in old.named.served g) refl r refl h.2;
    served = λ j k is. nothing-served (is_in old.named.served g) refl r h.2 j k (ap (λ (n : Named). is_in n.served j) (sym h.3.1) ∙ is);
  }

-- ---- a line that settles

settled-follows : (g slot : ℕ) (ended : Option Refusal) (old new : Hosting) → is_in old.named.served g ≡ false → FollowsJournals old → HasSettled g slot old ended new → FollowsJournals new
settled-follows g slot ended old new plain s h = go (log_at old.logs g) h
  where
    all : (names : List ℕ) → HasSettledAt true g slot names old ended new → FollowsJournals new
    all names (left, handed, wait, declares) = record {
      room = room-as old.waiting new.waiting old.named new.named old.logs new.logs declares.0 declares.1
          (handed-on-keeps (λ logs. SameNumbers old.logs logs) g slot (hearing-numbers old.logs g slot) names old.logs new.logs (unheard_at old.unheard g slot) left ended (same-numbers old.logs old.logs refl) handed) s.room;
      found = waits-found new.logs g slot left old.unheard new.unheard wait (left-found g slot names old.logs new.logs (unheard_at old.unheard g slot) left ended handed (s.found g slot))
          (λ j k other. handed-on-keeps (λ logs. EmissionsAreFoundIn (log_at logs j) k (unheard_at old.unheard j k)) g slot (hearing-finds j k (unheard_at old.unheard j k) g slot) names old.logs new.logs (unheard_at old.unheard g slot) left ended (s.found j k) handed);
      served = λ j k is.
          let before = ap (λ (n : Named). is_in n.served j) (sym declares.1) ∙ is in
          wait j k ∙ (ap (λ b. if b && (slot == k) then left else unheard_at old.unheard j k) (another old.named.served g j plain before) ∙ s.served j k before);
    }

    by : (b : Bool) (names : List ℕ) → HasSettledAt b g slot names old ended new → FollowsJournals new
    by false names k = subst FollowsJournals (sym k.0) s
    by true names k = all names k

    go : (o : Option Log) → HasSettledIn o g slot old ended new → FollowsJournals new
    go None k = subst FollowsJournals (sym k.0) s
    go (Some l) k = by (is_open (state_of l.config l.entries) slot) (names_of l.config.nodes) k

-- ---- a network that joins

some-less : (a b c d : ℕ) → a + 1 ≡ b → b + c ≤ 4096 → d ≤ c → d < 4096
some-less a b c d e f h = omega (arith, e, f, h)

module _ (ws : Waiting) (n : Named) (logs : List Log) (g : ℕ) (d : Outlined) (c : Config) (room : CanAllJoin ws n logs) (at : waiting_at ws g ≡ Some d) (is : IsConfigOf g d c) where
  waits-there : is_some (waiting_at ws g) ≡ true
  waits-there = ap (λ (o : Option Outlined). is_some o) at

  not-running : is_in n.running g ≡ false
  not-running = room.apart g waits-there

  not-joined : is_some (log_at logs g) ≡ false
  not-joined = room.joined g ∙ not-running

  few-joined : length logs < 4096
  few-joined =
      let less = length-removed g ws waits-there in
      let all = room.few in
      let joined = room.counted in
      some-less _ (length ws) (length n.running) (length logs) less all joined

  joins-there : logs_joined c logs ≡ logs_with (record { config = c; entries = [] }) logs
  joins-there =
      ap (λ b. if b then logs_with (record { config = c; entries = [] }) logs else logs)
      (ap₂ (λ a b. not a && b) (ap (λ k. is_some (log_at logs k)) is.number ∙ not-joined) (lt-ltb (length logs) 4096 few-joined))

  joined-found : (j i : ℕ) (es : List Emission) → EmissionsAreFoundIn (log_at logs j) i es → EmissionsAreFoundIn (log_at (logs_joined c logs) j) i es
  joined-found j i es h =
      subst (λ (xs : List Log). EmissionsAreFoundIn (log_at xs j) i es) (sym joins-there)
      (subst (λ (o : Option Log). EmissionsAreFoundIn o i es) (sym (log-with logs (record { config = c; entries = [] }) j)) (go (c.number == j) refl))
    where
      nothing : es ≡ [] → EmissionsAreFoundIn (Some (record { config = c; entries = [] })) i es
      nothing none = subst (λ (xs : List Emission). EmissionsAreFoundIn (Some (record { config = c; entries = [] })) i xs) (sym none) tt

      absent : (c.number == j) ≡ true → log_at logs j ≡ None
      absent e = is-none (log_at logs j) (ap (λ n. is_some (log_at logs n)) (sym (eqb-true c.number j e) ∙ is.number) ∙ not-joined)

      go : (b : Bool) → (c.number == j) ≡ b → EmissionsAreFoundIn (if b then Some (record { config = c; entries = [] }) else log_at logs j) i es
      go true e = nothing (subst (λ (o : Option Log). EmissionsAreFoundIn o i es) (absent e) h)
      go false e = h

  joined-room : CanAllJoin (waiting_without ws g) (named_with g (Some d) n) (logs_joined c logs)
  joined-room = record {
    joined = λ j. ap (λ (o : Option Log). is_some o) (ap (λ (xs : List Log). log_at xs j) joins-there ∙ log-with logs (record { config = c; entries = [] }) j) ∙ (joined j (c.number == j) refl ∙ sym (has-inserted g j n.running));
    counted = let a = length-log-with logs (record { config = c; entries = [] }) in let b = ap (λ (xs : List Log). length xs) joins-there in let e = keys-inserted g n.running not-running in let k = room.counted in omega (arith, a, b, e, k);
    apart = λ j h. has-inserted g j n.running ∙ apart j (g == j) refl (sym (ap (λ (o : Option Outlined). is_some o) (at-removed g j ws room.once)) ∙ h);
    once = once-removed g ws room.once;
    few = let a = length-removed g ws waits-there in let e = keys-inserted g n.running not-running in let k = room.few in omega (arith, a, e, k);
  }
    where
      joined : (j : ℕ) (b : Bool) → (c.number == j) ≡ b → is_some (if c.number == j then Some (record { config = c; entries = [] }) else log_at logs j) ≡ ((g == j) || is_in n.running j)
      joined j true e =
          ap (λ b. is_some (if b then Some (record { config = c; entries = [] }) else log_at logs j)) e
          ∙ sym (ap (λ b. b || is_in n.running j) (ap (λ k. k == j) (sym is.number) ∙ e))
      joined j false e =
          ap (λ b. is_some (if b then Some (record { config = c; entries = [] }) else log_at logs j)) e
          ∙ (room.joined j ∙ sym (ap (λ b. b || is_in n.running j) (ap (λ k. k == j) (sym is.number) ∙ e)))

      apart : (j : ℕ) (b : Bool) → (g == j) ≡ b → is_some (if g == j then None else at_number ws j) ≡ true → ((g == j) || is_in n.running j) ≡ false
      apart j true e h = absurd (none-some (sym (ap (λ b. is_some (if b then None else at_number ws j)) e) ∙ h))
        where
          none-some : false ≡ true → ⊥
          none-some k = false≢true k
      apart j false e h = rw e (room.apart j (sym (ap (λ b. is_some (if b then None else at_number ws j)) e) ∙ h))

pub begun-follows : (g : ℕ) (old new : Hosting) → FollowsJournals old → IsNetworkBegun g old new → FollowsJournals new
begun-follows g old new s h = go (waiting_at old.waiting g) refl h.0 h.2
  where
    served-same : (o : Option Outlined) → new.named ≡ named_with g o old.named → (j : ℕ) → is_in new.named.served j ≡ is_in old.named.served j
    served-same None named j = ap (λ (n : Named). is_in n.served j) named
    served-same (Some d) named j = ap (λ (n : Named). is_in n.served j) named

    nothing : (o : Option Outlined) → new.named ≡ named_with g o old.named → (j i : ℕ) → is_in new.named.served j ≡ true → unheard_at new.unheard j i ≡ []
    nothing o named j i is = ap (λ u. unheard_at u j i) h.1 ∙ s.served j i (sym (served-same o named j) ∙ is)

    go : (o : Option Outlined) → waiting_at old.waiting g ≡ o → NetworkIsNamedAt logs_joined g o old.waiting new.waiting old.logs new.logs → new.named ≡ named_with g o old.named → FollowsJournals new
    go None at k named = record {
      room = subst (λ (x : Waiting × Named × List Log). CanAllJoin x.0 x.1 x.2) (λ i. (sym k.0 i, sym named i, sym k.1 i)) (record { joined = s.room.joined; counted = s.room.counted; apart = s.room.apart; once = s.room.once; few = s.room.few });
      found = λ j i. subst (λ (x : List Log × List Emission). EmissionsAreFoundIn (log_at x.0 j) i x.1) (λ z. (sym k.1 z, unheard_at (sym h.1 z) j i)) (s.found j i);
      served = nothing None named;
    }
    go (Some d) at k named = record {
      room = subst (λ (x : Waiting × Named × List Log). CanAllJoin x.0 x.1 x.2) (λ i. (sym k.0 i, sym named i, sym k.1.2 i)) (joined-room old.waiting old.named old.logs g d k.1.0 s.room at k.1.1);
      found = λ j i.
          subst (λ (x : List Log × List Emission). EmissionsAreFoundIn (log_at x.0 j) i x.1) (λ z. (sym k.1.2 z, unheard_at (sym h.1 z) j i))
          (joined-found old.waiting old.named old.logs g d k.1.0 s.room at k.1.1 j i (unheard_at old.unheard j i) (s.found j i));
      served = nothing (Some d) named;
    }

-- ---- a declaration

revised-room : (g : ℕ) (change : Outlined → Outlined) (ws us : Waiting) (n : Named) (logs : List Log) → IsRevised g change ws us → CanAllJoin ws n logs → CanAllJoin us n logs
revised-room g change ws us n logs h room =
    subst (λ (x : Waiting). CanAllJoin x n logs) (sym h.2)
    (record {
      joined = room.joined;
      counted = room.counted;
      apart = λ j k. room.apart j (was j (g == j) refl (sym (ap (λ (o : Option Outlined). is_some o) (at-set g (change h.0) j ws there)) ∙ k));
      once = once-set g (change h.0) ws there room.once;
      few = let a = length-set g (change h.0) ws in let k = room.few in omega (arith, a, k);
    })
  where
    there : is_some (waiting_at ws g) ≡ true
    there = ap (λ (o : Option Outlined). is_some o) h.1

    was : (j : ℕ) (b : Bool) → (g == j) ≡ b → is_some (if g == j then Some (change h.0) else at_number ws j) ≡ true → is_some (waiting_at ws j) ≡ true
    was j true e k = ap (λ m. is_some (waiting_at ws m)) (sym (eqb-true g j e)) ∙ there
    was j false e k = sym (ap (λ b. is_some (if b then Some (change h.0) else at_number ws j)) e) ∙ k

declared-room : (g : ℕ) (d : Declaration) (ws us : Waiting) (n : Named) (logs : List Log) → takes ws n g d ≡ true → Prepares g d ws us → CanAllJoin ws n logs → CanAllJoin us n logs
declared-room g (Node u q) ws us n logs t p room = revised-room g _ ws us n logs p room
declared-room g (Roster r) ws us n logs t p room = revised-room g _ ws us n logs p room
declared-room g (Net b) ws us n logs t p room =
    subst (λ (x : Waiting). CanAllJoin x n logs) (sym p.1)
    (record {
      joined = room.joined;
      counted = room.counted;
      apart = λ j k. apart j (g == j) refl (sym (ap (λ (o : Option Outlined). is_some o) (at-inserted g (bare_outline b) j ws)) ∙ k);
      once = once-inserted g (bare_outline b) ws p.0 room.once;
      few = let a = length-inserted g (bare_outline b) ws in let k = ltb-true (declared_count ws n) 4096 taken.1 in omega (arith, a, k);
    })
  where
    taken : (not (is_some (waiting_at ws g) || is_in n.running g) ≡ true) × (nat_lt (declared_count ws n) 4096 ≡ true)
    taken = and_parts (not (is_some (waiting_at ws g) || is_in n.running g)) (nat_lt (declared_count ws n) 4096) t

    new : is_in n.running g ≡ false
    new = (or_parts (is_some (waiting_at ws g)) (is_in n.running g) (not-true (is_some (waiting_at ws g) || is_in n.running g) taken.0)).1

    apart : (j : ℕ) (c : Bool) → (g == j) ≡ c → is_some (if g == j then Some (bare_outline b) else at_number ws j) ≡ true → is_in n.running j ≡ false
    apart j true e k = ap (is_in n.running) (sym (eqb-true g j e)) ∙ new
    apart j false e k = room.apart j (sym (ap (λ c. is_some (if c then Some (bare_outline b) else at_number ws j)) e) ∙ k)

-- ---- a network that is taken back

length-without : (g : ℕ) (ls : List Log) → length (logs_without g ls) + (if is_some (log_at ls g) then 1 else 0) ≤ length ls
length-without g [] = omega arith
length-without g (l ∷ ls) = go (l.config.number == g) (log_at ls g) (length-without g ls)
  where
    go : (b : Bool) (o : Option Log) → length (logs_without g ls) + (if is_some o then 1 else 0) ≤ length ls
        → length (if not b then l ∷ logs_without g ls else logs_without g ls) + (if is_some (if b then Some l else o) then 1 else 0) ≤ suc (length ls)
    go true None h = omega (arith, h)
    go true (Some k) h = omega (arith, h)
    go false None h = omega (arith, h)
    go false (Some k) h = omega (arith, h)

entries-without : {X : Type 0} (g : ℕ) (es : List (ℕ × X)) → length (remove_entry (is_at (nat_cmp g)) es) ≤ length es
entries-without g [] = omega arith
entries-without g (e ∷ es) = go (is_at (nat_cmp g) e.0) (entries-without g es)
  where
    go : (b : Bool) → length (remove_entry (is_at (nat_cmp g)) es) ≤ length es → length (cond b es (e ∷ remove_entry (is_at (nat_cmp g)) es)) ≤ suc (length es)
    go true h = omega arith
    go false h = omega (arith, h)

module _ (g : ℕ) (old : Hosting) (n : Named) (s : FollowsJournals old) (named : IsForgotten g old.named n) (served : is_in old.named.served g ≡ true) where
  joined-without : (j : ℕ) → is_some (log_at (logs_without g old.logs) j) ≡ is_in n.running j
  joined-without j = ap (λ (o : Option Log). is_some o) (at-left g old.logs j) ∙ go (g == j) refl
    where
      go : (b : Bool) → (g == j) ≡ b → is_some (if b then None else log_at old.logs j) ≡ is_in n.running j
      go true e = sym (ap (is_in n.running) (sym (eqb-true g j e)) ∙ named.running.gone)
      go false e = s.room.joined j ∙ sym (named.running.others j (is-at g j ∙ e))

  apart-without : (j : ℕ) → is_some (waiting_at (waiting_without old.waiting g) j) ≡ true → is_in n.running j ≡ false
  apart-without j h = go (g == j) refl (sym (ap (λ (o : Option Outlined). is_some o) (at-removed g j old.waiting s.room.once)) ∙ h)
    where
      go : (b : Bool) → (g == j) ≡ b → is_some (if b then None else at_number old.waiting j) ≡ true → is_in n.running j ≡ false
      go true e k = absurd (false≢true k)
      go false e k = named.running.others j (is-at g j ∙ e) ∙ s.room.apart j k

  few-without : (a b c d x y : ℕ) → a + x ≤ b → b ≤ c → d + y ≡ c → x ≡ y → a ≤ d
  few-without a b c d x y h k l e = omega (arith, h, k, l, e)

  room-without : CanAllJoin (waiting_without old.waiting g) n (logs_without g old.logs)
  room-without = record {
    joined = joined-without;
    counted = few-without (length (logs_without g old.logs)) (length old.logs) (length old.named.running) (length n.running) _ _ (length-without g old.logs) s.room.counted named.running.count
        (ap (λ b. if b then 1 else 0) (s.room.joined g));
    apart = apart-without;
    once = once-removed g old.waiting s.room.once;
    few = fewer (length (waiting_without old.waiting g)) (length old.waiting) (length n.running) (length old.named.running) _ (entries-without g old.waiting) named.running.count s.room.few;
  }
    where
      fewer : (a b c d x : ℕ) → a ≤ b → c + x ≡ d → b + d ≤ 4096 → a + c ≤ 4096
      fewer a b c d x h k l = omega (arith, h, k, l)

  found-without : (j i : ℕ) → EmissionsAreFoundIn (log_at (logs_without g old.logs) j) i (unheard_at old.unheard j i)
  found-without j i = subst (λ (o : Option Log). EmissionsAreFoundIn o i (unheard_at old.unheard j i)) (sym (at-left g old.logs j)) (go (g == j) refl)
    where
      go : (b : Bool) → (g == j) ≡ b → EmissionsAreFoundIn (if b then None else log_at old.logs j) i (unheard_at old.unheard j i)
      go true e = subst (λ k. unheard_at old.unheard k i ≡ []) (eqb-true g j e) (s.served g i served)
      go false e = s.found j i

taken-back-follows : (g : ℕ) (old new : Hosting) → is_in old.named.served g ≡ true → FollowsJournals old → IsTakenBack g old new → FollowsJournals new
taken-back-follows g old new served s h = record {
  room = subst (λ (x : Waiting × List Log). CanAllJoin x.0 new.named x.1) (λ i. (sym h.waiting i, sym h.logs i)) (room-without g old new.named s h.named served);
  found = λ j i. subst (λ (x : List Log × List Emission). EmissionsAreFoundIn (log_at x.0 j) i x.1) (λ z. (sym h.logs z, unheard_at (sym h.unheard z) j i)) (found-without g old new.named s h.named served j i);
  served = λ j i is. ap (λ u. unheard_at u j i) h.unheard ∙ s.served j i (was j (g == j) refl is);
}
  where
    was : (j : ℕ) (b : Bool) → (g == j) ≡ b → is_in new.named.served j ≡ true → is_in old.named.served j ≡ true
    was j true e is = ap (is_in old.named.served) (sym (eqb-true g j e)) ∙ served
    was j false e is = sym (h.named.served.others j (is-at g j ∙ e)) ∙ is

-- ---- a line, and all lines

served-room : (g : ℕ) (ws : Waiting) (n : Named) (logs : List Log) → CanAllJoin ws n logs → CanAllJoin ws (served_with g n) logs
served-room g ws n logs room = record { joined = room.joined; counted = room.counted; apart = room.apart; once = room.once; few = room.few }

declared-follows : (g : ℕ) (d : Declaration) (n : Named) (old new : Hosting) → FollowsJournals old → CanAllJoin new.waiting n old.logs → ((j i : ℕ) → is_in n.served j ≡ true → unheard_at old.unheard j i ≡ []) → IsDeclaredSo g d n old new
    → FollowsJournals new
declared-follows g d n old new s room nothing h = record {
  room = subst (λ (x : Named × List Log). CanAllJoin new.waiting x.0 x.1) (λ i. (sym h.named_is i, sym h.logs i)) room;
  found = λ j i. subst (λ (x : List Log × List Emission). EmissionsAreFoundIn (log_at x.0 j) i x.1) (λ z. (sym h.logs z, unheard_at (sym h.unheard z) j i)) (s.found j i);
  served = λ j i is. ap (λ u. unheard_at u j i) h.unheard ∙ nothing j i (ap (λ (m : Named). is_in m.served j) (sym h.named_is) ∙ is);
}

-- nothing waits in a network that is declared only now
new-waits : (g : ℕ) (b : Budgets) (old : Hosting) → FollowsJournals old → takes old.waiting old.named g (Net b) ≡ true → (j i : ℕ) → is_in (served_with g old.named).served j ≡ true → unheard_at old.unheard j i ≡ []
new-waits g b old s t j i is = go (g == j) refl (sym (has-inserted g j old.named.served) ∙ is)
  where
    taken : (not (is_some (waiting_at old.waiting g) || is_in old.named.running g) ≡ true) × (nat_lt (declared_count old.waiting old.named) 4096 ≡ true)
    taken = and_parts (not (is_some (waiting_at old.waiting g) || is_in old.named.running g)) (nat_lt (declared_count old.waiting old.named) 4096) t

    absent : log_at old.logs g ≡ None
    absent = is-none (log_at old.logs g) (s.room.joined g ∙ (or_parts (is_some (waiting_at old.waiting g)) (is_in old.named.running g) (not-true (is_some (waiting_at old.waiting g) || is_in old.named.running g) taken.0)).1)

    go : (c : Bool) → (g == j) ≡ c → ((g == j) || is_in old.named.served j) ≡ true → unheard_at old.unheard j i ≡ []
    go true e k = subst (λ n. unheard_at old.unheard n i ≡ []) (eqb-true g j e) (subst (λ (o : Option Log). EmissionsAreFoundIn o i (unheard_at old.unheard g i)) absent (s.found g i))
    go false e k = s.served j i (sym (ap (λ c. c || is_in old.named.served j) e) ∙ k)

pub lines-follow : LinesKeep FollowsJournals
lines-follow = record {
  begun = begun-follows;
  declared = λ g d old new s h. declared-follows g d old.named old new s (declared-room g d old.waiting new.waiting old.named old.logs h.taken h.prepared s.room) s.served h;
  serves = λ g b old new s h.
      declared-follows g (Net b) (served_with g old.named) old new s (served-room g new.waiting old.named old.logs (declared-room g (Net b) old.waiting new.waiting old.named old.logs h.taken h.prepared s.room))
      (new-waits g b old s h.taken) h;
  served = λ g e r old new s h. served-follows g e r old new s h;
  settled = λ g slot ended old new plain s h. settled-follows g slot ended old new plain s h;
  taken_back = λ g old new served s h. taken-back-follows g old new served s h;
}

first-follows : FollowsJournals new_hosting
first-follows = record {
  room = record { joined = λ g. refl; counted = omega arith; apart = λ g h. absurd (false≢true h); once = tt; few = omega arith };
  found = λ g i. refl;
  served = λ g i is. refl;
}

pub lines_follow_journals : LinesFollowJournals
lines_follow_journals = (first-follows, line-keeps FollowsJournals lines-follow)

pub runs_follow_journals : RunsFollowJournals
runs_follow_journals text before after new run = runs-keep FollowsJournals lines-follow text before after new first-follows run
