-- Journals that are those of a history.
use Rattle.std.proofs.Common.{◌≡◌, ℕ, Bool, true, false, not, ◌==◌, nat_lt, Option, Some, None, Result, Ok, Err, List, [], ◌∷◌, ◌++◌, filter, map, if◌then◌else◌, refl, sym, ◌∙◌, ap, subst, inl, inr, arith, ◌≢◌}
use Rattle.std.proofs.lemmas.Bool.{eqb-true}
use Rattle.std.proofs.lemmas.Bool.Decides.{nat_tests}
use Rattle.std.proofs.lemmas.List.{append-nil, map-append}
use Rattle.scp_types.specs.declared.event.Event.{Event}
use Rattle.scp_types.specs.declared.event.Out.{Out}
use Rattle.scp_types.specs.declared.event.Refusal.{Refusal}
use Rattle.scp_types.specs.declared.event.Refusal.TheVariants.{NoMemory}
use Rattle.scp_spec.specs.Networks.{Net, Reply, Step, effect, first_that, net_step, state_and_reply, tests}
use Rattle.scp_spec.specs.Networks.Reply.{Done, Refused}
use Rattle.scp_spec.specs.Hosts.{Config, Entry, History, journal_with, entries, journal, net_at, nets, new_net, steps_of}
use Rattle.scp_spec.specs.Runs.{net_after, refusal_of, state_of}
use Rattle.scp_spec.proofs.Runs.Hosts.{applied-journal, steps_to}
use Rattle.host_network.specs.declared.applied.Given.{Given}
use Rattle.host_network.specs.Decoding.{reading, step_of}
use Rattle.host_journal.specs.Logs.{IsEntered, IsRefused, Log, with_entry}
use Rattle.host_world.specs.Worlds.{IsAnswered, IsAnsweredAt, AreJournalsOf, items_of, with_history_of, and_then, configs_with, with_new_network, log_at, logs_set, logs_with}

equal : (a b : ℕ) → a ≡ b → (a == b) ≡ true
equal a b e = grind (arith, nat_tests, e)

-- ---- the network of a journal
has-net : (ls : List Log) (g : ℕ) (l : Log) → log_at ls g ≡ Some l → net_at (nets (map (λ k. k.config) ls)) g ≡ Some (new_net l.config)
has-net [] g l h = absurd (cc)
has-net (k ∷ ks) g l h = go (k.config.number == g) refl h (has-net ks g l)
  where
    go : (b : Bool) → (k.config.number == g) ≡ b → (if b then Some k else log_at ks g) ≡ Some l → (log_at ks g ≡ Some l → net_at (nets (map (λ k. k.config) ks)) g ≡ Some (new_net l.config))
        → net_at (nets (map (λ k. k.config) (k ∷ ks))) g ≡ Some (new_net l.config)
    go true y e ih = let q : k ≡ l = cc in rw y (ap (λ (x : Log). Some (new_net x.config)) q)
    go false y e ih = rw y (ih e)

pub has-number : (ls : List Log) (g : ℕ) (l : Log) → log_at ls g ≡ Some l → l.config.number ≡ g
has-number [] g l h = absurd (cc)
has-number (k ∷ ks) g l h = go (k.config.number == g) refl h (has-number ks g l)
  where
    go : (b : Bool) → (k.config.number == g) ≡ b → (if b then Some k else log_at ks g) ≡ Some l → (log_at ks g ≡ Some l → l.config.number ≡ g) → l.config.number ≡ g
    go true y e ih = let q : k ≡ l = cc in sym (ap (λ (x : Log). x.config.number) q) ∙ eqb-true k.config.number g y
    go false y e ih = ih e

-- the entries that a history applies to a network that is there are the journal of the steps to it
pub history-journal : (h : History) (ls : List Log) (g : ℕ) (l : Log) → map (λ k. k.config) ls ≡ h.configs → log_at ls g ≡ Some l → entries reading h g ≡ journal (new_net l.config) (steps_to g (steps_of reading h.calls))
history-journal h ls g l c at = applied-journal g (steps_of reading h.calls) (nets h.configs) (new_net l.config) (ap (λ cs. net_at (nets cs) g) (sym c) ∙ has-net ls g l at)

-- ---- one event more
pub steps-snoc : (g : ℕ) (cs : List (ℕ × Step)) (j : ℕ) (e : Step) → steps_to g (cs ++ (j, e) ∷ []) ≡ steps_to g cs ++ (if j == g then e ∷ [] else [])
unfolding steps_to
steps-snoc g [] j e = refl
steps-snoc g (c ∷ cs) j e = go (c.0 == g) (steps-snoc g cs j e)
  where
    go : (b : Bool) → steps_to g (cs ++ (j, e) ∷ []) ≡ steps_to g cs ++ (if j == g then e ∷ [] else [])
        → (if b then c.1 ∷ steps_to g (cs ++ (j, e) ∷ []) else steps_to g (cs ++ (j, e) ∷ [])) ≡ (if b then c.1 ∷ steps_to g cs else steps_to g cs) ++ (if j == g then e ∷ [] else [])
    go true ih = ap (λ xs. c.1 ∷ xs) ih
    go false ih = ih

pub journal-snoc : (es : List Step) (net : Net) (e : Step) → journal net (es ++ e ∷ []) ≡ journal net es ++ journal_with e (net_step (net_after net (journal net es)) e).1 []
unfolding journal net_after net_step
journal-snoc [] net e = refl
journal-snoc (x ∷ xs) net e = go (first_that (tests net x)) refl (λ n. journal-snoc xs n e)
  where
    go : (o : Option Refusal) → first_that (tests net x) ≡ o → ((n : Net) → journal n (xs ++ e ∷ []) ≡ journal n xs ++ journal_with e (net_step (net_after n (journal n xs)) e).1 [])
        → journal_with x (state_and_reply net x o).1 (journal (state_and_reply net x o).0 (xs ++ e ∷ [])) ≡ journal_with x (state_and_reply net x o).1 (journal (state_and_reply net x o).0 xs) ++ journal_with e (net_step (net_after net (journal_with x (state_and_reply net x o).1 (journal (state_and_reply net x o).0 xs))) e).1 []
    go (Some r) q ih = ih net
    go None q ih =
        let next : Net = (state_and_reply net x None).0 in
        ap (λ ys. record { event = x; outs = (effect net x).1 } ∷ ys) (ih next ∙ ap (λ (p : Option Refusal). journal next xs ++ journal_with e (net_step (net_after (state_and_reply net x p).0 (journal next xs)) e).1 []) (sym q))

-- what is answered is the network's reply
abbrev replies : Log → Step → Reply
replies l e = (net_step (state_of l.config l.entries) e).1

done : (l : Log) (e : Step) (os : List Out) → IsEntered l e os → replies l e ≡ Done os
unfolding net_step
done l e os h = ap (λ o. (state_and_reply (state_of l.config l.entries) e o).1) h.0 ∙ ap Done (sym h.1)

refused : (l : Log) (e : Step) (r : Refusal) → refusal_of l.config l.entries e ≡ Some r → replies l e ≡ Refused r
unfolding net_step
refused l e r h = ap (λ o. (state_and_reply (state_of l.config l.entries) e o).1) h

-- ---- journals after an event
set-configs : (ls : List Log) (g : ℕ) (l m : Log) → log_at ls g ≡ Some l → m.config ≡ l.config → map (λ k. k.config) (logs_set m ls) ≡ map (λ k. k.config) ls
set-configs [] g l m at same = refl
set-configs (k ∷ ks) g l m at same = go (k.config.number == g) refl at (set-configs ks g l m)
  where
    named : m.config.number ≡ g
    named = ap (λ (c : Config). c.number) same ∙ has-number (k ∷ ks) g l at

    go : (b : Bool) → (k.config.number == g) ≡ b → (if b then Some k else log_at ks g) ≡ Some l → (log_at ks g ≡ Some l → m.config ≡ l.config → map (λ k. k.config) (logs_set m ks) ≡ map (λ k. k.config) ks)
        → map (λ k. k.config) (if k.config.number == m.config.number then m ∷ ks else k ∷ logs_set m ks) ≡ k.config ∷ map (λ k. k.config) ks
    go true y e ih = let q : k ≡ l = cc in rw (ap (λ n. k.config.number == n) named ∙ y) (ap (λ (c : Config). c ∷ map (λ k. k.config) ks) (same ∙ sym (ap (λ (x : Log). x.config) q)))
    go false y e ih = rw (ap (λ n. k.config.number == n) named ∙ y) (ap (λ (cs : List Config). k.config ∷ cs) (ih e same))

set-at : (ls : List Log) (g : ℕ) (l m : Log) → log_at ls g ≡ Some l → m.config.number ≡ g → log_at (logs_set m ls) g ≡ Some m
set-at [] g l m at named = absurd (cc)
set-at (k ∷ ks) g l m at named = go (k.config.number == g) refl at (set-at ks g l m)
  where
    self : (m.config.number == g) ≡ true
    self = equal m.config.number g named

    go : (b : Bool) → (k.config.number == g) ≡ b → (if b then Some k else log_at ks g) ≡ Some l → (log_at ks g ≡ Some l → m.config.number ≡ g → log_at (logs_set m ks) g ≡ Some m)
        → log_at (if k.config.number == m.config.number then m ∷ ks else k ∷ logs_set m ks) g ≡ Some m
    go true y e ih = rw (ap (λ n. k.config.number == n) named ∙ y, self) refl
    go false y e ih = rw (ap (λ n. k.config.number == n) named ∙ y, y) (ih e named)

set-other : (ls : List Log) (g j : ℕ) (m : Log) → m.config.number ≡ g → (g == j) ≡ false → log_at (logs_set m ls) j ≡ log_at ls j
set-other [] g j m named other = refl
set-other (k ∷ ks) g j m named other = go (k.config.number == g) refl (set-other ks g j m named other)
  where
    go : (b : Bool) → (k.config.number == g) ≡ b → log_at (logs_set m ks) j ≡ log_at ks j
        → log_at (if k.config.number == m.config.number then m ∷ ks else k ∷ logs_set m ks) j ≡ (if k.config.number == j then Some k else log_at ks j)
    go true y ih = rw (ap (λ n. k.config.number == n) named ∙ y, ap (λ n. n == j) named ∙ other, ap (λ n. n == j) (eqb-true k.config.number g y) ∙ other) refl
    go false y ih = rw (ap (λ n. k.config.number == n) named ∙ y) (ap (λ o. if k.config.number == j then Some k else o) ih)

-- ---- a history with one more event
entries-then : (h : History) (ls : List Log) (g : ℕ) (event : Event) (j : ℕ) (l : Log) → map (λ k. k.config) ls ≡ h.configs → log_at ls j ≡ Some l
    → entries reading (and_then h g event) j ≡ journal (new_net l.config) (steps_to j (steps_of reading h.calls) ++ (if g == j then step_of event ∷ [] else []))
entries-then h ls g event j l c at =
    history-journal (and_then h g event) ls j l c at
    ∙ ap (λ cs. journal (new_net l.config) (steps_to j cs)) (map-append (λ (x : ℕ × Event). (x.0, step_of x.1)) h.calls ((g, event) ∷ []))
    ∙ ap (journal (new_net l.config)) (steps-snoc j (steps_of reading h.calls) g (step_of event))

-- where the event is not of the network, or it is refused, there are no more entries
stays : (h : History) (ls : List Log) (g : ℕ) (event : Event) (j : ℕ) (l : Log) → AreJournalsOf h ls → log_at ls j ≡ Some l → (g == j) ≡ false → l.entries ≡ entries reading (and_then h g event) j
stays h ls g event j l own_is at other =
    own_is.entries j l at ∙ history-journal h ls j l own_is.configs at
    ∙ ap (journal (new_net l.config)) (sym (append-nil (steps_to j (steps_of reading h.calls))) ∙ ap (λ b. steps_to j (steps_of reading h.calls) ++ (if b then step_of event ∷ [] else [])) (sym other))
    ∙ sym (entries-then h ls g event j l own_is.configs at)

-- what the network of the event has then
goes-on : (h : History) (ls : List Log) (g : ℕ) (event : Event) (l : Log) → AreJournalsOf h ls → log_at ls g ≡ Some l
    → l.entries ++ journal_with (step_of event) (replies l (step_of event)) [] ≡ entries reading (and_then h g event) g
goes-on h ls g event l own_is at =
    let e = step_of event in
    let net = new_net l.config in
    let steps = steps_to g (steps_of reading h.calls) in
    let is : l.entries ≡ journal net steps = own_is.entries g l at ∙ history-journal h ls g l own_is.configs at in
    let self : (g == g) ≡ true = equal g g refl in
    ap (λ (xs : List Entry). xs ++ journal_with e (net_step (net_after net xs) e).1 []) is
    ∙ sym (journal-snoc steps net e)
    ∙ ap (λ b. journal net (steps ++ (if b then e ∷ [] else []))) (sym self)
    ∙ sym (entries-then h ls g event g l own_is.configs at)

-- the journals are those of the history with the event, but where memory was wanting
pub history-then : (h : History) (ls new : List Log) (g : ℕ) (event : Event) (r : Result (List Out) Refusal) → AreJournalsOf h ls → IsAnsweredAt (log_at ls g) ls (step_of event) r new → (r ≡ Err NoMemory → ⊥) → AreJournalsOf (and_then h g event) new
history-then h ls new g event r own_is answer memory = go (log_at ls g) refl r memory answer
  where
    e : Step
    e = step_of event

    same : new ≡ ls → ((l : Log) → log_at ls g ≡ Some l → l.entries ≡ entries reading (and_then h g event) g) → AreJournalsOf (and_then h g event) new
    same is own = subst (λ (ks : List Log). AreJournalsOf (and_then h g event) ks) (sym is) (record { configs = own_is.configs; entries = λ j l at. each j l at (g == j) refl })
      where
        each : (j : ℕ) (l : Log) → log_at ls j ≡ Some l → (b : Bool) → (g == j) ≡ b → l.entries ≡ entries reading (and_then h g event) j
        each j l at true y = subst (λ n. l.entries ≡ entries reading (and_then h g event) n) (eqb-true g j y) (own l (ap (log_at ls) (eqb-true g j y) ∙ at))
        each j l at false y = stays h ls g event j l own_is at y

    go : (o : Option Log) → log_at ls g ≡ o → (r : Result (List Out) Refusal) → (r ≡ Err NoMemory → ⊥) → IsAnsweredAt o ls e r new → AreJournalsOf (and_then h g event) new
    go None at r memory (unknown, is) = same is (λ l found. absurd (cc))
    go (Some l) at (Ok os) memory (entered_is, is) = subst (λ (ks : List Log). AreJournalsOf (and_then h g event) ks) (sym is) (record {
      configs = set-configs ls g l (with_entry l e os) at refl ∙ own_is.configs;
      entries = λ j m found. each j m found (g == j) refl;
    })
      where
        own : (with_entry l e os).entries ≡ entries reading (and_then h g event) g
        own = ap (λ (p : Reply). l.entries ++ journal_with e p []) (sym (done l e os entered_is)) ∙ goes-on h ls g event l own_is at

        each : (j : ℕ) (m : Log) → log_at (logs_set (with_entry l e os) ls) j ≡ Some m → (b : Bool) → (g == j) ≡ b → m.entries ≡ entries reading (and_then h g event) j
        each j m found true y =
            let here : log_at (logs_set (with_entry l e os) ls) g ≡ Some (with_entry l e os) = set-at ls g l (with_entry l e os) at (has-number ls g l at) in
            let q : with_entry l e os ≡ m = let z : Some (with_entry l e os) ≡ Some m = sym here ∙ ap (log_at (logs_set (with_entry l e os) ls)) (eqb-true g j y) ∙ found in cc in
            sym (ap (λ (x : Log). x.entries) q) ∙ subst (λ n. (with_entry l e os).entries ≡ entries reading (and_then h g event) n) (eqb-true g j y) own
        each j m found false y = stays h ls g event j m own_is (sym (set-other ls g j (with_entry l e os) (has-number ls g l at) y) ∙ found) y
    go (Some l) at (Err x) memory (why, is) = same is own
      where
        own : (m : Log) → log_at ls g ≡ Some m → m.entries ≡ entries reading (and_then h g event) g
        own m found = by why
          where
            q : l ≡ m
            q = let z : Some l ≡ Some m = sym at ∙ found in cc

            by : IsRefused l e x → m.entries ≡ entries reading (and_then h g event) g
            by (inl none) = absurd (memory (ap (λ (z : Refusal). Err z) none.0))
            by (inr first) = sym (ap (λ (z : Log). z.entries) q) ∙ sym (append-nil l.entries) ∙ ap (λ (p : Reply). l.entries ++ journal_with e p []) (sym (refused l e x first)) ∙ goes-on h ls g event l own_is at

pub history-answered : (h : History) (ls new : List Log) (g : ℕ) (event : Event) (r : Result Given Refusal) → AreJournalsOf h ls → IsAnswered ls g event r new → r ≢ Err NoMemory → AreJournalsOf (and_then h g event) new
history-answered h ls new g event r own_is answer memory = history-then h ls new g event (items_of r) own_is answer (go r memory)
  where
    go : (r : Result Given Refusal) → r ≢ Err NoMemory → items_of r ≡ Err NoMemory → ⊥
    go (Ok v) memory e = cc
    go (Err x) memory e = let z : x ≡ NoMemory = cc in memory (ap (λ (y : Refusal). Err y) z)

-- ---- a network more
with-configs : (ls : List Log) (l : Log) → map (λ k. k.config) (logs_with l ls) ≡ configs_with l.config (map (λ k. k.config) ls)
with-configs [] l = refl
with-configs (k ∷ ks) l = go (nat_lt k.config.number l.config.number) (with-configs ks l)
  where
    go : (b : Bool) → map (λ k. k.config) (logs_with l ks) ≡ configs_with l.config (map (λ k. k.config) ks)
        → map (λ k. k.config) (if b then k ∷ logs_with l ks else l ∷ k ∷ ks) ≡ (if b then k.config ∷ configs_with l.config (map (λ k. k.config) ks) else l.config ∷ k.config ∷ map (λ k. k.config) ks)
    go true ih = ap (λ (cs : List Config). k.config ∷ cs) ih
    go false ih = refl

with-other : (ls : List Log) (l : Log) (j : ℕ) → (l.config.number == j) ≡ false → log_at (logs_with l ls) j ≡ log_at ls j
with-other [] l j other = rw other refl
with-other (k ∷ ks) l j other = go (nat_lt k.config.number l.config.number) (with-other ks l j other)
  where
    go : (b : Bool) → log_at (logs_with l ks) j ≡ log_at ks j → log_at (if b then k ∷ logs_with l ks else l ∷ k ∷ ks) j ≡ (if k.config.number == j then Some k else log_at ks j)
    go true ih = ap (λ o. if k.config.number == j then Some k else o) ih
    go false ih = rw other refl

with-own : (ls : List Log) (l : Log) → log_at ls l.config.number ≡ None → log_at (logs_with l ls) l.config.number ≡ Some l
with-own [] l none = rw (equal l.config.number l.config.number refl) refl
with-own (k ∷ ks) l none = go (k.config.number == l.config.number) (nat_lt k.config.number l.config.number) refl none (with-own ks l)
  where
    go : (a b : Bool) → (k.config.number == l.config.number) ≡ a → (if a then Some k else log_at ks l.config.number) ≡ None → (log_at ks l.config.number ≡ None → log_at (logs_with l ks) l.config.number ≡ Some l)
        → log_at (if b then k ∷ logs_with l ks else l ∷ k ∷ ks) l.config.number ≡ Some l
    go true b y e ih = absurd (cc)
    go false true y e ih = rw y (ih e)
    go false false y e ih = rw (equal l.config.number l.config.number refl) refl

pub others-left : (g j : ℕ) (calls : List (ℕ × Event)) → (g == j) ≡ false → steps_to j (steps_of reading (filter (λ x. not (x.0 == g)) calls)) ≡ steps_to j (steps_of reading calls)
unfolding steps_to
others-left g j [] other = refl
others-left g j (c ∷ cs) other = go (c.0 == g) refl (others-left g j cs other)
  where
    go : (b : Bool) → (c.0 == g) ≡ b → steps_to j (steps_of reading (filter (λ x. not (x.0 == g)) cs)) ≡ steps_to j (steps_of reading cs)
        → steps_to j (steps_of reading (if not b then c ∷ filter (λ x. not (x.0 == g)) cs else filter (λ x. not (x.0 == g)) cs)) ≡ (if c.0 == j then step_of c.1 ∷ steps_to j (steps_of reading cs) else steps_to j (steps_of reading cs))
    go true y ih = ih ∙ ap (λ b. if b then step_of c.1 ∷ steps_to j (steps_of reading cs) else steps_to j (steps_of reading cs)) (sym (ap (λ n. n == j) (eqb-true c.0 g y) ∙ other))
    go false y ih = ap (λ xs. if c.0 == j then step_of c.1 ∷ xs else xs) ih

none-left : (g : ℕ) (calls : List (ℕ × Event)) → steps_to g (steps_of reading (filter (λ x. not (x.0 == g)) calls)) ≡ []
unfolding steps_to
none-left g [] = refl
none-left g (c ∷ cs) = go (c.0 == g) refl (none-left g cs)
  where
    go : (b : Bool) → (c.0 == g) ≡ b → steps_to g (steps_of reading (filter (λ x. not (x.0 == g)) cs)) ≡ []
        → steps_to g (steps_of reading (if not b then c ∷ filter (λ x. not (x.0 == g)) cs else filter (λ x. not (x.0 == g)) cs)) ≡ []
    go true y ih = ih
    go false y ih = rw y ih

pub history-joined : (h : History) (ls : List Log) (config : Config) → AreJournalsOf h ls → log_at ls config.number ≡ None → AreJournalsOf (with_new_network config h) (logs_with (record { config = config; entries = [] }) ls)
unfolding journal
history-joined h ls config own_is none = record { configs = configs-are; entries = λ j m found. each j m found (config.number == j) refl }
  where
    l : Log
    l = record { config = config; entries = [] }

    configs-are : map (λ k. k.config) (logs_with l ls) ≡ configs_with config h.configs
    configs-are = with-configs ls l ∙ ap (configs_with config) own_is.configs

    each : (j : ℕ) (m : Log) → log_at (logs_with l ls) j ≡ Some m → (b : Bool) → (config.number == j) ≡ b → m.entries ≡ entries reading (with_new_network config h) j
    each j m found true y =
        let e : config.number ≡ j = eqb-true config.number j y in
        let q : l ≡ m = let z : Some l ≡ Some m = sym (with-own ls l none) ∙ ap (log_at (logs_with l ls)) e ∙ found in cc in
        sym (ap (λ (x : Log). x.entries) q)
        ∙ ap (journal (new_net m.config)) (sym (none-left config.number h.calls) ∙ ap (λ n. steps_to n (steps_of reading (with_new_network config h).calls)) e)
        ∙ sym (history-journal (with_new_network config h) (logs_with l ls) j m configs-are found)
    each j m found false y =
        let at : log_at ls j ≡ Some m = sym (with-other ls l j y) ∙ found in
        own_is.entries j m at ∙ history-journal h ls j m own_is.configs at ∙ ap (journal (new_net m.config)) (sym (others-left config.number j h.calls y))
        ∙ sym (history-journal (with_new_network config h) (logs_with l ls) j m configs-are found)

-- ---- a journal more
steps-both : (g : ℕ) (cs ds : List (ℕ × Step)) → steps_to g (cs ++ ds) ≡ steps_to g cs ++ steps_to g ds
unfolding steps_to
steps-both g [] ds = refl
steps-both g (c ∷ cs) ds = go (c.0 == g) (steps-both g cs ds)
  where
    go : (b : Bool) → steps_to g (cs ++ ds) ≡ steps_to g cs ++ steps_to g ds
        → (if b then c.1 ∷ steps_to g (cs ++ ds) else steps_to g (cs ++ ds)) ≡ (if b then c.1 ∷ steps_to g cs else steps_to g cs) ++ steps_to g ds
    go true ih = ap (λ xs. c.1 ∷ xs) ih
    go false ih = ih

own-left : (g : ℕ) (calls : List (ℕ × Event)) → steps_to g (steps_of reading (filter (λ x. x.0 == g) calls)) ≡ steps_to g (steps_of reading calls)
unfolding steps_to
own-left g [] = refl
own-left g (c ∷ cs) = go (c.0 == g) refl (own-left g cs)
  where
    go : (b : Bool) → (c.0 == g) ≡ b → steps_to g (steps_of reading (filter (λ x. x.0 == g) cs)) ≡ steps_to g (steps_of reading cs)
        → steps_to g (steps_of reading (if b then c ∷ filter (λ x. x.0 == g) cs else filter (λ x. x.0 == g) cs)) ≡ (if b then step_of c.1 ∷ steps_to g (steps_of reading cs) else steps_to g (steps_of reading cs))
    go true y ih = rw y (ap (λ xs. step_of c.1 ∷ xs) ih)
    go false y ih = ih

none-own : (g j : ℕ) (calls : List (ℕ × Event)) → (g == j) ≡ false → steps_to j (steps_of reading (filter (λ x. x.0 == g) calls)) ≡ []
unfolding steps_to
none-own g j [] other = refl
none-own g j (c ∷ cs) other = go (c.0 == g) refl (none-own g j cs other)
  where
    go : (b : Bool) → (c.0 == g) ≡ b → steps_to j (steps_of reading (filter (λ x. x.0 == g) cs)) ≡ []
        → steps_to j (steps_of reading (if b then c ∷ filter (λ x. x.0 == g) cs else filter (λ x. x.0 == g) cs)) ≡ []
    go true y ih = rw (ap (λ n. n == j) (eqb-true c.0 g y) ∙ other) ih
    go false y ih = ih

-- the steps of a network in the history of a host that takes a journal in
adopted-steps : (c : Config) (own h : History) (j : ℕ) → steps_to j (steps_of reading (with_history_of c own h).calls)
    ≡ steps_to j (steps_of reading (filter (λ x. not (x.0 == c.number)) h.calls)) ++ steps_to j (steps_of reading (filter (λ x. x.0 == c.number) own.calls))
adopted-steps c own h j =
    ap (steps_to j) (map-append (λ (x : ℕ × Event). (x.0, step_of x.1)) (filter (λ x. not (x.0 == c.number)) h.calls) (filter (λ x. x.0 == c.number) own.calls))
    ∙ steps-both j (steps_of reading (filter (λ x. not (x.0 == c.number)) h.calls)) (steps_of reading (filter (λ x. x.0 == c.number) own.calls))

pub history-adopted : (h own : History) (ls : List Log) (l : Log) → AreJournalsOf h ls → AreJournalsOf own (l ∷ []) → log_at ls l.config.number ≡ None → AreJournalsOf (with_history_of l.config own h) (logs_with l ls)
history-adopted h own ls l own_is mine none = record { configs = configs-are; entries = λ j m found. each j m found (l.config.number == j) refl }
  where
    g : ℕ
    g = l.config.number

    configs-are : map (λ k. k.config) (logs_with l ls) ≡ configs_with l.config h.configs
    configs-are = with-configs ls l ∙ ap (configs_with l.config) own_is.configs

    there : log_at (l ∷ []) g ≡ Some l
    there = rw (equal g g refl) refl

    each : (j : ℕ) (m : Log) → log_at (logs_with l ls) j ≡ Some m → (b : Bool) → (g == j) ≡ b → m.entries ≡ entries reading (with_history_of l.config own h) j
    each j m found true y =
        let e : g ≡ j = eqb-true g j y in
        let q : l ≡ m = let z : Some l ≡ Some m = sym (with-own ls l none) ∙ ap (log_at (logs_with l ls)) e ∙ found in cc in
        sym (ap (λ (x : Log). x.entries) q) ∙ mine.entries g l there ∙ history-journal own (l ∷ []) g l mine.configs there
        ∙ ap (journal (new_net l.config)) (sym (own-left g own.calls) ∙ ap (λ (xs : List Step). xs ++ steps_to g (steps_of reading (filter (λ x. x.0 == g) own.calls))) (sym (none-left g h.calls)) ∙ sym (adopted-steps l.config own h g))
        ∙ ap (λ (x : Log). journal (new_net x.config) (steps_to g (steps_of reading (with_history_of l.config own h).calls))) q
        ∙ ap (λ n. journal (new_net m.config) (steps_to n (steps_of reading (with_history_of l.config own h).calls))) e
        ∙ sym (history-journal (with_history_of l.config own h) (logs_with l ls) j m configs-are found)
    each j m found false y =
        let at : log_at ls j ≡ Some m = sym (with-other ls l j y) ∙ found in
        own_is.entries j m at ∙ history-journal h ls j m own_is.configs at
        ∙ ap (journal (new_net m.config)) (sym (others-left g j h.calls y) ∙ sym (append-nil (steps_to j (steps_of reading (filter (λ x. not (x.0 == g)) h.calls))))
        ∙ ap (λ (xs : List Step). steps_to j (steps_of reading (filter (λ x. not (x.0 == g)) h.calls)) ++ xs) (sym (none-own g j own.calls y)) ∙ sym (adopted-steps l.config own h j))
        ∙ sym (history-journal (with_history_of l.config own h) (logs_with l ls) j m configs-are found)
