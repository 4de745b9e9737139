-- The run of one network, event after event.
use Rattle.std.proofs.Common.{◌≡◌, ◌≢◌, Result, Ok, Err, inl, inr, ℕ, ◌+◌, ◌<◌, ◌≤◌, Bool, true, false, ◌&&◌, ◌==◌, Option, Some, None, List, [], ◌∷◌, ◌++◌, filter, get_or, length, map, take, slice_get, if◌then◌else◌, is_some, refl, sym, ◌∙◌, ap, subst}
use Rattle.std.proofs.lemmas.List.{append-nil, map-append, take_all}
use Rattle.std.proofs.lemmas.List.Elements.{filter-append}
use Rattle.std.proofs.lemmas.Option.{slice_get_read}
use Rattle.scp_types.specs.declared.event.Event.{Event}
use Rattle.std.specs.Prelude.{IfOk}
use Rattle.scp_types.specs.declared.event.Refusal.{Refusal}
use Rattle.scp_types.specs.declared.event.Refusal.TheVariants.{NoMemory}
use Rattle.scp_spec.specs.Sets.{Names}
use Rattle.scp_spec.specs.Networks.{Net, Reply, Step, effect, first_that, net_step, state_and_reply, slices_of, tests}
use Rattle.scp_spec.specs.Networks.Reply.{Done, Refused}
use Rattle.scp_spec.specs.Hosts.{Config, Entry, History, applied_entries, nodes_of, journal_with, entries, journal, net_at, nets, new_net, steps_of}
use Rattle.scp_spec.specs.Runs.{net_after, refusal_of, state_of}
use Rattle.scp_spec.specs.Submissions.{Answer, answers, answers_of, concerning_steps, concerning_answers, concerns, config_of, net_run, replied_to}
use Rattle.scp_spec.proofs.Runs.Hosts.{answers-run, applied-journal, steps_to}
use Rattle.host_closure.proofs.Places.{front_at}
use Rattle.host_network.specs.Decoding.{reading, step_of}
use Rattle.host_journal.specs.Logs.{IsEntered, IsRefused, Log, with_entry}
use Rattle.host_world.proofs.Histories.{journal-snoc, steps-snoc}
use Rattle.host_compare.specs.Replies.{IsReplied}
use Rattle.host_compare.specs.Submitted.{concerning_steps_in, concerns_members}

-- ---- the network
declared-net : (cs : List Config) (g : ℕ) (c : Config) → config_of cs g ≡ Some c → net_at (nets cs) g ≡ Some (new_net c)
declared-net [] g c h = absurd (cc)
declared-net (k ∷ ks) g c h = go (k.number == g) refl h (declared-net ks g c)
  where
    go : (b : Bool) → (k.number == g) ≡ b → (if b then Some k else config_of ks g) ≡ Some c → (config_of ks g ≡ Some c → net_at (nets ks) g ≡ Some (new_net c)) → net_at (nets (k ∷ ks)) g ≡ Some (new_net c)
    go true y e ih = let q : k ≡ c = cc in rw y (ap (λ (x : Config). Some (new_net x)) q)
    go false y e ih = rw y (ih e)

-- ---- one step more
run-snoc : (es : List Step) (net : Net) (e : Step) → net_run net (es ++ e ∷ []) ≡ net_run net es ++ record { step = e; reply = (net_step (net_after net (journal net es)) e).1 } ∷ []
unfolding journal net_after net_run net_step
run-snoc [] net e = refl
run-snoc (x ∷ xs) net e = go (first_that (tests net x)) refl (λ n. run-snoc xs n e)
  where
    go : (o : Option Refusal) → first_that (tests net x) ≡ o
        → ((n : Net) → net_run n (xs ++ e ∷ []) ≡ net_run n xs ++ record { step = e; reply = (net_step (net_after n (journal n xs)) e).1 } ∷ [])
        → record { step = x; reply = (state_and_reply net x o).1 } ∷ net_run (state_and_reply net x o).0 (xs ++ e ∷ [])
        ≡ record { step = x; reply = (state_and_reply net x o).1 } ∷ net_run (state_and_reply net x o).0 xs ++ record { step = e; reply = (net_step (net_after net (journal_with x (state_and_reply net x o).1 (journal (state_and_reply net x o).0 xs))) e).1 } ∷ []
    go (Some r) q ih = ap {B = List Answer} (λ (ys : List Answer). record { step = x; reply = Refused r } ∷ ys) (ih net)
    go None q ih =
        let next : Net = (state_and_reply net x None).0 in
        ap {B = List Answer} (λ (ys : List Answer). record { step = x; reply = Done (effect net x).1 } ∷ ys)
        (ih next ∙ ap {B = List Answer} (λ (p : Option Refusal). net_run next xs ++ record { step = e; reply = (net_step (net_after (state_and_reply net x p).0 (journal next xs)) e).1 } ∷ []) (sym q))

-- ---- what a journal answers
pub is_done : (old new : Log) (e : Step) (os : List _) → IsEntered old e os → new ≡ with_entry old e os → IsReplied old e (Done os) new
unfolding net_step
is_done old new e os h n = record {
  config = ap (λ (l : Log). l.config) n;
  reply = sym (ap (λ o. (state_and_reply (state_of old.config old.entries) e o).1) h.0 ∙ ap Done (sym h.1));
  entries = ap (λ (l : Log). l.entries) n;
}

pub is_refused : (old new : Log) (e : Step) (r : Refusal) → refusal_of old.config old.entries e ≡ Some r → new ≡ old → IsReplied old e (Refused r) new
unfolding net_step
is_refused old new e r h n = record {
  config = ap (λ (l : Log). l.config) n;
  reply = sym (ap (λ o. (state_and_reply (state_of old.config old.entries) e o).1) h);
  entries = ap (λ (l : Log). l.entries) n ∙ sym (append-nil old.entries);
}

pub refused_is : {A E : Type 0} (view : A → Reply) (old new : Log) (e : Step) (r : Refusal) (result : Result A E) → IfOk result (λ x. view x ≡ Refused r) → IfOk result (λ _. r ≢ NoMemory) → IsRefused old e r → new ≡ old → IfOk result (λ x. IsReplied old e (view x) new)
refused_is view old new e r (Ok x) a b h n = elim h [
  | inl m ↦ absurd (b m.0)
  | inr q ↦ subst (λ (y : Reply). IsReplied old e y new) (sym a) (is_refused old new e r q n)
]
refused_is view old new e r (Err x) a b h n = tt

-- ---- a submission, as far as it was run
abbrev pub so_far : History → ℕ → History
so_far h k = record { configs = h.configs; calls = take k h.calls }

abbrev pub log_so_far : History → Config → ℕ → ℕ → Log
log_so_far h c g k = record { config = c; entries = entries reading (so_far h k) g }

-- the call at which a loop over the calls stands
pub call_at : (h : History) (calls : List (ℕ × Event)) (k : ℕ) (call : ℕ × Event) → calls ≡ h.calls → k < length calls → call ≡ get_or calls k call → slice_get h.calls k ≡ Some call
call_at h calls k call same within is = ap (λ (cs : List (ℕ × Event)). slice_get cs k) (sym same) ∙ slice_get_read calls (length calls) k call refl within is

module _ (h : History) (c : Config) (g : ℕ) (is : config_of h.configs g ≡ Some c) where
  steps : List (ℕ × Event) → List Step
  steps calls = steps_to g (steps_of reading calls)

  entries_are : (k : ℕ) → entries reading (so_far h k) g ≡ journal (new_net c) (steps (take k h.calls))
  unfolding steps
  entries_are k = applied-journal g (steps_of reading (take k h.calls)) (nets h.configs) (new_net c) (declared-net h.configs g c is)

  answers_are : (k : ℕ) → answers reading (so_far h k) g ≡ net_run (new_net c) (steps (take k h.calls))
  unfolding steps
  answers_are k = answers-run g (steps_of reading (take k h.calls)) (nets h.configs) (new_net c) (declared-net h.configs g c is)

  module _ (k : ℕ) (call : ℕ × Event) (there : slice_get h.calls k ≡ Some call) where
    one_more : take (k + 1) h.calls ≡ take k h.calls ++ call ∷ []
    one_more = front_at h.calls k call there

    steps_more : steps (take (k + 1) h.calls) ≡ steps (take k h.calls) ++ (if call.0 == g then step_of call.1 ∷ [] else [])
    unfolding steps
    steps_more =
        ap (λ (cs : List (ℕ × Event)). steps_to g (steps_of reading cs)) one_more
        ∙ ap (steps_to g) (map-append (λ (x : ℕ × Event). (x.0, step_of x.1)) (take k h.calls) (call ∷ []))
        ∙ steps-snoc g (steps_of reading (take k h.calls)) call.0 (step_of call.1)

    -- an event of another network
    same_steps : (call.0 == g) ≡ false → steps (take (k + 1) h.calls) ≡ steps (take k h.calls)
    same_steps o = steps_more ∙ ap (λ b. steps (take k h.calls) ++ (if b then step_of call.1 ∷ [] else [])) o ∙ append-nil (steps (take k h.calls))

    pub log_stays : (call.0 == g) ≡ false → log_so_far h c g k ≡ log_so_far h c g (k + 1)
    log_stays o = ap (λ (es : List Entry). record { config = c; entries = es }) (entries_are k ∙ ap (journal (new_net c)) (sym (same_steps o)) ∙ sym (entries_are (k + 1)))

    pub answers_stay : (call.0 == g) ≡ false → answers reading (so_far h k) g ≡ answers reading (so_far h (k + 1)) g
    answers_stay o = answers_are k ∙ ap (net_run (new_net c)) (sym (same_steps o)) ∙ sym (answers_are (k + 1))

    -- an event of the network
    new_step : (call.0 == g) ≡ true → steps (take (k + 1) h.calls) ≡ steps (take k h.calls) ++ step_of call.1 ∷ []
    new_step o = steps_more ∙ ap (λ b. steps (take k h.calls) ++ (if b then step_of call.1 ∷ [] else [])) o

    log_grows : (call.0 == g) ≡ true → (r : Reply) (new : Log) → IsReplied (log_so_far h c g k) (step_of call.1) r new → new ≡ log_so_far h c g (k + 1)
    log_grows o r new a = λ j. record { config = a.config j; entries = grown j }
      where
        grown : new.entries ≡ entries reading (so_far h (k + 1)) g
        grown =
            a.entries ∙ ap (λ (x : Reply). entries reading (so_far h k) g ++ journal_with (step_of call.1) x []) a.reply
            ∙ ap (λ (es : List Entry). es ++ journal_with (step_of call.1) (net_step (net_after (new_net c) es) (step_of call.1)).1 []) (entries_are k)
            ∙ sym (journal-snoc (steps (take k h.calls)) (new_net c) (step_of call.1))
            ∙ ap (journal (new_net c)) (sym (new_step o)) ∙ sym (entries_are (k + 1))

    pub log_next : (call.0 == g) ≡ true → (old : Log) {r : Reply} {new : Log} → old ≡ log_so_far h c g k → IsReplied old (step_of call.1) r new → new ≡ log_so_far h c g (k + 1)
    log_next o old {r} {new} e a = log_grows o r new (subst (λ (l : Log). IsReplied l (step_of call.1) r new) e a)

    answers_grow : (call.0 == g) ≡ true → (r : Reply) (new : Log) → IsReplied (log_so_far h c g k) (step_of call.1) r new
        → answers reading (so_far h (k + 1)) g ≡ answers reading (so_far h k) g ++ record { step = step_of call.1; reply = r } ∷ []
    answers_grow o r new a =
        answers_are (k + 1) ∙ ap (net_run (new_net c)) (new_step o) ∙ run-snoc (steps (take k h.calls)) (new_net c) (step_of call.1)
        ∙ ap {B = List Answer} (λ (es : List Entry). net_run (new_net c) (steps (take k h.calls)) ++ record { step = step_of call.1; reply = (net_step (net_after (new_net c) es) (step_of call.1)).1 } ∷ []) (sym (entries_are k))
        ∙ ap {B = List Answer} (λ (x : Reply). net_run (new_net c) (steps (take k h.calls)) ++ record { step = step_of call.1; reply = x } ∷ []) (sym a.reply)
        ∙ ap {B = List Answer} (λ (xs : List Answer). xs ++ record { step = step_of call.1; reply = r } ∷ []) (sym (answers_are k))

    replied-snoc : (R : Names) (i : ℕ) (xs : List Answer) (a : Answer) → replied_to R i (xs ++ a ∷ []) ≡ replied_to R i xs ++ (if concerns R i a.step then a.reply ∷ [] else [])
    replied-snoc R i xs a =
        ap (λ (ys : List Answer). map (λ x. x.reply) ys) (filter-append (λ (x : Answer). concerns R i x.step) xs (a ∷ []))
        ∙ map-append (λ (x : Answer). x.reply) (filter (λ (x : Answer). concerns R i x.step) xs) (filter (λ (x : Answer). concerns R i x.step) (a ∷ []))
        ∙ ap (λ (ys : List Reply). replied_to R i xs ++ ys) (last (concerns R i a.step))
      where
        last : (b : Bool) → map (λ (x : Answer). x.reply) (if b then a ∷ [] else []) ≡ (if b then a.reply ∷ [] else [])
        last true = refl
        last false = refl

    -- the replies that are kept
    pub replies_next : (call.0 == g) ≡ true → (before : Log) {r : Reply} {new : Log} → before ≡ log_so_far h c g k → IsReplied before (step_of call.1) r new → (R : Names) (i : ℕ) (b : Bool) → b ≡ concerns R i (step_of call.1) → (old now : List Reply)
        → old ≡ replied_to R i (answers reading (so_far h k) g) → now ≡ old ++ (if b then r ∷ [] else []) → now ≡ replied_to R i (answers reading (so_far h (k + 1)) g)
    replies_next o before {r} {new} start a R i b m old now e f =
        f ∙ ap (λ (x : Bool). old ++ (if x then r ∷ [] else [])) m
        ∙ ap (λ (xs : List Reply). xs ++ (if concerns R i (step_of call.1) then r ∷ [] else [])) e
        ∙ sym (replied-snoc R i (answers reading (so_far h k) g) (record { step = step_of call.1; reply = r }))
        ∙ sym (ap (replied_to R i) (answers_grow o r new (subst (λ (l : Log). IsReplied l (step_of call.1) r new) start a)))

-- ---- before all events, and after them
pub log_at_first : (h : History) (c : Config) (g : ℕ) → log_so_far h c g 0 ≡ record { config = c; entries = [] }
unfolding applied_entries
log_at_first h c g = refl

pub replied_at_first : (h : History) (g : ℕ) (R : Names) (i : ℕ) → replied_to R i (answers reading (so_far h 0) g) ≡ []
unfolding answers_of
replied_at_first h g R i = refl

pub replied_in_all : (h : History) (g : ℕ) (R : Names) (i k : ℕ) → length h.calls ≤ k → replied_to R i (answers reading (so_far h k) g) ≡ replied_to R i (answers reading h g)
replied_in_all h g R i k l = ap (λ (cs : List (ℕ × Event)). replied_to R i (answers reading (record { configs = h.configs; calls = cs }) g)) (take_all k h.calls l)

-- ---- what is submitted
concerning_steps-run : (R : Names) (i : ℕ) (es : List Step) (net : Net) → concerning_steps R i (net_run net es) ≡ filter (concerns R i) es
unfolding net_run
concerning_steps-run R i [] net = refl
concerning_steps-run R i (e ∷ es) net = go (concerns R i e) (concerning_steps-run R i es (net_step net e).0)
  where
    go : (b : Bool) → concerning_steps R i (net_run (net_step net e).0 es) ≡ filter (concerns R i) es
        → map (λ (x : Answer). x.step) (if b then record { step = e; reply = (net_step net e).1 } ∷ concerning_answers R i (net_run (net_step net e).0 es) else concerning_answers R i (net_run (net_step net e).0 es))
        ≡ (if b then e ∷ filter (concerns R i) es else filter (concerns R i) es)
    go true ih = ap (λ (xs : List Step). e ∷ xs) ih
    go false ih = ih

steps-asked : (R : Names) (i g : ℕ) (calls : List (ℕ × Event)) → filter (concerns R i) (steps_to g (steps_of reading calls)) ≡ concerning_steps_in R i g calls
unfolding steps_to concerning_steps_in
steps-asked R i g [] = refl
steps-asked R i g (c ∷ cs) = go (c.0 == g) (concerns R i (step_of c.1)) refl (steps-asked R i g cs)
  where
    go : (a b : Bool) → concerns R i (step_of c.1) ≡ b → filter (concerns R i) (steps_to g (steps_of reading cs)) ≡ concerning_steps_in R i g cs
        → filter (concerns R i) (if a then step_of c.1 ∷ steps_to g (steps_of reading cs) else steps_to g (steps_of reading cs))
        ≡ map (λ (x : ℕ × Event). step_of x.1) (if a && concerns R i (step_of c.1) then c ∷ filter (concerns_members R i g) cs else filter (concerns_members R i g) cs)
    go true true e ih = rw e (ap (λ (xs : List Step). step_of c.1 ∷ xs) ih)
    go true false e ih = rw e ih
    go false b e ih = ih

pub concerned_asked : (h : History) (c : Config) (g : ℕ) → config_of h.configs g ≡ Some c → (R : Names) (i : ℕ) → concerning_steps R i (answers reading h g) ≡ concerning_steps_in R i g h.calls
concerned_asked h c g is R i =
    ap (concerning_steps R i) (answers-run g (steps_of reading h.calls) (nets h.configs) (new_net c) (declared-net h.configs g c is))
    ∙ concerning_steps-run R i (steps_to g (steps_of reading h.calls)) (new_net c) ∙ steps-asked R i g h.calls

-- ---- a network that is not declared hosts nobody
pub nobody : (cs : List Config) (g u : ℕ) → config_of cs g ≡ None → is_some (slices_of (nodes_of cs g) u) ≡ false
nobody [] g u h = refl
nobody (k ∷ ks) g u h = go (k.number == g) refl h (nobody ks g u)
  where
    go : (b : Bool) → (k.number == g) ≡ b → (if b then Some k else config_of ks g) ≡ None → (config_of ks g ≡ None → is_some (slices_of (nodes_of ks g) u) ≡ false) → is_some (slices_of (nodes_of (k ∷ ks) g) u) ≡ false
    go true y e ih = absurd (cc)
    go false y e ih = rw y (ih e)

pub nodes_are : (cs : List Config) (g : ℕ) (c : Config) → config_of cs g ≡ Some c → c.nodes ≡ nodes_of cs g
nodes_are [] g c h = absurd (cc)
nodes_are (k ∷ ks) g c h = go (k.number == g) refl h (nodes_are ks g c)
  where
    go : (b : Bool) → (k.number == g) ≡ b → (if b then Some k else config_of ks g) ≡ Some c → (config_of ks g ≡ Some c → c.nodes ≡ nodes_of ks g) → c.nodes ≡ nodes_of (k ∷ ks) g
    go true y e ih = let q : k ≡ c = cc in rw y (sym (ap (λ (x : Config). x.nodes) q))
    go false y e ih = rw y (ih e)
