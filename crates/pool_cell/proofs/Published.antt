-- What is published, waits, and is still in the journal alone, with each step.
use Rattle.std.proofs.Common.{◌≡◌, ℕ, suc, ◌+◌, ◌<◌, ◌≤◌, List, [], ◌∷◌, ◌++◌, length, map, sym, ap, ◌∙◌, subst, arith, append_assoc, length-append, Option, None, Some, is_some, option_map, option_to_list, Result, Ok, Err, is_ok, Bool, true, true≢false}
use Rattle.std.specs.Prelude.{IfOk, IfSome, OnErr, OnOk}
use Rattle.std.proofs.lemmas.List.{append-nil, length-map, map-append}
use mathlib.Core.List.{IsPrefix}
use mir.Val.{bool_byte}
use Rattle.scp_types.specs.declared.event.Refusal.{Refusal}
use Rattle.scp_spec.specs.Hosts.{Config, Entry}
use Rattle.scp_spec.specs.Networks.{Step}
use Rattle.scp_spec.specs.Runs.{IsRun}
use Rattle.pool_cell.specs.declared.decision.Decision.{Decision}
use Rattle.host_journal.specs.Deciding.{ExternalizedValue, decisions_at, decisions_by, decisions_from, decisions_in}
use Rattle.host_journal.specs.Logs.{Log, with_entry}
use Rattle.host_network.specs.declared.applied.Given.{Given}
use Rattle.host_journal.proofs.DecidedOnce.{decisions-few}
use Rattle.host_journal.proofs.DecisionLists.{decisions_by-append, decisions_from-extended, decisions_from-next}
use Rattle.pool_cell.specs.Publishing.{IsPublished, IsToldBut, as_published, decisions_known}

next : (entries : List Entry) (n : ℕ) → n < length entries → decisions_from entries n ≡ decisions_at entries n ++ decisions_from entries (n + 1)
next entries n lt = let one : suc n ≡ n + 1 = omega arith in decisions_from-next entries n lt ∙ ap (λ (k : ℕ). decisions_at entries n ++ decisions_from entries k) one

-- the entry decided nothing
pub none_more : (entries : List Entry) (n : ℕ) (p : List Decision × List Decision) → IsPublished entries n p → n < length entries → decisions_at entries n ≡ [] → IsPublished entries (n + 1) p
none_more entries n p h lt is = record {
  within = omega (arith, lt);
  all = ap (λ (ds : List ExternalizedValue). p.0 ++ p.1 ++ map as_published ds) (sym (next entries n lt ∙ ap (λ (ds : List ExternalizedValue). ds ++ decisions_from entries (n + 1)) is)) ∙ h.all;
}

-- it decided this, which waits now
pub one_more_waits : (entries : List Entry) (n : ℕ) (p q : List Decision × List Decision) (d : ExternalizedValue) → IsPublished entries n p → n < length entries → d ∷ [] ≡ decisions_at entries n
    → q.0 ≡ p.0 → q.1 ≡ p.1 ++ as_published d ∷ [] → IsPublished entries (n + 1) q
one_more_waits entries n p q d h lt is shown waiting =
    let rest : List Decision = map as_published (decisions_from entries (n + 1)) in
    let split : decisions_from entries n ≡ d ∷ decisions_from entries (n + 1) = next entries n lt ∙ ap (λ (ds : List ExternalizedValue). ds ++ decisions_from entries (n + 1)) (sym is) in
    record {
      within = omega (arith, lt);
      all = (λ i. shown i ++ waiting i ++ rest) ∙ ap (λ (l : List Decision). l ++ rest) (sym (append_assoc p.0 p.1 (as_published d ∷ []))) ∙ append_assoc (p.0 ++ p.1) (as_published d ∷ []) rest
          ∙ ap (λ (ds : List ExternalizedValue). p.0 ++ p.1 ++ map as_published ds) (sym split) ∙ h.all;
    }

-- with an entry more
pub entry_more : (entries : List Entry) (x : Entry) (n : ℕ) (p : List Decision × List Decision) → IsPublished entries n p → IsPublished (entries ++ x ∷ []) n p
entry_more entries x n p h =
    let front : List Decision = p.0 ++ p.1 in
    let rest : List Decision = map as_published (decisions_from entries n) in
    let new : List Decision = map as_published (decisions_in x) in
    let by : decisions_by (entries ++ x ∷ []) ≡ decisions_by entries ++ decisions_in x = decisions_by-append entries (x ∷ []) ∙ ap (λ (ds : List ExternalizedValue). decisions_by entries ++ ds) (append-nil (decisions_in x)) in
    record {
      within = subst (λ (k : ℕ). n ≤ k) (sym (length-append entries (x ∷ []))) (let w = h.within in omega (arith, w));
      all = ap (λ (ds : List ExternalizedValue). front ++ map as_published ds) (decisions_from-extended entries x n h.within) ∙ ap (λ (l : List Decision). front ++ l) (map-append as_published (decisions_from entries n) (decisions_in x))
          ∙ sym (append_assoc front rest new) ∙ ap (λ (l : List Decision). l ++ new) h.all ∙ sym (map-append as_published (decisions_by entries) (decisions_in x)) ∙ ap (map as_published) (sym by);
    }

pub after_event : (old new : Log) (e : Step) (n : ℕ) (p : List Decision × List Decision) (r : Result Given Refusal) → IfOk r (λ x. new ≡ with_entry old e x.outs.items) → OnErr r (new ≡ old)
    → IsPublished old.entries n p → IsPublished new.entries n p
after_event old new e n p (Ok x) ok err h = subst (λ (l : Log). IsPublished l.entries n p) (sym ok) (entry_more old.entries (record { event = e; outs = x.outs.items }) n p h)
after_event old new e n p (Err x) ok err h = subst (λ (l : Log). IsPublished l.entries n p) (sym err) h

-- the same, where there is a publisher
pub after_event_there : (old new : Log) (e : Step) (n : ℕ) (o : Option (List Decision × List Decision)) (r : Result Given Refusal) → IfOk r (λ x. new ≡ with_entry old e x.outs.items) → OnErr r (new ≡ old)
    → IfSome o (IsPublished old.entries n) → IfSome o (IsPublished new.entries n)
after_event_there old new e n None r ok err h = h
after_event_there old new e n (Some p) r ok err h = after_event old new e n p r ok err h

-- nothing has happened
pub nothing_yet : (o : Option (List Decision × List Decision)) → IfSome o (λ p. (p.0 ≡ []) × (p.1 ≡ [])) → IfSome o (IsPublished [] 0)
nothing_yet None h = h
nothing_yet (Some p) h = record { within = omega arith; all = λ i. h.0 i ++ h.1 i ++ [] }

-- of a publisher that is there
pub there : (entries : List Entry) (n : ℕ) (o : Option (List Decision × List Decision)) (p : List Decision × List Decision) → o ≡ Some p → IfSome o (IsPublished entries n) → IsPublished entries n p
there entries n o p is h = subst (λ (x : Option (List Decision × List Decision)). IfSome x (IsPublished entries n)) is h

-- what is published is a beginning
pub published_begins : (entries : List Entry) (n : ℕ) (p : List Decision × List Decision) → IsPublished entries n p → IsPrefix p.0 (decisions_known entries)
published_begins entries n p h = (p.1 ++ map as_published (decisions_from entries n), sym (append_assoc p.0 p.1 (map as_published (decisions_from entries n))) ∙ h.all)

pub told_but : (entries : List Entry) (n : ℕ) (p : List Decision × List Decision) (told : List Decision) (m : ℕ) → IsPublished entries n p → told ≡ p.0 → m ≡ length p.1 + length (decisions_from entries n) → IsToldBut entries m told
unfolding published_begins
told_but entries n p told m h is counted = record {
  rest = p.1 ++ map as_published (decisions_from entries n);
  all = ap (λ (l : List Decision). l ++ (p.1 ++ map as_published (decisions_from entries n))) is ∙ (published_begins entries n p h).1;
  counted = length-append p.1 (map as_published (decisions_from entries n)) ∙ ap (λ (k : ℕ). length p.1 + k) (length-map (decisions_from entries n) as_published) ∙ sym counted;
}

-- they are not more than entries
pub few_wait : (config : Config) (entries : List Entry) (n : ℕ) (p : List Decision × List Decision) → IsRun config entries → IsPublished entries n p → length p.1 + length (decisions_from entries n) ≤ length entries
few_wait config entries n p run h =
    let rest : List Decision = map as_published (decisions_from entries n) in
    let total : length (p.0 ++ p.1 ++ rest) ≡ length (decisions_by entries) = ap length h.all ∙ length-map (decisions_by entries) as_published in
    let outer = length-append (p.0 ++ p.1) rest in
    let inner = length-append p.0 p.1 in
    let mapped = length-map (decisions_from entries n) as_published in
    let few = decisions-few config entries run in
    omega (arith, total, outer, inner, mapped, few)

-- how many there are from a number on
pub count_next : (entries : List Entry) (n : ℕ) → n < length entries → length (decisions_from entries n) ≡ length (decisions_at entries n) + length (decisions_from entries (n + 1))
count_next entries n lt = ap length (next entries n lt) ∙ length-append (decisions_at entries n) (decisions_from entries (n + 1))

-- one or none at a number
pub count_one : {T : Type 0} (f : T → ExternalizedValue) (o : Option T) (b : Bool) (ds : List ExternalizedValue) → b ≡ is_some o → option_to_list (option_map f o) ≡ ds → bool_byte b ≡ length ds
count_one f None b ds is same = ap bool_byte is ∙ ap length same
count_one f (Some x) b ds is same = ap bool_byte is ∙ ap length same

-- what came of the attempt to append it
pub appended : {T E : Type 0} (entries : List Entry) (n : ℕ) (p q : List Decision × List Decision) (d : ExternalizedValue) (x : Decision) (r : Result T E) (b : Bool) → IsPublished entries n p → n < length entries → d ∷ [] ≡ decisions_at entries n
    → q.0 ≡ p.0 → OnOk r (q.1 ≡ p.1 ++ x ∷ []) → x ≡ as_published d → b ≡ is_ok r → b ≡ true → IsPublished entries (n + 1) q
appended entries n p q d x (Ok y) b h lt is shown ok same told done = one_more_waits entries n p q d h lt is shown (ok ∙ ap (λ (e : Decision). p.1 ++ e ∷ []) same)
appended entries n p q d x (Err y) b h lt is shown ok same told done = absurd (true≢false (sym done ∙ told))
