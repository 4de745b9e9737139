-- Jobs that are put before a run, by the first of new passes.
use Rattle.std.proofs.Common.{◌≡◌, ◌∙◌, ◌<◌, ◌+◌, ◌++◌, ℕ, List, [], ◌∷◌, get_or, length, refl, slice_set, subst, sym, ap, ap₂, arith}
use Rattle.std.specs.Prelude.{reverse}
use Rattle.std.proofs.lemmas.List.Elements.{All-cons, All-head, All-tail}
use Rattle.crossbeam_queue.specs.Passes.{Pass, view}
use Rattle.pool_queue.specs.Hands.{weigh}
use Rattle.pool_queue.specs.Queues.{AllPasses, IsFresh, IsOf, parts_by, put_by, taken_by}
use Rattle.pool_queue.specs.declared.line.Queue.{Queue}
use Rattle.pool_queue.specs.declared.rule.Hand.{Hand}
use Rattle.pool_queue.specs.declared.rule.Job.{Job}
use Rattle.pool_queue.proofs.Balances.{weigh-append}
use Rattle.pool_workers.proofs.Sums.{weigh-turned}

-- what was put and what is left weigh what there was
pub put_and_left : (h : Job → ℕ) (old new put : List Job) → old ≡ new ++ reverse put → weigh h put + weigh h new ≡ weigh h old
put_and_left h old new put is =
    let a = ap (weigh h) is in
    let b = weigh-append h new (reverse put) in
    let c = weigh-turned h put (reverse put) refl in omega arith

pub first_fresh : (q : Queue) (ps : List (Pass Job Hand)) (p : Pass Job Hand) → AllPasses (IsFresh q) ps → 0 < length ps → p ≡ get_or ps 0 p → IsFresh q p
first_fresh q [] p all some is = absurd (omega arith)
first_fresh q (x ∷ ps) p all some is = subst (IsFresh q) (sym is) (All-head (IsFresh q) x ps all)

fresh_own : (q : Queue) (ps : List (Pass Job Hand)) → AllPasses (IsFresh q) ps → AllPasses (IsOf q) ps
fresh_own q ps all k d lt = (all k d lt).own

fresh_put : (q : Queue) (ps : List (Pass Job Hand)) → AllPasses (IsFresh q) ps → (h : Job → ℕ) → put_by h ps ≡ 0
fresh_put q [] all h = refl
fresh_put q (p ∷ ps) all h = ap₂ (λ a b. a + b) (ap (weigh h) (All-head (IsFresh q) p ps all).put) (fresh_put q ps (All-tail (IsFresh q) p ps all) h)

fresh_taken : (q : Queue) (ps : List (Pass Job Hand)) → AllPasses (IsFresh q) ps → (h : Job → ℕ) → taken_by h ps ≡ 0
fresh_taken q [] all h = refl
fresh_taken q (p ∷ ps) all h = ap₂ (λ a b. a + b) (ap (weigh h) (All-head (IsFresh q) p ps all).taken) (fresh_taken q ps (All-tail (IsFresh q) p ps all) h)

-- the first pass has put jobs
module _ (q : Queue) (a b : Pass Job Hand) (put : List Job) (own : IsOf q b) (parts : (view b).parts ≡ (view a).parts) (more : (view b).put ≡ (view a).put ++ put)
    (taken : (view b).taken ≡ (view a).taken) where
  pub offered_own : (ps : List (Pass Job Hand)) → AllPasses (IsFresh q) ps → 0 < length ps → AllPasses (IsOf q) (slice_set ps 0 b)
  offered_own [] all some = absurd (omega arith)
  offered_own (p ∷ ps) all some = All-cons (IsOf q) b ps own (fresh_own q ps (All-tail (IsFresh q) p ps all))

  pub offered_parts : (ps : List (Pass Job Hand)) → 0 < length ps → a ≡ get_or ps 0 a → parts_by (slice_set ps 0 b) ≡ parts_by ps
  offered_parts [] some is = absurd (omega arith)
  offered_parts (p ∷ ps) some is = let e = parts ∙ ap (λ (x : Pass Job Hand). (view x).parts) is in omega arith

  pub offered_put : (ps : List (Pass Job Hand)) → AllPasses (IsFresh q) ps → 0 < length ps → a ≡ get_or ps 0 a → (h : Job → ℕ) → put_by h (slice_set ps 0 b) ≡ weigh h put
  offered_put [] all some is h = absurd (omega arith)
  offered_put (p ∷ ps) all some is h =
      let none : (view a).put ≡ [] = ap (λ (x : Pass Job Hand). (view x).put) is ∙ (All-head (IsFresh q) p ps all).put in
      let e : weigh h (view b).put ≡ weigh h put = ap (weigh h) (more ∙ ap (λ l. l ++ put) none) in
      let r = fresh_put q ps (All-tail (IsFresh q) p ps all) h in omega arith

  pub offered_taken : (ps : List (Pass Job Hand)) → AllPasses (IsFresh q) ps → 0 < length ps → a ≡ get_or ps 0 a → (h : Job → ℕ) → taken_by h (slice_set ps 0 b) ≡ 0
  offered_taken [] all some is h = absurd (omega arith)
  offered_taken (p ∷ ps) all some is h =
      let none : (view b).taken ≡ [] = taken ∙ ap (λ (x : Pass Job Hand). (view x).taken) is ∙ (All-head (IsFresh q) p ps all).taken in
      let e : weigh h (view b).taken ≡ 0 = ap (weigh h) none in
      let r = fresh_taken q ps (All-tail (IsFresh q) p ps all) h in omega arith
