-- The sums of all workers, when the queue is closed.
use Rattle.std.proofs.Common.{◌≡◌, ◌<◌, ◌+◌, ℕ, List, [], ◌∷◌, ◌++◌, length, length-append, take, map, get_or, slice_set, refl, sym, ap, ◌∙◌, subst, arith, Option, Some, None, append_assoc, append-nil}
use Rattle.std.specs.Option.{option_to_list}
use Rattle.std.proofs.lemmas.List.{take_more}
use Rattle.std.proofs.lemmas.List.Elements.{All-append, All-cons, All-map, All-nil, All-tail}
use Rattle.crossbeam_queue.specs.Passes.{Pass, view}
use Rattle.pool_queue.specs.declared.rule.Job.{Job}
use Rattle.pool_queue.specs.declared.rule.Hand.{Hand}
use Rattle.pool_queue.specs.declared.line.Queue.{Queue}
use Rattle.pool_queue.specs.Hands.{all_parts, weigh}
use Rattle.pool_queue.specs.Queues.{put_by, taken_by, parts_by, parts, AllPasses, IsOf}
use Rattle.pool_queue.proofs.Balances.{weigh-append}
use Rattle.pool_cell.specs.Sights.{CellSight}
use Rattle.pool_workers.specs.declared.worker.Worker.{Worker}
use Rattle.pool_workers.specs.Sums.{AllLaterWorkers, AllPassing, AllReady, AreSumsClosed, KeepsSums, IsPassing, IsReadyWorker, IsSummed, weight_followed, at_rest, denials_of, weight_done, hand_of, applied_count, refused_count, parts_of, passes_of, weight_put, receipts_of, weight_taken}
use Rattle.pool_workers.specs.Numbers.{IsElsewhere}
use Rattle.pool_workers.proofs.Pairs.{zip-then}
use Rattle.pool_workers.proofs.Sums.{all_later_both, all_later_none}

pub ready_at : {S H P : Type 0} → (cs : List CellSight) (q : Option Queue) (ws : List (Worker S H P)) (k : ℕ) (w : (Worker S H P)) → AllReady cs q ws → k < length ws → w ≡ get_or ws k w → IsReadyWorker cs q w
ready_at cs q ws k w all lt at = subst (IsReadyWorker cs q) (sym at) (all k w lt)

-- the passes of the workers

passes_of-append : {S H P : Type 0} → (xs : List (Worker S H P)) (w : (Worker S H P)) → passes_of (xs ++ w ∷ []) ≡ passes_of xs ++ option_to_list w.pass
passes_of-append [] w = append-nil _
passes_of-append (x ∷ xs) w = ap (λ l. option_to_list x.pass ++ l) (passes_of-append xs w) ∙ sym (append_assoc (option_to_list x.pass) (passes_of xs) (option_to_list w.pass))

pub passes_more : {S H P : Type 0} → (xs : List (Worker S H P)) (i : ℕ) (w : (Worker S H P)) → i < length xs → w ≡ get_or xs i w → passes_of (take (i + 1) xs) ≡ passes_of (take i xs) ++ option_to_list w.pass
passes_more xs i w lt at = ap passes_of (take_more xs i w lt ∙ ap (λ (y : (Worker _ _ _)). take i xs ++ y ∷ []) (sym at)) ∙ passes_of-append (take i xs) w

one_weighs : (f : Pass Job Hand → ℕ) (g : Hand → ℕ) → ((p : Pass Job Hand) → f p ≡ g (view p)) → g (hand_of None) ≡ 0 → (o : Option (Pass Job Hand)) → weigh f (option_to_list o) ≡ g (hand_of o)
one_weighs f g same none None = sym none
one_weighs f g same none (Some p) = let s = same p in omega arith

all_weigh : {S H P : Type 0} → (f : Pass Job Hand → ℕ) (g : Hand → ℕ) → ((p : Pass Job Hand) → f p ≡ g (view p)) → g (hand_of None) ≡ 0 → (ws : List (Worker S H P)) → weigh f (passes_of ws) ≡ weigh (λ (w : (Worker S H P)). g (hand_of w.pass)) ws
all_weigh f g same none [] = refl
all_weigh f g same none (w ∷ ws) =
    let a = weigh-append f (option_to_list w.pass) (passes_of ws) in
    let o = one_weighs f g same none w.pass in
    let r = all_weigh f g same none ws in omega arith

pub put_weighs : (h : Job → ℕ) (o : Option (Pass Job Hand)) → put_by h (option_to_list o) ≡ weigh h (hand_of o).put
put_weighs h o = one_weighs (λ (p : Pass Job Hand). weigh h (view p).put) (λ (v : Hand). weigh h v.put) (λ p. refl) refl o

pub taken_weighs : (h : Job → ℕ) (o : Option (Pass Job Hand)) → taken_by h (option_to_list o) ≡ weigh h (hand_of o).taken
taken_weighs h o = one_weighs (λ (p : Pass Job Hand). weigh h (view p).taken) (λ (v : Hand). weigh h v.taken) (λ p. refl) refl o

pub parts_weigh : (o : Option (Pass Job Hand)) → parts_by (option_to_list o) ≡ (hand_of o).parts
parts_weigh o = one_weighs parts (λ (v : Hand). v.parts) (λ p. refl) refl o

all_put : {S H P : Type 0} → (h : Job → ℕ) (ws : List (Worker S H P)) → put_by h (passes_of ws) ≡ weigh (weight_put h) ws
all_put h ws = all_weigh (λ (p : Pass Job Hand). weigh h (view p).put) (λ (v : Hand). weigh h v.put) (λ p. refl) refl ws

all_taken : {S H P : Type 0} → (h : Job → ℕ) (ws : List (Worker S H P)) → taken_by h (passes_of ws) ≡ weigh (weight_taken h) ws
all_taken h ws = all_weigh (λ (p : Pass Job Hand). weigh h (view p).taken) (λ (v : Hand). weigh h v.taken) (λ p. refl) refl ws

all_parts_of : {S H P : Type 0} → (ws : List (Worker S H P)) → parts_by (passes_of ws) ≡ weigh parts_of ws
all_parts_of ws = all_weigh parts (λ (v : Hand). v.parts) (λ p. refl) refl ws

pub parts_all : {S H P : Type 0} → (ps qs : List (Pass Job Hand)) (ws : List (Worker S H P)) → qs ≡ ps ++ passes_of ws → parts_by ps + weigh parts_of ws ≡ all_parts → parts_by qs ≡ all_parts
parts_all ps qs ws is all = ap parts_by is ∙ weigh-append parts ps (passes_of ws) ∙ (let a = all_parts_of ws in omega arith)

pub passing_one : (q : Option Queue) (o : Option (Pass Job Hand)) → IsPassing q o → AllPassing q (option_to_list o)
passing_one q None p = All-nil (λ r. IsPassing q (Some r))
passing_one q (Some x) p = All-cons (λ r. IsPassing q (Some r)) x [] p (All-nil (λ r. IsPassing q (Some r)))

passing_workers : {S H P : Type 0} → (cs : List CellSight) (q : Option Queue) (ws : List (Worker S H P)) → AllReady cs q ws → AllPassing q (passes_of ws)
passing_workers cs q [] all = All-nil (λ r. IsPassing q (Some r))
passing_workers cs q (w ∷ ws) all =
    All-append (λ r. IsPassing q (Some r)) (option_to_list w.pass) (passes_of ws) (passing_one q w.pass (all 0 w (omega arith)).passing)
    (passing_workers cs q ws (All-tail (IsReadyWorker cs q) w ws all))

pub all_pass : {S H P : Type 0} → (cs : List CellSight) (o : Option Queue) (q : Queue) (ps qs : List (Pass Job Hand)) (ws : List (Worker S H P)) → o ≡ Some q → qs ≡ ps ++ passes_of ws → AllPassing o ps → AllReady cs o ws → AllPasses (IsOf q) qs
all_pass cs o q ps qs ws some is p r =
    subst (λ x. AllPassing x qs) some (subst (AllPassing o) (sym is) (All-append (λ x. IsPassing o (Some x)) ps (passes_of ws) p (passing_workers cs o ws r)))

-- workers without passes

pub rest_ready : {S H P : Type 0} → (cs : List CellSight) (q : Option Queue) (ws : List (Worker S H P)) → AllReady cs q ws → AllReady cs None (map at_rest ws)
rest_ready cs q ws all = All-map (IsReadyWorker cs None) at_rest ws (λ k d lt. let r = all k d lt in record { seated = r.seated; passing = tt; past = r.past })

weigh_rest : {S H P : Type 0} → (f : (Worker S H P) → ℕ) (ws : List (Worker S H P)) → weigh f (map at_rest ws) ≡ weigh (λ (w : (Worker S H P)). f (at_rest w)) ws
weigh_rest f [] = refl
weigh_rest f (w ∷ ws) = let r = weigh_rest f ws in omega arith

rest_later : {S H P : Type 0} → (ws : List (Worker S H P)) → AllLaterWorkers ws (map at_rest ws)
rest_later [] = tt
rest_later (w ∷ ws) = (all_later_none w.seats.items, rest_later ws)

no_put : (h : Job → ℕ) (o : Option (Pass Job Hand)) → IsPassing None o → (weigh h (hand_of o).put ≡ 0) × (weigh h (hand_of o).taken ≡ 0)
no_put h None n = (refl, refl)
no_put h (Some p) n = absurd n

pub later_workers_both : {S H P : Type 0} → (xs ys zs : List (Worker S H P)) → AllLaterWorkers xs ys → AllLaterWorkers ys zs → AllLaterWorkers xs zs
later_workers_both xs ys zs a b = zip-then _ _ _ (λ (x y z : Worker _ _ _). all_later_both x.seats.items y.seats.items z.seats.items) xs ys zs a b

-- what the first worker does at the end closes the sums of all
pub closed : {S H P : Type 0} → (cs : List CellSight) (xs zs : List (Worker S H P)) (ps qs : List (Pass Job Hand)) (a c : (Worker S H P)) (left : List Job)
    → 0 < length xs → a ≡ get_or (map at_rest xs) 0 a → zs ≡ slice_set (map at_rest xs) 0 c → qs ≡ ps ++ passes_of xs → ((h : Job → ℕ) → put_by h qs ≡ taken_by h qs + weigh h left)
    → IsPassing None c.pass → KeepsSums cs left a c → AreSumsClosed cs ps xs zs
closed cs [] zs ps qs a c left lt at after all close nc k = absurd (omega arith)
closed cs (x ∷ xs) zs ps qs a c left lt at after all close nc kept =
    let k : KeepsSums cs left (at_rest x) c = subst (λ (y : (Worker _ _ _)). KeepsSums cs left y c) at kept in
    let w : (f : (Worker _ _ _) → ℕ) → weigh f zs ≡ f c + weigh (λ (w : (Worker _ _ _)). f (at_rest w)) xs = λ f. ap (weigh f) after ∙ (let r = weigh_rest f xs in omega arith) in
    record {
      lacking = k.lacking;
      elsewhere = k.elsewhere;
      sum = λ h.
          let s = k.sum h in
          let d = w (weight_done h) in
          let e = w (weight_followed h) in
          let p : put_by h qs ≡ put_by h ps + weigh (weight_put h) (x ∷ xs) = ap (put_by h) all ∙ weigh-append (λ (p : Pass Job Hand). weigh h (view p).put) ps (passes_of (x ∷ xs)) ∙ (let r = all_put h (x ∷ xs) in omega arith) in
          let t : taken_by h qs ≡ taken_by h ps + weigh (weight_taken h) (x ∷ xs) = ap (taken_by h) all ∙ weigh-append (λ (p : Pass Job Hand). weigh h (view p).taken) ps (passes_of (x ∷ xs)) ∙ (let r = all_taken h (x ∷ xs) in omega arith) in
          let n = no_put h c.pass nc in
          let n0 = n.0 in let n1 = n.1 in
          let v = close h in omega arith;
      applied = let s = k.applied in let d = w applied_count in let e = w receipts_of in omega arith;
      refused = let s = k.refused in let d = w refused_count in let e = w denials_of in omega arith;
      later = subst (AllLaterWorkers (x ∷ xs)) (sym after) (k.later, rest_later xs);
    }

-- all sums of a run
pub closed_after : {S H P : Type 0} → (cs : List CellSight) (ps : List (Pass Job Hand)) (xs ys zs : List (Worker S H P)) → IsSummed cs xs ys → AreSumsClosed cs ps ys zs → AreSumsClosed cs ps xs zs
closed_after cs ps xs ys zs s e = record {
  lacking = s.lacking ++ e.lacking;
  elsewhere = All-append (IsElsewhere cs) s.lacking e.lacking s.elsewhere e.elsewhere;
  sum = λ h. let x = s.sum h in let y = e.sum h in let z = weigh-append h s.lacking e.lacking in omega arith;
  applied = let x = s.applied in let y = e.applied in omega arith;
  refused = let x = s.refused in let y = e.refused in let z = length-append s.lacking e.lacking in omega arith;
  later = later_workers_both xs ys zs s.later e.later;
}

pub rest_first : {S H P : Type 0} → (cs : List CellSight) (q : Option Queue) (xs ys : List (Worker S H P)) (d : (Worker S H P)) → 0 < length xs → ys ≡ map at_rest xs → AllReady cs q xs → IsReadyWorker cs None (get_or ys 0 d)
rest_first cs q [] ys d lt is all = absurd (omega arith)
rest_first cs q (x ∷ xs) ys d lt is all = subst (λ (l : List (Worker _ _ _)). IsReadyWorker cs None (get_or l 0 d)) (sym is) (rest_ready cs q (x ∷ xs) all 0 d (omega arith))

rest_is : {S H P : Type 0} → (xs ys : List (Worker S H P)) (d : (Worker S H P)) → 0 < length xs → ys ≡ map at_rest xs → get_or ys 0 d ≡ get_or (map at_rest xs) 0 (get_or ys 0 d)
rest_is [] ys d lt is = absurd (omega arith)
rest_is (x ∷ xs) ys d lt is = ap (λ (l : List (Worker _ _ _)). get_or l 0 d) is

pub closed_by : {S H P : Type 0} → (cs : List CellSight) (xs ys : List (Worker S H P)) (ps qs : List (Pass Job Hand)) (d c : (Worker S H P)) (left : List Job)
    → 0 < length xs → ys ≡ map at_rest xs → qs ≡ ps ++ passes_of xs → ((h : Job → ℕ) → put_by h qs ≡ taken_by h qs + weigh h left)
    → IsPassing None c.pass → KeepsSums cs left (get_or ys 0 d) c → AreSumsClosed cs ps xs (slice_set ys 0 c)
closed_by cs xs ys ps qs d c left lt is all close passing kept =
    closed cs xs (slice_set ys 0 c) ps qs (get_or ys 0 d) c left lt (rest_is xs ys d lt is) (ap (λ (l : List (Worker _ _ _)). slice_set l 0 c) is) all close passing kept
