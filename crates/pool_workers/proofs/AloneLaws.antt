-- What one worker without a queue does at one cell.
use Rattle.std.proofs.Common.{◌≡◌, ◌∙◌, get_or, slice_set, List, [], ◌∷◌, length, refl, sym, ap, subst, arith, Option, Some, None}
use Rattle.std.specs.Prelude.{◌≢◌}
use Rattle.std.proofs.lemmas.List.Elements.{All-cons, All-head, All-nil}
use Rattle.crossbeam_queue.specs.Passes.{Pass}
use Rattle.pool_queue.specs.declared.rule.Job.{Job}
use Rattle.pool_queue.specs.declared.rule.Hand.{Hand}
use Rattle.pool_queue.specs.Hands.{weigh}
use Rattle.pool_cell.specs.Sights.{CellSight, SeatSight}
use Rattle.pool_workers.specs.declared.running.Report.{Report}
use Rattle.pool_workers.specs.declared.worker.Worker.{Worker}
use Rattle.pool_workers.specs.Alone.{IsRunAlone}
use Rattle.pool_workers.specs.Nets.{denials_gained, done_since, heard_since, receipts_gained}
use Rattle.pool_workers.specs.Numbers.{Lacks}
use Rattle.pool_workers.specs.Sums.{AllGrown, AllPast, IsPassing, IsPast, IsReadyWorker, KeepsSums, applied_many, done_by, followed_by, hand_of, refused_many, seat_applied, seat_done, seat_heard, seat_refused}
use Rattle.pool_workers.proofs.Nets.{gains_seats, one_applied, one_done, one_heard, one_refused}
use Rattle.pool_workers.proofs.Sums.{all_later_both, later_let_go}
use Rattle.pool_workers.proofs.Worked.{followed_past}

-- the seat, which has let go of all its receipts
abbrev pub let_go : SeatSight → SeatSight
let_go s = record s { let_go = length s.me.receipts }

pub one_let_go : (old : List SeatSight) (s x y : SeatSight) → old ≡ s ∷ [] → x ≡ get_or old 0 x → y ≡ let_go x → slice_set old 0 y ≡ let_go s ∷ []
one_let_go old s x y is at gone = (λ i. slice_set (is i) 0 (gone i)) ∙ ap (λ z. let_go z ∷ []) (at ∙ ap (λ l. get_or l 0 x) is)

none_passing : (o : Option (Pass Job Hand)) → IsPassing None o → o ≡ None
none_passing None h = refl
none_passing (Some p) h = absurd h

pub alone : {S H P : Type 0} → (c : CellSight) (cs : List CellSight) (old : List SeatSight) (s : SeatSight) (jobs : List Job) (a b : Worker S H P) (r : Report) → cs ≡ c ∷ [] → old ≡ s ∷ [] → a.seats.items ≡ let_go s ∷ [] → a.pass ≡ None
    → a.applied ≡ 0 → a.refused ≡ 0 → IsReadyWorker cs None b → KeepsSums cs jobs a b → r.applied ≡ b.applied → r.refused ≡ b.refused → r.unrun ≡ 0 → IsRunAlone c old b.seats.items jobs r
alone c cs old s jobs a b r cells olds seats pass applied refused end kept applied_is refused_is unrun =
    let ys = b.seats.items in
    let grown : AllGrown (s ∷ []) ys = all_later_both (s ∷ []) (let_go s ∷ []) ys (later_let_go s (length s.me.receipts), tt) (subst (λ xs. AllGrown xs ys) seats kept.later) in
    let past : AllPast a.seats.items = subst AllPast (sym seats) (All-cons IsPast (let_go s) [] (omega arith) (All-nil IsPast)) in
    let free : b.pass ≡ None = none_passing b.pass end.passing in
    subst (λ xs. IsRunAlone c xs ys jobs r) (sym olds)
    (record {
      grown = grown;
      done = record {
        lacking = kept.lacking;
        elsewhere = λ k d lt. (All-head (λ (x : CellSight). (get_or kept.lacking k d).network ≢ x.config.number) c [] (subst (λ ds. Lacks ds (get_or kept.lacking k d).network) cells (kept.elsewhere k d lt)), tt);
        sum = λ h.
            let sum = kept.sum h in
            let a0 : weigh h (hand_of a.pass).put ≡ 0 = ap (λ p. weigh h (hand_of p).put) pass in
            let a1 : weigh h (hand_of a.pass).taken ≡ 0 = ap (λ p. weigh h (hand_of p).taken) pass in
            let b0 : weigh h (hand_of b.pass).put ≡ 0 = ap (λ p. weigh h (hand_of p).put) free in
            let b1 : weigh h (hand_of b.pass).taken ≡ 0 = ap (λ p. weigh h (hand_of p).taken) free in
            let d : weigh (done_by h) a.seats.items ≡ weigh (λ (x : SeatSight). seat_done h x.me) (s ∷ []) = ap (weigh (done_by h)) seats in
            let f : weigh (followed_by h) a.seats.items ≡ weigh (λ (x : SeatSight). seat_heard h x.me) (s ∷ []) = followed_past h a.seats.items past ∙ ap (weigh (λ (x : SeatSight). seat_heard h x.me)) seats in
            let g = followed_past h ys end.past in
            let m = gains_seats (seat_done h) (done_since h) (one_done h) (s ∷ []) ys grown in
            let n = gains_seats (seat_heard h) (heard_since h) (one_heard h) (s ∷ []) ys grown in omega arith;
        applied =
            (let k = kept.applied in
            let d : weigh applied_many a.seats.items ≡ weigh (λ (x : SeatSight). seat_applied x.me) (s ∷ []) = ap (weigh applied_many) seats in
            let m = gains_seats seat_applied (λ a b. length (receipts_gained a b)) one_applied (s ∷ []) ys grown in omega arith);
        refused =
            (let k = kept.refused in
            let d : weigh refused_many a.seats.items ≡ weigh (λ (x : SeatSight). seat_refused x.me) (s ∷ []) = ap (weigh refused_many) seats in
            let m = gains_seats seat_refused (λ a b. length (denials_gained a b)) one_refused (s ∷ []) ys grown in omega arith);
        unrun = unrun;
      };
    })
