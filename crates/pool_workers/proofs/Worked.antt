-- What a run did, over all seats.
use Rattle.std.proofs.Common.{◌≡◌, ◌≤◌, ◌<◌, ◌+◌, ℕ, suc, List, [], ◌∷◌, ◌++◌, length, get_or, take, drop, refl, sym, ap, ◌∙◌, subst, arith, Option, Some, None, slice_get, vec_capacity}
use Rattle.std.specs.List.{AllZip}
use Rattle.std.proofs.lemmas.List.Elements.{All-cons, All-head, All-nil, All-pop, All-tail, AllZip-get_or, AllZip-push}
use Rattle.std.proofs.lemmas.Option.{get_or_from_slice_get, slice_get-get_or, slice_get_within}
use Rattle.std.proofs.lemmas.Slice.Zip.{AllZip-long}
use Rattle.std.proofs.lemmas.List.{take_all, take_more}
use Rattle.std.proofs.Math.Seq.{take-append_seam}
use Rattle.crossbeam_queue.specs.Passes.{Pass}
use Rattle.pool_queue.specs.declared.rule.Job.{Job}
use Rattle.pool_queue.specs.declared.rule.Hand.{Hand}
use Rattle.pool_queue.specs.declared.line.Queue.{Queue}
use Rattle.pool_queue.specs.Hands.{weigh}
use Rattle.pool_queue.specs.Queues.{put_by, taken_by}
use Rattle.pool_queue.proofs.Balances.{weigh-snoc}
use Rattle.pool_cell.specs.Sights.{CellSight}
use Rattle.pool_cell.specs.Cells.{IsSeatOf}
use Rattle.pool_cell.specs.Closing.{AllSeats}
use Rattle.pool_cell.specs.Sights.{SeatSight}
use Rattle.pool_cell.specs.Views.{Knowledge}
use Rattle.pool_workers.specs.declared.deal.SpareSeats.{SpareSeats}
use Rattle.pool_workers.specs.declared.running.Report.{Report}
use Rattle.pool_workers.specs.declared.worker.Worker.{Worker}
use Rattle.pool_workers.specs.Sums.{AllGrown, AllLaterWorkers, AllPast, AllReady, AllSeated, AreSumsClosed, IsPast, IsLater, IsReadyWorker, IsSeated, applied_count, weight_followed, followed_by, denials_of, weight_done, heard_of, receipts_of, refused_count, seat_applied, seat_done, seat_heard, seat_refused}
use Rattle.pool_workers.specs.Spares.{NoneHasCounted, AllGrownSpares, HaveSpareSeats, AllHold, HaveAllSeats, AllRoomy, IsCounted, HasAllSeats, AreSparesDealt, IsDealtAll, AreSeatsGivenBack, IsSplit, IsWorked, at_work, on_spares}
use Rattle.pool_workers.proofs.Pairs.{zip-same, zip-then}
use Rattle.pool_workers.proofs.Sums.{later_both, later_let_go, later_none}
use Rattle.pool_workers.proofs.Deals.{dealt_all_sum, dealt_len}

pub weigh_more : {X : Type 0} (f : X → ℕ) (xs : List X) (i : ℕ) (x : X) → i < length xs → x ≡ get_or xs i x → weigh f (take (i + 1) xs) ≡ weigh f (take i xs) + f x
weigh_more f xs i x lt at = ap (weigh f) (take_more xs i x lt ∙ ap (λ y. take i xs ++ y ∷ []) (sym at)) ∙ weigh-snoc f (take i xs) x

-- own seats of each cell

abbrev pub AllOwn : {S H P : Type 0} → List CellSight → List (SpareSeats S H P) → Type 0
AllOwn cs bs = AllZip (λ (c : CellSight) (b : SpareSeats _ _ _). AllSeats (IsSeatOf c) b.seats.items) cs bs

own : {S H P : Type 0} → (cs : List CellSight) (bs : List (SpareSeats S H P)) → HaveAllSeats cs bs → AllOwn cs bs
own [] [] all = tt
own [] (b ∷ bs) all = absurd all
own (c ∷ cs) [] all = absurd all
own (c ∷ cs) (b ∷ bs) all = (all.0.own, own cs bs all.1)

-- a seat that has let go of all its receipts
dealt_past : (c : CellSight) (spare s : SeatSight) → IsSeatOf c spare → s ≡ record spare { let_go = length spare.me.receipts } → IsSeated c s × IsPast s
dealt_past c spare s o is =
    subst (λ (t : SeatSight). IsSeated c t × IsPast t) (sym is) ((record { cell = o.cell; config = o.config; seats = o.seats; open_yet = o.open_yet }, omega arith), omega arith)

own_dealt : {S H P : Type 0} → (cs : List CellSight) (xs : List (SpareSeats S H P)) (ws : List SeatSight) (ys : List (SpareSeats S H P)) → AllOwn cs xs → AreSparesDealt xs ws ys → AllOwn cs ys × AllSeated cs ws × AllPast ws
own_dealt [] [] [] [] o d = (tt, tt, All-nil IsPast)
own_dealt [] [] [] (y ∷ ys) o d = absurd d
own_dealt [] [] (w ∷ ws) ys o d = absurd d
own_dealt [] (x ∷ xs) ws ys o d = absurd o
own_dealt (c ∷ cs) [] ws ys o d = absurd o
own_dealt (c ∷ cs) (x ∷ xs) [] ys o d = absurd d
own_dealt (c ∷ cs) (x ∷ xs) (w ∷ ws) [] o d = absurd d
own_dealt (c ∷ cs) (x ∷ xs) (w ∷ ws) (y ∷ ys) o d =
    let f = All-pop (IsSeatOf c) x.seats.items y.seats.items (Some d.0.spare) d.0.seats o.0 in
    let r = own_dealt cs xs ws ys o.1 d.1 in
    let one = dealt_past c d.0.spare w f.1 d.0.past in
    ((f.0, r.0), (one.0, r.1), All-cons IsPast w ws one.1 r.2)

ready_all : {S H P : Type 0} → (cs : List CellSight) (q : Option Queue) (before : List (SpareSeats S H P)) (ws : List (Worker S H P)) (after : List (SpareSeats S H P)) → AllOwn cs before → AllHold q ws → IsDealtAll before ws after → AllReady cs q ws
ready_all cs q before [] after o h d = All-nil (IsReadyWorker cs q)
ready_all cs q before (w ∷ ws) after o h d =
    let r = own_dealt cs before w.seats.items d.0 o d.1 in
    All-cons (IsReadyWorker cs q) w ws (record { seated = r.1; passing = h 0 w (omega arith); past = r.2 }) (ready_all cs q d.0 ws after r.0 (λ k v lt. h (suc k) v (omega arith)) d.2)

pub dealt_ready : {S H P : Type 0} → (cs : List CellSight) (q : Option Queue) (before : List (SpareSeats S H P)) (ws : List (Worker S H P)) (after : List (SpareSeats S H P)) → HaveAllSeats cs before → AllHold q ws → IsDealtAll before ws after → AllReady cs q ws
dealt_ready cs q before ws after hosted h d = ready_all cs q before ws after (own cs before hosted) h d

-- seats that have grown

pub grown_none : (xs : List SeatSight) → AllGrown xs xs
grown_none xs = zip-same IsLater later_none xs

pub grown_spares_none : {S H P : Type 0} → (bs : List (SpareSeats S H P)) → AllGrownSpares bs bs
grown_spares_none bs =
    zip-same (λ (a b : SpareSeats _ _ _). AllGrown a.seats.items b.seats.items × (vec_capacity b.seats ≡ vec_capacity a.seats)) (λ b. (grown_none b.seats.items, refl)) bs

later_dealt : (spare s t : SeatSight) → s ≡ record spare { let_go = length spare.me.receipts } → IsLater s t → IsLater spare t
later_dealt spare s t is later = later_both spare s t (subst (IsLater spare) (sym is) (later_let_go spare (length spare.me.receipts))) later

pub given_grown : {S H P : Type 0} → (before : List (SpareSeats S H P)) (ws : List SeatSight) (mid : List (SpareSeats S H P)) (zs : List SeatSight) (cur after : List (SpareSeats S H P)) → AreSparesDealt before ws mid → AllGrownSpares mid cur → AllGrown ws zs → AreSeatsGivenBack cur zs after → AllGrownSpares before after
given_grown [] [] [] [] [] [] d g l b = tt
given_grown [] [] [] [] [] (a ∷ after) d g l b = absurd b
given_grown [] [] [] [] (u ∷ cur) after d g l b = absurd g
given_grown [] [] [] (z ∷ zs) cur after d g l b = absurd l
given_grown [] [] (m ∷ mid) zs cur after d g l b = absurd d
given_grown [] (w ∷ ws) mid zs cur after d g l b = absurd d
given_grown (x ∷ before) [] mid zs cur after d g l b = absurd d
given_grown (x ∷ before) (w ∷ ws) [] zs cur after d g l b = absurd d
given_grown (x ∷ before) (w ∷ ws) (m ∷ mid) zs [] after d g l b = absurd g
given_grown (x ∷ before) (w ∷ ws) (m ∷ mid) [] (u ∷ cur) after d g l b = absurd l
given_grown (x ∷ before) (w ∷ ws) (m ∷ mid) (z ∷ zs) (u ∷ cur) [] d g l b = absurd b
given_grown (x ∷ before) (w ∷ ws) (m ∷ mid) (z ∷ zs) (u ∷ cur) (a ∷ after) d g l b = (
  (
    subst (λ (p : List SeatSight × List SeatSight). AllGrown p.0 p.1) (λ i. (sym d.0.seats i, sym b.0.seats i)) (AllZip-push IsLater m.seats.items u.seats.items d.0.spare z g.0.0 (later_dealt d.0.spare w z d.0.past l.0)),
    b.0.capacity ∙ g.0.1 ∙ d.0.capacity,
  ),
  given_grown before ws mid zs cur after d.1 g.1 l.1 b.1,
)

pub grown_roomy : {S H P : Type 0} → (before : List (SpareSeats S H P)) (ws : List SeatSight) (mid cur : List (SpareSeats S H P)) → AreSparesDealt before ws mid → AllGrownSpares mid cur → AllRoomy cur
grown_roomy before ws mid [] d g = All-nil (λ (s : SpareSeats _ _ _). length s.seats.items < vec_capacity s.seats)
grown_roomy before ws [] (u ∷ cur) d g = absurd g
grown_roomy [] [] (m ∷ mid) (u ∷ cur) d g = absurd d
grown_roomy [] (w ∷ ws) (m ∷ mid) (u ∷ cur) d g = absurd d
grown_roomy (x ∷ before) [] (m ∷ mid) (u ∷ cur) d g = absurd d
grown_roomy (x ∷ before) (w ∷ ws) (m ∷ mid) (u ∷ cur) d g =
    All-cons (λ (s : SpareSeats _ _ _). length s.seats.items < vec_capacity s.seats) u cur
    (let l = AllZip-long IsLater m.seats.items u.seats.items g.0.0 in let r = d.0.room in let c = g.0.1 in omega arith) (grown_roomy before ws mid cur d.1 g.1)

pub given_many : {S H P : Type 0} → (before : List (SpareSeats S H P)) (ws : List SeatSight) (mid cur : List (SpareSeats S H P)) (zs : List SeatSight) → AreSparesDealt before ws mid → AllGrownSpares mid cur → AllGrown ws zs → length zs ≡ length cur
given_many before ws mid cur zs d g l =
    let a = dealt_len before ws mid d in
    let a0 = a.0 in let a1 = a.1 in
    let b = AllZip-long _ mid cur g in
    let e = AllZip-long _ ws zs l in omega arith

pub empty : {X : Type 0} (xs : List X) → length xs ≡ 0 → xs ≡ []
empty [] len = refl
empty (x ∷ xs) len = absurd (omega arith)

pub all_given : {S H P : Type 0} → (before : List (SpareSeats S H P)) (ws : List (Worker S H P)) (mid cur : List (SpareSeats S H P)) (zs : List (Worker S H P)) → IsDealtAll before ws mid → AllLaterWorkers ws zs → zs ≡ [] → AllGrownSpares mid cur → AllGrownSpares before cur
all_given before ws mid cur zs d l none g =
    let e = empty ws (sym (AllZip-long _ ws zs l) ∙ ap (λ (v : List (Worker _ _ _)). length v) none) in
    let m : mid ≡ before = subst (λ (v : List (Worker _ _ _)). IsDealtAll before v mid) e d in
    subst (λ (b : List (SpareSeats _ _ _)). AllGrownSpares b cur) m g

-- sums

fresh_sums : {S H P : Type 0} → (ws : List (Worker S H P)) → NoneHasCounted ws → (weigh applied_count ws ≡ 0) × (weigh refused_count ws ≡ 0)
fresh_sums [] all = (refl, refl)
fresh_sums (w ∷ ws) all =
    let r = fresh_sums ws (λ k v lt. all (suc k) v (omega arith)) in
    let one = all 0 w (omega arith) in
    (omega (arith, r.0, one.0), omega (arith, r.1, one.1))

pub followed_past : (h : Job → ℕ) (ws : List SeatSight) → AllPast ws → weigh (followed_by h) ws ≡ weigh (λ (s : SeatSight). seat_heard h s.me) ws
followed_past h [] all = refl
followed_past h (w ∷ ws) all =
    let r = followed_past h ws (All-tail IsPast w ws all) in
    let e : followed_by h w ≡ seat_heard h w.me = ap (heard_of h w.me.config) (take_all w.let_go w.me.receipts (All-head IsPast w ws all)) in omega arith

followed_all : {S H P : Type 0} → (cs : List CellSight) (q : Option Queue) (h : Job → ℕ) (ws : List (Worker S H P)) → AllReady cs q ws → weigh (weight_followed h) ws ≡ at_work (seat_heard h) ws
followed_all cs q h [] all = refl
followed_all cs q h (w ∷ ws) all =
    let r = followed_all cs q h ws (All-tail (IsReadyWorker cs q) w ws all) in
    let e = followed_past h w.seats.items (All-head (IsReadyWorker cs q) w ws all).past in omega arith

pub worked : {S H P : Type 0} → (cs : List CellSight) (q : Option Queue) (xs mid ys : List (SpareSeats S H P)) (ws zs : List (Worker S H P)) (ps qs : List (Pass Job Hand)) (r : Report)
    → IsDealtAll xs ws mid → ((f : Knowledge → ℕ) → on_spares f ys ≡ on_spares f mid + at_work f zs) → NoneHasCounted ws → IsSplit ps ws qs → AllReady cs q ws → AllReady cs None zs
    → AreSumsClosed cs qs ws zs → IsCounted zs r → IsWorked cs xs ys (λ h. put_by h ps) (λ h. taken_by h ps) r
worked cs q xs mid ys ws zs ps qs r dealt given fresh split ready rest closed counted =
    let s : (f : Knowledge → ℕ) → on_spares f xs ≡ on_spares f mid + at_work f ws = λ f. dealt_all_sum f xs ws mid dealt in
    let n = fresh_sums ws fresh in
    let n0 = n.0 in let n1 = n.1 in
    record {
      lacking = closed.lacking;
      elsewhere = closed.elsewhere;
      sum = λ h.
          let c = closed.sum h in
          let p = split.put_all h in
          let t = split.taken_all h in
          let a = followed_all cs q h ws ready in
          let b = followed_all cs None h zs rest in
          let d : weigh (weight_done h) ws ≡ at_work (seat_done h) ws = refl in
          let e : weigh (weight_done h) zs ≡ at_work (seat_done h) zs = refl in
          let d0 = s (seat_done h) in
          let d1 = given (seat_done h) in
          let e0 = s (seat_heard h) in
          let e1 = given (seat_heard h) in omega arith;
      applied =
          (let c = closed.applied in
          let d : weigh receipts_of ws ≡ at_work seat_applied ws = refl in
          let e : weigh receipts_of zs ≡ at_work seat_applied zs = refl in
          let d0 = s seat_applied in
          let d1 = given seat_applied in
          let k = counted.applied in omega arith);
      refused =
          (let c = closed.refused in
          let d : weigh denials_of ws ≡ at_work seat_refused ws = refl in
          let e : weigh denials_of zs ≡ at_work seat_refused zs = refl in
          let d0 = s seat_refused in
          let d1 = given seat_refused in
          let k = counted.refused in omega arith);
      unrun = counted.unrun;
    }

-- hosted as before

own_grown : (c : CellSight) (xs ys : List SeatSight) → AllGrown xs ys → AllSeats (IsSeatOf c) xs → AllSeats (IsSeatOf c) ys
own_grown c xs ys g all k d lt =
    let within : k < length xs = omega (arith, lt, AllZip-long IsLater xs ys g) in
    let a = all k d within in
    let b = AllZip-get_or IsLater xs ys k d d g within in
    record { cell = b.cell ∙ a.cell; config = b.config ∙ a.config; seats = b.seats ∙ a.seats; open_yet = b.closed ∙ a.open_yet }

grown_at : (xs ys : List SeatSight) (i : ℕ) (s : SeatSight) → AllGrown xs ys → slice_get xs i ≡ Some s → (t : SeatSight) × (slice_get ys i ≡ Some t) × (t.me.number ≡ s.me.number)
grown_at xs ys i s g at =
    let lt = slice_get_within xs i s at in (
      get_or ys i s,
      slice_get-get_or ys i s (omega (arith, lt, AllZip-long IsLater xs ys g)),
      (AllZip-get_or IsLater xs ys i s s g lt).number ∙ ap (λ (v : SeatSight). v.me.number) (get_or_from_slice_get xs i s s at),
    )

pub seats_grown : (c : CellSight) (xs ys : List SeatSight) → HasAllSeats c xs → AllGrown xs ys → HasAllSeats c ys
seats_grown c xs ys h l = record {
  own = own_grown c xs ys l h.own;
  some = h.some;
  all = λ k lt. (let n = h.all k lt in let t = grown_at xs ys n.0 n.1 l n.2 in (n.0, t.0, t.1, t.2 ∙ n.3));
}

pub hosted_grown : {S H P : Type 0} → (cs : List CellSight) (xs ys : List (SpareSeats S H P)) → HaveAllSeats cs xs → AllGrownSpares xs ys → HaveAllSeats cs ys
hosted_grown cs xs ys all g =
    zip-then _ _ _
    (λ (c : CellSight) (x y : SpareSeats _ _ _) (h : HasAllSeats c x.seats.items) (l : AllGrown x.seats.items y.seats.items × (vec_capacity y.seats ≡ vec_capacity x.seats)). seats_grown c x.seats.items y.seats.items h l.0)
    cs xs ys all g

-- the workers that a call wrote back stand where they stood
pub written_back : {S H P : Type 0} → (n : ℕ) (xs ys : List (Worker S H P)) → AllLaterWorkers xs ys → n ≡ length xs → take n (ys ++ drop (length ys) xs) ≡ ys
written_back n xs ys later is = ap (λ (k : ℕ). take k (ys ++ drop (length ys) xs)) (is ∙ sym (AllZip-long _ xs ys later)) ∙ take-append_seam ys (drop (length ys) xs)

has_one : (xs : List SeatSight) (i : ℕ) (s : SeatSight) → slice_get xs i ≡ Some s → 1 ≤ length xs
has_one [] i s e = absurd (cc)
has_one (x ∷ xs) i s e = omega arith

pub hosted_have : {S H P : Type 0} → (cs : List CellSight) (bs : List (SpareSeats S H P)) → HaveAllSeats cs bs → HaveSpareSeats 1 bs
hosted_have [] [] all = All-nil (λ (s : SpareSeats _ _ _). 1 ≤ length s.seats.items)
hosted_have [] (b ∷ bs) all = absurd all
hosted_have (c ∷ cs) [] all = absurd all
hosted_have (c ∷ cs) (b ∷ bs) all =
    All-cons (λ (s : SpareSeats _ _ _). 1 ≤ length s.seats.items) b bs (let h = all.0.all 0 all.0.some in has_one b.seats.items h.0 h.1 h.2) (hosted_have cs bs all.1)
