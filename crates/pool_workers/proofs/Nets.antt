-- Networks by number, and what they gained.
use Rattle.std.proofs.Common.{◌≡◌, ◌≤◌, ◌<◌, ◌+◌, nat_lt, ℕ, zero, suc, Bool, true, false, if◌then◌else◌, List, [], ◌∷◌, ◌++◌, length, length-append, get_or, drop, take, map, refl, sym, ap, ◌∙◌, subst, arith, None, inl, inr, reverse}
use Rattle.std.specs.List.{insert}
use Rattle.std.proofs.lemmas.Bool.Decides.{nat_tests}
use Rattle.std.proofs.lemmas.List.{drop-map, length-map, length-reverse, map-append, reverse-append, reverse-reverse, take-map}
use Rattle.std.proofs.lemmas.List.Edits.{length-insert}
use Rattle.std.proofs.lemmas.List.Elements.{All-cons, All-from_get_or, All-nil}
use Rattle.std.proofs.lemmas.List.Sorted.{All-permutation, IsPermutation-insert}
use Rattle.std.proofs.lemmas.Slice.Zip.{AllZip-long}
use Rattle.std.proofs.Math.Seq.{drop-append_seam}
use Rattle.pool_queue.specs.declared.rule.Job.{Job}
use Rattle.pool_queue.specs.Hands.{weigh}
use Rattle.pool_queue.proofs.Balances.{weigh-append}
use Rattle.pool_cell.specs.Sights.{CellSight}
use Rattle.pool_cell.specs.Receipts.{AppliedEvent}
use Rattle.pool_cell.specs.Views.{Denial, Knowledge}
use Rattle.pool_cell.specs.Sights.{SeatSight}
use Rattle.pool_workers.specs.declared.deal.SpareSeats.{SpareSeats}
use Rattle.pool_workers.specs.declared.host_state.HostState.{HostState}
use Rattle.pool_workers.specs.declared.running.Report.{Report}
use Rattle.pool_workers.specs.Sums.{AllGrown, IsLater, applied_of, heard_of, refused_of, seat_applied, seat_done, seat_heard, seat_refused, job, hears}
use Rattle.pool_workers.specs.Spares.{AllGrownSpares, HaveAllSeats, HasAllSeats, IsWorked, on_spares}
use Rattle.pool_workers.specs.HostStates.{IsNetworkPut, IsRemoved, IsSameHostState, IsTurned}
use Rattle.pool_workers.specs.NetSights.{NetSight}
use Rattle.pool_workers.specs.Nets.{AllElsewhere, AllGrownNets, AreJobsDone, IsHostState, IsKeptState, IsLeastNumber, IsTurnedState, NoNet, denials_gained, done_since, receipts_gained, heard_since, nets_in, nets_of, nets_with, over_nets, over_seats}
use Rattle.pool_workers.specs.Joining.{HasNet}
use Rattle.pool_workers.specs.Numbers.{AllAbove, AllLack, IsNumberAt, IsNumbered, IsRising, Lacks, cell_number}
use Rattle.pool_workers.proofs.Numbers.{IsPlace, lacks_at}
use Rattle.pool_workers.proofs.Pairs.{zip-same}
use Rattle.pool_workers.proofs.Worked.{grown_none, hosted_grown}

pub nets_len : {S H P : Type 0} → (cs : List CellSight) (bs : List (SpareSeats S H P)) → HaveAllSeats cs bs → length (nets_of cs bs) ≡ length cs
nets_len [] bs all = refl
nets_len (c ∷ cs) [] all = absurd all
nets_len (c ∷ cs) (b ∷ bs) all = ap suc (nets_len cs bs all.1)

no_net : {S H P : Type 0} → (cs : List CellSight) (bs : List (SpareSeats S H P)) (x : ℕ) → Lacks cs x → NoNet (nets_of cs bs) x
no_net [] bs x l = tt
no_net (c ∷ cs) [] x l = tt
no_net (c ∷ cs) (b ∷ bs) x l = (l 0 c (omega arith), no_net cs bs x (λ k d lt. l (suc k) d (omega arith)))

elsewhere : {S H P : Type 0} → (cs : List CellSight) (bs : List (SpareSeats S H P)) (js : List Job) → AllLack cs js → AllElsewhere (nets_of cs bs) js
elsewhere cs bs js all k d lt = no_net cs bs (get_or js k d).network (all k d lt)

-- one network more

rising_insert : (ns : List ℕ) (i x : ℕ) → IsRising ns → IsPlace ns x i → IsRising (insert ns i x)
rising_insert [] zero x up p = (All-nil (λ y. x < y), tt)
rising_insert [] (suc i) x up p = (All-nil (λ y. x < y), tt)
rising_insert (n ∷ ns) zero x up p = (All-from_get_or (λ y. x < y) (n ∷ ns) 0 (λ k lt. p.2 k (omega arith) lt), up)
rising_insert (n ∷ ns) (suc i) x up p = (
  All-permutation (λ y. n < y) (x ∷ ns) (insert ns i x) (IsPermutation-insert ns i x) (All-cons (λ y. n < y) x ns (p.1 0 (omega arith)) up.0),
  rising_insert ns i x up.1 ((let l = p.0 in omega arith), (λ k lt. p.1 (suc k) (omega arith)), (λ k le lt. p.2 (suc k) (omega arith) (omega arith))),
)

insert_numbers : (cs : List CellSight) (i : ℕ) (c : CellSight) → insert (map cell_number cs) i (cell_number c) ≡ map cell_number (insert cs i c)
insert_numbers cs i c = (λ j. take-map cell_number i cs j ++ cell_number c ∷ drop-map cell_number i cs j) ∙ sym (map-append cell_number (take i cs) (c ∷ drop i cs))

insert_hosted : {S H P : Type 0} → (cs : List CellSight) (bs : List (SpareSeats S H P)) (i : ℕ) (c : CellSight) (b : (SpareSeats S H P)) → i ≤ length cs → HaveAllSeats cs bs → HasAllSeats c b.seats.items → HaveAllSeats (insert cs i c) (insert bs i b)
insert_hosted [] [] zero c b le all one = (one, tt)
insert_hosted [] [] (suc i) c b le all one = absurd (omega arith)
insert_hosted [] (x ∷ bs) i c b le all one = absurd all
insert_hosted (d ∷ cs) [] i c b le all one = absurd all
insert_hosted (d ∷ cs) (x ∷ bs) zero c b le all one = (one, all)
insert_hosted (d ∷ cs) (x ∷ bs) (suc i) c b le all one = (all.0, insert_hosted cs bs i c b (omega arith) all.1 one)

is_below : (a b : ℕ) → a < b → nat_lt a b ≡ true
is_below a b h = grind (arith, nat_tests, h)

not_below : (a b : ℕ) → b < a → nat_lt a b ≡ false
not_below a b h = grind (arith, nat_tests, h)

insert_nets : {S H P : Type 0} → (cs : List CellSight) (bs : List (SpareSeats S H P)) (i : ℕ) (c : CellSight) (b : (SpareSeats S H P)) → HaveAllSeats cs bs → IsPlace (map cell_number cs) (cell_number c) i → nets_of (insert cs i c) (insert bs i b) ≡ nets_with (record { cell = c; seats = b.seats.items }) (nets_of cs bs)
insert_nets [] [] zero c b all p = refl
insert_nets [] [] (suc i) c b all p = absurd (let l = p.0 in omega arith)
insert_nets [] (x ∷ bs) i c b all p = absurd all
insert_nets (d ∷ cs) [] i c b all p = absurd all
insert_nets (d ∷ cs) (x ∷ bs) zero c b all p =
    let n : NetSight = record { cell = c; seats = b.seats.items } in
    let m : NetSight = record { cell = d; seats = x.seats.items } in
    sym (ap (λ (t : Bool). if t then m ∷ nets_with n (nets_of cs bs) else n ∷ m ∷ nets_of cs bs) (not_below (cell_number d) (cell_number c) (p.2 0 (omega arith) (omega arith))))
insert_nets (d ∷ cs) (x ∷ bs) (suc i) c b all p =
    let n : NetSight = record { cell = c; seats = b.seats.items } in
    let m : NetSight = record { cell = d; seats = x.seats.items } in
    ap (λ l. m ∷ l) (insert_nets cs bs i c b all.1 ((let l = p.0 in omega arith), (λ k lt. p.1 (suc k) (omega arith)), (λ k le lt. p.2 (suc k) (omega arith) (omega arith))))
    ∙ sym (ap (λ (t : Bool). if t then m ∷ nets_with n (nets_of cs bs) else n ∷ m ∷ nets_of cs bs) (is_below (cell_number d) (cell_number c) (p.1 0 (omega arith))))

pub place_fits : {S H P : Type 0} → (f g : (HostState S H P)) (x i : ℕ) → IsHostState f → IsSameHostState f g → IsPlace f.shared.numbers.items x i → (i ≤ length g.shared.numbers.items) × (i ≤ length g.shared.cells.items) × (i ≤ length g.spares.items)
place_fits f g x i is same p =
    let a = ap (λ (l : List ℕ). length l) same.numbers in
    let b = ap (λ (l : List CellSight). length l) same.cells in
    let c = ap (λ (l : List (SpareSeats _ _ _)). length l) same.spares in
    let n = ap (λ (l : List ℕ). length l) is.numbered.0 ∙ length-map f.shared.cells.items cell_number in
    let h = AllZip-long _ f.shared.cells.items f.spares.items is.hosted in
    let le = p.0 in
    (omega arith, omega arith, omega arith)

-- a network joins
pub joins : {S H P : Type 0} → (f g h : (HostState S H P)) (i : ℕ) (c : CellSight) (seats : List SeatSight) → IsHostState f → IsSameHostState f g → IsPlace f.shared.numbers.items (cell_number c) i → length f.shared.numbers.items < 4096 → HasAllSeats c seats → IsNetworkPut g i c seats h
    → IsHostState h × (nets_of h.shared.cells.items h.spares.items ≡ nets_with (record { cell = c; seats = seats }) (nets_of f.shared.cells.items f.spares.items))
joins f g h i c seats is same p few hosted put =
    let cs = f.shared.cells.items in
    let bs = f.spares.items in
    let q : IsPlace (map cell_number cs) (cell_number c) i = subst (λ (l : List ℕ). IsPlace l (cell_number c) i) is.numbered.0 p in
    let numbers : h.shared.numbers.items ≡ insert f.shared.numbers.items i (cell_number c) = put.numbers ∙ ap (λ l. insert l i (cell_number c)) same.numbers in
    let cells : h.shared.cells.items ≡ insert cs i c = put.cells ∙ ap (λ l. insert l i c) same.cells in
    let spares : h.spares.items ≡ insert bs i put.spare = put.spares ∙ ap (λ l. insert l i put.spare) same.spares in
    let le : i ≤ length cs = let a = q.0 in let b = length-map cs cell_number in omega arith in
    let n = ap (λ (l : List ℕ). length l) is.numbered.0 ∙ length-map cs cell_number in
    let len = length-insert cs i c le in
    let many = ap (λ (l : List CellSight). length l) cells in (
      record {
        numbered = (
          numbers ∙ ap (λ l. insert l i (cell_number c)) is.numbered.0 ∙ insert_numbers cs i c ∙ sym (ap (map cell_number) cells),
          subst IsRising (sym numbers) (rising_insert f.shared.numbers.items i (cell_number c) is.numbered.1 p),
        );
        hosted = subst (λ (z : List CellSight). HaveAllSeats z h.spares.items) (sym cells) (subst (HaveAllSeats (insert cs i c)) (sym spares) (insert_hosted cs bs i c put.spare le is.hosted (subst (HasAllSeats c) (sym put.own) hosted)));
        few = omega arith;
        closed = put.queue ∙ same.queue ∙ is.closed;
      },
      (λ j. nets_of (cells j) (spares j)) ∙ insert_nets cs bs i c put.spare is.hosted q ∙ ap (λ l. nets_with (record { cell = c; seats = l }) (nets_of cs bs)) put.own,
    )

pub joins_fresh : {S H P : Type 0} → (f : (HostState S H P)) (nets : List NetSight) (x i : ℕ) → nets_of f.shared.cells.items f.spares.items ≡ nets → IsHostState f → IsPlace f.shared.numbers.items x i → length f.shared.numbers.items < 4096 → NoNet nets x × (length nets < 4096)
joins_fresh f nets x i view is p few = subst (λ (l : List NetSight). NoNet l x × (length l < 4096)) view (
  no_net f.shared.cells.items f.spares.items x (lacks_at f.shared.numbers.items f.shared.cells.items x i is.numbered p),
  (let a = nets_len f.shared.cells.items f.spares.items is.hosted in
      let n = ap (λ (l : List ℕ). length l) is.numbered.0 ∙ length-map f.shared.cells.items cell_number in omega arith),
)

-- a network of the number that was found is there

has_net : {S H P : Type 0} → (cs : List CellSight) (bs : List (SpareSeats S H P)) (k x : ℕ) → HaveAllSeats cs bs → k < length cs → IsNumberAt cs k x → HasNet (nets_of cs bs) x
has_net [] bs k x all lt at = absurd (omega (arith, lt))
has_net (c ∷ cs) [] k x all lt at = absurd all
has_net (c ∷ cs) (b ∷ bs) zero x all lt at = inl (sym (at c))
has_net (c ∷ cs) (b ∷ bs) (suc k) x all lt at = inr (has_net cs bs k x all.1 (omega (arith, lt)) at)

pub joins_twice : {S H P : Type 0} → (f : (HostState S H P)) (nets : List NetSight) (x k : ℕ) → nets_of f.shared.cells.items f.spares.items ≡ nets → IsHostState f → (k < length f.shared.cells.items) × IsNumberAt f.shared.cells.items k x → HasNet nets x
joins_twice f nets x k view is there = subst (λ (l : List NetSight). HasNet l x) view (has_net f.shared.cells.items f.spares.items k x is.hosted there.0 there.1)

-- none of the number is there, and there are 4,096
pub joins_full : {S H P : Type 0} → (f : (HostState S H P)) (nets : List NetSight) (x i : ℕ) → nets_of f.shared.cells.items f.spares.items ≡ nets → IsHostState f → IsPlace f.shared.numbers.items x i → 4096 ≤ length f.shared.numbers.items → NoNet nets x × (length nets ≡ 4096)
joins_full f nets x i view is p many = subst (λ (l : List NetSight). NoNet l x × (length l ≡ 4096)) view (
  no_net f.shared.cells.items f.spares.items x (lacks_at f.shared.numbers.items f.shared.cells.items x i is.numbered p),
  (let a = nets_len f.shared.cells.items f.spares.items is.hosted in
      let few = is.few in
      let n = ap (λ (l : List ℕ). length l) is.numbered.0 ∙ length-map f.shared.cells.items cell_number in omega arith),
)

-- networks that stand turned around

pub kept_len : {S H P : Type 0} → (b : Bool) (f : (HostState S H P)) → IsKeptState b f → length (nets_in b f) ≡ length f.shared.cells.items
kept_len true f is = nets_len (reverse f.shared.cells.items) (reverse f.spares.items) is.hosted ∙ length-reverse f.shared.cells.items
kept_len false f is = nets_len f.shared.cells.items f.spares.items is.hosted

pub turned : {S H P : Type 0} → (b w : Bool) (f g : (HostState S H P)) → (b ≡ w → ⊥) → IsTurned f g → IsKeptState b f → IsKeptState w g × (nets_in w g ≡ nets_in b f)
turned true true f g apart is kept = absurd (apart refl)
turned false false f g apart is kept = absurd (apart refl)
turned {S} {H} {P} true false f g apart is kept =
    let few = kept.few in
    let n = ap (λ (l : List CellSight). length l) is.cells ∙ length-reverse f.shared.cells.items in (
      record {
        numbered = subst (λ (z : List ℕ × List CellSight). IsNumbered z.0 z.1) (λ i. (sym is.numbers i, sym is.cells i)) kept.numbered;
        hosted = subst (λ (z : List CellSight × List (SpareSeats S H P)). HaveAllSeats z.0 z.1) (λ i. (sym is.cells i, sym is.spares i)) kept.hosted;
        few = omega arith;
        closed = is.queue ∙ kept.closed;
      },
      (λ i. nets_of (is.cells i) (is.spares i)),
    )
turned {S} {H} {P} false true f g apart is kept =
    let few = kept.few in
    let n = ap (λ (l : List CellSight). length l) is.cells ∙ length-reverse f.shared.cells.items in
    let numbers : reverse g.shared.numbers.items ≡ f.shared.numbers.items = ap (λ l. reverse l) is.numbers ∙ reverse-reverse f.shared.numbers.items in
    let cells : reverse g.shared.cells.items ≡ f.shared.cells.items = ap (λ l. reverse l) is.cells ∙ reverse-reverse f.shared.cells.items in
    let spares : reverse g.spares.items ≡ f.spares.items = ap (λ l. reverse l) is.spares ∙ reverse-reverse f.spares.items in (
      record {
        numbered = subst (λ (z : List ℕ × List CellSight). IsNumbered z.0 z.1) (λ i. (sym numbers i, sym cells i)) kept.numbered;
        hosted = subst (λ (z : List CellSight × List (SpareSeats S H P)). HaveAllSeats z.0 z.1) (λ i. (sym cells i, sym spares i)) kept.hosted;
        few = omega arith;
        closed = is.queue ∙ kept.closed;
      },
      (λ i. nets_of (cells i) (spares i)),
    )

pub turned_long : {S H P : Type 0} → (f : (HostState S H P)) → IsTurnedState f → (length f.shared.numbers.items ≡ length f.shared.cells.items) × (length f.spares.items ≡ length f.shared.cells.items)
turned_long f is =
    let n = ap (λ (l : List ℕ). length l) is.numbered.0 ∙ length-map (reverse f.shared.cells.items) cell_number in
    let h = AllZip-long _ (reverse f.shared.cells.items) (reverse f.spares.items) is.hosted in
    let a = length-reverse f.shared.numbers.items in
    let b = length-reverse f.shared.cells.items in
    let d = length-reverse f.spares.items in (omega arith, omega arith)

pub as_wanted : {S H P : Type 0} → (b w : Bool) (f : (HostState S H P)) → b ≡ w → IsKeptState b f → IsKeptState w f × (nets_in w f ≡ nets_in b f)
as_wanted b w f same kept = (subst (λ t. IsKeptState t f) same kept, ap (λ t. nets_in t f) (sym same))

-- of networks that stand turned around the last one leaves, which has the least number

least : {S H P : Type 0} → (c : CellSight) (seats : List SeatSight) (cs : List CellSight) (bs : List (SpareSeats S H P)) → AllAbove (cell_number c) (map cell_number cs) → IsLeastNumber (record { cell = c; seats = seats }) (nets_of cs bs)
least c seats [] bs up = tt
least c seats (d ∷ cs) [] up = tt
least c seats (d ∷ cs) (b ∷ bs) up = (up 0 0 (omega arith), least c seats cs bs (λ k e lt. up (suc k) e (omega (arith, lt))))

pub leaves : {S H P : Type 0} → (f g : (HostState S H P)) (c : CellSight) (seats : List SeatSight) → IsTurnedState f → IsRemoved f c seats g
    → IsTurnedState g × HasAllSeats c seats × IsLeastNumber (record { cell = c; seats = seats }) (nets_in true g) × (nets_in true f ≡ record { cell = c; seats = seats } ∷ nets_in true g)
leaves {S} {H} {P} f g c seats is gone =
    let ns = reverse g.shared.numbers.items in
    let cs = reverse g.shared.cells.items in
    let bs = reverse g.spares.items in
    let numbers : reverse f.shared.numbers.items ≡ gone.number ∷ ns = ap (λ l. reverse l) gone.numbers ∙ reverse-append g.shared.numbers.items (gone.number ∷ []) in
    let cells : reverse f.shared.cells.items ≡ c ∷ cs = ap (λ l. reverse l) gone.cells ∙ reverse-append g.shared.cells.items (c ∷ []) in
    let spares : reverse f.spares.items ≡ gone.spare ∷ bs = ap (λ l. reverse l) gone.spares ∙ reverse-append g.spares.items (gone.spare ∷ []) in
    let numbered : IsNumbered (gone.number ∷ ns) (c ∷ cs) = subst (λ (z : List ℕ × List CellSight). IsNumbered z.0 z.1) (λ i. (numbers i, cells i)) is.numbered in
    let hosted : HaveAllSeats (c ∷ cs) (gone.spare ∷ bs) = subst (λ (z : List CellSight × List (SpareSeats S H P)). HaveAllSeats z.0 z.1) (λ i. (cells i, spares i)) is.hosted in
    let first : gone.number ≡ cell_number c = ap (λ l. get_or l 0 0) numbered.0 in
    let others : ns ≡ map cell_number cs = ap (λ l. drop 1 l) numbered.0 in
    let n = ap (λ (l : List CellSight). length l) gone.cells ∙ length-append g.shared.cells.items (c ∷ []) in
    let few = is.few in (
      record { numbered = (others, numbered.1.1); hosted = hosted.1; few = omega arith; closed = gone.queue ∙ is.closed },
      subst (HasAllSeats c) gone.own hosted.0,
      least c seats cs bs (subst (λ (z : ℕ × List ℕ). AllAbove z.0 z.1) (λ i. (first i, others i)) numbered.1.0),
      (λ i. nets_of (cells i) (spares i)) ∙ ap (λ (l : List SeatSight). record { cell = c; seats = l } ∷ nets_of cs bs) gone.own,
    )

-- what was gained

pub gains_seats : (f : Knowledge → ℕ) (g : SeatSight → SeatSight → ℕ) → ((a b : SeatSight) → IsLater a b → f b.me ≡ f a.me + g a b) → (xs ys : List SeatSight) → AllGrown xs ys → weigh (λ (s : SeatSight). f s.me) ys ≡ weigh (λ (s : SeatSight). f s.me) xs + over_seats g xs ys
gains_seats f g one [] [] all = refl
gains_seats f g one [] (y ∷ ys) all = absurd all
gains_seats f g one (x ∷ xs) [] all = absurd all
gains_seats f g one (x ∷ xs) (y ∷ ys) all = let a = one x y all.0 in let r = gains_seats f g one xs ys all.1 in omega arith

gains : {S H P : Type 0} → (f : Knowledge → ℕ) (g : SeatSight → SeatSight → ℕ) → ((a b : SeatSight) → IsLater a b → f b.me ≡ f a.me + g a b) → (cs : List CellSight) (xs ys : List (SpareSeats S H P)) → HaveAllSeats cs xs → AllGrownSpares xs ys → on_spares f ys ≡ on_spares f xs + over_nets g (nets_of cs xs) (nets_of cs ys)
gains f g one [] [] [] hosted all = refl
gains f g one [] [] (y ∷ ys) hosted all = absurd all
gains f g one [] (x ∷ xs) ys hosted all = absurd hosted
gains f g one (c ∷ cs) [] ys hosted all = absurd hosted
gains f g one (c ∷ cs) (x ∷ xs) [] hosted all = absurd all
gains f g one (c ∷ cs) (x ∷ xs) (y ∷ ys) hosted all =
    let a = gains_seats f g one x.seats.items y.seats.items all.0.0 in
    let r = gains f g one cs xs ys hosted.1 all.1 in omega arith

gained_is : (a b : SeatSight) (l : IsLater a b) → receipts_gained a b ≡ l.receipts
gained_is a b l = ap (drop (length a.me.receipts)) l.gained ∙ drop-append_seam a.me.receipts l.receipts

denied_is : (a b : SeatSight) (l : IsLater a b) → denials_gained a b ≡ l.denials
denied_is a b l = ap (drop (length a.me.denials)) l.refused ∙ drop-append_seam a.me.denials l.denials

pub one_done : (h : Job → ℕ) (a b : SeatSight) → IsLater a b → seat_done h b.me ≡ seat_done h a.me + done_since h a b
one_done h a b l =
    let p : applied_of h b.me.config b.me.receipts ≡ applied_of h a.me.config a.me.receipts + applied_of h a.me.config (receipts_gained a b) =
    (λ i. applied_of h (l.config i) (l.gained i)) ∙ weigh-append (λ (r : AppliedEvent). h (job a.me.config.number r.event)) a.me.receipts l.receipts ∙ ap (λ x. applied_of h a.me.config a.me.receipts + applied_of h a.me.config x) (sym (gained_is a b l)) in
    let q : refused_of h b.me.config b.me.denials ≡ refused_of h a.me.config a.me.denials + refused_of h a.me.config (denials_gained a b) =
    (λ i. refused_of h (l.config i) (l.refused i)) ∙ weigh-append (λ (r : Denial). h (job a.me.config.number r.event)) a.me.denials l.denials ∙ ap (λ x. refused_of h a.me.config a.me.denials + refused_of h a.me.config x) (sym (denied_is a b l)) in
    omega arith

pub one_heard : (h : Job → ℕ) (a b : SeatSight) → IsLater a b → seat_heard h b.me ≡ seat_heard h a.me + heard_since h a b
one_heard h a b l =
    (λ i. heard_of h (l.config i) (l.gained i)) ∙ weigh-append (λ (r : AppliedEvent). weigh h (hears a.me.config r)) a.me.receipts l.receipts ∙ ap (λ x. heard_of h a.me.config a.me.receipts + heard_of h a.me.config x) (sym (gained_is a b l))

pub one_applied : (a b : SeatSight) → IsLater a b → seat_applied b.me ≡ seat_applied a.me + length (receipts_gained a b)
one_applied a b l = ap (λ (x : List AppliedEvent). length x) l.gained ∙ length-append a.me.receipts l.receipts ∙ ap (λ (x : List AppliedEvent). length a.me.receipts + length x) (sym (gained_is a b l))

pub one_refused : (a b : SeatSight) → IsLater a b → seat_refused b.me ≡ seat_refused a.me + length (denials_gained a b)
one_refused a b l = ap (λ (x : List Denial). length x) l.refused ∙ length-append a.me.denials l.denials ∙ ap (λ (x : List Denial). length a.me.denials + length x) (sym (denied_is a b l))

pub is_done : {S H P : Type 0} → (cs : List CellSight) (xs ys : List (SpareSeats S H P)) (came went : (Job → ℕ) → ℕ) (r : Report) → HaveAllSeats cs xs → AllGrownSpares xs ys → IsWorked cs xs ys came went r → AreJobsDone (nets_of cs xs) (nets_of cs ys) came went r
is_done cs xs ys came went r hosted grown w = record {
  lacking = w.lacking;
  elsewhere = elsewhere cs xs w.lacking w.elsewhere;
  sum = λ h.
      let s = w.sum h in
      let a = gains (seat_done h) (done_since h) (one_done h) cs xs ys hosted grown in
      let b = gains (seat_heard h) (heard_since h) (one_heard h) cs xs ys hosted grown in omega arith;
  applied = (let s = w.applied in let a = gains seat_applied (λ a b. length (receipts_gained a b)) one_applied cs xs ys hosted grown in omega arith);
  refused = (let s = w.refused in let a = gains seat_refused (λ a b. length (denials_gained a b)) one_refused cs xs ys hosted grown in omega arith);
  unrun = w.unrun;
}

grown_nets : {S H P : Type 0} → (cs : List CellSight) (xs ys : List (SpareSeats S H P)) → HaveAllSeats cs xs → AllGrownSpares xs ys → AllGrownNets (nets_of cs xs) (nets_of cs ys)
grown_nets [] xs ys hosted all = tt
grown_nets (c ∷ cs) [] ys hosted all = absurd hosted
grown_nets (c ∷ cs) (x ∷ xs) [] hosted all = absurd all
grown_nets (c ∷ cs) (x ∷ xs) (y ∷ ys) hosted all = ((refl, all.0.0), grown_nets cs xs ys hosted.1 all.1)

pub grown_host_state : {S H P : Type 0} → (cs ds : List CellSight) (xs ys : List (SpareSeats S H P)) → ds ≡ cs → HaveAllSeats cs xs → AllGrownSpares xs ys → AllGrownNets (nets_of cs xs) (nets_of ds ys)
grown_host_state cs ds xs ys is hosted all = subst (λ (l : List CellSight). AllGrownNets (nets_of cs xs) (nets_of l ys)) (sym is) (grown_nets cs xs ys hosted all)

pub host_state_after : {S H P : Type 0} → (f g : (HostState S H P)) → IsHostState f → g.shared.numbers ≡ f.shared.numbers → g.shared.cells ≡ f.shared.cells → g.shared.queue ≡ None → AllGrownSpares f.spares.items g.spares.items → IsHostState g
host_state_after f g is numbers cells queue grown = record {
  numbered = subst (λ (z : List ℕ × List CellSight). IsNumbered z.0 z.1) (λ i. ((sym numbers i).items, (sym cells i).items)) is.numbered;
  hosted = subst (λ (z : List CellSight). HaveAllSeats z g.spares.items) (λ i. (sym cells i).items) (hosted_grown f.shared.cells.items f.spares.items g.spares.items is.hosted grown);
  few = subst (λ (z : List CellSight). length z ≤ 4096) (λ i. (sym cells i).items) is.few;
  closed = queue;
}

pub numbered_len : (ns : List ℕ) (cs : List CellSight) → IsNumbered ns cs → length ns ≡ length cs
numbered_len ns cs n = ap (λ (l : List ℕ). length l) n.0 ∙ length-map cs cell_number

pub nets_same : (ns : List NetSight) → AllGrownNets ns ns
nets_same ns = zip-same (λ (a b : NetSight). (b.cell ≡ a.cell) × AllGrown a.seats b.seats) (λ n. (refl, grown_none n.seats)) ns

pub done_after : {S H P : Type 0} → (f g : (HostState S H P)) (nets : List NetSight) (came went : (Job → ℕ) → ℕ) (r : Report) → IsHostState f → nets_of f.shared.cells.items f.spares.items ≡ nets → g.shared.cells ≡ f.shared.cells → AllGrownSpares f.spares.items g.spares.items → IsWorked f.shared.cells.items f.spares.items g.spares.items came went r → AreJobsDone nets (nets_of g.shared.cells.items g.spares.items) came went r
done_after f g nets came went r is view cells grown w =
    subst (λ (z : List NetSight × List CellSight). AreJobsDone z.0 (nets_of z.1 g.spares.items) came went r) (λ i. (view i, (sym cells i).items))
    (is_done f.shared.cells.items f.spares.items g.spares.items came went r is.hosted grown w)

pub grown_after : {S H P : Type 0} → (f g : (HostState S H P)) (nets : List NetSight) → IsHostState f → nets_of f.shared.cells.items f.spares.items ≡ nets → g.shared.cells ≡ f.shared.cells → AllGrownSpares f.spares.items g.spares.items → AllGrownNets nets (nets_of g.shared.cells.items g.spares.items)
grown_after f g nets is view cells grown =
    subst (λ (l : List NetSight). AllGrownNets l (nets_of g.shared.cells.items g.spares.items)) view
    (grown_host_state f.shared.cells.items g.shared.cells.items f.spares.items g.spares.items (ap (λ v. v.items) cells) is.hosted grown)
