-- What each seat knows stays right.
use Rattle.std.proofs.Common.{◌≡◌, ℕ, zero, suc, ◌<◌, ◌≤◌, ◌-◌, Bool, true, false, List, [], ◌∷◌, ◌++◌, length, take, Some, refl, sym, ap, ◌∙◌, subst, inl, inr, ⊎_elim, arith, length-append, append-nil, append_assoc, slice_get}
use mathlib.Core.List.{IsPrefix}
use Rattle.std.proofs.lemmas.List.{take-append-le}
use Rattle.std.proofs.Math.Seq.{take-append_seam, take-length}
use Rattle.std.proofs.lemmas.Option.{slice_get_within, slice_get-get_or}
use Rattle.std.proofs.Common.{get_or}
use Rattle.std.proofs.lemmas.List.Elements.{All-from_recursion, All-push, recursion_from_All}
use Rattle.std.specs.List.{All, AllByRecursion}
use Rattle.atomic_table.specs.Seated.{TableId}
use Rattle.crossbeam_queue.specs.Fifo.{Pushes}
use Rattle.crossbeam_queue.specs.Passes.{Pass, view}
use Rattle.scp_types.specs.declared.event.Event.{Event}
use Rattle.scp_types.specs.declared.event.Out.{Out}
use Rattle.scp_spec.specs.Hosts.{Config, Entry}
use Rattle.pool_cell.specs.declared.refusal.CellRefusal.{CellRefusal}
use Rattle.pool_cell.specs.Receipts.{AppliedEvent, Extract, extract, extract_of, receipt, receipt_entry}
use Rattle.pool_cell.specs.Views.{Denial, CellStateSight, Knowledge}
use Rattle.pool_cell.specs.Rule.{HasCellState, Holds, denial, IsStateTaken, after_application, after_denial, after_look, after_stop, cell_state_at, new_seat}
use Rattle.pool_cell.specs.Sights.{SeatSight}
use Rattle.pool_cell.specs.Sounds.{Stands, IsRight, IsWhy, AllStand, AllRight, RisesFrom, IsSound, IsFree, IsSeat}
use Rattle.pool_cell.specs.Cells.{AllFresh, IsSeatOf}
use Rattle.host_journal.proofs.Growing.{slice_get-snoc}
use Rattle.pool_cell.proofs.Moves.{looks, stops}

get_front : {A : Type 0} (xs ys : List A) (k : ℕ) (p : A) → slice_get xs k ≡ Some p → slice_get (xs ++ ys) k ≡ Some p
get_front [] ys k p e = absurd (cc)
get_front (x ∷ xs) ys zero p e = e
get_front (x ∷ xs) ys (suc k) p e = get_front xs ys k p e

get_last : {A : Type 0} (xs : List A) (p : A) → slice_get (xs ++ p ∷ []) (length xs) ≡ Some p
get_last [] p = refl
get_last (x ∷ xs) p = get_last xs p

take_front : (a b : List Entry) (n : ℕ) → IsPrefix a b → n ≤ length a → take n b ≡ take n a
take_front a b n p le = ap (λ (l : List Entry). take n l) (sym p.1) ∙ take-append-le n a p.0 le

prefix_length : (a b : List Entry) → IsPrefix a b → length a ≤ length b
prefix_length a b p = let e = ap length p.1 in omega (arith, length-append a p.0)

pub stand_more : (config : Config) (a b : List Entry) (rs : List AppliedEvent) → IsPrefix a b → AllStand config a rs → AllStand config b rs
stand_more config a b [] p s = tt
stand_more config a b (r ∷ rs) p s =
    let t = s.0 in
    let lt : r.number < length a = slice_get_within a r.number t.0 t.1 in
    let le : r.number ≤ length a = omega arith in
    ((t.0, subst (λ (l : List Entry). slice_get l r.number ≡ Some t.0) p.1 (get_front a p.0 r.number t.0 t.1), t.2 ∙ ap (λ (l : List Entry). extract config l t.0) (sym (take_front a b r.number p le))), stand_more config a b rs p s.1)

-- a reason is one after the same entries, and where the mark was set since
why_at : (c d : Config) (a b : List Entry) (s t : Bool) (event : Event) (r : CellRefusal) → c ≡ d → a ≡ b → (s ≡ true → t ≡ true) → IsWhy c a s event r → IsWhy d b t event r
why_at c d a b s t event r config entries up why =
    subst (λ (y : Config × List Entry). IsWhy y.0 y.1 t event r) (λ i. (config i, entries i)) (⊎_elim (λ m. inl m) (λ m. inr (⊎_elim (λ x. inl (x.0, up x.1)) (λ x. inr x) m)) why)

pub right_more : (config : Config) (a b : List Entry) (s t : Bool) (ds : List Denial) → IsPrefix a b → (s ≡ true → t ≡ true) → AllRight config a s ds → AllRight config b t ds
right_more config a b s t [] p up r = tt
right_more config a b s t (d ∷ ds) p up r =
    let one = r.0 in
    let le : d.length ≤ length b = let l = prefix_length a b p in let k = one.0 in omega arith in
    ((le, why_at config config (take d.length a) (take d.length b) s t d.event d.refusal refl (sym (take_front a b d.length p one.0)) up one.1), right_more config a b s t ds p up r.1)

all_more : {X : Type 0} (P : X → Type 0) (xs : List X) (x : X) → AllByRecursion P xs → P x → AllByRecursion P (xs ++ x ∷ [])
all_more P xs x all one = recursion_from_All P (xs ++ x ∷ []) (All-push P xs x (All-from_recursion P xs all) one)

rising_snoc : (config : Config) (a : List Entry) (n : ℕ) (rs : List AppliedEvent) (r : AppliedEvent) → RisesFrom n rs → AllStand config a rs → n ≤ r.number → length a ≤ r.number → RisesFrom n (rs ++ r ∷ [])
rising_snoc config a n [] r up all le far = (le, tt)
rising_snoc config a n (x ∷ xs) r up all le far =
    let within : x.number < length a = slice_get_within a x.number all.0.0 all.0.1 in
    (up.0, rising_snoc config a (suc x.number) xs r up.1 all.1 (omega arith) far)

-- what a seat claims is right of all that it sees at the cell state
sound_seen : (v : Knowledge) (x : CellStateSight) (w : Knowledge) (over : Bool) (stops : ℕ) → IsFree v → IsSound v → IsStateTaken v x w → (v.stopped ≡ true → over ≡ true)
    → IsSound (record w { holding = false; seen = w.all; stopped = over; stops = stops })
sound_seen v x w over stops f s t up =
    let config : w.config ≡ v.config = ap (λ (u : Knowledge). u.config) t.now in
    let receipts : w.receipts ≡ v.receipts = ap (λ (u : Knowledge). u.receipts) t.now in
    let denials : w.denials ≡ v.denials = ap (λ (u : Knowledge). u.denials) t.now in
    let p = t.seen f.live in
    record {
      stand = subst (λ (y : Config × List AppliedEvent). AllStand y.0 w.all y.1) (λ i. (sym config i, sym receipts i)) (stand_more v.config v.seen w.all v.receipts p s.stand);
      rising = subst (λ (l : List AppliedEvent). RisesFrom 0 l) (sym receipts) s.rising;
      right = subst (λ (y : Config × List Denial). AllRight y.0 w.all over y.1) (λ i. (sym config i, sym denials i)) (right_more v.config v.seen w.all v.stopped over v.denials p up s.right);
    }

-- a refusal
sound_denied : (v : Knowledge) (x : CellStateSight) (w : Knowledge) (event : Event) (refusal : CellRefusal) → IsFree v → IsSound v → IsStateTaken v x w → IsWhy x.log.config x.log.entries x.stopped event refusal → IsSound (after_denial w event refusal)
sound_denied v x w event refusal f s t why =
    let all : w.all ≡ x.log.entries = ap (λ (u : Knowledge). u.all) t.now in
    let over : w.over ≡ x.stopped = ap (λ (u : Knowledge). u.over) t.now in
    let config : w.config ≡ v.config = ap (λ (u : Knowledge). u.config) t.now in
    let one : IsRight w.config w.all w.over (denial event refusal (length w.all)) = (omega arith, why_at x.log.config w.config x.log.entries (take (length w.all) w.all) x.stopped w.over event refusal (t.config ∙ sym config) (sym all ∙ sym (take-length w.all)) (λ h. over ∙ h) why) in
    let before = sound_seen v x w w.over w.stops f s t (t.stopped f.live) in
    record { stand = before.stand; rising = before.rising; right = all_more (IsRight w.config w.all w.over) w.denials (denial event refusal (length w.all)) before.right one }

-- an application
sound_added : (v : Knowledge) (x : CellStateSight) (w : Knowledge) (r : AppliedEvent) → IsFree v → IsSound v → IsStateTaken v x w → extract_of r ≡ extract w.config w.all (receipt_entry r) → IsSound (after_application w r)
sound_added v x w r f s t made =
    let e : Entry = receipt_entry r in
    let number : r.number ≡ length w.all = ap (λ (y : Extract). y.number) made in
    let front : take r.number (w.all ++ e ∷ []) ≡ w.all = ap (λ (n : ℕ). take n (w.all ++ e ∷ [])) number ∙ take-append_seam w.all (e ∷ []) in
    let here : Stands w.config (w.all ++ e ∷ []) r = (e, ap (slice_get (w.all ++ e ∷ [])) number ∙ get_last w.all e, made ∙ ap (λ (l : List Entry). extract w.config l e) (sym front)) in
    let before = sound_seen v x w w.over w.stops f s t (t.stopped f.live) in
    record {
      stand = all_more (Stands w.config (w.all ++ e ∷ [])) w.receipts r (stand_more w.config w.all (w.all ++ e ∷ []) w.receipts (e ∷ [], refl) before.stand) here;
      rising = rising_snoc w.config w.all 0 w.receipts r before.rising before.stand (omega arith) (omega (arith, number));
      right = right_more w.config w.all (w.all ++ e ∷ []) w.over w.over w.denials (e ∷ [], refl) (λ over. over) before.right;
    }

-- the view after the cell state was put back: the seat is the same and may act
abbrev IsBack : Knowledge → Knowledge → Type 0
IsBack w u = (u.number ≡ w.number) × (u.known ≡ w.known) × (u.live ≡ w.live) × (u.claims ≡ w.claims) × (u.opens ≡ w.opens) × (u.holding ≡ false)

seat_back : (p q r : Pass CellStateSight Knowledge) (n : ℕ) (rs now : List AppliedEvent) (x : CellStateSight) (u : Knowledge) → IsSeat p n rs → IsStateTaken (view p) x (view q) → q.me.1 ≡ p.me.1 → r.me.1 ≡ q.me.1
    → view r ≡ u → IsBack (view q) u → (gone : List AppliedEvent) → u.receipts ≡ gone ++ now → IsSound u → IsSeat r n now
seat_back p q r n rs now x u s t one two is same gone receipts sound =
    let f = s.free in
    let free : IsFree u = record {
      known = same.1 ∙ ap (λ (y : Knowledge). y.known) t.now ∙ f.known;
      live = same.2 ∙ ap (λ (y : Knowledge). y.live) t.now ∙ f.live;
      claims = same.3 ∙ ap (λ (y : Knowledge). y.claims) t.now ∙ f.claims;
      opens = same.4 ∙ ap (λ (y : Knowledge). y.opens) t.now ∙ f.opens;
      holding = same.5;
    } in
    record {
      no_slot = two ∙ one ∙ s.no_slot;
      number = ap (λ (y : Knowledge). y.number) is ∙ same.0 ∙ ap (λ (y : Knowledge). y.number) t.now ∙ s.number;
      gone = gone;
      receipts = ap (λ (y : Knowledge). y.receipts) is ∙ receipts;
      free = subst IsFree (sym is) free;
      sound = subst IsSound (sym is) sound;
    }

-- the receipts of one that took the cell state
receipts_there : (p q : Pass CellStateSight Knowledge) (n : ℕ) (rs : List AppliedEvent) (x : CellStateSight) → (s : IsSeat p n rs) → IsStateTaken (view p) x (view q) → (view q).receipts ≡ s.gone ++ rs
receipts_there p q n rs x s t = ap (λ (y : Knowledge). y.receipts) t.now ∙ s.receipts

pub seat_denied : (p q r : Pass CellStateSight Knowledge) (n : ℕ) (rs now : List AppliedEvent) (x : CellStateSight) (event : Event) (refusal : CellRefusal) → IsSeat p n rs → IsStateTaken (view p) x (view q) → q.me.1 ≡ p.me.1 → r.me.1 ≡ q.me.1
    → view r ≡ after_denial (view q) event refusal → now ≡ rs → IsWhy x.log.config x.log.entries x.stopped event refusal → IsSeat r n now
seat_denied p q r n rs now x event refusal s t one two is same why =
    seat_back p q r n rs now x (after_denial (view q) event refusal) s t one two is (refl, refl, refl, refl, refl, refl) s.gone (receipts_there p q n rs x s t ∙ ap (λ (l : List AppliedEvent). s.gone ++ l) (sym same))
    (sound_denied (view p) x (view q) event refusal s.free s.sound t why)

pub seat_added : (p q r : Pass CellStateSight Knowledge) (n : ℕ) (rs now : List AppliedEvent) (x : CellStateSight) (a : AppliedEvent) → IsSeat p n rs → IsStateTaken (view p) x (view q) → q.me.1 ≡ p.me.1 → r.me.1 ≡ q.me.1
    → view r ≡ after_application (view q) a → now ≡ rs ++ a ∷ [] → extract_of a ≡ extract (view q).config (view q).all (receipt_entry a) → IsSeat r n now
seat_added p q r n rs now x a s t one two is same made =
    seat_back p q r n rs now x (after_application (view q) a) s t one two is (refl, refl, refl, refl, refl, refl) s.gone
    (ap (λ (l : List AppliedEvent). l ++ a ∷ []) (receipts_there p q n rs x s t) ∙ append_assoc s.gone rs (a ∷ []) ∙ ap (λ (l : List AppliedEvent). s.gone ++ l) (sym same)) (sound_added (view p) x (view q) a s.free s.sound t made)

-- a receipt that was made at the cell state
pub made_at : (v : Knowledge) (x : CellStateSight) (w : Knowledge) (event : Event) (outs : List Out) (a : AppliedEvent) → IsStateTaken v x w → a ≡ receipt x.log.config x.log.entries event outs → extract_of a ≡ extract w.config w.all (receipt_entry a)
made_at v x w event outs a t is =
    let all : x.log.entries ≡ w.all = sym (ap (λ (u : Knowledge). u.all) t.now) in
    let config : x.log.config ≡ w.config = t.config ∙ sym (ap (λ (u : Knowledge). u.config) t.now) in
    ap extract_of is ∙ (λ i. extract (config i) (all i) (receipt_entry (sym is i)))

-- what was seen before is a beginning of what is seen after an application
pub seen_added : (v : Knowledge) (x : CellStateSight) (w u : Knowledge) (r : AppliedEvent) → IsFree v → IsStateTaken v x w → u ≡ after_application w r → IsPrefix v.seen u.seen
seen_added v x w u r f t is = let p = t.seen f.live in
    (p.0 ++ receipt_entry r ∷ [], sym (append_assoc v.seen p.0 (receipt_entry r ∷ [])) ∙ ap (λ (l : List Entry). l ++ receipt_entry r ∷ []) p.1 ∙ sym (ap (λ (y : Knowledge). y.seen) is))

pub seat_stopped : (p q r : Pass CellStateSight Knowledge) (n : ℕ) (rs : List AppliedEvent) (x : CellStateSight) → IsSeat p n rs → IsStateTaken (view p) x (view q) → q.me.1 ≡ p.me.1 → r.me.1 ≡ q.me.1
    → view r ≡ after_stop (view q) → IsSeat r n rs
seat_stopped p q r n rs x s t one two is =
    seat_back p q r n rs rs x (after_stop (view q)) s t one two is (refl, refl, refl, refl, refl, refl) s.gone (receipts_there p q n rs x s t)
    (sound_seen (view p) x (view q) true (suc (view q).stops) s.free s.sound t (λ _. refl))

-- one that looked
pub seat_looked : (p q r : Pass CellStateSight Knowledge) (n : ℕ) (rs : List AppliedEvent) (x : CellStateSight) → IsSeat p n rs → IsStateTaken (view p) x (view q) → q.me.1 ≡ p.me.1 → r.me.1 ≡ q.me.1
    → view r ≡ after_look (view q) → IsSeat r n rs
seat_looked p q r n rs x s t one two is =
    seat_back p q r n rs rs x (after_look (view q)) s t one two is (refl, refl, refl, refl, refl, refl) s.gone (receipts_there p q n rs x s t)
    (sound_seen (view p) x (view q) (view q).over (view q).stops s.free s.sound t (t.stopped s.free.live))

-- what a seat took goes back, with this mark
given : (v : Knowledge) (x : CellStateSight) (w : Knowledge) (m n : Bool) → IsStateTaken v x w → m ≡ n → record x { stopped = m } ≡ cell_state_at w.config w.seats w.all n
given v x w m n t same = λ i. cell_state_at ((t.config ∙ sym (ap (λ (u : Knowledge). u.config) t.now)) i) ((t.seats ∙ sym (ap (λ (u : Knowledge). u.seats) t.now)) i) (sym (ap (λ (u : Knowledge). u.all) t.now) i) (same i)

has_taken : (v : Knowledge) (x : CellStateSight) (w : Knowledge) → IsFree v → v.closed ≡ false → IsStateTaken v x w → HasCellState w
has_taken v x w f open_yet t = record {
  known = ap (λ (u : Knowledge). u.known) t.now ∙ f.known;
  live = ap (λ (u : Knowledge). u.live) t.now ∙ f.live;
  claims = ap (λ (u : Knowledge). u.claims) t.now ∙ f.claims;
  opens = ap (λ (u : Knowledge). u.opens) t.now ∙ f.opens;
  closed = ap (λ (u : Knowledge). u.closed) t.now ∙ open_yet;
  holding = ap (λ (u : Knowledge). u.holding) t.now;
}

pub looks_taken : (id : ℕ) (v : Knowledge) (x : CellStateSight) (w : Knowledge) → IsFree v → v.closed ≡ false → IsStateTaken v x w → Pushes Holds 1 id w x (λ u. u ≡ after_look w)
looks_taken id v x w f open_yet t =
    subst (λ (y : CellStateSight). Pushes Holds 1 id w y (λ u. u ≡ after_look w)) (sym (given v x w x.stopped w.over t (sym (ap (λ (u : Knowledge). u.over) t.now)))) (looks id w (has_taken v x w f open_yet t))

pub stops_taken : (id : ℕ) (v : Knowledge) (x : CellStateSight) (w : Knowledge) → IsFree v → v.closed ≡ false → IsStateTaken v x w → Pushes Holds 1 id w (record x { stopped = true }) (λ u. u ≡ after_stop w)
stops_taken id v x w f open_yet t =
    subst (λ (y : CellStateSight). Pushes Holds 1 id w y (λ u. u ≡ after_stop w)) (sym (given v x w true true t refl)) (stops id w (has_taken v x w f open_yet t))

-- a seat that was made just now
pub seat_fresh : (p : Pass CellStateSight Knowledge) (config : Config) (seats n : ℕ) → p.me.1 ≡ [] → view p ≡ new_seat config seats n → IsSeat p n []
seat_fresh p config seats n slot is = record {
  no_slot = slot;
  number = ap (λ (y : Knowledge). y.number) is;
  gone = [];
  receipts = ap (λ (y : Knowledge). y.receipts) is;
  free = subst IsFree (sym is) (record { known = refl; live = refl; claims = refl; opens = refl; holding = refl });
  sound = subst IsSound (sym is) (record { stand = tt; rising = tt; right = tt });
}

pub seat_same : (p q : Pass CellStateSight Knowledge) (n : ℕ) (rs : List AppliedEvent) → IsSeat p n rs → q.me.1 ≡ p.me.1 → view q ≡ view p → IsSeat q n rs
seat_same p q n rs s slot is = record {
  no_slot = slot ∙ s.no_slot;
  number = ap (λ (y : Knowledge). y.number) is ∙ s.number;
  gone = s.gone;
  receipts = ap (λ (y : Knowledge). y.receipts) is ∙ s.receipts;
  free = subst IsFree (sym is) s.free;
  sound = subst IsSound (sym is) s.sound;
}

-- ---- receipts that are let go

-- how many they are
many_gone : (all gone kept : List AppliedEvent) → all ≡ gone ++ kept → length gone ≡ length all - length kept
many_gone all gone kept is = let l = ap (λ (x : List AppliedEvent). length x) is in omega (arith, l, length-append gone kept)

get_behind : (xs ys : List AppliedEvent) (r : AppliedEvent) → slice_get (xs ++ r ∷ ys) (length xs) ≡ Some r
get_behind [] ys r = refl
get_behind (x ∷ xs) ys r = get_behind xs ys r

-- the first of those that are kept
pub first_kept : (all gone kept left : List AppliedEvent) (r : AppliedEvent) → all ≡ gone ++ kept → kept ≡ r ∷ left → slice_get all (length all - length kept) ≡ Some r
first_kept all gone kept left r is first =
    let n = many_gone all gone kept is in
    let there : all ≡ gone ++ r ∷ left = is ∙ ap (λ (l : List AppliedEvent). gone ++ l) first in
    (λ i. slice_get (there i) (sym n i)) ∙ get_behind gone left r

-- the seat without it
pub seat_without : (p : Pass CellStateSight Knowledge) (n : ℕ) (rs left : List AppliedEvent) (r : AppliedEvent) → IsSeat p n rs → rs ≡ r ∷ left → IsSeat p n left
seat_without p n rs left r s first = record {
  no_slot = s.no_slot;
  number = s.number;
  gone = s.gone ++ r ∷ [];
  receipts = s.receipts ∙ ap (λ (l : List AppliedEvent). s.gone ++ l) first ∙ sym (append_assoc s.gone (r ∷ []) left);
  free = s.free;
  sound = s.sound;
}

-- all are let go
pub seat_bare : (p : Pass CellStateSight Knowledge) (n : ℕ) (rs left : List AppliedEvent) → IsSeat p n rs → left ≡ [] → IsSeat p n left
seat_bare p n rs left s none = record {
  no_slot = s.no_slot;
  number = s.number;
  gone = (view p).receipts;
  receipts = sym (append-nil _) ∙ ap (λ (l : List AppliedEvent). (view p).receipts ++ l) (sym none);
  free = s.free;
  sound = s.sound;
}

-- ---- seats that were made just now

-- one seat more
pub seats_more : (cell : TableId) (config : Config) (seats : ℕ) (all : List SeatSight) (n : ℕ) (new : SeatSight) → length all ≡ n → new.cell ≡ cell → new.me ≡ new_seat config seats n
    → ((k : ℕ) (s : SeatSight) → slice_get all k ≡ Some s → (s.cell ≡ cell) × (s.me ≡ new_seat config seats k))
    → (k : ℕ) (s : SeatSight) → slice_get (all ++ new ∷ []) k ≡ Some s → (s.cell ≡ cell) × (s.me ≡ new_seat config seats k)
seats_more cell config seats all n new len at me old k s e =
    ⊎_elim (λ h. old k s h)
    (λ (h : (k ≡ length all) × (new ≡ s)). (sym (ap (λ (t : SeatSight). t.cell) h.1) ∙ at, sym (ap (λ (t : SeatSight). t.me) h.1) ∙ me ∙ ap (new_seat config seats) (sym len ∙ sym h.0)))
    (slice_get-snoc all new s k e)

-- seats that were made just now are open seats
pub fresh_seats : (cell : TableId) (config kept : Config) (seats : ℕ) (all : List SeatSight) → kept ≡ config → AllFresh cell config seats all → All (IsSeatOf (record { cell = cell; config = kept; seats = seats })) all
fresh_seats cell config kept seats all same new k d lt = let h = new k (get_or all k d) (slice_get-get_or all k d lt) in record {
  cell = h.0;
  config = ap (λ (v : Knowledge). v.config) h.1 ∙ sym same;
  seats = ap (λ (v : Knowledge). v.seats) h.1;
  open_yet = ap (λ (v : Knowledge). v.closed) h.1;
}
