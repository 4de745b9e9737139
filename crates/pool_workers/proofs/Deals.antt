-- Seats dealt, and given back.
use Rattle.std.proofs.Common.{◌≡◌, ◌≤◌, ◌<◌, ◌+◌, ℕ, zero, suc, List, [], ◌∷◌, ◌++◌, length, length-append, get_or, slice_set, take, refl, sym, ap, ◌∙◌, subst, arith, Option, Some, None, MatchOption, vec_capacity}
use Rattle.std.specs.Option.{option_to_list}
use Rattle.std.proofs.lemmas.List.Elements.{All-cons, All-more, All-nil, All-pop, All-push}
use Rattle.crossbeam_queue.specs.Passes.{Pass, view}
use Rattle.pool_queue.specs.declared.rule.Job.{Job}
use Rattle.pool_queue.specs.declared.rule.Hand.{Hand}
use Rattle.pool_queue.specs.declared.line.Queue.{Queue}
use Rattle.pool_queue.specs.Hands.{weigh}
use Rattle.pool_queue.specs.Queues.{put_by, taken_by, parts_by, parts}
use Rattle.pool_queue.proofs.Balances.{weigh-append}
use Rattle.pool_cell.specs.Sights.{SeatSight}
use Rattle.pool_cell.specs.Views.{Knowledge}
use Rattle.pool_workers.specs.declared.deal.SpareSeats.{SpareSeats}
use Rattle.pool_workers.specs.declared.worker.Worker.{Worker}
use Rattle.pool_workers.specs.Sums.{AllPassing, IsPassing, parts_of, weight_put, weight_taken}
use Rattle.pool_workers.specs.Spares.{HaveSpareSeats, AllRoomy, AreSeatsGivenBack, AreSparesDealt, IsDealtAll, IsDealtSeat, IsGivenSeat, IsSplit, at_work, on_spares}
use Rattle.pool_workers.proofs.Sums.{weigh-last}
use Rattle.pool_workers.proofs.Pools.{parts_weigh, put_weighs, taken_weighs}

pub have_at : {S H P : Type 0} → (n : ℕ) (bs : List (SpareSeats S H P)) (k : ℕ) (b : (SpareSeats S H P)) → HaveSpareSeats n bs → k < length bs → b ≡ get_or bs k b → n ≤ length b.seats.items
have_at n bs k b all lt at = subst (λ (s : SpareSeats _ _ _). n ≤ length s.seats.items) (sym at) (all k b lt)

-- dealing a spare seat of each cell

-- of the first k cells a seat was dealt
abbrev pub IsDealtTo : {S H P : Type 0} → ℕ → List (SpareSeats S H P) → List SeatSight → List (SpareSeats S H P) → Type 0
IsDealtTo zero xs ws ys = (ws ≡ []) × (ys ≡ xs)
IsDealtTo (suc k) [] ws ys = ⊥
IsDealtTo (suc k) (a ∷ xs) [] ys = ⊥
IsDealtTo (suc k) (a ∷ xs) (w ∷ ws) [] = ⊥
IsDealtTo (suc k) (a ∷ xs) (w ∷ ws) (b ∷ ys) = IsDealtSeat a w b × IsDealtTo k xs ws ys

dealt_to_suc : {S H P : Type 0} → (k : ℕ) (xs : List (SpareSeats S H P)) (ws : List SeatSight) (ys : List (SpareSeats S H P)) (a b : (SpareSeats S H P)) (w : SeatSight) → IsDealtTo k xs ws ys → k < length ys → a ≡ get_or ys k a → IsDealtSeat a w b → IsDealtTo (suc k) xs (ws ++ w ∷ []) (slice_set ys k b)
dealt_to_suc zero xs ws [] a b w all lt at one = absurd (omega arith)
dealt_to_suc zero xs ws (y ∷ ys) a b w all lt at one =
    subst (λ (z : List SeatSight × List (SpareSeats _ _ _)). IsDealtTo 1 z.1 (z.0 ++ w ∷ []) (b ∷ ys)) (λ i. (sym all.0 i, all.1 i))
    (subst (λ (z : (SpareSeats _ _ _)). IsDealtSeat z w b) at one, (refl, refl))
dealt_to_suc (suc k) [] ws ys a b w all lt at one = absurd all
dealt_to_suc (suc k) (x ∷ xs) [] ys a b w all lt at one = absurd all
dealt_to_suc (suc k) (x ∷ xs) (v ∷ ws) [] a b w all lt at one = absurd all
dealt_to_suc (suc k) (x ∷ xs) (v ∷ ws) (y ∷ ys) a b w all lt at one = (all.0, dealt_to_suc k xs ws ys a b w all.1 (omega arith) at one)

pub dealt_to_more : {S H P : Type 0} → (k : ℕ) (xs : List (SpareSeats S H P)) (ws : List SeatSight) (ys : List (SpareSeats S H P)) (a b : (SpareSeats S H P)) (w : SeatSight) (vs : List SeatSight) → IsDealtTo k xs ws ys → k < length ys → a ≡ get_or ys k a → vs ≡ ws ++ w ∷ [] → IsDealtSeat a w b → IsDealtTo (k + 1) xs vs (slice_set ys k b)
dealt_to_more k xs ws ys a b w vs all lt at is one =
    let more : suc k ≡ k + 1 = omega arith in
    subst (λ (z : ℕ × List SeatSight). IsDealtTo z.0 xs z.1 (slice_set ys k b)) (λ i. (more i, sym is i)) (dealt_to_suc k xs ws ys a b w all lt at one)

pub dealt_to_end : {S H P : Type 0} → (k : ℕ) (xs : List (SpareSeats S H P)) (ws : List SeatSight) (ys : List (SpareSeats S H P)) → IsDealtTo k xs ws ys → length ys ≤ k → AreSparesDealt xs ws ys
dealt_to_end {S} {H} {P} zero xs ws [] all le = subst (λ (z : List SeatSight × List (SpareSeats S H P)). AreSparesDealt {S = S} {H = H} {P = P} z.1 z.0 []) (λ i. (sym all.0 i, all.1 i)) tt
dealt_to_end zero xs ws (y ∷ ys) all le = absurd (omega arith)
dealt_to_end (suc k) [] ws ys all le = absurd all
dealt_to_end (suc k) (x ∷ xs) [] ys all le = absurd all
dealt_to_end (suc k) (x ∷ xs) (w ∷ ws) [] all le = absurd all
dealt_to_end (suc k) (x ∷ xs) (w ∷ ws) (y ∷ ys) all le = (all.0, dealt_to_end k xs ws ys all.1 (omega arith))

pub dealt_to_at : {S H P : Type 0} → (k : ℕ) (xs : List (SpareSeats S H P)) (ws : List SeatSight) (ys : List (SpareSeats S H P)) (a : (SpareSeats S H P)) → IsDealtTo k xs ws ys → k < length ys → a ≡ get_or ys k a → HaveSpareSeats 1 xs → 0 < length a.seats.items
dealt_to_at zero xs ws ys a all lt at have = have_at 1 ys 0 a (subst (HaveSpareSeats 1) (sym all.1) have) lt at
dealt_to_at (suc k) [] ws ys a all lt at have = absurd all
dealt_to_at (suc k) (x ∷ xs) [] ys a all lt at have = absurd all
dealt_to_at (suc k) (x ∷ xs) (w ∷ ws) [] a all lt at have = absurd all
dealt_to_at (suc k) (x ∷ xs) (w ∷ ws) (y ∷ ys) a all lt at have = dealt_to_at k xs ws ys a all.1 (omega arith) at (λ i d l. have (suc i) d (omega arith))

pub dealt_len : {S H P : Type 0} → (xs : List (SpareSeats S H P)) (ws : List SeatSight) (ys : List (SpareSeats S H P)) → AreSparesDealt xs ws ys → (length ys ≡ length xs) × (length ws ≡ length xs)
dealt_len [] [] [] all = (refl, refl)
dealt_len [] [] (b ∷ ys) all = absurd all
dealt_len [] (w ∷ ws) ys all = absurd all
dealt_len (a ∷ xs) [] ys all = absurd all
dealt_len (a ∷ xs) (w ∷ ws) [] all = absurd all
dealt_len (a ∷ xs) (w ∷ ws) (b ∷ ys) all = let r = dealt_len xs ws ys all.1 in (ap suc r.0, ap suc r.1)

pub dealt_have : {S H P : Type 0} → (n : ℕ) (xs : List (SpareSeats S H P)) (ws : List SeatSight) (ys : List (SpareSeats S H P)) → AreSparesDealt xs ws ys → HaveSpareSeats (suc n) xs → HaveSpareSeats n ys
dealt_have n [] [] [] all have = All-nil (λ (s : SpareSeats _ _ _). n ≤ length s.seats.items)
dealt_have n [] [] (b ∷ ys) all have = absurd all
dealt_have n [] (w ∷ ws) ys all have = absurd all
dealt_have n (a ∷ xs) [] ys all have = absurd all
dealt_have n (a ∷ xs) (w ∷ ws) [] all have = absurd all
dealt_have n (a ∷ xs) (w ∷ ws) (b ∷ ys) all have =
    All-cons (λ (s : SpareSeats _ _ _). n ≤ length s.seats.items) b ys
    (let l : length a.seats.items ≡ length (b.seats.items ++ all.0.spare ∷ []) = ap (λ (l : List SeatSight). length l) all.0.seats in let m = length-append b.seats.items (all.0.spare ∷ []) in let h = have 0 a (omega arith) in omega arith)
    (dealt_have n xs ws ys all.1 (λ k d lt. have (suc k) d (omega arith)))

pub have_less : {S H P : Type 0} → (m n : ℕ) (bs : List (SpareSeats S H P)) → m ≤ n → HaveSpareSeats n bs → HaveSpareSeats m bs
have_less m n bs le all k d lt = omega (arith, le, all k d lt)

pub dealt_sum : {S H P : Type 0} → (f : Knowledge → ℕ) (xs : List (SpareSeats S H P)) (ws : List SeatSight) (ys : List (SpareSeats S H P)) → AreSparesDealt xs ws ys → on_spares f xs ≡ on_spares f ys + weigh (λ (s : SeatSight). f s.me) ws
dealt_sum f [] [] [] all = refl
dealt_sum f [] [] (b ∷ ys) all = absurd all
dealt_sum f [] (w ∷ ws) ys all = absurd all
dealt_sum f (a ∷ xs) [] ys all = absurd all
dealt_sum f (a ∷ xs) (w ∷ ws) [] all = absurd all
dealt_sum f (a ∷ xs) (w ∷ ws) (b ∷ ys) all =
    let l = weigh-last (λ (s : SeatSight). f s.me) a.seats.items b.seats.items all.0.spare all.0.seats in
    let same : f w.me ≡ f all.0.spare.me = ap (λ (s : SeatSight). f s.me) all.0.past in
    let r = dealt_sum f xs ws ys all.1 in omega arith

-- one worker after another

pub dealt_all_snoc : {S H P : Type 0} → (before : List (SpareSeats S H P)) (ws : List (Worker S H P)) (mid : List (SpareSeats S H P)) (w : (Worker S H P)) (after : List (SpareSeats S H P)) → IsDealtAll before ws mid → AreSparesDealt mid w.seats.items after → IsDealtAll before (ws ++ w ∷ []) after
dealt_all_snoc before [] mid w after all one = (after, subst (λ (z : List (SpareSeats _ _ _)). AreSparesDealt z w.seats.items after) all one, refl)
dealt_all_snoc before (x ∷ ws) mid w after all one = (all.0, all.1, dealt_all_snoc all.0 ws mid w after all.2 one)

pub dealt_all_last : {S H P : Type 0} → (before : List (SpareSeats S H P)) (ws : List (Worker S H P)) (w : (Worker S H P)) (after : List (SpareSeats S H P)) → IsDealtAll before (ws ++ w ∷ []) after → (mid : List (SpareSeats S H P)) × IsDealtAll before ws mid × AreSparesDealt mid w.seats.items after
dealt_all_last before [] w after all = (before, refl, subst (λ (z : List (SpareSeats _ _ _)). AreSparesDealt before w.seats.items z) (sym all.2) all.1)
dealt_all_last before (x ∷ ws) w after all =
    let r = dealt_all_last all.0 ws w after all.2 in
    (r.0, (all.0, all.1, r.1), r.2)

pub dealt_all_sum : {S H P : Type 0} → (f : Knowledge → ℕ) (before : List (SpareSeats S H P)) (ws : List (Worker S H P)) (after : List (SpareSeats S H P)) → IsDealtAll before ws after → on_spares f before ≡ on_spares f after + at_work f ws
dealt_all_sum f before [] after all = (let e : on_spares f after ≡ on_spares f before = ap (on_spares f) all in omega arith)
dealt_all_sum f before (w ∷ ws) after all =
    let a = dealt_sum f before w.seats.items all.0 all.1 in
    let b = dealt_all_sum f all.0 ws after all.2 in omega arith

-- passes that workers have

pub passing_cut : (q : Option Queue) (ps : List (Pass Job Hand)) (o : Option (Pass Job Hand)) → AllPassing q (ps ++ option_to_list o) → AllPassing q ps × IsPassing q o
passing_cut q ps None all = ((All-pop (λ r. IsPassing q (Some r)) (ps ++ []) ps None refl all).0, tt)
passing_cut q ps (Some p) all = All-pop (λ r. IsPassing q (Some r)) (ps ++ p ∷ []) ps (Some p) refl all

pub split_more : {S H P : Type 0} → (before : List (Pass Job Hand)) (ws : List (Worker S H P)) (w : (Worker S H P)) (mid after : List (Pass Job Hand)) → IsSplit before ws mid → mid ≡ after ++ option_to_list w.pass → IsSplit before (ws ++ w ∷ []) after
split_more before ws w mid after s is = record {
  passing = λ q all.
      (let r = s.passing q all in
      let t = passing_cut q after w.pass (subst (AllPassing q) is r.0) in
      (t.0, All-push (λ (v : Worker _ _ _). IsPassing q v.pass) ws w r.1 t.1));
  put_all = λ h.
      (let a = s.put_all h in
      let b : put_by h mid ≡ put_by h after + weight_put h w = ap (put_by h) is ∙ weigh-append (λ (p : Pass Job Hand). weigh h (view p).put) after (option_to_list w.pass) ∙ ap (λ n. put_by h after + n) (put_weighs h w.pass) in
      let d = weigh-append (weight_put h) ws (w ∷ []) in omega arith);
  taken_all = λ h.
      (let a = s.taken_all h in
      let b : taken_by h mid ≡ taken_by h after + weight_taken h w = ap (taken_by h) is ∙ weigh-append (λ (p : Pass Job Hand). weigh h (view p).taken) after (option_to_list w.pass) ∙ ap (λ n. taken_by h after + n) (taken_weighs h w.pass) in
      let d = weigh-append (weight_taken h) ws (w ∷ []) in omega arith);
  parts_all =
      (let a = s.parts_all in
      let b : parts_by mid ≡ parts_by after + parts_of w = ap parts_by is ∙ weigh-append parts after (option_to_list w.pass) ∙ ap (λ n. parts_by after + n) (parts_weigh w.pass) in
      let d = weigh-append parts_of ws (w ∷ []) in omega arith);
}

-- giving seats back

-- the first walks are those of before, and of the others the seats were given back
abbrev pub IsGivenFrom : {S H P : Type 0} → List SeatSight → List SeatSight → List (SpareSeats S H P) → List (SpareSeats S H P) → Type 0
IsGivenFrom [] ws xs ys = AreSeatsGivenBack xs ws ys
IsGivenFrom (v ∷ vs) [] xs ys = ⊥
IsGivenFrom (v ∷ vs) (w ∷ ws) [] ys = ⊥
IsGivenFrom (v ∷ vs) (w ∷ ws) (a ∷ xs) [] = ⊥
IsGivenFrom (v ∷ vs) (w ∷ ws) (a ∷ xs) (b ∷ ys) = (v ≡ w) × (b ≡ a) × IsGivenFrom vs ws xs ys

pub given_from_all : {S H P : Type 0} → (ws : List SeatSight) (xs : List (SpareSeats S H P)) → length ws ≡ length xs → IsGivenFrom ws ws xs xs
given_from_all [] [] len = tt
given_from_all [] (x ∷ xs) len = absurd (omega arith)
given_from_all (w ∷ ws) [] len = absurd (omega arith)
given_from_all (w ∷ ws) (x ∷ xs) len = (refl, refl, given_from_all ws xs (omega arith))

pub given_from_less : {S H P : Type 0} → (vs ws : List SeatSight) (xs ys : List (SpareSeats S H P)) (v : SeatSight) (a b : (SpareSeats S H P)) → IsGivenFrom (vs ++ v ∷ []) ws xs ys → a ≡ get_or ys (length vs) a → IsGivenSeat a v b → IsGivenFrom vs ws xs (slice_set ys (length vs) b)
given_from_less [] [] xs ys v a b all at one = absurd all
given_from_less [] (w ∷ ws) [] ys v a b all at one = absurd all
given_from_less [] (w ∷ ws) (x ∷ xs) [] v a b all at one = absurd all
given_from_less [] (w ∷ ws) (x ∷ xs) (y ∷ ys) v a b all at one = (subst (λ (z : (SpareSeats _ _ _) × SeatSight). IsGivenSeat z.0 z.1 b) (λ i. ((at ∙ all.1) i, all.0 i)) one, all.2)
given_from_less (u ∷ vs) [] xs ys v a b all at one = absurd all
given_from_less (u ∷ vs) (w ∷ ws) [] ys v a b all at one = absurd all
given_from_less (u ∷ vs) (w ∷ ws) (x ∷ xs) [] v a b all at one = absurd all
given_from_less (u ∷ vs) (w ∷ ws) (x ∷ xs) (y ∷ ys) v a b all at one = (all.0, all.1, given_from_less vs ws xs ys v a b all.2 at one)

pub given_from_at : {S H P : Type 0} → (vs ws : List SeatSight) (xs ys : List (SpareSeats S H P)) (v : SeatSight) (a : (SpareSeats S H P)) → IsGivenFrom (vs ++ v ∷ []) ws xs ys → a ≡ get_or ys (length vs) a → AllRoomy xs → length a.seats.items < vec_capacity a.seats
given_from_at [] [] xs ys v a all at room = absurd all
given_from_at [] (w ∷ ws) [] ys v a all at room = absurd all
given_from_at [] (w ∷ ws) (x ∷ xs) [] v a all at room = absurd all
given_from_at [] (w ∷ ws) (x ∷ xs) (y ∷ ys) v a all at room = subst (λ (z : (SpareSeats _ _ _)). length z.seats.items < vec_capacity z.seats) (sym (at ∙ all.1)) (room 0 x (omega arith))
given_from_at (u ∷ vs) [] xs ys v a all at room = absurd all
given_from_at (u ∷ vs) (w ∷ ws) [] ys v a all at room = absurd all
given_from_at (u ∷ vs) (w ∷ ws) (x ∷ xs) [] v a all at room = absurd all
given_from_at (u ∷ vs) (w ∷ ws) (x ∷ xs) (y ∷ ys) v a all at room = given_from_at vs ws xs ys v a all.2 at (λ k d lt. room (suc k) d (omega arith))

pub given_from_lt : {S H P : Type 0} → (vs ws : List SeatSight) (xs ys : List (SpareSeats S H P)) (v : SeatSight) → IsGivenFrom (vs ++ v ∷ []) ws xs ys → length vs < length ys
given_from_lt [] [] xs ys v all = absurd all
given_from_lt [] (w ∷ ws) [] ys v all = absurd all
given_from_lt [] (w ∷ ws) (x ∷ xs) [] v all = absurd all
given_from_lt [] (w ∷ ws) (x ∷ xs) (y ∷ ys) v all = omega arith
given_from_lt (u ∷ vs) [] xs ys v all = absurd all
given_from_lt (u ∷ vs) (w ∷ ws) [] ys v all = absurd all
given_from_lt (u ∷ vs) (w ∷ ws) (x ∷ xs) [] v all = absurd all
given_from_lt (u ∷ vs) (w ∷ ws) (x ∷ xs) (y ∷ ys) v all = let r = given_from_lt vs ws xs ys v all.2 in omega arith

pub given_sum : {S H P : Type 0} → (f : Knowledge → ℕ) (xs : List (SpareSeats S H P)) (ws : List SeatSight) (ys : List (SpareSeats S H P)) → AreSeatsGivenBack xs ws ys → on_spares f ys ≡ on_spares f xs + weigh (λ (s : SeatSight). f s.me) ws
given_sum f [] [] [] all = refl
given_sum f [] [] (b ∷ ys) all = absurd all
given_sum f [] (w ∷ ws) ys all = absurd all
given_sum f (a ∷ xs) [] ys all = absurd all
given_sum f (a ∷ xs) (w ∷ ws) [] all = absurd all
given_sum f (a ∷ xs) (w ∷ ws) (b ∷ ys) all =
    let l = weigh-last (λ (s : SeatSight). f s.me) b.seats.items a.seats.items w all.0.seats in
    let r = given_sum f xs ws ys all.1 in omega arith

pub have_more : {S H P : Type 0} → (n m : ℕ) (bs : List (SpareSeats S H P)) (k : ℕ) (b : (SpareSeats S H P)) → HaveSpareSeats n (take k bs) → m ≤ n → k < length bs → b ≡ get_or bs k b → m ≤ length b.seats.items → HaveSpareSeats m (take (k + 1) bs)
have_more n m bs k b all le lt at one =
    All-more (λ (s : SpareSeats _ _ _). m ≤ length s.seats.items) bs k b lt (have_less m n (take k bs) le all) (subst (λ (s : SpareSeats _ _ _). m ≤ length s.seats.items) at one)

pub one_left : {X : Type 0} (o : Option X) (a b : ℕ) → MatchOption o ((b ≡ 0) × (a ≡ 0)) (λ _. a + 1 ≡ b) → 0 < b → a + 1 ≡ b
one_left None a b m lt = absurd (let e = m.0 in omega arith)
one_left (Some x) a b m lt = m
