-- One job more.
use Rattle.std.proofs.Common.{◌≡◌, ◌≤◌, ◌<◌, ◌+◌, ℕ, zero, suc, List, [], ◌∷◌, ◌++◌, length, length-append, take, slice_set, get_or, refl, sym, ap, ◌∙◌, subst, arith, Bool, true, false, slice_get, if◌then◌else◌, append_assoc, append-nil}
use Rattle.scp_types.specs.declared.event.Out.{Out}
use Rattle.scp_types.specs.declared.event.Out.TheVariants.{ArmNomination, ArmBallot, Emit, Externalized}
use Rattle.scp_spec.specs.Networks.{HostedNode}
use Rattle.pool_workers.specs.declared.applying.SlotEmission.{SlotEmission}
use mathlib.Core.List.{IsPrefix}
use Rattle.std.proofs.lemmas.Bool.{cases_eq}
use Rattle.std.proofs.lemmas.List.{take-append-le, take_more, reverse-append, at_drop_more, at_drop_all, get_or_default, get_or-set_other, length-set}
use Rattle.std.proofs.lemmas.List.Elements.{All-append, All-cons, All-nil}
use Rattle.std.proofs.lemmas.Option.{get_or_from_slice_get, slice_get_within}
use Rattle.std.proofs.lemmas.Slice.Zip.{AllZip-long}
use Rattle.std.proofs.Common.{reverse}
use Rattle.std.proofs.Common.{drop}
use Rattle.scp_spec.specs.Hosts.{Config, Entry}
use Rattle.pool_queue.specs.declared.rule.Job.{Job}
use Rattle.pool_queue.specs.declared.rule.Hand.{Hand}
use Rattle.pool_queue.specs.Hands.{weigh}
use Rattle.pool_queue.proofs.Balances.{weigh-append, weigh-snoc}
use Rattle.pool_cell.specs.Receipts.{AppliedEvent}
use Rattle.pool_cell.specs.Views.{Denial}
use Rattle.pool_cell.specs.Sights.{CellSight}
use Rattle.pool_cell.specs.Cells.{HasGainedReceipt, IsDenial, IsSeatOf}
use Rattle.pool_cell.specs.declared.refusal.CellRefusal.{CellRefusal}
use Rattle.std.proofs.Common.{IfErr, OnOk, Result, Ok, Err, is_ok}
use Rattle.pool_cell.specs.Sights.{SeatSight}
use Rattle.pool_workers.specs.declared.worker.Worker.{Worker}
use Rattle.pool_workers.specs.Numbers.{IsElsewhere, Lacks, IsNumberAt}
use Rattle.pool_workers.proofs.Pairs.{zip-same, zip-set, zip-then}
use Rattle.pool_workers.specs.Sums.{AllGrown, AllPast, AllPastBut, AllSeated, IsBusy, IsJobDone, IsLater, IsPast, IsReadyWorker, IsSameWorker, IsSeated, IsSummed, IsThrough, KeepsSums, applied_many, applied_of, done_by, emission_at_mark, followed_by, hand_of, hear_by, heard_of, hears, hears_of_outs, hears_of, job, refused_many, refused_of, weight_done, weight_followed, weight_put, weight_taken, with_put, with_taken}
use Rattle.pool_queue.specs.declared.line.Queue.{Queue}
use Rattle.std.proofs.Common.{Option, Some, None, ⊎_elim}
use Rattle.pool_workers.specs.Sums.{IsPassing}

-- lists with one element changed

pub weigh_set : (f : SeatSight → ℕ) (ws : List SeatSight) (k : ℕ) (old w : SeatSight) → k < length ws → old ≡ get_or ws k old → weigh f (slice_set ws k w) + f old ≡ weigh f ws + f w
weigh_set f [] k old w lt is = absurd (omega arith)
weigh_set f (x ∷ xs) zero old w lt is = let s : f old ≡ f x = ap f is in omega arith
weigh_set f (x ∷ xs) (suc k) old w lt is = let s = weigh_set f xs k old w (omega arith) is in omega arith

-- the same seat later

prefix_both : (a b c : List Entry) → IsPrefix a b → IsPrefix b c → IsPrefix a c
prefix_both a b c p q = (p.0 ++ q.0, sym (append_assoc a p.0 q.0) ∙ ap (λ (x : List Entry). x ++ q.0) p.1 ∙ q.1)

pub later_none : (a : SeatSight) → IsLater a a
later_none a = record { cell = refl; number = refl; config = refl; seats = refl; closed = refl; stops = refl; seen = ([], append-nil _); lasting = λ e. e; receipts = []; denials = []; gained = sym (append-nil _); refused = sym (append-nil _) }

pub later_both : (a b c : SeatSight) → IsLater a b → IsLater b c → IsLater a c
later_both a b c x y = record {
  cell = y.cell ∙ x.cell;
  number = y.number ∙ x.number;
  config = y.config ∙ x.config;
  seats = y.seats ∙ x.seats;
  closed = y.closed ∙ x.closed;
  stops = y.stops ∙ x.stops;
  seen = prefix_both a.me.seen b.me.seen c.me.seen x.seen y.seen;
  lasting = λ e. y.lasting (x.lasting e);
  receipts = x.receipts ++ y.receipts;
  denials = x.denials ++ y.denials;
  gained = y.gained ∙ ap (λ l. l ++ y.receipts) x.gained ∙ append_assoc a.me.receipts x.receipts y.receipts;
  refused = y.refused ∙ ap (λ l. l ++ y.denials) x.refused ∙ append_assoc a.me.denials x.denials y.denials;
}

pub all_later_none : (ss : List SeatSight) → AllGrown ss ss
all_later_none ss = zip-same IsLater later_none ss

pub all_later_both : (xs ys zs : List SeatSight) → AllGrown xs ys → AllGrown ys zs → AllGrown xs zs
all_later_both xs ys zs x y = zip-then _ _ _ later_both xs ys zs x y

pub all_later_set : (ss : List SeatSight) (k : ℕ) (old s : SeatSight) → k < length ss → old ≡ get_or ss k old → IsLater old s → AllGrown ss (slice_set ss k s)
all_later_set ss k old s lt is l = zip-set IsLater ss ss k old s (all_later_none ss) lt is l

-- a seat that lets receipts go is the same for all else
pub later_let_go : (a : SeatSight) (n : ℕ) → IsLater a (record a { let_go = n })
later_let_go a n = record { cell = refl; number = refl; config = refl; seats = refl; closed = refl; stops = refl; seen = ([], append-nil _); lasting = λ e. e; receipts = []; denials = []; gained = sym (append-nil _); refused = sym (append-nil _) }

-- jobs for one node more
hears_of-append : (e : SlotEmission) (hs : List HostedNode) (h : HostedNode) → hears_of e (hs ++ h ∷ []) ≡ hears_of e hs ++ hear_by e h
hears_of-append e [] h = append-nil _
hears_of-append e (x ∷ hs) h = ap (λ l. hear_by e x ++ l) (hears_of-append e hs h) ∙ sym (append_assoc (hear_by e x) (hears_of e hs) (hear_by e h))

pub hears_more : (e : SlotEmission) (hs : List HostedNode) (k : ℕ) (h : HostedNode) → k < length hs → h ≡ get_or hs k h → hears_of e (take k hs) ++ hear_by e h ≡ hears_of e (take (k + 1) hs)
hears_more e hs k h lt at = sym (hears_of-append e (take k hs) h) ∙ ap (hears_of e) (ap (λ (x : HostedNode). take k hs ++ x ∷ []) at ∙ sym (take_more hs k h lt))

-- jobs for one out more

emits : (config : Config) (os : List Out) (ns : List ℕ) (o : Out) (e : SlotEmission) → emission_at_mark config.number o (slice_get ns 0) ≡ Some e → hears_of_outs config (o ∷ os) ns ≡ hears_of e config.nodes ++ hears_of_outs config os (drop 1 ns)
emits config os ns (ArmNomination r) e is = absurd (cc)
emits config os ns (ArmBallot n) e is = absurd (cc)
emits config os ns (Externalized v) e is = absurd (cc)
emits config os [] (Emit s) e is = absurd (cc)
emits config os (m ∷ ms) (Emit s) e is = ap (λ x. hears_of x config.nodes ++ hears_of_outs config os ms) (some_same is)
  where
    some_same : {X : Type 0} {x y : X} → Some x ≡ Some y → x ≡ y
    some_same e = cc

emits_not : (config : Config) (os : List Out) (ns : List ℕ) (o : Out) → emission_at_mark config.number o (slice_get ns 0) ≡ None → hears_of_outs config (o ∷ os) ns ≡ hears_of_outs config os ns
emits_not config os ns (ArmNomination r) is = refl
emits_not config os ns (ArmBallot n) is = refl
emits_not config os ns (Externalized v) is = refl
emits_not config os [] (Emit s) is = refl
emits_not config os (m ∷ ms) (Emit s) is = absurd (cc)

get_drop : (ms : List ℕ) (k : ℕ) → slice_get ms k ≡ slice_get (drop k ms) 0
get_drop [] zero = refl
get_drop [] (suc k) = refl
get_drop (m ∷ ms) zero = refl
get_drop (m ∷ ms) (suc k) = get_drop ms k

drop_suc : (ms : List ℕ) (k : ℕ) → drop (suc k) ms ≡ drop 1 (drop k ms)
drop_suc [] zero = refl
drop_suc [] (suc k) = refl
drop_suc (m ∷ ms) zero = refl
drop_suc (m ∷ ms) (suc k) = drop_suc ms k

pub found_some : (config : Config) (os : List Out) (ms : List ℕ) (index mark : ℕ) (o : Out) (e : SlotEmission) → index < length os → emission_at_mark config.number (get_or os index o) (slice_get ms mark) ≡ Some e
    → hears_of_outs config (drop index os) (drop mark ms) ≡ hears_of e config.nodes ++ hears_of_outs config (drop (index + 1) os) (drop (mark + 1) ms)
found_some config os ms index mark o e lt is =
    let more : suc mark ≡ mark + 1 = omega arith in
    at_drop_more (λ l. hears_of_outs config l (drop mark ms)) os index o lt
    ∙ emits config (drop (index + 1) os) (drop mark ms) (get_or os index o) e (ap (emission_at_mark config.number (get_or os index o)) (sym (get_drop ms mark)) ∙ is)
    ∙ ap (λ l. hears_of e config.nodes ++ hears_of_outs config (drop (index + 1) os) l) (sym (drop_suc ms mark) ∙ ap (λ k. drop k ms) more)

pub found_none : (config : Config) (os : List Out) (ms : List ℕ) (index mark : ℕ) (o : Out) → index < length os → emission_at_mark config.number (get_or os index o) (slice_get ms mark) ≡ None
    → hears_of_outs config (drop index os) (drop mark ms) ≡ hears_of_outs config (drop (index + 1) os) (drop mark ms)
found_none config os ms index mark o lt is =
    at_drop_more (λ l. hears_of_outs config l (drop mark ms)) os index o lt
    ∙ emits_not config (drop (index + 1) os) (drop mark ms) (get_or os index o) (ap (emission_at_mark config.number (get_or os index o)) (sym (get_drop ms mark)) ∙ is)

pub found_network : (n : ℕ) (o : Out) (m : Option ℕ) (e : SlotEmission) → emission_at_mark n o m ≡ Some e → e.network ≡ n
found_network n (ArmNomination r) m e is = absurd (cc)
found_network n (ArmBallot k) m e is = absurd (cc)
found_network n (Externalized v) m e is = absurd (cc)
found_network n (Emit s) None e is = absurd (cc)
found_network n (Emit s) (Some m) e is = sym (ap (λ (x : SlotEmission). x.network) (some_same is))
  where
    some_same : {X : Type 0} {x y : X} → Some x ≡ Some y → x ≡ y
    some_same e = cc

pub number_at : (cs : List CellSight) (k : ℕ) (c : CellSight) (n m : ℕ) → k < length cs → c ≡ get_or cs k c → n ≡ c.config.number → m ≡ n → IsNumberAt cs k m
number_at cs k c n m lt at is same = λ d. ap (λ (x : CellSight). x.config.number) (get_or_default cs k d c lt ∙ sym at) ∙ sym (same ∙ is)

-- all outs of the receipt were handed on
pub hears_whole : (config : Config) (r : AppliedEvent) (index mark : ℕ) (handed : List Job) → length r.outs ≤ index → handed ++ hears_of_outs config (drop index r.outs) (drop mark r.marks) ≡ hears config r → handed ≡ hears config r
hears_whole config r index mark handed le all =
    sym (append-nil handed)
    ∙ sym (at_drop_all (λ l. handed ++ hears_of_outs config l (drop mark r.marks)) r.outs index le)
    ∙ all

-- past all receipts but one seat's

pub past_set : (ws : List SeatSight) (k : ℕ) (v : SeatSight) → AllPastBut k ws → AllPastBut k (slice_set ws k v)
past_set ws k v all i d apart lt = subst IsPast (sym (get_or-set_other ws k i v d apart)) (all i d apart (omega (arith, lt, length-set ws k v)))

pub past_all : (ws : List SeatSight) (k : ℕ) (w : SeatSight) → AllPastBut k ws → w ≡ get_or ws k w → length w.me.receipts ≤ w.let_go → AllPast ws
past_all ws k w all is one i d lt =
    ⊎_elim
    (λ (e : i ≡ k). subst IsPast (is ∙ get_or_default ws k w d (subst (λ j. j < length ws) e lt) ∙ ap (λ j. get_or ws j d) (sym e)) one)
    (λ apart. all i d apart lt)
    (cases_eq i k)

-- one job by one seat

followed_same : (h : Job → ℕ) (a b : SeatSight) (more : List AppliedEvent) → b.me.config ≡ a.me.config → b.let_go ≡ a.let_go → b.me.receipts ≡ a.me.receipts ++ more → a.let_go ≤ length a.me.receipts → followed_by h b ≡ followed_by h a
followed_same h a b more config place gained le =
    (λ i. heard_of h (config i) (take (place i) (gained i)))
    ∙ ap (heard_of h a.me.config) (take-append-le a.let_go a.me.receipts more le)

pub done_well : (a b : SeatSight) (c : CellSight) (j : Job) (x : AppliedEvent) → c.config.number ≡ j.network → IsSeated c a → IsSeatOf c b → b.let_go ≡ a.let_go → b.me.number ≡ a.me.number
    → x.event ≡ j.event → b.me.receipts ≡ a.me.receipts ++ x ∷ [] → b.me.denials ≡ a.me.denials → b.me.stops ≡ a.me.stops
    → IsPrefix a.me.seen b.me.seen → (a.me.stopped ≡ true → b.me.stopped ≡ true) → IsJobDone a b j true
done_well a b c j x here seated seat place number event more same stops seen lasting =
    let config : b.me.config ≡ a.me.config = seat.config ∙ sym seated.0.config in
    let n : ℕ = a.me.config.number in
    record {
      later = record { cell = seat.cell ∙ sym seated.0.cell; number = number; config = config; seats = seat.seats ∙ sym seated.0.seats; closed = seat.open_yet ∙ sym seated.0.open_yet; stops = stops; seen = seen; lasting = lasting; receipts = x ∷ []; denials = []; gained = more; refused = same ∙ sym (append-nil _) };
      sum = λ h.
          let p : applied_of h b.me.config b.me.receipts ≡ applied_of h a.me.config a.me.receipts + h (job n x.event) = (λ i. applied_of h (config i) (more i)) ∙ weigh-append (λ (r : AppliedEvent). h (job n r.event)) a.me.receipts (x ∷ []) ∙ omega arith in
          let q : h (job n x.event) ≡ h j = λ i. h (job ((ap (λ (k : Config). k.number) seated.0.config ∙ here) i) (event i)) in
          let d : refused_of h b.me.config b.me.denials ≡ refused_of h a.me.config a.me.denials = λ i. refused_of h (config i) (same i) in
          omega arith;
      followed = λ h. followed_same h a b (x ∷ []) config place more seated.1;
      applied = ap (λ (l : List AppliedEvent). length l) more ∙ length-append a.me.receipts (x ∷ []);
      refused = ap (λ (l : List Denial). length l) same ∙ omega arith;
    }

pub done_ill : (a b : SeatSight) (c : CellSight) (j : Job) (x : Denial) → c.config.number ≡ j.network → IsSeated c a → IsSeatOf c b → b.let_go ≡ a.let_go → b.me.number ≡ a.me.number
    → x.event ≡ j.event → b.me.receipts ≡ a.me.receipts → b.me.denials ≡ a.me.denials ++ x ∷ [] → b.me.stops ≡ a.me.stops
    → IsPrefix a.me.seen b.me.seen → (a.me.stopped ≡ true → b.me.stopped ≡ true) → IsJobDone a b j false
done_ill a b c j x here seated seat place number event unchanged more stops seen lasting =
    let config : b.me.config ≡ a.me.config = seat.config ∙ sym seated.0.config in
    let same : b.me.receipts ≡ a.me.receipts ++ [] = unchanged ∙ sym (append-nil _) in
    let n : ℕ = a.me.config.number in
    record {
      later = record { cell = seat.cell ∙ sym seated.0.cell; number = number; config = config; seats = seat.seats ∙ sym seated.0.seats; closed = seat.open_yet ∙ sym seated.0.open_yet; stops = stops; seen = seen; lasting = lasting; receipts = []; denials = x ∷ []; gained = same; refused = more };
      sum = λ h.
          let p : applied_of h b.me.config b.me.receipts ≡ applied_of h a.me.config a.me.receipts = λ i. applied_of h (config i) (unchanged i) in
          let d : refused_of h b.me.config b.me.denials ≡ refused_of h a.me.config a.me.denials + h (job n x.event) = (λ i. refused_of h (config i) (more i)) ∙ weigh-append (λ (x : Denial). h (job n x.event)) a.me.denials (x ∷ []) ∙ omega arith in
          let q : h (job n x.event) ≡ h j = λ i. h (job ((ap (λ (k : Config). k.number) seated.0.config ∙ here) i) (event i)) in
          omega arith;
      followed = λ h. followed_same h a b [] config place same seated.1;
      applied = ap (λ (l : List AppliedEvent). length l) unchanged ∙ omega arith;
      refused = ap (λ (l : List Denial). length l) more ∙ length-append a.me.denials (x ∷ []);
    }

-- what a worker keeps

pub kept_none : {S H P : Type 0} → (cs : List CellSight) (a : (Worker S H P)) → KeepsSums cs [] a a
kept_none cs a = record { lacking = []; elsewhere = All-nil (IsElsewhere cs); sum = λ h. omega arith; applied = omega arith; refused = omega arith; later = all_later_none a.seats.items; parts = refl }

pub kept_both : {S H P : Type 0} → (cs : List CellSight) (xs ys : List Job) (a b c : (Worker S H P)) → KeepsSums cs xs a b → KeepsSums cs ys b c → KeepsSums cs (xs ++ ys) a c
kept_both cs xs ys a b c k l = record {
  lacking = k.lacking ++ l.lacking;
  elsewhere = All-append (IsElsewhere cs) k.lacking l.lacking k.elsewhere l.elsewhere;
  sum = λ h. let x = k.sum h in let y = l.sum h in let z = weigh-append h k.lacking l.lacking in let w = weigh-append h xs ys in omega arith;
  applied = let x = k.applied in let y = l.applied in omega arith;
  refused = let x = k.refused in let y = l.refused in let z = length-append k.lacking l.lacking in omega arith;
  later = all_later_both a.seats.items b.seats.items c.seats.items k.later l.later;
  parts = l.parts ∙ k.parts;
}

-- a job of no network here
pub kept_lacking : {S H P : Type 0} → (cs : List CellSight) (a b : (Worker S H P)) (j : Job) → Lacks cs j.network → b.seats.items ≡ a.seats.items → b.pass ≡ a.pass → b.applied ≡ a.applied → b.refused ≡ a.refused + 1 → KeepsSums cs (j ∷ []) a b
kept_lacking cs a b j lacks seats pass applied refused = record {
  lacking = j ∷ [];
  elsewhere = All-cons (IsElsewhere cs) j [] lacks (All-nil (IsElsewhere cs));
  sum = λ h.
      let d : weight_done h b ≡ weight_done h a = ap (weigh (done_by h)) seats in
      let k : weight_followed h b ≡ weight_followed h a = ap (weigh (followed_by h)) seats in
      let p : weight_put h b ≡ weight_put h a = ap (λ p. weigh h (hand_of p).put) pass in
      let t : weight_taken h b ≡ weight_taken h a = ap (λ p. weigh h (hand_of p).taken) pass in
      omega arith;
  applied = let m : weigh applied_many b.seats.items ≡ weigh applied_many a.seats.items = ap (weigh applied_many) seats in omega arith;
  refused = let m : weigh refused_many b.seats.items ≡ weigh refused_many a.seats.items = ap (weigh refused_many) seats in omega arith;
  later = subst (AllGrown a.seats.items) (sym seats) (all_later_none a.seats.items);
  parts = ap (λ p. (hand_of p).parts) pass;
}

-- a job by one seat
pub kept_done : {S H P : Type 0} → (cs : List CellSight) (a b : (Worker S H P)) (j : Job) (k : ℕ) (old new : SeatSight) (well : Bool) → k < length a.seats.items → old ≡ get_or a.seats.items k old → IsJobDone old new j well
    → b.seats.items ≡ slice_set a.seats.items k new → b.pass ≡ a.pass
    → b.applied ≡ a.applied + (if well then 1 else 0) → b.refused ≡ a.refused + (if well then 0 else 1)
    → KeepsSums cs (j ∷ []) a b
kept_done cs a b j k old new well lt at one seats pass applied refused = record {
  lacking = [];
  elsewhere = All-nil (IsElsewhere cs);
  sum = λ h.
      let d : weight_done h b ≡ weigh (done_by h) (slice_set a.seats.items k new) = ap (weigh (done_by h)) seats in
      let s = weigh_set (done_by h) a.seats.items k old new lt at in
      let x = one.sum h in
      let e : weight_followed h b ≡ weigh (followed_by h) (slice_set a.seats.items k new) = ap (weigh (followed_by h)) seats in
      let f = weigh_set (followed_by h) a.seats.items k old new lt at in
      let y = one.followed h in
      let p : weight_put h b ≡ weight_put h a = ap (λ p. weigh h (hand_of p).put) pass in
      let t : weight_taken h b ≡ weight_taken h a = ap (λ p. weigh h (hand_of p).taken) pass in
      omega arith;
  applied =
      let m : weigh applied_many b.seats.items ≡ weigh applied_many (slice_set a.seats.items k new) = ap (weigh applied_many) seats in
      let s = weigh_set applied_many a.seats.items k old new lt at in
      let x = one.applied in omega arith;
  refused =
      let m : weigh refused_many b.seats.items ≡ weigh refused_many (slice_set a.seats.items k new) = ap (weigh refused_many) seats in
      let s = weigh_set refused_many a.seats.items k old new lt at in
      let x = one.refused in omega arith;
  later = subst (AllGrown a.seats.items) (sym seats) (all_later_set a.seats.items k old new lt at one.later);
  parts = ap (λ p. (hand_of p).parts) pass;
}

-- nothing was done
pub kept_same : {S H P : Type 0} → (cs : List CellSight) (a b : (Worker S H P)) → IsSameWorker a b → KeepsSums cs [] a b
kept_same cs a b same = record {
  lacking = [];
  elsewhere = All-nil (IsElsewhere cs);
  sum = λ h.
      let d : weight_done h b ≡ weight_done h a = ap (weigh (done_by h)) same.seats in
      let k : weight_followed h b ≡ weight_followed h a = ap (weigh (followed_by h)) same.seats in
      let p : weight_put h b ≡ weight_put h a = ap (λ p. weigh h (hand_of p).put) same.pass in
      let t : weight_taken h b ≡ weight_taken h a = ap (λ p. weigh h (hand_of p).taken) same.pass in
      omega arith;
  applied = let m : weigh applied_many b.seats.items ≡ weigh applied_many a.seats.items = ap (weigh applied_many) same.seats in let n = same.applied in omega arith;
  refused = let m : weigh refused_many b.seats.items ≡ weigh refused_many a.seats.items = ap (weigh refused_many) same.seats in let n = same.refused in omega arith;
  later = subst (AllGrown a.seats.items) (sym same.seats) (all_later_none a.seats.items);
  parts = ap (λ p. (hand_of p).parts) same.pass;
}

-- the seat there was put back as it was
set_same : (ws : List SeatSight) (k : ℕ) (w : SeatSight) → k < length ws → w ≡ get_or ws k w → slice_set ws k w ≡ ws
set_same [] k w lt is = absurd (omega arith)
set_same (x ∷ xs) zero w lt is = ap (λ (y : SeatSight). y ∷ xs) is
set_same (x ∷ xs) (suc k) w lt is = ap (λ l. x ∷ l) (set_same xs k w (omega arith) is)

pub seats_same : (ws : List SeatSight) (k : ℕ) (old new : SeatSight) → k < length ws → old ≡ get_or ws k old → new ≡ old → slice_set ws k new ≡ ws
seats_same ws k old new lt at same = ap (slice_set ws k) same ∙ set_same ws k old lt at

-- the job went into the queue
pub kept_put : {S H P : Type 0} → (cs : List CellSight) (a b : (Worker S H P)) (j : Job) → b.seats ≡ a.seats → b.applied ≡ a.applied → b.refused ≡ a.refused → hand_of b.pass ≡ with_put (hand_of a.pass) j → KeepsSums cs (j ∷ []) a b
kept_put cs a b j seats applied refused pass =
    let items : b.seats.items ≡ a.seats.items = ap (λ v. v.items) seats in
    record {
      lacking = [];
      elsewhere = All-nil (IsElsewhere cs);
      sum = λ h.
          let d : weight_done h b ≡ weight_done h a = ap (weigh (done_by h)) items in
          let k : weight_followed h b ≡ weight_followed h a = ap (weigh (followed_by h)) items in
          let p : weight_put h b ≡ weight_put h a + h j = ap (λ (v : Hand). weigh h v.put) pass ∙ weigh-append h (hand_of a.pass).put (j ∷ []) ∙ omega arith in
          let t : weight_taken h b ≡ weight_taken h a = ap (λ (v : Hand). weigh h v.taken) pass in
          omega arith;
      applied = let m : weigh applied_many b.seats.items ≡ weigh applied_many a.seats.items = ap (weigh applied_many) items in omega arith;
      refused = let m : weigh refused_many b.seats.items ≡ weigh refused_many a.seats.items = ap (weigh refused_many) items in omega arith;
      later = subst (AllGrown a.seats.items) (sym items) (all_later_none a.seats.items);
      parts = ap (λ (v : Hand). v.parts) pass;
    }

-- what was done from here was done from there, where all is the same but how the pass is named
pub kept_from : {S H P : Type 0} → (cs : List CellSight) (js : List Job) (a b c : (Worker S H P)) → b.seats ≡ a.seats → b.applied ≡ a.applied → b.refused ≡ a.refused → hand_of b.pass ≡ hand_of a.pass → KeepsSums cs js b c → KeepsSums cs js a c
kept_from cs js a b c seats applied refused pass kept =
    let items : b.seats.items ≡ a.seats.items = ap (λ v. v.items) seats in
    record {
      lacking = kept.lacking;
      elsewhere = kept.elsewhere;
      sum = λ h.
          let d : weight_done h b ≡ weight_done h a = ap (weigh (done_by h)) items in
          let k : weight_followed h b ≡ weight_followed h a = ap (weigh (followed_by h)) items in
          let p : weight_put h b ≡ weight_put h a = ap (λ (v : Hand). weigh h v.put) pass in
          let t : weight_taken h b ≡ weight_taken h a = ap (λ (v : Hand). weigh h v.taken) pass in
          let s = kept.sum h in omega arith;
      applied = let m : weigh applied_many b.seats.items ≡ weigh applied_many a.seats.items = ap (weigh applied_many) items in let s = kept.applied in omega arith;
      refused = let m : weigh refused_many b.seats.items ≡ weigh refused_many a.seats.items = ap (weigh refused_many) items in let s = kept.refused in omega arith;
      later = subst (λ l. AllGrown l c.seats.items) items kept.later;
      parts = kept.parts ∙ ap (λ (v : Hand). v.parts) pass;
    }

-- the job that was taken is done
pub kept_taken : {S H P : Type 0} → (cs : List CellSight) (a b c : (Worker S H P)) (j : Job) → b.seats ≡ a.seats → b.applied ≡ a.applied → b.refused ≡ a.refused → hand_of b.pass ≡ with_taken (hand_of a.pass) j → KeepsSums cs (j ∷ []) b c → KeepsSums cs [] a c
kept_taken cs a b c j seats applied refused pass kept =
    let items : b.seats.items ≡ a.seats.items = ap (λ v. v.items) seats in
    record {
      lacking = kept.lacking;
      elsewhere = kept.elsewhere;
      sum = λ h.
          let d : weight_done h b ≡ weight_done h a = ap (weigh (done_by h)) items in
          let k : weight_followed h b ≡ weight_followed h a = ap (weigh (followed_by h)) items in
          let p : weight_put h b ≡ weight_put h a = ap (λ (v : Hand). weigh h v.put) pass in
          let t : weight_taken h b ≡ weight_taken h a + h j = ap (λ (v : Hand). weigh h v.taken) pass ∙ weigh-append h (hand_of a.pass).taken (j ∷ []) ∙ omega arith in
          let s = kept.sum h in omega arith;
      applied = let m : weigh applied_many b.seats.items ≡ weigh applied_many a.seats.items = ap (weigh applied_many) items in let s = kept.applied in omega arith;
      refused = let m : weigh refused_many b.seats.items ≡ weigh refused_many a.seats.items = ap (weigh refused_many) items in let s = kept.refused in omega arith;
      later = subst (λ l. AllGrown l c.seats.items) items kept.later;
      parts = kept.parts ∙ ap (λ (v : Hand). v.parts) pass;
    }

-- a seat let a receipt go, and the others heard what it makes them hear
pub kept_followed : {S H P : Type 0} → (cs : List CellSight) (a b c : (Worker S H P)) (k : ℕ) (s t : SeatSight) (config : Config) (r : AppliedEvent) → k < length a.seats.items → s ≡ get_or a.seats.items k s → s.me.config ≡ config
    → slice_get s.me.receipts s.let_go ≡ Some r → t ≡ record s { let_go = s.let_go + 1 }
    → b.seats.items ≡ slice_set a.seats.items k t → b.pass ≡ a.pass → b.applied ≡ a.applied → b.refused ≡ a.refused
    → KeepsSums cs (hears config r) b c → KeepsSums cs [] a c
kept_followed cs a b c k s t config r lt at of first is seats pass applied refused kept =
    let short = slice_get_within s.me.receipts s.let_go r first in
    let here = get_or_from_slice_get s.me.receipts s.let_go r r first in
    let later : IsLater s t = subst (IsLater s) (sym is) (later_let_go s (s.let_go + 1)) in
    record {
      lacking = kept.lacking;
      elsewhere = kept.elsewhere;
      sum = λ h.
          let x = kept.sum h in
          let d : weight_done h b ≡ weigh (done_by h) (slice_set a.seats.items k t) = ap (weigh (done_by h)) seats in
          let d' = weigh_set (done_by h) a.seats.items k s t lt at in
          let same : done_by h t ≡ done_by h s = ap (done_by h) is in
          let e : weight_followed h b ≡ weigh (followed_by h) (slice_set a.seats.items k t) = ap (weigh (followed_by h)) seats in
          let e' = weigh_set (followed_by h) a.seats.items k s t lt at in
          let more : followed_by h t ≡ followed_by h s + weigh h (hears config r) =
          ap (followed_by h) is
          ∙ ap (heard_of h s.me.config) (take_more s.me.receipts s.let_go r short ∙ ap (λ (x : AppliedEvent). take s.let_go s.me.receipts ++ x ∷ []) here)
          ∙ weigh-append (λ (x : AppliedEvent). weigh h (hears s.me.config x)) (take s.let_go s.me.receipts) (r ∷ [])
          ∙ omega arith
          ∙ ap (λ (y : Config). followed_by h s + weigh h (hears y r)) of in
          let p : weight_put h b ≡ weight_put h a = ap (λ p. weigh h (hand_of p).put) pass in
          let t : weight_taken h b ≡ weight_taken h a = ap (λ p. weigh h (hand_of p).taken) pass in
          omega arith;
      applied =
          let m : weigh applied_many b.seats.items ≡ weigh applied_many (slice_set a.seats.items k t) = ap (weigh applied_many) seats in
          let n = weigh_set applied_many a.seats.items k s t lt at in
          let same : applied_many t ≡ applied_many s = ap applied_many is in
          let x = kept.applied in omega arith;
      refused =
          let m : weigh refused_many b.seats.items ≡ weigh refused_many (slice_set a.seats.items k t) = ap (weigh refused_many) seats in
          let n = weigh_set refused_many a.seats.items k s t lt at in
          let same : refused_many t ≡ refused_many s = ap refused_many is in
          let x = kept.refused in omega arith;
      later = all_later_both a.seats.items b.seats.items c.seats.items (subst (AllGrown a.seats.items) (sym seats) (all_later_set a.seats.items k s t lt at later)) kept.later;
      parts = kept.parts ∙ ap (λ p. (hand_of p).parts) pass;
    }

summed_none : {S H P : Type 0} (cs : List CellSight) → IsSummed {S = S} {H = H} {P = P} cs [] []
summed_none cs = record { lacking = []; elsewhere = All-nil (IsElsewhere cs); sum = λ h. refl; applied = refl; refused = refl; later = tt; parts = refl }

summed_one : {S H P : Type 0} → (cs : List CellSight) (a b : (Worker S H P)) (xs ys : List (Worker S H P)) → KeepsSums cs [] a b → IsSummed cs xs ys → IsSummed cs (a ∷ xs) (b ∷ ys)
summed_one cs a b xs ys k s = record {
  lacking = k.lacking ++ s.lacking;
  elsewhere = All-append (IsElsewhere cs) k.lacking s.lacking k.elsewhere s.elsewhere;
  sum = λ h. let x = k.sum h in let y = s.sum h in let z = weigh-append h k.lacking s.lacking in omega arith;
  applied = let x = k.applied in let y = s.applied in omega arith;
  refused = let x = k.refused in let y = s.refused in let z = length-append k.lacking s.lacking in omega arith;
  later = (k.later, s.later);
  parts = let x = k.parts in let y = s.parts in omega arith;
}

-- the workers' sums are added up
pub summed : {S H P : Type 0} → (cs : List CellSight) (q : Option Queue) (xs ys : List (Worker S H P)) → length ys ≡ length xs → ((i : ℕ) (d : (Worker S H P)) → i < length xs → IsThrough cs q (get_or xs i d) (get_or ys i d)) → IsSummed cs xs ys
summed cs q [] [] len all = summed_none cs
summed cs q [] (y ∷ ys) len all = absurd (omega arith)
summed cs q (x ∷ xs) [] len all = absurd (omega arith)
summed cs q (x ∷ xs) (y ∷ ys) len all = summed_one cs x y xs ys (all 0 x (omega arith)).kept (summed cs q xs ys (omega arith) (λ i d lt. all (suc i) d (omega arith)))

-- the last of a list

pub weigh-last : {X : Type 0} (f : X → ℕ) (before after : List X) (x : X) → before ≡ after ++ x ∷ [] → weigh f before ≡ weigh f after + f x
weigh-last f before after x is = ap (weigh f) is ∙ weigh-snoc f after x

-- one job more was handed out, the last of those that were left
pub one_handed : {S H P : Type 0} → (cs : List CellSight) (all left now handed : List Job) (j : Job) (a b c : (Worker S H P)) → left ≡ now ++ j ∷ []
    → ((h : Job → ℕ) → weigh h handed + weigh h left ≡ weigh h all) → KeepsSums cs handed a b → KeepsSums cs (j ∷ []) b c
    → (more : List Job) × ((h : Job → ℕ) → weigh h more + weigh h now ≡ weigh h all) × KeepsSums cs more a c
one_handed cs all left now handed j a b c is sum kept one = (
  handed ++ j ∷ [],
  λ h. let x = weigh-last h left now j is in let y = weigh-append h handed (j ∷ []) in let z = sum h in omega arith,
  kept_both cs handed (j ∷ []) a b c kept one,
)

-- states between two jobs

pub is_seated : {S H P : Type 0} → (cs : List CellSight) (q : Option Queue) (k : ℕ) (w : (Worker S H P)) → IsBusy cs q k w → k < length w.seats.items
is_seated cs q k w b = let m = AllZip-long IsSeated cs w.seats.items b.seated in let lt = b.there in omega arith

pub busy : {S H P : Type 0} → (cs : List CellSight) (q : Option Queue) (k : ℕ) (w : (Worker S H P)) → k < length cs → IsReadyWorker cs q w → IsBusy cs q k w
busy cs q k w lt r = record { seated = r.seated; passing = r.passing; there = lt; past = λ i d apart. r.past i d }

-- the same seats with another pass
pub ready_same : {S H P : Type 0} → (cs : List CellSight) (q : Option Queue) (a b : (Worker S H P)) → b.seats ≡ a.seats → IsPassing q b.pass → IsReadyWorker cs q a → IsReadyWorker cs q b
ready_same cs q a b seats passing r =
    let items : b.seats.items ≡ a.seats.items = ap (λ v. v.items) seats in
    record { seated = subst (AllSeated cs) (sym items) r.seated; passing = passing; past = subst AllPast (sym items) r.past }

-- the same worker
pub ready_still : {S H P : Type 0} → (cs : List CellSight) (q : Option Queue) (a b : (Worker S H P)) → IsSameWorker a b → IsReadyWorker cs q a → IsReadyWorker cs q b
ready_still cs q a b same r = record {
  seated = subst (AllSeated cs) (sym same.seats) r.seated;
  passing = subst (IsPassing q) (sym same.pass) r.passing;
  past = subst AllPast (sym same.seats) r.past;
}

-- the seat at one cell was put back as it was
pub same_worker : {S H P : Type 0} → (a b : (Worker S H P)) (k : ℕ) (s t : SeatSight) → k < length a.seats.items → s ≡ get_or a.seats.items k s → t ≡ s
    → b.seats.items ≡ slice_set a.seats.items k t → b.pass ≡ a.pass → b.applied ≡ a.applied → b.refused ≡ a.refused → IsSameWorker a b
same_worker a b k s t lt at same seats pass applied refused = record { seats = seats ∙ seats_same a.seats.items k s t lt at same; pass = pass; applied = applied; refused = refused }

-- the seat at one cell had no receipt left
pub none_left : {S H P : Type 0} → (cs : List CellSight) (q : Option Queue) (k : ℕ) (a b : (Worker S H P)) (s : SeatSight) → IsBusy cs q k a → IsSameWorker a b → s ≡ get_or a.seats.items k s → s.let_go ≡ length s.me.receipts → IsReadyWorker cs q b
none_left cs q k a b s busy same at none =
    ready_still cs q a b same (record { seated = busy.seated; passing = busy.passing; past = past_all a.seats.items k s busy.past at (omega arith) })

-- one seat was changed
pub busy_set : {S H P : Type 0} → (cs : List CellSight) (q : Option Queue) (k : ℕ) (a b : (Worker S H P)) (c : CellSight) (v : SeatSight) → b.seats.items ≡ slice_set a.seats.items k v → b.pass ≡ a.pass → c ≡ get_or cs k c → IsSeated c v → IsBusy cs q k a → IsBusy cs q k b
busy_set cs q k a b c v items pass at seated r = record {
  seated = subst (AllSeated cs) (sym items) (zip-set IsSeated cs a.seats.items k c v r.seated r.there at seated);
  passing = subst (IsPassing q) (sym pass) r.passing;
  there = r.there;
  past = subst (AllPastBut k) (sym items) (past_set a.seats.items k v r.past);
}

-- there is a cell at each place
pub cell_at : (cs : List CellSight) (k : ℕ) → k < length cs → (c : CellSight) × (c ≡ get_or cs k c)
cell_at [] k lt = absurd (omega (arith, lt))
cell_at (c ∷ cs) zero lt = (c, refl)
cell_at (c ∷ cs) (suc k) lt = cell_at cs k (omega (arith, lt))

-- a receipt was let go
pub seated_less : (c : CellSight) (s t : SeatSight) (r : AppliedEvent) → IsSeated c s → slice_get s.me.receipts s.let_go ≡ Some r → t ≡ record s { let_go = s.let_go + 1 } → IsSeated c t
seated_less c s t r seated first is =
    let short = slice_get_within s.me.receipts s.let_go r first in
    let o = seated.0 in
    subst (IsSeated c) (sym is) (record { cell = o.cell; config = o.config; seats = o.seats; open_yet = o.open_yet }, omega (arith, short))

weigh-reverse : {X : Type 0} (h : X → ℕ) (xs : List X) → weigh h (reverse xs) ≡ weigh h xs
weigh-reverse h [] = refl
weigh-reverse h (x ∷ xs) = ap (weigh h) (reverse-append (x ∷ []) xs) ∙ weigh-append h (reverse xs) (x ∷ []) ∙ (let r = weigh-reverse h xs in omega arith)

pub weigh-turned : {X : Type 0} (h : X → ℕ) (xs ys : List X) → ys ≡ reverse xs → weigh h ys ≡ weigh h xs
weigh-turned h xs ys is = ap (weigh h) is ∙ weigh-reverse h xs

-- a job was applied, or refused, as the cell answered
pub answered : {A : Type 0} (a b : SeatSight) (c : CellSight) (j : Job) (r : Result A CellRefusal) → c.config.number ≡ j.network → IsSeated c a → IsSeatOf c b → b.me.number ≡ a.me.number
    → OnOk r (HasGainedReceipt c j.event a b) → IfErr r (λ x. IsDenial j.event x a b) → IsPrefix a.me.seen b.me.seen → (a.me.stopped ≡ true → b.me.stopped ≡ true) → IsJobDone a b j (is_ok r)
answered a b c j (Ok x) here seated seat number ok err seen lasting = done_well a b c j _ here seated seat ok.let_go number refl ok.receipts ok.denials ok.stops seen lasting
answered a b c j (Err x) here seated seat number ok err seen lasting = done_ill a b c j _ here seated seat err.let_go number refl err.receipts err.denials err.stops seen lasting
