-- What the close finds.
use Rattle.std.proofs.Common.{◌≡◌, ℕ, zero, suc, ◌+◌, ◌<◌, ◌≤◌, Bool, List, [], ◌∷◌, ◌++◌, length, take, drop, map, refl, sym, ap, ◌∙◌, subst, arith}
use Rattle.std.proofs.lemmas.List.{append-nil, drop_all}
use Rattle.std.proofs.Math.Seq.{take-append_seam}
use Rattle.scp_spec.specs.Hosts.{Config, Entry}
use Rattle.host_journal.specs.Logs.{Log}
use Rattle.pool_cell.specs.Receipts.{extract_of, extracts_of}
use Rattle.pool_cell.specs.Views.{CellStateSight, Knowledge}
use Rattle.pool_cell.specs.Rule.{IsStateTaken, IsKnownAtEnd, with_note, AllBelow}
use Rattle.pool_cell.specs.Sights.{SeatSight}
use Rattle.pool_cell.specs.Sounds.{IsSound, AllStand, AllRight}
use Rattle.pool_cell.specs.Closing.{CloserKeeps, AllSeats, HasNumber, ended_sight, Gathered, IsOneHistory}
use Rattle.pool_cell.proofs.Counts.{as_many}
use Rattle.pool_cell.proofs.Seats.{stand_more, right_more}
use Rattle.std.proofs.Common.{get_or, option_map, set}
use Rattle.std.proofs.lemmas.List.Elements.{All-map, All-more, All-weaker}
use Rattle.std.proofs.lemmas.Option.{get_or_from_slice_get, slice_get-map, slice_get_within}
use Rattle.std.proofs.lemmas.List.Edits.{map_over_more}

pub keeps_shown : (b v w n : Knowledge) → CloserKeeps b v → w ≡ with_note v n → CloserKeeps b w
keeps_shown b v w n k is = subst (CloserKeeps b) (sym is) (record { holding = k.holding; live = k.live; known = k.known; opens = k.opens; config = k.config; all = k.all; owners = k.owners; over = k.over; stopper = k.stopper })

pub end_known_by : (b v w : Knowledge) → CloserKeeps b v → IsKnownAtEnd v.config v.all v.owners v.over v.stopper w → IsKnownAtEnd b.config b.all b.owners b.over b.stopper w
end_known_by b v w k t = subst (λ (y : Config × List Entry × List ℕ × Bool × ℕ). IsKnownAtEnd y.0 y.1 y.2 y.3 y.4 w) (λ i. (k.config i, k.all i, k.owners i, k.over i, k.stopper i)) t

-- what the one who has the desk knows of a seat
abbrev pub KnowsItsEnd : Knowledge → SeatSight → Type 0
KnowsItsEnd b s = IsKnownAtEnd b.config b.all b.owners b.over b.stopper s.me × IsSound s.me × (s.me.config ≡ b.config)

pub gathered : (c : Config) (n : ℕ) (d : CellStateSight) (v w : Knowledge) (xs now : List SeatSight) (i : ℕ) → IsStateTaken v d w → v.config ≡ c → v.seats ≡ n
    → now ≡ map ended_sight (take i xs) ++ drop i xs → length xs ≤ i
    → AllSeats (λ s. KnowsItsEnd w (ended_sight s)) (take i xs) → Gathered c n d now
gathered c n d v w xs now i t config seats is whole all =
    let same : w.config ≡ c = ap (λ (u : Knowledge). u.config) t.now ∙ config in
    let entries : w.all ≡ d.log.entries = ap (λ (u : Knowledge). u.all) t.now in
    let over : w.over ≡ d.stopped = ap (λ (u : Knowledge). u.over) t.now in
    let none : drop i xs ≡ [] = drop_all i xs whole in
    let now_is : now ≡ map ended_sight (take i xs) = is ∙ ap (λ (l : List SeatSight). map ended_sight (take i xs) ++ l) none ∙ append-nil (map ended_sight (take i xs)) in
    record {
      owners = w.owners;
      stopper = w.stopper;
      config = t.config ∙ config;
      paired = t.paired ∙ ap length entries;
      owned = subst (λ (k : ℕ). AllBelow k w.owners) seats t.owned;
      within = λ s. subst (λ (k : ℕ). w.stopper < k) seats (t.stopper (over ∙ s));
      end_known = subst (λ (y : Config × List Entry × Bool × List SeatSight). AllSeats (λ s. IsKnownAtEnd y.0 y.1 w.owners y.2 w.stopper s.me × IsSound s.me × (s.me.config ≡ y.0)) y.3) (λ j. (same j, entries j, over j, sym now_is j))
          (All-map (KnowsItsEnd w) ended_sight (take i xs) all);
    }

pub has_ended : (l : List SeatSight) (k : ℕ) → HasNumber l k → HasNumber (map ended_sight l) k
has_ended l k h = (h.0, ended_sight h.1, slice_get-map ended_sight l h.0 ∙ ap (option_map ended_sight) h.2, h.3)

pub one_history : (c : Config) (n : ℕ) (d : CellStateSight) (seats : List SeatSight) → Gathered c n d seats → ((k : ℕ) → k < n → HasNumber seats k) → IsOneHistory n d.log seats
one_history c n d seats g present =
    let j : Log = d.log in
    let P : SeatSight → Type 0 = λ s. IsKnownAtEnd j.config j.entries g.owners d.stopped g.stopper s.me × IsSound s.me × (s.me.config ≡ j.config) in
    let end_known : AllSeats P seats = subst (λ (k : Config). AllSeats (λ s. IsKnownAtEnd k j.entries g.owners d.stopped g.stopper s.me × IsSound s.me × (s.me.config ≡ k)) seats) (sym g.config) g.end_known in
    let receipts : AllSeats (λ s. map extract_of s.me.receipts ≡ extracts_of j.config s.me.number g.owners j.entries) seats = λ k d lt. (end_known k d lt).0.receipts in
    record {
      owners = g.owners;
      paired = g.paired;
      owned = g.owned;
      present = present;
      counted = as_many j.config n g.owners j.entries seats g.paired g.owned present receipts;
      receipts = receipts;
      seen = λ k d lt. (end_known k d lt).0.seen;
      last = λ k d lt mark. ((end_known k d lt).0.stopped mark).1;
      stand = All-weaker P (λ s. AllStand j.config j.entries s.me.receipts) (λ s p. subst (λ (k : Config). AllStand k j.entries s.me.receipts) p.2 (stand_more s.me.config s.me.seen j.entries s.me.receipts p.0.seen p.1.stand)) seats end_known;
      right = All-weaker P (λ s. AllRight j.config j.entries s.me.stopped s.me.denials) (λ s p. subst (λ (k : Config). AllRight k j.entries s.me.stopped s.me.denials) p.2 (right_more s.me.config s.me.seen j.entries s.me.stopped s.me.stopped s.me.denials p.0.seen (λ h. h) p.1.right)) seats end_known;
      stops = λ k d lt mark.
          let over = ((end_known k d lt).0.stopped mark).0 in
          let there = present g.stopper (g.within over) in
          let one = subst P (get_or_from_slice_get seats there.0 there.1 there.1 there.2) (end_known there.0 there.1 (slice_get_within seats there.0 there.1 there.2)) in
          (there.0, there.1, there.2, one.0.stops over there.3);
    }

pub written_back : (n : ℕ) (new old : List SeatSight) → length new ≡ length old → n ≡ length old → take n (new ++ drop (length new) old) ≡ new
written_back n new old len is =
    ap (λ (k : ℕ). take k (new ++ drop (length new) old)) (is ∙ sym len) ∙ take-append_seam new (drop (length new) old)

-- where a loop changes each element in its place, what it reads is as it was
seam_at : {X : Type 0} (f : X → X) (xs : List X) (i : ℕ) (d : X) → i < length xs → get_or (map f (take i xs) ++ drop i xs) i d ≡ get_or xs i d
seam_at f [] i d h = absurd (omega arith)
seam_at f (x ∷ xs) zero d h = refl
seam_at f (x ∷ xs) (suc i) d h = seam_at f xs i d (omega arith)

pub seam_read : {X : Type 0} (f : X → X) (xs now : List X) (i : ℕ) (d : X) → i < length xs → now ≡ map f (take i xs) ++ drop i xs → get_or now i d ≡ get_or xs i d
seam_read f xs now i d h is = ap (λ l. get_or l i d) is ∙ seam_at f xs i d h

-- one turn of the loop
pub one_more_seat : (b v w : Knowledge) (xs seats : List SeatSight) (i : ℕ) (item new : SeatSight) → i < length xs → seats ≡ map ended_sight (take i xs) ++ drop i xs → item ≡ get_or seats i item
    → new ≡ ended_sight item → CloserKeeps b v → IsKnownAtEnd v.config v.all v.owners v.over v.stopper new.me → IsSound new.me → item.me.config ≡ b.config
    → AllSeats (λ s. KnowsItsEnd b (ended_sight s)) (take i xs)
    → (set seats i new ≡ map ended_sight (take (i + 1) xs) ++ drop (i + 1) xs) × AllSeats (λ s. KnowsItsEnd b (ended_sight s)) (take (i + 1) xs)
one_more_seat b v w xs seats i item new lt is at now keeps end_known sound config all =
    let one : KnowsItsEnd b new = (end_known_by b v new.me keeps end_known, sound, ap (λ (s : SeatSight). s.me.config) now ∙ config) in
    let here : item ≡ get_or xs i item = at ∙ seam_read ended_sight xs seats i item lt is in (
      ap (set seats i) now ∙ map_over_more ended_sight xs seats i item lt is at,
      All-more (λ s. KnowsItsEnd b (ended_sight s)) xs i item lt all (subst (KnowsItsEnd b) (now ∙ ap ended_sight here) one),
    )
