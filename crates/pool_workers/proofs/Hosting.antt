-- The seats of a cell that was opened just now, and the passes of a queue that was made just now.
use Rattle.std.proofs.Common.{◌≡◌, ◌∙◌, ◌<◌, ℕ, zero, suc, List, [], ◌∷◌, length, get_or, slice_get, slice_set, Some, refl, sym, ap, subst, arith}
use Rattle.std.specs.List.{All}
use Rattle.std.proofs.lemmas.List.Elements.{All-cons, All-head, All-tail}
use Rattle.std.proofs.lemmas.Option.{slice_get-get_or}
use Rattle.scp_spec.specs.Hosts.{Config}
use Rattle.pool_cell.specs.Cells.{AllFresh, IsSeatOf}
use Rattle.pool_cell.specs.Closing.{HasNumber}
use Rattle.pool_cell.specs.Sights.{CellSight, SeatSight}
use Rattle.pool_workers.specs.Spares.{HasAllSeats}

-- each number is a seat's: the first one's, or that of one that is as it was
numbered : (c : CellSight) (config : Config) (n : ℕ) (a s : SeatSight) (rest : List SeatSight) → AllFresh c.cell config n (a ∷ rest) → length (a ∷ rest) ≡ n
    → s.me.number ≡ a.me.number → (k : ℕ) → k < n → HasNumber (s ∷ rest) k
numbered c config n a s rest fresh many same zero below = (zero, s, refl, same ∙ ap (λ m. m.number) (fresh zero a refl).1)
numbered c config n a s rest fresh many same (suc k) below =
    let e : slice_get rest k ≡ Some (get_or rest k a) = slice_get-get_or rest k a (omega arith) in
    (suc k, get_or rest k a, e, ap (λ m. m.number) (fresh (suc k) (get_or rest k a) e).1)

-- the seats that a cell is opened with are all its seats, also where the first has asked for something since
pub hosted : (c : CellSight) (config : Config) (n : ℕ) (old : List SeatSight) (s : SeatSight) → 0 < n → c.seats ≡ n → length old ≡ n
    → AllFresh c.cell config n old → All (IsSeatOf c) old → IsSeatOf c s → ((d : SeatSight) → slice_get old 0 ≡ Some d → s.me.number ≡ d.me.number)
    → HasAllSeats c (slice_set old 0 s)
hosted c config n [] s some seats many fresh all own same = absurd (omega arith)
hosted c config n (a ∷ rest) s some seats many fresh all own same = record {
  own = All-cons (IsSeatOf c) s rest own (All-tail (IsSeatOf c) a rest all);
  some = subst (λ k. 0 < k) (sym seats) some;
  all = λ k below. numbered c config n a s rest fresh many (same a refl) k (subst (λ m. k < m) seats below);
}

pub hosted_fresh : (c : CellSight) (config : Config) (n : ℕ) (seats : List SeatSight) → 0 < n → c.seats ≡ n → length seats ≡ n → AllFresh c.cell config n seats
    → All (IsSeatOf c) seats → HasAllSeats c seats
hosted_fresh c config n [] some seats many fresh all = absurd (omega arith)
hosted_fresh c config n (a ∷ rest) some seats many fresh all =
    hosted c config n (a ∷ rest) a some seats many fresh all (All-head (IsSeatOf c) a rest all) (λ d e. cc)
