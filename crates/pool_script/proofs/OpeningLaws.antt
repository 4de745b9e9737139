-- Slots that a seat asks for, one after the other, and the network that is ready then.
use Rattle.std.proofs.Common.{◌≡◌, ◌∙◌, ◌<◌, ◌≤◌, ◌+◌, ℕ, List, [], ◌∷◌, drop, get_or, length, slice_get, slice_set, Some, refl, sym, subst, arith}
use Rattle.std.proofs.lemmas.List.{drop_all, drop_more}
use Rattle.scp_spec.specs.Hosts.{Config}
use Rattle.pool_cell.specs.Cells.{AllFresh}
use Rattle.pool_cell.specs.Sights.{CellSight, SeatSight}
use Rattle.pool_script.specs.Opening.{HasAsked, HaveAsked, IsReadyNetwork}
use Rattle.pool_script.specs.Opening.HaveAsked.{none as asked_none, more as asked_more}

-- one slot more
pub asked_on : (c : CellSight) (slots : List ℕ) (i d : ℕ) (old seat next : SeatSight) → i < length slots → HasAsked c (get_or slots i d) seat next
    → ((u : SeatSight) → HaveAsked c (drop i slots) seat u → HaveAsked c slots old u)
    → (u : SeatSight) → HaveAsked c (drop (i + 1) slots) next u → HaveAsked c slots old u
asked_on c slots i d old seat next l one rest u later = rest u (subst (λ ss. HaveAsked c ss seat u) (sym (drop_more slots i d l)) (asked_more one later))

-- no slot is left
pub asked_all : (c : CellSight) (slots : List ℕ) (i : ℕ) (old seat : SeatSight) → length slots ≤ i
    → ((u : SeatSight) → HaveAsked c (drop i slots) seat u → HaveAsked c slots old u) → HaveAsked c slots old seat
asked_all c slots i old seat l rest = rest seat (subst (λ ss. HaveAsked c ss seat seat) (sym (drop_all i slots l)) asked_none)

pub first_is : (old : List SeatSight) (x d : SeatSight) → x ≡ get_or old 0 x → slice_get old 0 ≡ Some d → x ≡ d
first_is [] x d is e = cc
first_is (a ∷ rest) x d is e = let a_is : a ≡ d = cc in is ∙ a_is

-- the one seat of a cell has asked for its slots
pub ready : (config : Config) (c : CellSight) (old : List SeatSight) (x s : SeatSight) (slots : List ℕ) → c.config ≡ config → c.seats ≡ 1 → length old ≡ 1 → AllFresh c.cell config 1 old → x ≡ get_or old 0 x → HaveAsked c slots x s
    → IsReadyNetwork config slots (record { cell = c; seats = slice_set old 0 s })
ready config c [] x s slots config_is seats many fresh is asked = absurd (omega (arith, many))
ready config c (y ∷ []) x s slots config_is seats many fresh is asked = record {
  config = config_is;
  count = seats;
  made = y;
  fresh = fresh;
  seat = s;
  asked = subst (λ z. HaveAsked c slots z s) is asked;
  seats = refl;
}
ready config c (y ∷ z ∷ zs) x s slots config_is seats many fresh is asked = absurd (omega (arith, many))
