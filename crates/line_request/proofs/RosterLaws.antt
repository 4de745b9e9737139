-- The roster that the fields of a line declare.
use Rattle.std.proofs.Common.{◌≡◌, ◌∙◌, ℕ, List, Some, sym, ap, subst}
use Rattle.line_script.specs.Script.{Bytes}
use Rattle.scp_spec.specs.Rosters.{Shares}
use Rattle.host_config.specs.declared.roster.Reservation.{Reservation}
use Rattle.line_request.specs.declared.request.Declaration.TheVariants.{Roster}
use Rattle.line_request.specs.declared.request.Request.{Request}
use Rattle.line_request.specs.declared.request.Request.TheVariants.{Declare}
use Rattle.line_request.specs.Requests.{AsksRoster, IsReserved, only_names, shares_in}

pub asks_roster : (fields : List Bytes) (w : Shares × List Bytes) (names : List ℕ) (d : Reservation) (r : Request) → Some w ≡ shares_in fields
    → Some names ≡ only_names w.1 → d.names.items ≡ names → d.shares ≡ w.0 → r ≡ Declare (Roster d) → AsksRoster fields r
asks_roster fields w names d r is spelled n s e = subst (λ o. IsReserved o r) is (d, sym spelled ∙ ap (λ us. Some us) (sym n), s, e)
