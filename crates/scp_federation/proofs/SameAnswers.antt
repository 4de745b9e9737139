-- Two exact answers to one question are the same.
use Rattle.std.proofs.Common.{◌≡◌, Bool, true, false, IsTrue, ◌↔◌, refl, sym}
use Rattle.scp_voting.proofs.SeenVotes.{accepted_by_rows, confirmed_by_rows}
use Rattle.scp_federation.specs.Alike.{AcceptedAlike, ConfirmedAlike}

same_answer : {P : Type 0} (a b : Bool) → IsTrue a ↔ P → IsTrue b ↔ P → a ≡ b
same_answer true b one other = sym (other.1 (one.0 refl))
same_answer false true one other = one.1 (other.0 refl)
same_answer false false one other = refl

pub accepted_alike : AcceptedAlike
accepted_alike own configured leaders table kind position backs accepts b exact = same_answer b _ exact (accepted_by_rows own configured leaders table kind position backs accepts)

pub confirmed_alike : ConfirmedAlike
confirmed_alike own configured leaders table kind position accepts b exact = same_answer b _ exact (confirmed_by_rows own configured leaders table kind position accepts)
