-- Many questions about the same two worlds: from the answer of each to the list of verdicts.
use Rattle.std.proofs.Common.{◌≡◌, List, [], ◌∷◌, map, Result, Ok, Err, MatchResult, IfOk, subst, Vec, Global, sym}
use Rattle.std.specs.List.{AllZip}
use Rattle.scp_types.specs.declared.subject.Subject.{Subject}
use Rattle.scp_spec.specs.Hosts.{History}
use Rattle.host_journal.specs.Logs.{Log}
use Rattle.host_world.specs.Worlds.{AreJournalsOf}
use Rattle.host_compare.proofs.HistoryVerdicts.{verdict_of_histories}
use Rattle.host_compare.specs.Questions.{AreVerdictsBetween, AreVerdictsOn}
use Rattle.host_compare.specs.declared.verdict.Verdict.{Verdict}

-- the answers to a list, where none of them is an error
zip_ok : {X Y : Type 0} (E : Type 0) (R : X → Y → Type 0) (xs : List X) (ys : List Y) → AllZip (λ x (r : Result Y E). IfOk r (R x)) xs (map Ok ys) → AllZip R xs ys
zip_ok E R [] [] h = tt
zip_ok E R [] (y ∷ ys) h = absurd h
zip_ok E R (x ∷ xs) [] h = absurd h
zip_ok E R (x ∷ xs) (y ∷ ys) h = (h.0, zip_ok E R xs ys h.1)

pub all_ok : {X Y E : Type 0} (Q : E → Type 0) (R : X → Y → Type 0) (xs : List X) (rs : List (Result Y E)) (r : Result (Vec Y Global) E)
    → MatchResult r (λ v. (ys : List Y) × (rs ≡ map Ok ys) × (v.items ≡ ys)) Q → AllZip (λ x (y : Result Y E). IfOk y (R x)) xs rs → IfOk r (λ v. AllZip R xs v.items)
all_ok {X} {Y} {E} Q R xs rs (Ok v) h z =
    subst (λ (l : List Y). AllZip R xs l) (sym h.2) (zip_ok E R xs h.0 (subst (λ (l : List (Result Y E)). AllZip (λ x (y : Result Y E). IfOk y (R x)) xs l) h.1 z))
all_ok Q R xs rs (Err e) h z = tt

-- verdicts on the journals are verdicts on the histories
pub verdicts_of_histories : (h k : History) (ls ms : List Log) → AreJournalsOf h ls → AreJournalsOf k ms → (subjects : List Subject) (verdicts : List Verdict)
    → AreVerdictsOn ls ms subjects verdicts → AreVerdictsBetween h k subjects verdicts
verdicts_of_histories h k ls ms one other [] [] x = tt
verdicts_of_histories h k ls ms one other [] (r ∷ rs) x = absurd x
verdicts_of_histories h k ls ms one other (s ∷ ss) [] x = absurd x
verdicts_of_histories h k ls ms one other (s ∷ ss) (r ∷ rs) x = (verdict_of_histories h k ls ms s.net s.slot s.node r one other x.0, verdicts_of_histories h k ls ms one other ss rs x.1)
