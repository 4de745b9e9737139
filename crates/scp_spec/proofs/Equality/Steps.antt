-- Equality of steps and of what is kept of a run is decided: they are sums of what they have. `Verdicts` stands on it.
use Rattle.scp_types.specs.declared.event.NodeEvent.{NodeEvent}
use Rattle.std.proofs.Common.{◌≡◌, ◌⊎◌, ℕ, Bool, true, false, List, refl, inl, inr}
use Rattle.std.proofs.lemmas.Bool.{false≢true, true≢false}
use Rattle.scp_types.specs.Trees.{Slices}
use Rattle.scp_types.specs.Statements.{Sent}
use Rattle.scp_types.specs.declared.kind.Kind.{Kind}
use Rattle.scp_types.specs.declared.event.NodeEvent.TheVariants.{Propose, Take, NominationTimer, BallotTimer, Reslice}
use Rattle.scp_spec.specs.Networks.{Reading, Step}
use Rattle.scp_spec.specs.Networks.Reading.{Read, Fault}
use Rattle.scp_spec.specs.Networks.Step.{Opens, Closes, Proposes, Delivers, Hears, NominationTimerFires, BallotTimerFires, Reslices}
use Rattle.scp_spec.specs.Isolation.{KeptStep}
use Rattle.scp_spec.specs.Isolation.KeptStep.{Opening, Closing, EventAt, Hearing}
use Rattle.scp_spec.proofs.Equality.Decisions.{IsDecided, by_image, decided_kind, decided_list, decided_sent, decided_slices, decided_ℕ, decided×, decided⊎}

abbrev NodeParts : Type 0
NodeParts = (List ℕ ⊎ Sent) ⊎ (ℕ ⊎ (ℕ ⊎ Slices))

node_parts : NodeEvent → NodeParts
node_parts (Propose x) = inl (inl x)
node_parts (Take e) = inl (inr e)
node_parts (NominationTimer r) = inr (inl r)
node_parts (BallotTimer n) = inr (inr (inl n))
node_parts (Reslice q) = inr (inr (inr q))

node_event : NodeParts → NodeEvent
node_event (inl (inl x)) = Propose x
node_event (inl (inr e)) = Take e
node_event (inr (inl r)) = NominationTimer r
node_event (inr (inr (inl n))) = BallotTimer n
node_event (inr (inr (inr q))) = Reslice q

node_back : (e : NodeEvent) → node_event (node_parts e) ≡ e
unfolding node_parts node_event
node_back (Propose x) = refl
node_back _ = refl

decided_event : IsDecided NodeEvent
decided_event =
    by_image node_parts node_event node_back
    (decided⊎ (decided⊎ (decided_list decided_ℕ) decided_sent) (decided⊎ decided_ℕ (decided⊎ decided_ℕ decided_slices)))

abbrev KeptParts : Type 0
KeptParts = Bool ⊎ ((ℕ × NodeEvent) ⊎ ((ℕ × ℕ) × (Kind × ℕ)))

kept_parts : KeptStep → KeptParts
kept_parts Opening = inl true
kept_parts Closing = inl false
kept_parts (EventAt u e) = inr (inl (u, e))
kept_parts (Hearing u from kind k) = inr (inr ((u, from), (kind, k)))

kept_from : KeptParts → KeptStep
kept_from (inl true) = Opening
kept_from (inl false) = Closing
kept_from (inr (inl p)) = EventAt p.0 p.1
kept_from (inr (inr p)) = Hearing p.0.0 p.0.1 p.1.0 p.1.1

kept_back : (k : KeptStep) → kept_from (kept_parts k) ≡ k
unfolding kept_parts kept_from
kept_back Opening = refl
kept_back _ = refl

pub decided_bool : IsDecided Bool
decided_bool true true = inl refl
decided_bool true false = inr (λ q. true≢false q)
decided_bool false true = inr (λ q. false≢true q)
decided_bool false false = inl refl

pub decided_kept : IsDecided KeptStep
decided_kept =
    by_image kept_parts kept_from kept_back
    (decided⊎ decided_bool (decided⊎ (decided× decided_ℕ decided_event)
    (decided× (decided× decided_ℕ decided_ℕ) (decided× decided_kind decided_ℕ))))

abbrev StepParts : Type 0
StepParts =
    ((ℕ ⊎ ℕ) ⊎ (((ℕ × ℕ) × List ℕ) ⊎ ((ℕ × ℕ) × (Sent ⊎ ℕ))))
    ⊎ (((ℕ × ℕ) × (ℕ × (Kind × ℕ))) ⊎ (((ℕ × ℕ) × ℕ) ⊎ (((ℕ × ℕ) × ℕ) ⊎ ((ℕ × ℕ) × Slices))))

reading_parts : Reading → Sent ⊎ ℕ
reading_parts (Read e) = inl e
reading_parts (Fault n) = inr n

reading_from : Sent ⊎ ℕ → Reading
reading_from (inl e) = Read e
reading_from (inr n) = Fault n

step_parts : Step → StepParts
step_parts (Opens j) = inl (inl (inl j))
step_parts (Closes j) = inl (inl (inr j))
step_parts (Proposes j u x) = inl (inr (inl ((j, u), x)))
step_parts (Delivers u size d) = inl (inr (inr ((u, size), reading_parts d)))
step_parts (Hears j u from kind k) = inr (inl ((j, u), (from, (kind, k))))
step_parts (NominationTimerFires j u r) = inr (inr (inl ((j, u), r)))
step_parts (BallotTimerFires j u n) = inr (inr (inr (inl ((j, u), n))))
step_parts (Reslices j u q) = inr (inr (inr (inr ((j, u), q))))

step_from : StepParts → Step
step_from (inl (inl (inl j))) = Opens j
step_from (inl (inl (inr j))) = Closes j
step_from (inl (inr (inl p))) = Proposes p.0.0 p.0.1 p.1
step_from (inl (inr (inr p))) = Delivers p.0.0 p.0.1 (reading_from p.1)
step_from (inr (inl p)) = Hears p.0.0 p.0.1 p.1.0 p.1.1.0 p.1.1.1
step_from (inr (inr (inl p))) = NominationTimerFires p.0.0 p.0.1 p.1
step_from (inr (inr (inr (inl p)))) = BallotTimerFires p.0.0 p.0.1 p.1
step_from (inr (inr (inr (inr p)))) = Reslices p.0.0 p.0.1 p.1

step_back : (e : Step) → step_from (step_parts e) ≡ e
unfolding reading_parts reading_from step_parts step_from
step_back (Delivers u size (Fault n)) = refl
step_back _ = refl

pub decided_step : IsDecided Step
decided_step =
    by_image step_parts step_from step_back
    (decided⊎ (decided⊎ (decided⊎ decided_ℕ decided_ℕ)
    (decided⊎ (decided× (decided× decided_ℕ decided_ℕ) (decided_list decided_ℕ))
    (decided× (decided× decided_ℕ decided_ℕ) (decided⊎ decided_sent decided_ℕ))))
    (decided⊎ (decided× (decided× decided_ℕ decided_ℕ) (decided× decided_ℕ (decided× decided_kind decided_ℕ)))
    (decided⊎ (decided× (decided× decided_ℕ decided_ℕ) decided_ℕ)
    (decided⊎ (decided× (decided× decided_ℕ decided_ℕ) decided_ℕ)
    (decided× (decided× decided_ℕ decided_ℕ) decided_slices)))))
