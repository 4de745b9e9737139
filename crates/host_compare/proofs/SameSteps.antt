-- Events that are the same step are the same, but for deliveries of bytes that are no envelope.
use Rattle.std.proofs.Common.{◌≡◌, ℕ, List, [], length, refl, sym, ◌∙◌, ap, subst}
use Rattle.scp_types.specs.declared.event.Event.{Event}
use Rattle.scp_types.specs.declared.event.Event.TheVariants.{BallotTimer, CloseSlot, Deliver, Hear, NominationTimer, OpenSlot, Propose, Reslice}
use Rattle.scp_codec.specs.Spelling.{spelling}
use Rattle.scp_codec.specs.Steps.{IsBytes}
use Rattle.scp_spec.specs.Networks.{Reading, Step}
use Rattle.scp_spec.specs.Networks.Reading.{Read, Fault}
use Rattle.scp_spec.specs.Networks.Step.{Opens, Closes, Proposes, Delivers, Hears, NominationTimerFires, BallotTimerFires, Reslices}
use Rattle.host_network.specs.Decoding.{reading, step_of}
use Rattle.host_network.proofs.Readings.{readings_are_exact}
use Rattle.host_compare.specs.Submitted.{DeliversBytes}
use Rattle.host_journal.specs.Keeping.{IsReadable}

-- the bytes of a reading
bytes_of : Reading → List ℕ
bytes_of (Read e) = spelling e
bytes_of (Fault n) = []

-- the event of a step
back : Step → Event
back (Opens j) = OpenSlot j
back (Closes j) = CloseSlot j
back (Proposes j u x) = Propose j u x
back (Delivers u size d) = Deliver u (bytes_of d)
back (Hears j u from kind k) = Hear j u from kind k
back (NominationTimerFires j u r) = NominationTimer j u r
back (BallotTimerFires j u n) = BallotTimer j u n
back (Reslices j u q) = Reslice j u q

read_back : (bytes : List ℕ) (r : Reading) (u size : ℕ) → IsBytes bytes → reading bytes ≡ r → IsReadable (Delivers u size r) → bytes_of r ≡ bytes
unfolding bytes_of
read_back bytes (Read e) u size fits h readable = sym (((readings_are_exact bytes fits).envelope e).0 h).text
read_back bytes (Fault n) u size fits h readable = absurd readable

had_back : (e : Event) → DeliversBytes e → IsReadable (step_of e) → back (step_of e) ≡ e
unfolding back
had_back (OpenSlot j) fits h = refl
had_back (CloseSlot j) fits h = refl
had_back (Propose j u x) fits h = refl
had_back (Deliver u bytes) fits h = ap (λ (b : List ℕ). Deliver u b) (read_back bytes (reading bytes) u 0 fits refl (again (length bytes) (reading bytes) h))
  where
    again : (n : ℕ) (r : Reading) → IsReadable (Delivers u n r) → IsReadable (Delivers u 0 r)
    again n (Read e) k = k
    again n (Fault m) k = k
had_back (Hear j u from kind k) fits h = refl
had_back (NominationTimer j u r) fits h = refl
had_back (BallotTimer j u n) fits h = refl
had_back (Reslice j u q) fits h = refl

pub same_events : (a b : Event) → DeliversBytes a → DeliversBytes b → IsReadable (step_of a) → step_of a ≡ step_of b → a ≡ b
same_events a b f g h e = sym (had_back a f h) ∙ ap back e ∙ had_back b g (subst IsReadable e h)
