use Rattle.std.proofs.Common.{◌≡◌, Bor, map, take}
use Rattle.scp_types.specs.declared.event.Event.{Event}
use Rattle.scp_spec.specs.Sets.{among}
use Rattle.host_closure.specs.Announcing.{member_names}
use Rattle.host_network.specs.Decoding.{step_of}
use Rattle.host_compare.specs.Submitted.{concerning_steps_in}
use Rattle.host_compare.proofs.concerning.concerning_events.Given as goal

abbrev pub invariant-loop-call : goal.invariant-loop-call
invariant-loop-call l = map (λ (e : Bor Event). step_of e.now) l.events.items ≡ concerning_steps_in (among (member_names l.members)) l.slot l.net (take l.call-index l.calls)
