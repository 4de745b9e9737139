use Rattle.std.proofs.Common.{◌≡◌, sym, subst, length}
use Rattle.std.specs.Prelude.{IfOk}
use Rattle.scp_types.specs.declared.event.Event.{Event}
use Rattle.scp_spec.specs.Sets.{among}
use Rattle.scp_spec.specs.Submissions.{concerns}
use Rattle.host_closure.specs.Announcing.{member_names}
use Rattle.host_network.specs.Decoding.{step_of}
use Rattle.host_compare.proofs.concerning.concerns.Goals as goal

pub returns-in-Deliver : goal.returns-in-Deliver
returns-in-Deliver c =
    subst (λ (e : Event). IfOk c.is_between_members.result (λ b. b ≡ concerns (among (member_names c.args.members.now)) c.args.slot (step_of e))) (sym c.in-Deliver.is)
    (c.is_between_members.ensures (length c.in-Deliver.bytes))
