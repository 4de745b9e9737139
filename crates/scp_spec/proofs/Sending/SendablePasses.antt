-- Each pass keeps votes that may be sent. `Nodes` stands on it.
use Rattle.std.proofs.Common.{ℕ, refl}
use Rattle.scp_types.specs.declared.state.Inputs.{Inputs}
use Rattle.scp_types.specs.declared.state.Votes.{Votes}
use Rattle.scp_spec.specs.Views.{Seen}
use Rattle.scp_spec.specs.Passes.{pass}
use Rattle.scp_spec.proofs.Passes.KeptByPasses.{kept-by_pass}
use Rattle.scp_spec.proofs.Sending.Sendable.{IsSendable}
use Rattle.scp_spec.proofs.Sending.SendableBallots.{accept-keeps, confirm-keeps, confirmed-keeps, nominate-keeps, prepared-keeps, start-keeps}
use Rattle.scp_spec.proofs.Sending.SendableCounters.{arm-keeps, raise-keeps}

pub pass-keeps : (timeouts v : ℕ) (s : Seen) (g : Inputs) (w : Votes) → IsSendable timeouts w
    → IsSendable timeouts (pass v s g w)
pass-keeps timeouts v s g =
    kept-by_pass (IsSendable timeouts) v s g (record {
      nominates = nominate-keeps timeouts v s g;
      starts = start-keeps timeouts s;
      prepares = prepared-keeps timeouts s;
      confirms_prepared = confirmed-keeps timeouts s;
      accepts = λ b w e. accept-keeps timeouts w.phase s b w refl e;
      confirms = λ b w. confirm-keeps timeouts w.phase s b w;
      raises = raise-keeps timeouts s g;
      arms = arm-keeps timeouts s;
    })
