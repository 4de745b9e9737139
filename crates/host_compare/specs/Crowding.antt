-- What the code answers, as the definitions have it, and the theorem that each comparison carries.
use Rattle.std.specs.Prelude.{◌≡◌, ℕ, map, is_some, IsTrue}
use Rattle.scp_spec.specs.Sets.{among, AreWithin}
use Rattle.scp_spec.specs.Networks.{slices_of}
use Rattle.scp_spec.specs.Hosts.{History, nodes_of, entries}
use Rattle.scp_spec.specs.Isolation.{closure, outs_of, SameCast}
use Rattle.scp_spec.specs.Submissions.{answers, concerning_steps, replied_to, config_of, SameReserves, roster_names, without_size}
use Rattle.scp_spec.specs.Crowds.{Crowd, IsCrowd}
use Rattle.scp_spec.specs.Crowds.Crowd.{CastDiffers, RosterDiffers, OutsideRoster, InputsDiffer, Same}
use Rattle.host_network.specs.Decoding.{reading}
use Rattle.host_compare.specs.declared.crowd_verdict.Crowd.{Crowd as CrowdVerdict}
use Rattle.host_compare.specs.declared.crowd_verdict.Crowd.TheVariants as code

abbrev pub defined_crowd : CrowdVerdict → Crowd
defined_crowd (code.CastDiffers u) = CastDiffers u
defined_crowd code.RosterDiffers = RosterDiffers
defined_crowd (code.OutsideRoster u) = OutsideRoster u
defined_crowd (code.InputsDiffer place) = InputsDiffer place
defined_crowd (code.Same replies) = Same replies

-- a verdict on two submissions is right, as read by this host's decoder
abbrev pub IsCrowdHere : History → History → ℕ → ℕ → ℕ → CrowdVerdict → Type 0
IsCrowdHere one other g i v c = IsCrowd reading one other g i v (defined_crowd c)

-- Reserved shares, of these two submissions and this host's decoder. Let both networks host the members of the closure
-- of v in the first alike. Let them have one roster with equal shares, which holds the closure, and equal budgets of
-- open slots. Let the submitted steps that concern the closure be the same in order, those of deliveries by their
-- envelopes. Then their replies are the same, refusals included, and so is what each hosted member gives out.
abbrev pub AreNeverCrowdedOut : History → History → ℕ → ℕ → ℕ → Type 0
AreNeverCrowdedOut one other g i v =
    let R = closure (nodes_of one.configs g) i v (entries reading one g) in
    SameCast R v (nodes_of one.configs g) (nodes_of other.configs g)
    → SameReserves (config_of one.configs g) (config_of other.configs g)
    → AreWithin R (among (roster_names (config_of one.configs g)))
    → map without_size (concerning_steps R i (answers reading one g))
    ≡ map without_size (concerning_steps R i (answers reading other g))
    → (replied_to R i (answers reading one g) ≡ replied_to R i (answers reading other g))
    × ((u : ℕ) → IsTrue (R u) → IsTrue (is_some (slices_of (nodes_of one.configs g) u)) → outs_of i u (entries reading one g) ≡ outs_of i u (entries reading other g))
