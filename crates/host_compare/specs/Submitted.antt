-- What becomes of a submission, and what of it concerns a set of names.
use Rattle.std.specs.Prelude.{◌≡◌, ℕ, Bool, ◌&&◌, ◌==◌, List, [], ◌∷◌, ◌++◌, Option, Some, None, filter, is_some, map, IsTrue, ⊤}
use Rattle.scp_types.specs.Statements.{Sent}
use Rattle.scp_types.specs.declared.event.Event.{Event}
use Rattle.scp_types.specs.declared.event.Event.TheVariants.{Deliver}
use Rattle.scp_codec.specs.Steps.{IsBytes}
use Rattle.scp_spec.specs.Sets.{Names}
use Rattle.scp_spec.specs.Networks.{Reading, Step}
use Rattle.scp_spec.specs.Networks.Reading.{Read, Fault}
use Rattle.scp_spec.specs.Hosts.{Config, History}
use Rattle.scp_spec.specs.Submissions.{concerns, config_of}
use Rattle.host_network.specs.Decoding.{step_of}
use Rattle.host_compare.specs.declared.submission.SubmissionError.{SubmissionError}
use Rattle.host_compare.specs.declared.submission.SubmissionError.TheVariants.{NetTwice, NoMemory}

-- a submission with one more configuration
abbrev pub with_config : History → Config → History
with_config h c = record h { configs = h.configs ++ c ∷ [] }

-- why a network of this number is not declared
abbrev pub IsNotDeclared : List Config → ℕ → SubmissionError → Type 0
IsNotDeclared configs g NetTwice = IsTrue (is_some (config_of configs g))
IsNotDeclared configs g NoMemory = config_of configs g ≡ None

-- an event of the network whose step concerns the set at the slot
abbrev pub concerns_members : Names → ℕ → ℕ → ℕ × Event → Bool
concerns_members R i g c = (c.0 == g) && concerns R i (step_of c.1)

-- the steps of these events, in order
unfoldable pub concerning_steps_in : Names → ℕ → ℕ → List (ℕ × Event) → List Step
concerning_steps_in R i g calls = map (λ c. step_of c.1) (filter (concerns_members R i g) calls)

-- what an event delivers are bytes
abbrev pub DeliversBytes : Event → Type 0
DeliversBytes (Deliver u bytes) = IsBytes bytes
DeliversBytes _ = ⊤

-- bytes are read as this envelope, if they are one
abbrev pub IsReadAs : Reading → Option Sent → Type 0
IsReadAs (Read e) (Some d) = e ≡ d
IsReadAs (Fault n) None = ⊤
IsReadAs _ _ = ⊥
