-- What the lines of scripts of networks submit.
use Rattle.std.specs.Prelude.{◌≡◌, ◌||◌, ℕ, Bool, true, false, not, is_some, List, [], Option, None, if◌then◌else◌}
use Rattle.line_script.specs.Script.{Bytes}
use Rattle.scp_types.specs.declared.event.Event.{Event}
use Rattle.scp_spec.specs.Hosts.{History}
use Rattle.scp_spec.specs.Submissions.{config_of}
use Rattle.host_compare.specs.Submitted.{with_config}
use Rattle.host_world.specs.Worlds.{and_then}
use Rattle.line_request.specs.Outlines.{Waiting, waiting_at}
use Rattle.line_run.specs.Joining.{HaveJoined, NetworkIsNamed, Joins}
use Rattle.line_request.specs.Naming.{Named, named_with, new_named}
use Rattle.line_request.specs.Preparing.{IsPrepared}
use Rattle.line_request.specs.Telling.{Allowed, AsksOf, RefusesAsked, is_closing}

-- whether lines may close slots, the networks that wait for an event that names them, which numbers are named, run and
-- served, and what has been submitted
pub record Submitting : Type 0 where
  pub closing : Bool
  pub waiting : Waiting
  pub named : Named
  pub history : History

-- nothing is submitted, as before the first line
abbrev pub new_submitting : Bool → Submitting
new_submitting closing = record { closing = closing; waiting = []; named = new_named; history = record { configs = []; calls = [] } }

-- a network is declared; if one of its number is declared, it is left out
abbrev pub declared_once : Joins History
declared_once c h = if is_some (config_of h.configs c.number) then h else with_config h c

-- the network of a number is named: if it waits, it is declared in what is submitted
abbrev pub IsNetworkDeclared : ℕ → Submitting → Submitting → Type 0
IsNetworkDeclared g old new =
    NetworkIsNamed declared_once g old.waiting new.waiting old.history new.history × (new.closing ≡ old.closing)
    × (new.named ≡ named_with g (waiting_at old.waiting g) old.named)

-- lines may ask for the event: for one that closes a slot only if they may close slots
abbrev pub may_submit : Submitting → Event → Bool
may_submit old e = old.closing || not (is_closing e)

-- an event of the network of a number is submitted
abbrev pub IsSubmitted : ℕ → Event → Submitting → Submitting → Type 0
IsSubmitted g e old new =
    (begun : Submitting) × IsNetworkDeclared g old begun × (new.closing ≡ begun.closing) × (new.waiting ≡ begun.waiting)
    × (new.named ≡ begun.named) × (new.history ≡ and_then begun.history g e)

-- what a line tells, and nothing is printed: a declaration that is taken submits and names nothing, an event that it
-- may ask for is submitted, and no line settles
pub data Submits : Submitting → List Bytes → Option Bytes → Submitting → Type 0 where
  declares : {old new : Submitting} {fields : List Bytes} → IsPrepared fields old.named old.waiting new.waiting
      → new.closing ≡ old.closing → new.named ≡ old.named → new.history ≡ old.history → Submits old fields None new
  submits : {old new : Submitting} {fields : List Bytes} (g : ℕ) (e : Event) → AsksOf fields g e
      → may_submit old e ≡ true → IsSubmitted g e old new → Submits old fields None new

-- what lines of a script that is submitted may ask for: no slot settles, and one is closed only if they may close slots
abbrev pub allowed_to_submit : Bool → Allowed
allowed_to_submit closing = record { settling = false; closing = closing }

-- a line is bad in a script that is submitted: no slot settles in it, and none is closed if lines may not close slots
abbrev pub RefusesToSubmit : Submitting → List Bytes → Type 0
RefusesToSubmit old fields = RefusesAsked (allowed_to_submit old.closing) old.waiting old.named fields

-- after the last line all networks that wait and have nodes have been declared
abbrev pub IsComplete : Submitting → Submitting → Type 0
IsComplete old new = HaveJoined declared_once old.waiting old.history new.history
