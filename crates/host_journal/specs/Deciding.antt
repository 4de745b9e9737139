-- What the entries of a journal decided.
use Rattle.std.specs.Prelude.{ℕ, List, [], ◌∷◌, ◌++◌, drop, map, slice_get, Option, Some, None}
use Rattle.scp_types.specs.declared.event.Out.{Out}
use Rattle.scp_types.specs.declared.event.Out.TheVariants.{ArmNomination, ArmBallot, Emit, Externalized}
use Rattle.scp_spec.specs.Hosts.{Entry}
use Rattle.host_network.specs.Marks.{slot_and_node_of}
use Rattle.host_journal.specs.declared.lent_decision.LentDecision.{LentDecision}

-- a decision: which node externalized which value for which slot
pub record ExternalizedValue : Type 0 where
  pub slot : ℕ
  pub node : ℕ
  pub value : List ℕ

-- the values that are externalized, of all that is given out
abbrev pub externalized_values : List Out → List (List ℕ)
externalized_values [] = []
externalized_values (ArmNomination r ∷ os) = externalized_values os
externalized_values (ArmBallot n ∷ os) = externalized_values os
externalized_values (Emit e ∷ os) = externalized_values os
externalized_values (Externalized x ∷ os) = x ∷ externalized_values os

-- these values are decided at this slot by this node
abbrev pub decided_at : Option (ℕ × ℕ) → List (List ℕ) → List ExternalizedValue
decided_at None xs = []
decided_at (Some at) xs = map (λ x. record { slot = at.0; node = at.1; value = x }) xs

-- all that an entry decided: each value that it gives out, at the slot and by the node of its event
abbrev pub decisions_in : Entry → List ExternalizedValue
decisions_in x = decided_at (slot_and_node_of x.event) (externalized_values x.outs)

-- nothing if there is no entry
abbrev pub decisions_in_any : Option Entry → List ExternalizedValue
decisions_in_any None = []
decisions_in_any (Some x) = decisions_in x

-- what the entry with this number decided, from 0 on; nothing past the last
abbrev pub decisions_at : List Entry → ℕ → List ExternalizedValue
decisions_at entries n = decisions_in_any (slice_get entries n)

-- all that these entries decided, in order
abbrev pub decisions_by : List Entry → List ExternalizedValue
decisions_by [] = []
decisions_by (x ∷ xs) = decisions_in x ++ decisions_by xs

-- what the entries from this number on decided
abbrev pub decisions_from : List Entry → ℕ → List ExternalizedValue
decisions_from entries n = decisions_by (drop n entries)

-- a decision that is lent, in the words of the definitions
abbrev pub decided_by : LentDecision → ExternalizedValue
decided_by d = record { slot = d.slot; node = d.node; value = d.value.now }
