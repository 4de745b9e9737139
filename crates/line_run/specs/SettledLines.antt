-- What is printed of a slot that has settled.
use Rattle.std.specs.Prelude.{◌++◌, ℕ, List, ◌∷◌, Option, Some, None, codes}
use Rattle.std.specs.List.{flat_map}
use Rattle.scp_spec.specs.Networks.{HostedNode, Net}
use Rattle.scp_spec.specs.Runs.{state_of}
use Rattle.host_journal.specs.Externalized.{externalized_at}
use Rattle.host_journal.specs.Logs.{Log}
use Rattle.line_script.specs.Script.{Bytes}
use Rattle.line_script.specs.Names.{text_of_name}
use Rattle.line_script.specs.Values.{text_of_value}

-- a value, or `-` if there is none
abbrev pub text_of_decided : Option Bytes → Bytes
text_of_decided None = codes "-"
text_of_decided (Some v) = text_of_value v

-- a space (32), the name of a node, `=` (61) and what it has externalized at a slot
abbrev pub text_of_decider : Net → ℕ → HostedNode → Bytes
text_of_decider net slot h = 32 ∷ (text_of_name h.name ++ 61 ∷ text_of_decided (externalized_at net slot h.name))

-- nodes with what they have externalized at a slot, in order, each as ` NAME=VALUE`
abbrev pub text_of_deciders : Net → ℕ → List HostedNode → Bytes
text_of_deciders net slot nodes = flat_map (text_of_decider net slot) nodes

-- the line of a slot that has settled, by the journal of its network
abbrev pub settled_text : Option Log → ℕ → Bytes
settled_text None slot = codes "settled"
settled_text (Some l) slot = codes "settled" ++ text_of_deciders (state_of l.config l.entries) slot l.config.nodes
