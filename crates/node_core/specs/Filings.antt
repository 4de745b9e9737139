-- Events and outs whose envelopes lie in an archive, and what they stand for.
use Rattle.std.specs.Prelude.{List, map, ⊤}
use Rattle.std.specs.List.{All}
use Rattle.scp_types.specs.Statements.{IsEnvelope}
use Rattle.scp_types.specs.declared.event.NodeEvent.{NodeEvent}
use Rattle.scp_types.specs.declared.event.Out.{Out}
use Rattle.node_store.specs.Archives.{Archived, IsFiled, sent_of}
use Rattle.node_core.specs.declared.filed.FiledEvent.{FiledEvent}
use Rattle.node_core.specs.declared.filed.FiledEvent.TheVariants.{Propose, Take, NominationTimer, BallotTimer, Reslice}
use Rattle.node_core.specs.declared.filed.FiledOut.{FiledOut}
use Rattle.node_core.specs.declared.filed.FiledOut.TheVariants.{ArmNomination, ArmBallot, Emit, Externalized}

-- an event of a node, with the whole envelope
abbrev pub event_of : FiledEvent → NodeEvent
event_of (Propose x) = NodeEvent.Propose x
event_of (Take f) = NodeEvent.Take (sent_of f)
event_of (NominationTimer r) = NodeEvent.NominationTimer r
event_of (BallotTimer n) = NodeEvent.BallotTimer n
event_of (Reslice q) = NodeEvent.Reslice q

-- the archive has the envelope of an event, if there is one
abbrev pub IsFiledEvent : Archived → FiledEvent → Type 0
IsFiledEvent archive (Propose x) = ⊤
IsFiledEvent archive (Take f) = IsFiled archive f
IsFiledEvent archive (NominationTimer r) = ⊤
IsFiledEvent archive (BallotTimer n) = ⊤
IsFiledEvent archive (Reslice q) = ⊤

-- what is given out, with the whole envelope
abbrev pub out_of : FiledOut → Out
out_of (ArmNomination r) = Out.ArmNomination r
out_of (ArmBallot n) = Out.ArmBallot n
out_of (Emit f) = Out.Emit (sent_of f)
out_of (Externalized x) = Out.Externalized x

-- all that is given out, with whole envelopes
abbrev pub whole_outs : List FiledOut → List Out
whole_outs os = map out_of os

-- the archive has the envelope of what is given out, whose widths and rules are kept
abbrev pub IsFiledOut : Archived → FiledOut → Type 0
IsFiledOut archive (ArmNomination r) = ⊤
IsFiledOut archive (ArmBallot n) = ⊤
IsFiledOut archive (Emit f) = IsFiled archive f × IsEnvelope (sent_of f)
IsFiledOut archive (Externalized x) = ⊤

-- the archive has the envelopes of all that is given out, whose widths and rules are kept
abbrev pub AreFiledOuts : Archived → List FiledOut → Type 0
AreFiledOuts archive os = All (IsFiledOut archive) os
