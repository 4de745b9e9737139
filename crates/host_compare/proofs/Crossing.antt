-- A verdict may be handed from one thread to another: it owns memory alone, and names no thread.
use denote.Param.Send.{IsSend, IsSync, sendable}
use Rattle.std.proofs.Crossing.{crosses}
use Rattle.std.specs.contracts.alloc.Global as Global
use Rattle.scp_types.proofs.node_id.NodeId.TheSendSync as name
use Rattle.scp_types.proofs.statement.Statement.TheSendSync as statement
use Rattle.scp_types.proofs.value.Value.TheSendSync as value
use Rattle.scp_types.specs.contracts.envelope.Envelope as Envelope
use Rattle.scp_types.specs.contracts.event.Out as Out
use Rattle.host_journal.proofs.Crossing.{nested_send}
use Rattle.host_compare.specs.contracts.verdict.MemberOuts as MemberOuts
use Rattle.host_compare.specs.contracts.verdict.OutsOfMembers as OutsOfMembers
use Rattle.host_compare.specs.contracts.verdict.Verdict as Verdict

pub global_sync : IsSync (Global.the_row)
global_sync = search (sendable, crosses) depth 20

envelope_send : IsSend (Envelope.the_row)
envelope_send = search (sendable, crosses, name.the_send, nested_send, statement.the_field_send) depth 40

out_send : IsSend (Out.the_field.row)
out_send = search (sendable, crosses, envelope_send, value.the_send) depth 40

member_send : IsSend (MemberOuts.the_row)
member_send = search (sendable, crosses, name.the_send, out_send) depth 40

members_send : IsSend (OutsOfMembers.the_row)
members_send = search (sendable, crosses, member_send) depth 40

pub verdict_send : IsSend (Verdict.the_field.row)
verdict_send = search (sendable, crosses, name.the_send, members_send) depth 40
