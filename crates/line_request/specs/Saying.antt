-- What a line of scripts delivers.
use Rattle.std.specs.Prelude.{Option, Some, None}
use Rattle.line_script.specs.Script.{Bytes}
use Rattle.scp_types.specs.declared.event.Event.{Event}
use Rattle.scp_types.specs.declared.event.Event.TheVariants.{Deliver}
use Rattle.line_request.specs.declared.request.Request.{Request}
use Rattle.line_request.specs.declared.request.Request.TheVariants.{Declare, Apply, Settle}

abbrev pub delivered_in : Event → Option Bytes
delivered_in (Deliver u bytes) = Some bytes
delivered_in e = None

-- the bytes that a request delivers
abbrev pub delivered_by : Request → Option Bytes
delivered_by (Declare d) = None
delivered_by (Apply e) = delivered_in e
delivered_by (Settle i) = None
