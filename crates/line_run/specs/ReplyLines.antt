-- Replies to what was submitted, as answers; and the lines of answers.
use Rattle.std.specs.Prelude.{◌++◌, List, [], ◌∷◌, Result, Ok, Err}
use Rattle.std.specs.List.{flat_map}
use Rattle.host_compare.specs.declared.reply.Reply.{Reply}
use Rattle.host_compare.specs.declared.reply.Reply.TheVariants as reply
use Rattle.scp_types.specs.declared.event.Out.{Out}
use Rattle.scp_types.specs.declared.event.Refusal.{Refusal}
use Rattle.host_network.specs.declared.applied.Given.{Given}
use Rattle.line_script.specs.Script.{Bytes}
use Rattle.host_world.specs.Worlds.{items_of}
use Rattle.line_request.specs.Replies.{reply_text}

-- a reply as the answer to an event
abbrev pub answer_of : Reply → Result (List Out) Refusal
answer_of (reply.Done outs) = Ok outs.items
answer_of (reply.Refused r) = Err r

-- the line of an answer behind a line feed (10)
abbrev pub line_behind : Result Given Refusal → Bytes
line_behind r = 10 ∷ reply_text (items_of r)

-- the lines of answers, with a line feed between each and the next
abbrev pub reply_lines : List (Result Given Refusal) → Bytes
reply_lines [] = []
reply_lines (r ∷ rs) = reply_text (items_of r) ++ flat_map line_behind rs
