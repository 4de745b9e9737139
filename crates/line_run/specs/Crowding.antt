-- What is printed of the verdict on two submissions.
use Rattle.std.specs.Prelude.{◌≡◌, ◌++◌, Bool, true, false, [], ◌∷◌, codes, string_bytes}
use Rattle.std.specs.List.{flat_map}
use Rattle.std.specs.Fmt.{decimal}
use Rattle.line_script.specs.Names.{text_of_name}
use Rattle.scp_spec.specs.Hosts.{History}
use Rattle.scp_spec.specs.Networks.{Reply}
use Rattle.scp_spec.specs.Networks.Reply.{Done, Refused}
use Rattle.host_compare.specs.Crowding.{AreNeverCrowdedOut, IsCrowdHere}
use Rattle.host_compare.specs.Replies.{reply_of_answer}
use Rattle.host_compare.specs.declared.reply.Reply.{Reply as Replied}
use Rattle.host_compare.specs.declared.crowd_verdict.Crowd.{Crowd}
use Rattle.host_compare.specs.declared.crowd_verdict.Crowd.TheVariants.{CastDiffers, OutsideRoster, RosterDiffers}
use Rattle.host_compare.specs.declared.crowd_verdict.Crowd.TheVariants.{InputsDiffer, Same}
use Rattle.line_request.specs.Replies.{behind_space, refusal_text}
use Rattle.line_script.specs.Script.{Bytes}
use Rattle.line_run.specs.declared.answer.Answer.{Answer}
use Rattle.scp_types.specs.declared.subject.Subject.{Subject}

-- a text with a line feed (10) behind it
abbrev pub line : Bytes → Bytes
line text = text ++ 10 ∷ []

-- the line of a reply, as that of the same answer to an event
abbrev pub line_of_reply : Reply → Bytes
line_of_reply (Done outs) = line (codes "ok" ++ flat_map behind_space outs)
line_of_reply (Refused r) = line (refusal_text r)

-- the line of a reply as the code has it
abbrev pub line_of_replied : Replied → Bytes
line_of_replied r = line_of_reply (reply_of_answer r)

-- the lines of a verdict: what differs, or `same` and each reply
abbrev pub crowd_lines : Crowd → Bytes
crowd_lines (CastDiffers u) = line (codes "cast differs at " ++ text_of_name u)
crowd_lines RosterDiffers = line (codes "roster differs")
crowd_lines (OutsideRoster u) = line (codes "outside roster at " ++ text_of_name u)
crowd_lines (InputsDiffer place) = line (codes "inputs differ at " ++ decimal place)
crowd_lines (Same replies) = line (codes "same") ++ flat_map line_of_reply replies

-- whether the verdict names a difference
abbrev pub is_crowd_difference : Crowd → Bool
is_crowd_difference (Same replies) = false
is_crowd_difference (CastDiffers u) = true
is_crowd_difference RosterDiffers = true
is_crowd_difference (OutsideRoster u) = true
is_crowd_difference (InputsDiffer place) = true

-- an answer tells this verdict on two submissions
abbrev pub TellsVerdict : Crowd → Answer → Type 0
TellsVerdict verdict answer = (answer.differs ≡ is_crowd_difference verdict) × (string_bytes answer.text ≡ crowd_lines verdict)

-- the answer tells the right verdict on two submissions, and in these no member that a roster has is crowded out
pub record TellsCrowd (one other : History) (subject : Subject) (answer : Answer) : Type 0 where
  pub verdict : Crowd
  pub right : IsCrowdHere one other subject.net subject.slot subject.node verdict
  pub never_crowded_out : AreNeverCrowdedOut one other subject.net subject.slot subject.node
  pub tells : TellsVerdict verdict answer
