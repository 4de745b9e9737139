-- What is printed of the answer to an event.
use Rattle.std.specs.Prelude.{◌≡◌, ◌++◌, ℕ, ◌∷◌, Result, Ok, Err, List, codes}
use Rattle.std.specs.List.{flat_map}
use Rattle.std.specs.Fmt.{decimal}
use Rattle.line_script.specs.Script.{Bytes}
use Rattle.line_script.specs.Printed.{text_of_statement}
use Rattle.line_script.specs.Values.{text_of_value}
use Rattle.scp_types.specs.declared.event.Out.{Out}
use Rattle.scp_types.specs.declared.event.Out.TheVariants.{ArmNomination, ArmBallot, Emit, Externalized}
use Rattle.scp_types.specs.declared.event.Refusal.{Refusal}
use Rattle.scp_types.specs.declared.event.Refusal.TheVariants.{NoSuchNetwork, NoSuchNode, SlotNotOpen, SlotOpenAlready, TooManySlots, BadEnvelope, HostedSender, NotEmitted, JournalFull, BytesFull, BadValue, ProposedAlready, NoMemory, ShareFull, ShareBytesFull}

-- the number by which a refusal is known
abbrev pub refusal_number : Refusal → ℕ
refusal_number NoSuchNetwork = 1
refusal_number NoSuchNode = 2
refusal_number SlotNotOpen = 3
refusal_number SlotOpenAlready = 4
refusal_number TooManySlots = 5
refusal_number (BadEnvelope fault) = 6
refusal_number HostedSender = 7
refusal_number NotEmitted = 8
refusal_number JournalFull = 9
refusal_number BytesFull = 10
refusal_number BadValue = 11
refusal_number ProposedAlready = 12
refusal_number NoMemory = 13
refusal_number ShareFull = 15
refusal_number ShareBytesFull = 16

-- the word of a refusal
abbrev pub refusal_name : Refusal → Bytes
refusal_name NoSuchNetwork = codes "NoSuchNetwork"
refusal_name NoSuchNode = codes "NoSuchNode"
refusal_name SlotNotOpen = codes "SlotNotOpen"
refusal_name SlotOpenAlready = codes "SlotOpenAlready"
refusal_name TooManySlots = codes "TooManySlots"
refusal_name (BadEnvelope fault) = codes "BadEnvelope"
refusal_name HostedSender = codes "HostedSender"
refusal_name NotEmitted = codes "NotEmitted"
refusal_name JournalFull = codes "JournalFull"
refusal_name BytesFull = codes "BytesFull"
refusal_name BadValue = codes "BadValue"
refusal_name ProposedAlready = codes "ProposedAlready"
refusal_name NoMemory = codes "NoMemory"
refusal_name ShareFull = codes "ShareFull"
refusal_name ShareBytesFull = codes "ShareBytesFull"

-- its number and its name, with a space (32) between
abbrev pub refusal_words : Refusal → Bytes
refusal_words r = decimal (refusal_number r) ++ 32 ∷ refusal_name r

-- the line of a refusal; that of bytes that are no envelope ends in the number of their fault
abbrev pub refusal_text : Refusal → Bytes
refusal_text (BadEnvelope fault) = codes "refused " ++ (decimal 6 ++ 32 ∷ (codes "BadEnvelope" ++ 32 ∷ decimal fault))
refusal_text r = codes "refused " ++ refusal_words r

-- what an event gives out: a word, and behind a space the round, the counter, the statement or the value
abbrev pub text_of_out : Out → Bytes
text_of_out (ArmNomination round) = codes "arm-nomination " ++ decimal round
text_of_out (ArmBallot counter) = codes "arm-ballot " ++ decimal counter
text_of_out (Emit e) = codes "emit " ++ text_of_statement e.body
text_of_out (Externalized v) = codes "externalized " ++ text_of_value v

-- what an event gives out, in words behind a space (32)
abbrev pub behind_space : Out → Bytes
behind_space out = 32 ∷ text_of_out out

-- the line of an answer: `ok` and what the event gives out, in order, or the line of the refusal
abbrev pub reply_text : Result (List Out) Refusal → Bytes
reply_text (Ok outs) = codes "ok" ++ flat_map behind_space outs
reply_text (Err r) = refusal_text r

-- a text is the line of an answer: `ok` and what the event gives out, or the refusal
abbrev pub IsReply : Result (List Out) Refusal → Bytes → Type 0
IsReply r text = text ≡ reply_text r
