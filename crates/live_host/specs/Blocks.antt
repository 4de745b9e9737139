-- What is printed of a line.
use Rattle.std.specs.Prelude.{◌≢◌, ◌++◌, ◌∷◌, [], ℕ, Bool, true, false, List, codes}
use Rattle.std.specs.List.{flat_map}
use Rattle.std.specs.Fmt.{decimal}
use Rattle.scp_spec.specs.Networks.{Reply}
use Rattle.scp_spec.specs.Networks.Reply.{Done, Refused}
use Rattle.line_script.specs.Script.{Bytes}
use Rattle.line_script.specs.Names.{text_of_name}
use Rattle.line_script.specs.Words.{space_between}
use Rattle.scp_codec.specs.Spelling.{spelling}
use Rattle.hex.specs.Hex.{encode_lower}
use Rattle.scp_types.specs.declared.event.Out.{Out}
use Rattle.scp_types.specs.declared.event.Out.TheVariants.{Emit}
use Rattle.scp_types.specs.declared.event.Refusal.TheVariants.{NoMemory}
use Rattle.line_request.specs.Replies.{refusal_text, text_of_out}
use Rattle.live_network.specs.Serving.{Ending, ToldReply}
use Rattle.live_network.specs.Serving.Ending.{IsDone, IsRefused}
use Rattle.live_host.specs.declared.block.Closing.{Closing}
use Rattle.live_host.specs.declared.block.Closing.TheVariants.{Bad, Stale, Taken}
use Rattle.live_host.specs.declared.block.Closing.TheVariants as closing

-- what is given out, in words or, if that is asked, with an envelope as its bytes in lower-case hexadecimal
abbrev pub text_of_out_as : Bool → Out → Bytes
text_of_out_as true (Emit e) = codes "emit " ++ encode_lower (spelling e)
text_of_out_as true out = text_of_out out
text_of_out_as false out = text_of_out out

-- what is given out, so printed, behind a space (32)
abbrev pub behind_space_as : Bool → Out → Bytes
behind_space_as bytes out = 32 ∷ text_of_out_as bytes out

-- what a step of a node gave out, or why it was refused, behind a space
abbrev pub text_of_reply : Bool → Reply → Bytes
text_of_reply bytes (Done outs) = flat_map (behind_space_as bytes) outs
text_of_reply bytes (Refused r) = 32 ∷ refusal_text r

-- what a line on a step begins with: the number of the line that is answered, the network, the slot and the node
abbrev pub front_of_line : ℕ → ℕ → ℕ → ℕ → Bytes
front_of_line n g i u = space_between (decimal n) (space_between (decimal g) (space_between (decimal i) (text_of_name u)))

-- a line on a step of a node, with a line feed (10)
abbrev pub line_of_telling : Bool → ℕ → ℕ → ℕ → ToldReply → Bytes
line_of_telling bytes n g i t = front_of_line n g i t.node ++ (text_of_reply bytes t.reply ++ 10 ∷ [])

-- how the answer to a line ends
abbrev pub text_of_closing : Closing → Bytes
text_of_closing Taken = codes "ok"
text_of_closing Stale = codes "stale"
text_of_closing (closing.Refused r) = refusal_text r
text_of_closing Bad = codes "bad"

-- the line that closes a block
abbrev pub closing_line : ℕ → Closing → Bytes
closing_line n c = space_between (decimal n) (text_of_closing c ++ 10 ∷ [])

abbrev pub closing_of_done : Bool → Closing
closing_of_done true = Stale
closing_of_done false = Taken

-- how the answer to an event ends
abbrev pub closing_of : Ending → Closing
closing_of (IsRefused r) = closing.Refused r
closing_of (IsDone stale) = closing_of_done stale

-- the block of an event of a network
abbrev pub block_of : Bool → ℕ → ℕ → ℕ → List ToldReply → Ending → Bytes
block_of bytes n g i told ending = flat_map (line_of_telling bytes n g i) told ++ closing_line n (closing_of ending)

-- ---- out of memory
-- how a line ends that says that it was out of memory: ` refused 13 NoMemory`, and a line feed (10)
abbrev pub want_of_memory : Bytes
want_of_memory = (32 ∷ refusal_text NoMemory) ++ 10 ∷ []

-- nothing in a block says that it was out of memory
abbrev pub TellsOfNoWant : Bytes → Type 0
TellsOfNoWant text = (front rest : Bytes) → text ≢ front ++ (want_of_memory ++ rest)
