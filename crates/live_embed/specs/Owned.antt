-- What a handle owns.
use base.Fml.{Fml, feq}
use base.Stored.{Coded}
use denote.RawPtr.{Ptr, null_ptr}
use Rattle.std.specs.Prelude.{Option, None, Some}
use Rattle.std.specs.Coded.{coded_option}
use Rattle.std.specs.Box.Ownership.{box_owns}
use Rattle.std.specs.Global.{Global}
use Rattle.std.specs.contracts.impls.GlobalAllocator.TheImpl.{ghosts}
use Rattle.live_embed.specs.contracts.embedded.Embedded.{the_row}

-- a handle that holds nothing is null; at another one's pointer lies what it holds, and the handle may free it
abbrev pub handle_owns : Global → Ptr → Option the_row.Denot → Fml
handle_owns alloc at None = feq Ptr at null_ptr
handle_owns alloc at (Some kept) = box_owns (ghosts.dealloc_token alloc) the_row at kept

-- how a proof tells apart what handles hold
abbrev pub kept_coded : Coded (Option the_row.Denot)
kept_coded = coded_option the_row.coded
