-- A handle that is in use and its parts own what a box at the same types owns.
use mir.Syntax.{impl, tnil, dnil}
use mathlib.Core.List.{[]}
use denote.Signature.{Slot, plain}
use Rattle.std.proofs.BoxSteps.Form.{Bx}
use Rattle.std.specs.contracts.alloc.Global as Heap
use Rattle.std.specs.contracts.impls.GlobalAllocator.TheImpl.{ghosts, dict}
use Rattle.std.proofs.alloc.Global.TheLaws as heap
use Rattle.live_embed.specs.contracts.embedded.Embedded as Embedded
use Rattle.live_embed.proofs.embedded.Embedded.TheLaws as embedded
use Rattle.live_embed.specs.contracts.parts.Parts as Parts
use Rattle.live_embed.specs.contracts.handle.ScpHost as ScpHost

abbrev pub E : Bx
E = record { row = Embedded.the_row; laws = embedded.the_row_laws; al = record { row = Heap.the_row; laws = heap.the_row_laws; g = ghosts; d = dict; drops = impl [] tnil dnil } }

abbrev pub FromParts : Slot 0
FromParts = plain (λ _. Parts.the_row Embedded.the_row Heap.the_row ghosts)

abbrev pub FromHandle : Slot 0
FromHandle = plain (λ _. ScpHost.the_row)
