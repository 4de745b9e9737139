use Rattle.std.specs.List.{flat_map}
use Rattle.live_feed.specs.Lasting.{declaration_text}
use Rattle.std.specs.Map.{values_of}
use Rattle.live_feed.proofs.LastingLines.{IsAddedSoFar}
use Rattle.live_feed.proofs.lasting.Lines.push_declarations.Given as goal

abbrev pub invariant-loop-declaration : goal.invariant-loop-declaration
invariant-loop-declaration l = IsAddedSoFar (flat_map (declaration_text l.fn.self.networks)) l.fn.text.items (values_of l.fn.self.lasting.declarations) l.declaration-iterator l.text.items
