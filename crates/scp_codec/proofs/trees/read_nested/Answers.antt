use Rattle.std.proofs.Common.{ℕ, List, [], ap, sym, ◌∙◌}
use Rattle.scp_codec.specs.Reading.{set_with, inner_at}
use Rattle.scp_codec.proofs.TreeLaws.{Laws-set, Laws-inner, nothing_seen, nested_is}
use Rattle.scp_codec.proofs.trees.read_nested.Goals as goal

pub of-requires : goal.of-requires
of-requires c =
    let e = ap (λ (seen : List ℕ). set_with (inner_at c.args.levels) seen c.args.reader.now) (sym c.new-seen.ensures) ∙ c.in_ok-set.ensures.read in
    nested_is c.args.levels c.in_ok-set.set c.requires ((Laws-set c.args.levels (Laws-inner c.args.levels) [] nothing_seen).takes c.args.reader.now (c.in_ok-set.set, c.read_set.new.reader) c.read_set.ensures.bytes e).1
