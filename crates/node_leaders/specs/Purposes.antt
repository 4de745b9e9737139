-- What a hash is for.
use Rattle.std.specs.Prelude.{ℕ}
use Rattle.node_leaders.specs.declared.draw.Purpose.{Purpose}
use Rattle.node_leaders.specs.declared.draw.Purpose.TheVariants.{Neighbour, Priority}

-- the byte that tells the purposes of a hash from each other
abbrev pub tag_of : Purpose → ℕ
tag_of Neighbour = 1
tag_of Priority = 2
