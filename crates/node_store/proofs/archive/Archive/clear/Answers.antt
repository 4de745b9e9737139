use Rattle.std.proofs.Common.{None}
use Rattle.std.specs.Prelude.{IfSome}
use Rattle.std.proofs.lemmas.List.Elements.{All-set}
use Rattle.node_store.proofs.Growing.{cleared}
use Rattle.node_store.proofs.Telling.{told-freed}
use Rattle.node_store.proofs.archive.Archive.clear.Goals as goal

pub invariant_of-self : goal.invariant_of-self
invariant_of-self g c =
    let inside = c.self.inside in (
      All-set (λ o. IfSome o (g.S.Places.is_of inside.shelf)) inside.places.items c.args.number None tt c.self.invariant.0,
      told-freed g.S.Places.put_there inside.places.items c.args.number inside.told.numbers.items inside.told.last c.self.invariant.1,
    )

pub returns : goal.returns
returns g c = cleared g.S.Places.put_there _ c.self.inside.places.items c.args.number c.self.view_is
