use Rattle.std.proofs.Common.{ap, subst}
use Rattle.node_store.specs.Archives.{Archived, TellSlices, sent_of, slices_if_any}
use Rattle.node_store.proofs.archive.Archive.tells_same_slices.Goals as goal

pub returns : goal.returns
returns g c = λ same.
    let inside = c.self.inside in
    let told : TellSlices c.args.self.now inside.told.numbers.items inside.told.last = subst (λ (a : Archived). TellSlices a inside.told.numbers.items inside.told.last) c.self.view_is c.self.invariant.1 in
    told.same _ _ (sent_of c.args.one.now).slices (sent_of c.args.other.now).slices (c.are_same.ensures same) (ap slices_if_any c.requires.one) (ap slices_if_any c.requires.other)
