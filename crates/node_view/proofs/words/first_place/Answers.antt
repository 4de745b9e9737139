use Rattle.std.proofs.Common.{◌<◌, ◌^◌, rules, get_or, refl}
use Rattle.node_view.proofs.WordLaws.{first_found}
use Rattle.node_view.proofs.words.first_place.Goals as goal

pub returns-then-word-ne0-clause-some : goal.returns-then-word-ne0-clause-some
returns-then-word-ne0-clause-some c =
    let ws = c.args.places.now in
    let n = c.loop-index.index in
    let fits : get_or ws n 0 < 2 ^ 64 = search rules in
    first_found ws n (get_or ws n 0) refl c.if-word-ne0.true fits
