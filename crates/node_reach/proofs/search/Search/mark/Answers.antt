use Rattle.std.proofs.Common.{◌≡◌, ◌∙◌, ◌<◌, arith, false, true, get_or, length, refl, rules, sym}
use Rattle.std.proofs.lemmas.List.{get_or_default}
use Rattle.node_reach.proofs.Finding.{marks_none, marks_one}
use Rattle.node_reach.proofs.search.Search.mark.Goals as goal

pub returns : goal.returns
returns c =
    let s = c.args.self.now in
    let unset : get_or s.marks.items c.args.place false ≡ false = search rules in
    marks_one s c.requires.search _ c.args.place c.requires.within unset refl refl refl c.in_ok-push.ensures.items

pub returns-then-index : goal.returns-then-index
returns-then-index c =
    let s = c.args.self.now in
    let room : c.args.place < length s.marks.items = omega (arith, c.requires.within, c.requires.search.sized) in
    let is : get_or s.marks.items c.args.place false ≡ true = get_or_default s.marks.items c.args.place false c.index.result.now room ∙ (sym c.index.ensures ∙ c.if-index.true) in
    marks_none s c.requires.search c.args.place c.requires.within is
