use Rattle.std.proofs.Common.{rules, ◌≡◌, ◌==◌, true, sym, ◌∙◌, arith}
use Rattle.std.proofs.lemmas.Bool.Decides.{nat_tests}
use Rattle.host_config.proofs.Names.{place-there}
use Rattle.host_config.proofs.config.stands_at.Goals as goal

pub returns-in-Some : goal.returns-in-Some
returns-in-Some c h =
    let tested : (c.in-Some.there.now == c.args.name.now) ≡ true = search rules in
    let same : c.in-Some.there.now ≡ c.args.name.now = grind (arith, nat_tests, tested) in
    let there = c.in-Some.ensures.lookup.3 in
    place-there c.args.names.now c.args.name.now c.args.place c.requires there.0 (sym (there.1 0) ∙ same)
