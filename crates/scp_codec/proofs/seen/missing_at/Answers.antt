use Rattle.std.proofs.Common.{Ok, Err, ◌<◌, sym, arith}
use Rattle.std.proofs.lemmas.Grind.{common_steps}
use Rattle.scp_codec.proofs.SeenLaws.{among, at_end, names_searched}
use Rattle.scp_codec.proofs.seen.missing_at.Goals as goal

pub returns-then-lt : goal.returns-then-lt
returns-then-lt c =
    let below : c.in-Some.last.now < c.args.name = grind (arith, common_steps, c.lt.ensures, c.if-lt.true) in
    let item = c.in-Some.ensures.item in
    at_end c.args.ascending.now c.args.name c.in-Some.last.now c.requires item.3.0 (sym (item.4 (omega arith) 0)) below

pub returns-in-Ok : goal.returns-in-Ok
returns-in-Ok c =
    let s = names_searched c.args.ascending.now c.args.name (Ok c.in-Ok.field-0) c.requires c.in-Ok.ensures.position in
    among c.args.ascending.now c.args.name c.in-Ok.field-0 s.0 s.1

pub returns-in-Err : goal.returns-in-Err
returns-in-Err c =
    let s = names_searched c.args.ascending.now c.args.name (Err c.in-Err.place) c.requires c.in-Err.ensures.position in
    record { within = s.0; before = s.1; from = s.2 }
