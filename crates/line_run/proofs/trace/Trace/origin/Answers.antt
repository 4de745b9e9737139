use Rattle.std.proofs.Common.{◌≡◌, ◌<◌, ◌≤◌, length, get_or, ap, subst, arith}
use Rattle.line_run.specs.Unprinted.{Trace}
use Rattle.line_run.proofs.Origins.{all-lines, one-more}
use Rattle.line_run.proofs.trace.Trace.origin.Goals as goal

pub loop-number-preserved : goal.loop-number-preserved
loop-number-preserved c =
    let t = c.args.self.now in
    let i = c.loop-number.number in
    let same : length c.self.inside.lines.items ≡ length t = ap (λ (x : Trace). length x) c.self.view_is in
    let inside : i < length t = omega (arith, same, c.loop-number-test.true, c.len-number-end.ensures, c.self.inside.lines.ok) in
    let line : c.index.result.now ≡ get_or t i c.index.result.now = subst (λ (x : Trace). c.index.result.now ≡ get_or x i c.index.result.now) c.self.view_is c.index.ensures in
    one-more t i c.index.result.now c.args.net c.args.entry c.loop-number.found _ inside line c.loop-number.invariant c.origin_with-found.ensures

pub returns : goal.returns
returns c =
    let same : length c.self.inside.lines.items ≡ length c.args.self.now = ap (λ (x : Trace). length x) c.self.view_is in
    let past : length c.args.self.now ≤ c.loop-number.number = omega (arith, same, c.loop-number-test.false, c.len-number-end.ensures, c.self.inside.lines.ok) in
    all-lines c.args.self.now c.loop-number.number c.args.net c.args.entry c.loop-number.found past c.loop-number.invariant
