use Rattle.std.proofs.Common.{Vec, ℕ, Global, arith}
use Rattle.host_closure.proofs.Readiness.{put_raw, put_past}
use Rattle.host_closure.proofs.ready.Ready.put.Goals as goal

pub returns-in_ok-push : goal.returns-in_ok-push
returns-in_ok-push c =
    put_raw (λ (v : Vec ℕ Global). v.items) c.self.inside.places.items c.args.self.now c.args.place c.args.number c.index_mut.result.now c.push.new.self c.self.view_is
    (omega (arith, c.if-place-len.true, c.len.ensures, c.self.inside.places.ok.0)) c.index_mut.ensures.value c.in_ok-push.ensures.items

pub returns-else-place-len : goal.returns-else-place-len
returns-else-place-len c =
    put_past (λ (v : Vec ℕ Global). v.items) c.self.inside.places.items c.args.self.now c.args.place c.args.number c.self.view_is
    (omega (arith, c.if-place-len.false, c.len.ensures, c.self.inside.places.ok.0))
