use Rattle.std.proofs.Common.{◌∙◌, Vec, ℕ, List, Global, ap, map, arith}
use Rattle.host_closure.proofs.Readiness.{turned_raw, turned_first, none_past}
use Rattle.host_closure.proofs.ready.Ready.take.Goals as goal

pub returns-then-place-len-clause-turned : goal.returns-then-place-len-clause-turned
returns-then-place-len-clause-turned c =
    turned_raw (λ (v : Vec ℕ Global). v.items) c.self.inside.places.items c.args.self.now c.args.place c.replace.new.dest c.self.view_is
    (omega (arith, c.if-place-len.true, c.len.ensures, c.self.inside.places.ok.0)) (ap (λ (v : Vec ℕ Global). v.items) c.replace.ensures.after ∙ c.new.ensures.items)

pub returns-clause-numbers : goal.returns-clause-numbers
returns-clause-numbers c =
    none_past (λ (v : Vec ℕ Global). v.items) c.self.inside.places.items c.args.self.now c.args.place c.self.view_is (omega (arith, c.if-place-len.false, c.len.ensures, c.self.inside.places.ok.0))

pub returns-clause-turned : goal.returns-clause-turned
returns-clause-turned c =
    ap (λ (xs : List (Vec ℕ Global)). map (λ (v : Vec ℕ Global). v.items) xs) c.in_ok-push.ensures.items
    ∙ turned_first (λ (v : Vec ℕ Global). v.items) c.self.inside.places.items c.args.self.now c.args.place c.new-2.result c.self.view_is
    (omega (arith, c.if-place-len.false, c.len.ensures, c.self.inside.places.ok.0)) c.new-2.ensures.items
