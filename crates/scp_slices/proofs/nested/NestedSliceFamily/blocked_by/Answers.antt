use Rattle.std.proofs.Common.{◌≡◌, ◌↔◌, IsTrue, subst, sym, rules}
use Rattle.scp_spec.specs.Sets.{among}
use Rattle.scp_spec.specs.Satisfaction.{sat, is_blocked, Blocks}
use Rattle.scp_spec.proofs.Slices.Satisfaction.{sat_dual}
use Rattle.scp_slices.proofs.nested.NestedSliceFamily.blocked_by.Goals as goal

pub returns-clause-exactly : goal.returns-clause-exactly
returns-clause-exactly c =
    let is : c.leaves_too_few.result ≡ is_blocked c.args.self.now (among c.args.nodes.now) = search rules in
    subst (λ b. IsTrue b ↔ Blocks sat c.args.self.now (among c.args.nodes.now)) (sym is) (sat_dual c.args.self.now (among c.args.nodes.now))
