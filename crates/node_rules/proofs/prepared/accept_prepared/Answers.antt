use Rattle.std.proofs.Common.{rules, ◌∙◌, ap}
use Rattle.node_rules.specs.Drafted.{after}
use Rattle.node_rules.proofs.PreparedLaws.{found-none, found-some, found-under}
use Rattle.node_rules.proofs.prepared.accept_prepared.Goals as goal

pub returns-in_default-2-clause-draft : goal.returns-in_default-2-clause-draft
returns-in_default-2-clause-draft g c = found-none (g.S.Sight.seen c.args.sight.now) c.in-Some.ballot c.votes-votes.result.now c.in_ok-prepared.field-0 c.args.draft.now c.votes-votes.ensures c.in-Some.is c.in_default-2.is c.in_ok-prepared.ensures

pub aborted_by-aborted-requires : goal.aborted_by-aborted-requires
aborted_by-aborted-requires g c = found-under (g.S.Sight.seen c.args.sight.now) c.in-Some.ballot c.votes-votes.result.now c.in_ok-prepared.field-0 c.in-Some-2.prepared c.in-Some-2.is c.in_ok-prepared.ensures

pub returns-clause-draft : goal.returns-clause-draft
returns-clause-draft g c =
    let a = c.aborted_by-aborted.result in
    let all = found-some (g.S.Sight.seen c.args.sight.now) c.in-Some.ballot c.votes-votes.result.now c.in_ok-prepared.field-0 c.args.draft.now c.in-Some-2.prepared a c.votes-votes.ensures c.in-Some.is c.in-Some-2.is c.in_ok-prepared.ensures c.aborted_by-aborted.ensures in
    let done = c.in_ok-set_aborted.ensures.ok ∙ ap (after (λ v. record v { aborted = a })) c.in_ok-set_prepared.ensures.ok ∙ all in
    search rules
