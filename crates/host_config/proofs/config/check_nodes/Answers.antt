use Rattle.std.proofs.Common.{◌<◌, ◌∙◌, sym, length, arith}
use Rattle.std.proofs.lemmas.Bool.{eqb-true, eqb-false}
use Rattle.std.proofs.lemmas.List.Sorted.{length_permutation}
use Rattle.host_config.proofs.FaultLaws.{no-nodes, too-many-nodes, good-nodes}
use Rattle.host_config.proofs.config.check_nodes.Goals as goal

pub returns-then-is_empty-clause-fault : goal.returns-then-is_empty-clause-fault
returns-then-is_empty-clause-fault c =
    let nodes = c.args.nodes.items in
    let same = length_permutation nodes c.in-Some.nodes.items c.in-Some.ensures.nodes in
    let none = eqb-true _ 0 (sym c.is_empty.ensures ∙ c.if-is_empty.true) in
    no-nodes nodes (sym c.in-Some.ensures.exactly) (omega (arith, same, none, c.in-Some.nodes.ok))

pub returns-then-len-gt-MAX_NODES-clause-fault : goal.returns-then-len-gt-MAX_NODES-clause-fault
returns-then-len-gt-MAX_NODES-clause-fault c =
    let nodes = c.args.nodes.items in
    let same = length_permutation nodes c.in-Some.nodes.items c.in-Some.ensures.nodes in
    too-many-nodes nodes (sym c.in-Some.ensures.exactly) (omega (arith, same, c.if-len-gt-MAX_NODES.true, c.len.ensures, c.in-Some.nodes.ok))

pub returns-clause-faultless : goal.returns-clause-faultless
returns-clause-faultless c =
    let nodes = c.args.nodes.items in
    let same = length_permutation nodes c.in-Some.nodes.items c.in-Some.ensures.nodes in
    let some = eqb-false _ 0 (sym c.is_empty.ensures ∙ c.if-is_empty.false) in
    let there : 0 < length nodes = omega (arith, same, some, c.in-Some.nodes.ok) in
    good-nodes nodes (sym c.in-Some.ensures.exactly) there (omega (arith, same, c.if-len-gt-MAX_NODES.false, c.len.ensures, c.in-Some.nodes.ok))
