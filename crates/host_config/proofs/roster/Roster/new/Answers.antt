use Rattle.std.proofs.Common.{◌≤◌, ◌∙◌, sym, length, arith}
use Rattle.std.proofs.lemmas.List.Sorted.{length_permutation}
use Rattle.host_config.proofs.FaultLaws.{roster-too-long, share-too-large, good-roster}
use Rattle.host_config.proofs.roster.Roster.new.Goals as goal

pub returns-then-len-gt-MAX_ROSTER-clause-fault : goal.returns-then-len-gt-MAX_ROSTER-clause-fault
returns-then-len-gt-MAX_ROSTER-clause-fault c =
    let names = c.args.names.items in
    let same = length_permutation names c.in-Some.names.items c.in-Some.ensures.names in
    roster-too-long names c.args.shares (sym c.in-Some.ensures.exactly) (omega (arith, same, c.if-len-gt-MAX_ROSTER.true, c.len.ensures, c.in-Some.names.ok))

pub returns-then-is_too_large-clause-fault : goal.returns-then-is_too_large-clause-fault
returns-then-is_too_large-clause-fault c =
    let names = c.args.names.items in
    let same = length_permutation names c.in-Some.names.items c.in-Some.ensures.names in
    let few : length names ≤ 1024 = omega (arith, same, c.if-len-gt-MAX_ROSTER.false, c.len.ensures, c.in-Some.names.ok) in
    share-too-large names c.args.shares (sym c.in-Some.ensures.exactly) few (sym c.is_too_large.ensures ∙ c.if-is_too_large.true)

pub returns-clause-faultless : goal.returns-clause-faultless
returns-clause-faultless c =
    let names = c.args.names.items in
    let same = length_permutation names c.in-Some.names.items c.in-Some.ensures.names in
    let few : length names ≤ 1024 = omega (arith, same, c.if-len-gt-MAX_ROSTER.false, c.len.ensures, c.in-Some.names.ok) in
    good-roster names c.args.shares (sym c.in-Some.ensures.exactly) few (sym c.is_too_large.ensures ∙ c.if-is_too_large.false)
