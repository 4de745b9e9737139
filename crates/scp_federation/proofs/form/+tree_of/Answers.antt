use Rattle.std.proofs.Common.{◌≡◌, List, [], ◌++◌, drop, map, append-nil, ◌∙◌, ap, sym}
use Rattle.std.proofs.lemmas.List.{drop_all}
use Rattle.scp_types.specs.Shape.{members_of}
use Rattle.scp_federation.specs.declared.flat_set.FlatMember.{FlatMember}
use Rattle.scp_federation.specs.Numbers.{member_by, set_by, set_at}
use Rattle.scp_federation.proofs.NumberLaws.{stands_for}
use Rattle.scp_federation.proofs.form.+tree_of.Goals as goal

pub returns : goal.returns
returns t c =
    let us = c.args.names.now in
    let f = set_at us c.args.sets.now in
    let set = c.index-sets-number.result in
    let flat = c.members-flat.result.now in
    let made_items = c.loop-member.members.items in
    let is = stands_for us c.args.sets.now c.args.number set flat c.requires.number c.requires.numbers c.index-sets-number.is c.members-flat.ensures in
    let none_left : drop c.loop-member.member-index flat ≡ [] = drop_all c.loop-member.member-index flat c.loop-member-test.false in
    let done : made_items ≡ map (member_by us f) flat =
    sym (append-nil made_items) ∙ (ap (λ (left : List FlatMember). made_items ++ map (member_by us f) left) (sym none_left) ∙ c.loop-member.invariant) in
    let made : c.new.result ≡ set_by us f (record { threshold = set.threshold; members = flat }) =
    λ j. record { threshold = (c.new.ensures.threshold ∙ c.threshold.ensures) j; members = (c.new.ensures.members ∙ ap members_of done) j } in
    made ∙ sym is
