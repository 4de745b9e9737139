use Rattle.std.proofs.Common.{◌≡◌, ◌≤◌, ◌^◌, ◌==◌, cond, List, [], Option, Some, None, option_map, IfSome, length, get_or, drop, map, ap, sym, ◌∙◌, subst, refl, arith}
use Rattle.std.proofs.lemmas.List.{get_or_default, get_or-map, drop-map, drop_all, length-map}
use Rattle.scp_types.specs.Trees.{Slices, depth_of, member_count, HaveThresholds}
use Rattle.scp_types.specs.Shape.{members_of}
use Rattle.scp_types.specs.declared.nested.Member.{Member}
use Rattle.scp_types.specs.declared.nested.Member.TheVariants.{Set}
use Rattle.scp_spec.specs.Weights.{Fraction}
use Rattle.scp_federation.specs.declared.flat_set.FlatMember.{FlatMember}
use Rattle.scp_federation.specs.declared.flat_set.FlatMember.TheVariants.{Name, Inner}
use Rattle.scp_federation.specs.Numbers.{member_by, set_at}
use Rattle.scp_slices.specs.Weighing.{whole, part_of, share_in, share_of}
use Rattle.scp_slices.proofs.WeighingLaws.{share_of_member, share_at, part_is, share_of_within}
use Rattle.scp_slices.proofs.MemberLaws.{member_count_is, inner_keeps_rules}
use Rattle.scp_federation.proofs.NumberLaws.{stands_for, number_at}
use Rattle.scp_federation.proofs.form.+weight_at.Goals as goal
use Rattle.scp_federation.proofs.form.+weight_at.Goals.{in-Name, in-Inner}

pub weight_at-found-requires : goal.weight_at-found-requires
weight_at-found-requires t c =
    let us = c.args.names.now in
    let sets = c.args.sets.now in
    let f = set_at us sets in
    let set = c.index-sets-number.result in
    let ms = c.members-members.result.now in
    let i = c.loop-member.member-index in
    let inner = c.in-Inner.inner in
    let is = stands_for us sets c.args.number set ms c.requires.number c.requires.numbers c.index-sets-number.is c.members-members.ensures in
    let fits = number_at us sets c.args.number set ms i (Inner inner) c.requires.number c.requires.numbers c.index-sets-number.is c.members-members.ensures c.loop-member-test.true c.in-Inner.is in
    let own = map (member_by us f) ms in
    let within = length-map ms (member_by us f) in
    let at : Set (f inner) ≡ get_or own i (Set (f inner)) =
    sym (get_or-map (member_by us f) ms i (Name 0) (Set (f inner)) c.loop-member-test.true ∙ ap (λ (m : FlatMember). member_by us f m) c.in-Inner.is) in
    let rules = inner_keeps_rules own i (Set (f inner)) (f inner) (omega (arith, within, c.loop-member-test.true)) at refl
    (subst HaveThresholds (ap (λ (q : Slices). q.members) is) c.requires.inner_sets) in
    let depth = ap (λ (q : Slices). depth_of q.members) is in (
      omega (arith, fits.0, fits.1, c.decreases, c.requires.number),
      (c.requires.numbers, (fits.1, (rules.0, (rules.1, omega (arith, rules.2, depth, c.requires.levels))))),
    )

pub overflow_cast-members : goal.overflow_cast-members
overflow_cast-members t c =
    let us = c.args.names.now in
    let f = set_at us c.args.sets.now in
    let ms = c.members-members.result.now in
    let is = stands_for us c.args.sets.now c.args.number c.index-sets-number.result ms c.requires.number c.requires.numbers c.index-sets-number.is c.members-members.ensures in
    omega (arith, member_count_is (map (member_by us f) ms), length-map ms (member_by us f), ap (λ (q : Slices). member_count q.members) is, c.requires.threshold)

pub returns-in-Some-clause-value : goal.returns-in-Some-clause-value
returns-in-Some-clause-value t c =
    let us = c.args.names.now in
    let sets = c.args.sets.now in
    let f = set_at us sets in
    let set = c.index-sets-number.result in
    let ms = c.members-members.result.now in
    let i = c.loop-member.member-index in
    let u = c.args.node.now in
    let part = c.in-Some.share in
    let own = map (member_by us f) ms in
    let m = member_by us f (get_or ms i (Name 0)) in
    let is = stands_for us sets c.args.number set ms c.requires.number c.requires.numbers c.index-sets-number.is c.members-members.ensures in
    let gives : share_of_member m u ≡ Some part = elim c.match-member.branch [
      | in-Name w ↦
          let fits = number_at us sets c.args.number set ms i (Name w.in-Name.place) c.requires.number c.requires.numbers c.index-sets-number.is c.members-members.ensures c.loop-member-test.true w.in-Name.is in
          let named = w.index-names-place.is ∙ get_or_default us w.in-Name.place w.index-names-place.result 0 fits in
          ap (λ (x : FlatMember). share_of_member (member_by us f x) u) w.in-Name.is
          ∙ (ap (λ x. cond (x == u) (Some whole) None) (sym named) ∙ (sym w.own_weight-found.ensures.value ∙ (sym w.found-is ∙ c.in-Some.is)))
      | in-Inner w ↦
          ap (λ (x : FlatMember). share_of_member (member_by us f x) u) w.in-Inner.is ∙ (sym w.weight_at-found.ensures.value ∙ (sym w.found-is ∙ c.in-Some.is))
    ] in
    let at : m ≡ get_or own i m = sym (get_or-map (member_by us f) ms i (Name 0) m c.loop-member-test.true) in
    let first = share_at own i m u part (omega (arith, length-map ms (member_by us f), c.loop-member-test.true)) at gives in
    let found : share_in (members_of own) u ≡ Some part =
    sym c.loop-member.invariant ∙ (ap (λ (xs : List Member). share_in (members_of xs) u) (sym (drop-map (member_by us f) i ms)) ∙ first) in
    let counted : length ms ≡ member_count (members_of own) = sym (member_count_is own ∙ length-map ms (member_by us f)) in
    let whole_is : share_of (set_at us sets c.args.number) u ≡ Some (part_of set.threshold (length ms) part) =
    ap (λ (q : Slices). share_of q u) is ∙ part_is (record { threshold = set.threshold; members = members_of own }) u (length ms) part counted found in
    cc

pub returns-in-Some-clause-fits : goal.returns-in-Some-clause-fits
returns-in-Some-clause-fits t c =
    let q = set_at c.args.names.now c.args.sets.now c.args.number in
    let value : ◌≡◌ {A = Option Fraction} (Some c.part.result) (share_of q c.args.node.now) = returns-in-Some-clause-value t c in
    subst (λ (o : Option Fraction). IfSome o (λ w. (w.numerator ≤ 64 ^ 9) × (w.denominator ≤ 64 ^ 9))) (sym value)
    (share_of_within q c.args.node.now c.requires.threshold c.requires.inner_sets c.requires.levels)

pub returns-clause-value : goal.returns-clause-value
returns-clause-value t c =
    let us = c.args.names.now in
    let f = set_at us c.args.sets.now in
    let set = c.index-sets-number.result in
    let ms = c.members-members.result.now in
    let u = c.args.node.now in
    let own = members_of (map (member_by us f) ms) in
    let is = stands_for us c.args.sets.now c.args.number set ms c.requires.number c.requires.numbers c.index-sets-number.is c.members-members.ensures in
    let none_left : drop c.loop-member.member-index ms ≡ [] = drop_all c.loop-member.member-index ms c.loop-member-test.false in
    let none : ◌≡◌ {A = Option Fraction} None (share_in own u) =
    ap (λ (left : List FlatMember). share_in (members_of (map (member_by us f) left)) u) (sym none_left) ∙ c.loop-member.invariant in
    ap (λ (o : Option Fraction). option_map (part_of set.threshold (member_count own)) o) none ∙ sym (ap (λ (q : Slices). share_of q u) is)
