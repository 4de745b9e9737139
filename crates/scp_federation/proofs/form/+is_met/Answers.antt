use Rattle.std.proofs.Common.{◌≡◌, ℕ, cond, length, get_or, ◌∙◌, ap, sym, leb, arith}
use Rattle.std.proofs.lemmas.List.{get_or_default}
use Rattle.scp_spec.specs.Sets.{among}
use Rattle.scp_federation.specs.declared.flat_set.FlatMember.{FlatMember}
use Rattle.scp_federation.specs.declared.flat_set.FlatMember.TheVariants.{Name}
use Rattle.scp_federation.specs.Numbers.{set_at}
use Rattle.scp_federation.proofs.NumberLaws.{stands_for, number_at}
use Rattle.scp_federation.proofs.MeetingLaws.{needed, member_is_met, one_more, all_asked}
use Rattle.scp_federation.proofs.form.+is_met.Goals as goal
use Rattle.scp_federation.proofs.form.+is_met.Goals.{in-Name, in-Inner, then-met, else-met}

pub loop-member-preserved : goal.loop-member-preserved
loop-member-preserved t c =
    let us = c.args.names.now in
    let f = set_at us c.args.sets.now in
    let set = c.index-sets-number.result in
    let ms = c.members-members.result.now in
    let s = among c.args.nodes.now in
    let i = c.loop-member.member-index in
    let b = c.args.blocking in
    let is : c.match-member.met ≡ member_is_met b us f (get_or ms i (Name 0)) s = elim c.match-member.branch [
      | in-Name w ↦
          let fits = number_at us c.args.sets.now c.args.number set ms i (Name w.in-Name.place) c.requires.number c.requires.numbers c.index-sets-number.is c.members-members.ensures c.loop-member-test.true w.in-Name.is in
          let named = w.index-names-place.is ∙ get_or_default us w.in-Name.place w.index-names-place.result 0 fits in
          w.met-is ∙ (w.is_among-met.ensures ∙ (ap s named ∙ sym (ap (λ (m : FlatMember). member_is_met b us f m s) w.in-Name.is)))
      | in-Inner w ↦ w.met-is ∙ (w.is_met-met.ensures ∙ sym (ap (λ (m : FlatMember). member_is_met b us f m s) w.in-Inner.is))
    ] in
    let more = one_more b us f ms i (Name 0) s c.match-member.met c.loop-member-test.true is in
    let before = c.loop-member.invariant in
    elim c.if-met.branch [
      | then-met w ↦
          let one : ◌≡◌ {A = ℕ} (cond {A = ℕ} c.match-member.met 1 0) 1 = ap {B = ℕ} (λ x. cond x 1 0) w.if-met.true in
          record { so_far = omega (arith, more, one, w.count-is, before.so_far); few = (omega (arith, c.loop-member-test.true), omega (arith, w.count-is, before.few.1)) }
      | else-met w ↦
          let none : ◌≡◌ {A = ℕ} (cond {A = ℕ} c.match-member.met 1 0) 0 = ap {B = ℕ} (λ x. cond x 1 0) w.if-met.false in
          record { so_far = omega (arith, more, none, w.count-is, before.so_far); few = (omega (arith, c.loop-member-test.true), omega (arith, w.count-is, before.few.1)) }
    ]

pub returns : goal.returns
returns t c =
    let us = c.args.names.now in
    let f = set_at us c.args.sets.now in
    let set = c.index-sets-number.result in
    let ms = c.members-members.result.now in
    let b = c.args.blocking in
    let is = stands_for us c.args.sets.now c.args.number set ms c.requires.number c.requires.numbers c.index-sets-number.is c.members-members.ensures in
    let need : c.needed_of.result ≡ needed b set.threshold (length ms) = c.needed_of.ensures ∙ ap (λ k. needed b k (length ms)) c.threshold.ensures in
    ap (λ k. leb k c.loop-member.count) need
    ∙ all_asked b us f set.threshold ms (set_at us c.args.sets.now c.args.number) c.loop-member.member-index c.loop-member.count (among c.args.nodes.now) c.loop-member-test.false is c.loop-member.invariant.so_far
