use Rattle.std.proofs.Common.{◌∙◌, ap, sym}
use Rattle.scp_spec.specs.Sets.{among}
use Rattle.host_closure.specs.Announcing.{MemberList, member_names}
use Rattle.host_closure.specs.Turns.{with_member}
use Rattle.host_closure.proofs.NameLookups.{has_is, added_is, there_is}
use Rattle.host_closure.proofs.closure_list.ClosureList.add.Goals as goal

pub returns-in_ok-insert : goal.returns-in_ok-insert
returns-in_ok-insert c =
    c.in_ok-insert.ensures.entries
    ∙ (added_is _ c.args.name.now c.args.namer (sym (has_is c.args.name.now _) ∙ (sym c.contains_key.ensures ∙ c.if-not-contains_key.true))
    ∙ ap (λ (es : MemberList). with_member es c.args.name.now c.args.namer) c.self.view_is)

pub returns-else-not-contains_key : goal.returns-else-not-contains_key
returns-else-not-contains_key c =
    there_is c.args.self.now c.args.name.now c.args.namer
    (ap (λ (es : MemberList). among (member_names es) c.args.name.now) (sym c.self.view_is) ∙ (sym (has_is c.args.name.now _) ∙ (sym c.contains_key.ensures ∙ c.if-not-contains_key.false)))
