use Rattle.std.proofs.Common.{◌∙◌, ap}
use Rattle.scp_spec.specs.Sets.{among}
use Rattle.host_closure.specs.Announcing.{MemberList, member_names}
use Rattle.host_closure.proofs.NameLookups.{has_is}
use Rattle.host_closure.proofs.closure_list.ClosureList.has.Goals as goal

pub returns : goal.returns
returns c = c.contains_key.ensures ∙ (has_is c.args.node.now _ ∙ ap (λ (es : MemberList). among (member_names es) c.args.node.now) c.self.view_is)
