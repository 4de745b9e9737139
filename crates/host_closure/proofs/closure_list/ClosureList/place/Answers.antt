use Rattle.std.proofs.Common.{◌≡◌, subst, MatchOption, IsFalse, slice_get, Some}
use Rattle.scp_spec.specs.Sets.{among}
use Rattle.host_closure.specs.Announcing.{MemberList, member_names}
use Rattle.host_closure.proofs.NameLookups.{place_is}
use Rattle.host_closure.proofs.closure_list.ClosureList.place.Goals as goal

pub returns : goal.returns
returns c =
    subst (λ (es : MemberList). MatchOption c.get_index_of.result (IsFalse (among (member_names es) c.args.node.now)) (λ k. slice_get (member_names es) k ≡ Some c.args.node.now)) c.self.view_is
    (place_is c.args.node.now _ c.get_index_of.result c.get_index_of.ensures.index)
