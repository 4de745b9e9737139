use Rattle.std.proofs.Common.{◌≡◌, ◌∙◌, ◌<◌, ◌/◌, IfSome, List, Option, Some, ap, subst, sym}
use Rattle.scp_types.specs.Statements.{Sent}
use Rattle.node_view.specs.Grouping.{AreGrouped, AreGroups, said_at}
use Rattle.node_view.specs.Watching.{RowsOfNodes}
use Rattle.node_view.specs.declared.alike.Alike.{Alike}
use Rattle.node_view.proofs.GroupLaws.{alike_followed}
use Rattle.node_view.proofs.alike.follow.Goals as goal

pub returns : goal.returns
returns g c = λ old is heard are.
    let own = c.args.own.now in
    let e = c.args.row.now in
    let rows = c.args.rows.now in
    let within : List Sent → RowsOfNodes = λ t. record { nodes = rows.nodes; table = t; kind = rows.kind } in
    let before = c.in-Some.alike in
    let mid = c.leave.new.self in
    let after = c.join.new.self in
    let place = c.args.place in
    let there : AreGrouped own (within old) before = subst (λ (o : Option Alike). IfSome o (λ a. AreGrouped own (within old) a)) c.in-Some.is are in
    subst (λ (t : List Sent). (place / 64 < 8 → said_at own (within t) place ≡ Some e.body → AreGroups (said_at own (within t)) mid.groups.items → AreGroups (said_at own (within t)) after.groups.items) → AreGrouped own (within t) after) (sym is)
    (λ groups. alike_followed own rows.nodes rows.kind old e heard c.requires.ascending place c.requires.within c.requires.sender before mid after there c.leave.ensures groups c.join.ensures.outside)
    (λ short says. c.join.ensures.groups short (says ∙ ap Some (sym c.body.ensures.value)))
