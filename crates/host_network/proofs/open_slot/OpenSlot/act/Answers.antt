use Rattle.std.proofs.Common.{◌≡◌, ◌<◌, Option, Some, None, IfOk, IfSome, OnOk, length, set, map, slice_get, sym, subst}
use Rattle.std.specs.List.{All}
use Rattle.std.proofs.lemmas.List.Elements.{All-get_or}
use Rattle.scp_spec.specs.Networks.{Instance, emissions, outs_at}
use Rattle.host_network.specs.Marks.{numbers_by_kind, emitted_at}
use Rattle.node_core.specs.Filings.{event_of}
use Rattle.host_network.specs.Answers.{IsOutcome}
use Rattle.host_network.specs.Changes.{IsChangedAt}
use Rattle.host_network.specs.Charges.{HasRoomForCharge, IsActed}
use Rattle.host_network.specs.FiledSlots.{FiledInstance, FiledSlot, IsInstanceFiled, instance_of_filed}
use Rattle.host_network.proofs.Placed.{placed, stands, got, all-archived}
use Rattle.host_network.proofs.open_slot.OpenSlot.act.Goals as goal

pub act-outcome-requires-clause-archived : goal.act-outcome-requires-clause-archived
act-outcome-requires-clause-archived g c =
    let P = IsInstanceFiled c.args.archive.now in
    let items = c.self.inside.instances.items in
    let all : All P items = subst (λ (s : FiledSlot). All P s.instances) (sym c.self.view_is) c.requires.archived in
    let within : c.args.at < length items = subst (λ (s : FiledSlot). c.args.at < length s.instances) (sym c.self.view_is) c.requires.at in
    subst P (sym c.index_mut-instance.ensures.value) (All-get_or P items c.args.at c.index_mut-instance.result.now within all)

pub act-outcome-requires-clause-room : goal.act-outcome-requires-clause-room
act-outcome-requires-clause-room g c =
    let items = c.self.inside.instances.items in
    let within : c.args.at < length items = subst (λ (s : FiledSlot). c.args.at < length s.instances) (sym c.self.view_is) c.requires.at in
    let room : IfSome (slice_get items c.args.at) (HasRoomForCharge c.args.charge.now) = subst (λ (s : FiledSlot). IfSome (slice_get s.instances c.args.at) (HasRoomForCharge c.args.charge.now)) (sym c.self.view_is) c.requires.room in
    subst (λ (o : Option FiledInstance). IfSome o (HasRoomForCharge c.args.charge.now)) (stands items c.args.at c.index_mut-instance.result.now within c.index_mut-instance.ensures.value) room

pub returns-clause-acted : goal.returns-clause-acted
returns-clause-acted g c =
    let items = c.self.inside.instances.items in
    let e = event_of c.args.event in
    let within : c.args.at < length items = subst (λ (s : FiledSlot). c.args.at < length s.instances) (sym c.self.view_is) c.requires.at in
    let acted = subst (λ (i : FiledInstance). OnOk c.act-outcome.result (IsActed c.args.charge.now e c.index_mut-instance.result.now i)) (sym c.share_reach.ensures) c.act-outcome.ensures.acted in
    subst (λ (s : FiledSlot). OnOk c.act-outcome.result (IsChangedAt (IsActed c.args.charge.now e) c.args.at s.instances (set items c.args.at c.share_reach.new.self))) c.self.view_is
    (placed c.act-outcome.result (IsActed c.args.charge.now e) items c.args.at c.index_mut-instance.result.now c.share_reach.new.self within c.index_mut-instance.ensures.value acted)

pub returns-clause-outcome : goal.returns-clause-outcome
returns-clause-outcome g c =
    let items = c.self.inside.instances.items in
    let e = event_of c.args.event in
    let within : c.args.at < length items = subst (λ (s : FiledSlot). c.args.at < length s.instances) (sym c.self.view_is) c.requires.at in
    let q : slice_get (map instance_of_filed c.args.self.now.instances) c.args.at ≡ Some (instance_of_filed c.index_mut-instance.result.now) =
    subst (λ (s : FiledSlot). slice_get (map instance_of_filed s.instances) c.args.at ≡ Some (instance_of_filed c.index_mut-instance.result.now)) c.self.view_is (got items c.args.at c.index_mut-instance.result.now within c.index_mut-instance.ensures.value) in
    subst (λ (o : Option Instance). IfOk c.act-outcome.result (IsOutcome (outs_at e o) (numbers_by_kind (emitted_at o) (emissions (outs_at e o))) None c.act-outcome.new.archive)) (sym q) c.act-outcome.ensures.outcome

pub returns-clause-archived : goal.returns-clause-archived
returns-clause-archived g c =
    let P = IsInstanceFiled c.args.archive.now in
    let items = c.self.inside.instances.items in
    let all : All P items = subst (λ (s : FiledSlot). All P s.instances) (sym c.self.view_is) c.requires.archived in
    all-archived c.args.archive.now c.act-outcome.new.archive items c.args.at c.share_reach.new.self c.act-outcome.ensures.kept (subst (IsInstanceFiled c.act-outcome.new.archive) (sym c.share_reach.ensures) c.act-outcome.ensures.archived) all
