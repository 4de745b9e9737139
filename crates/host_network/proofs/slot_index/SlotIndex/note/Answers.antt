use Rattle.std.proofs.Common.{◌≡◌, List, None, ◌∙◌, map, sym, ap, subst}
use Rattle.std.specs.List.{insert}
use Rattle.scp_spec.specs.Sets.{IsAscending}
use Rattle.host_config.specs.Configs.{index_in}
use Rattle.host_network.specs.SlotPlaces.{kept_for, kept_with, number_kept}
use Rattle.host_network.specs.declared.slot_index.SlotPlace.{SlotPlace}
use Rattle.host_network.proofs.KeyPlaces.{keys-insert}
use Rattle.host_network.proofs.SlotPlaceLaws.{kept-insert, kept-so}
use Rattle.host_network.proofs.slot_index.SlotIndex.note.Goals as goal

pub unreachable-requires : goal.unreachable-requires
unreachable-requires c = kept-so c.args.self.now c.args.number c.in_default.field-0 c.in_default.ensures.0 c.in_default.ensures.1 c.requires

pub invariant_of-self-2 : goal.invariant_of-self-2
invariant_of-self-2 c =
    let entry : SlotPlace = record { number = c.args.number; place = c.args.place } in
    let up = subst (λ (es : List SlotPlace). IsAscending (insert (map number_kept es) c.in-Err.at c.args.number)) (sym c.self.view_is) c.in-Err.ensures.2 in
    subst (λ (es : List SlotPlace). IsAscending (map number_kept es)) (sym c.in_ok-insert.ensures.items) (keys-insert number_kept c.self.inside.entries.items c.in-Err.at entry up)

pub returns-clause-noted : goal.returns-clause-noted
returns-clause-noted c = λ i.
    let missing = subst (λ (es : List SlotPlace). index_in (map number_kept es) c.args.number ≡ None) (sym c.self.view_is) c.in-Err.ensures.0 in
    ap (λ (es : List SlotPlace). kept_for es i) c.in_ok-insert.ensures.items
    ∙ kept-insert c.self.inside.entries.items c.args.number c.args.place c.in-Err.at i missing
    ∙ ap (λ (es : List SlotPlace). kept_with c.args.number c.args.place es i) c.self.view_is
