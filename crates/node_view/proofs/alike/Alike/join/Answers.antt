use Rattle.std.proofs.Common.{◌∙◌, List, ℕ, [], ap, get_or, is_some, subst, sym}
use Rattle.std.proofs.lemmas.List.{get_or_default}
use Rattle.node_view.specs.Grouping.{said_at}
use Rattle.node_view.proofs.GroupLaws.{IsPut, joined_groups, joined_outside}
use Rattle.node_view.proofs.alike.Alike.join.Goals as goal

pub returns-in-Some-clause-groups : goal.returns-in-Some-clause-groups
returns-in-Some-clause-groups g c = λ short says are.
    let said = said_at c.args.own.now c.args.rows.now in
    let gs = c.args.self.now.groups.items in
    let n = c.in-Some.index in
    let now = c.put_place.new.places in
    let put : IsPut c.args.place (get_or gs n []) now = subst (λ (ws : List ℕ). IsPut c.args.place ws now) (c.index_mut.ensures.value ∙ get_or_default gs n c.index_mut.result.now [] c.in-Some.ensures.0) (c.put_place.ensures short) in
    joined_groups c.args.place n gs now c.in-Some.ensures.0 put said (ap is_some says) (λ i is. c.in-Some.ensures.1 are i is ∙ sym says) are

pub returns-in-Some-clause-outside : goal.returns-in-Some-clause-outside
returns-in-Some-clause-outside g c = λ short i out.
    let gs = c.args.self.now.groups.items in
    let n = c.in-Some.index in
    let now = c.put_place.new.places in
    let put : IsPut c.args.place (get_or gs n []) now = subst (λ (ws : List ℕ). IsPut c.args.place ws now) (c.index_mut.ensures.value ∙ get_or_default gs n c.index_mut.result.now [] c.in-Some.ensures.0) (c.put_place.ensures short) in
    let parts = joined_outside c.args.place n gs now c.in-Some.ensures.0 put i out.groups in
    (parts.0, record { groups = parts.1; rest = out.rest })
