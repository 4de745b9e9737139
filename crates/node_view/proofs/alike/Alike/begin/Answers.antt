use Rattle.std.proofs.Common.{◌∙◌, List, ℕ, [], ap, get_or, replicate, subst, sym}
use Rattle.scp_bits.specs.Places.{bit_of}
use Rattle.node_view.specs.Grouping.{AreGroups}
use Rattle.node_view.proofs.GroupLaws.{begun_groups, begun_outside, group_put, never_both, put_out, zero_words}
use Rattle.node_view.proofs.alike.Alike.begin.Goals as goal

pub returns-in-Ok-clause-groups : goal.returns-in-Ok-clause-groups
returns-in-Ok-clause-groups c = λ short said some are.
    let place = c.args.place in
    let gs = c.args.self.now.groups.items in
    let group = c.put_place.new.places in
    subst (AreGroups said) (sym c.in-Ok.ensures.items)
    (begun_groups said gs group are (group_put place (replicate 8 0) group (c.put_place.ensures short) said some (λ i is. absurd (never_both (bit_of (replicate 8 0) i) (zero_words 8 i) is))))

pub returns-in-Ok-clause-outside : goal.returns-in-Ok-clause-outside
returns-in-Ok-clause-outside c = λ short i out.
    let gs = c.args.self.now.groups.items in
    let group = c.put_place.new.places in
    let parts = begun_outside gs group i (λ j. ap (λ (items : List (List ℕ)). bit_of (get_or items j []) i) (sym c.in-Ok.ensures.items) ∙ out.groups j) in
    ((put_out c.args.place (replicate 8 0) group (c.put_place.ensures short) i parts.1).0, record { groups = parts.0; rest = out.rest })
