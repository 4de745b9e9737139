use Rattle.std.proofs.Common.{◌≡◌, ◌++◌, List, length, ◌∙◌, ap, sym, subst}
use Rattle.scp_federation.specs.Numbers.{Level, IsFlat, levels_of, set_at}
use Rattle.scp_federation.proofs.FlatteningLaws.{levels_are_flat, levels_stand}
use Rattle.scp_federation.proofs.form.Flat.of.Goals as goal

pub invariant_of-result : goal.invariant_of-result
invariant_of-result c =
    let us = c.in_ok-names.names.items in
    let q = c.args.nested.now in
    let pushed : c.push_sets.new.sets.items ≡ levels_of us 0 q = c.in_ok-push_sets.ensures
    ∙ (λ j. c.new-sets.ensures.items j ++ levels_of (c.deref.ensures.value j) (length (c.new-sets.ensures.items j)) (c.set.ensures.value j)) in
    subst (λ (xs : List Level). IsFlat us xs) (sym pushed) (levels_are_flat q us c.set.ensures.rules c.in_ok-names.ensures.ascending c.in_ok-names.ensures.all)

pub returns : goal.returns
returns c =
    let us = c.in_ok-names.names.items in
    let q = c.args.nested.now in
    let pushed : c.push_sets.new.sets.items ≡ levels_of us 0 q = c.in_ok-push_sets.ensures
    ∙ (λ j. c.new-sets.ensures.items j ++ levels_of (c.deref.ensures.value j) (length (c.new-sets.ensures.items j)) (c.set.ensures.value j)) in
    ap (λ (xs : List Level). set_at us xs 0) pushed ∙ levels_stand q us (λ u i. c.in_ok-names.ensures.all u ∙ i)
