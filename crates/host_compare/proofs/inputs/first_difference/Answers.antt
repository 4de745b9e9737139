use Rattle.std.proofs.Common.{◌∙◌, ℕ, map, option_map, rules, sym, ap}
use Rattle.scp_spec.specs.Isolation.{kept_of}
use Rattle.scp_spec.specs.Sets.{among}
use Rattle.host_closure.specs.Announcing.{member_names}
use Rattle.host_closure.proofs.Parted.{difference_is}
use Rattle.host_compare.specs.Steps.{core, event_at}
use Rattle.host_compare.proofs.KeptSteps.{kept_are}
use Rattle.host_compare.proofs.inputs.first_difference.Goals as goal

pub returns : goal.returns
returns g c =
    let R = among (member_names c.args.members.now) in
    let f = λ (k : ℕ). option_map core (event_at c.args.one.now.entries k) in
    let h = λ (k : ℕ). option_map core (event_at c.args.other.now.entries k) in
    difference_is f h _ _ (λ x y s. search rules) c.deref.result.now c.deref-2.result.now (kept_of R c.args.slot c.args.one.now.entries) (kept_of R c.args.slot c.args.other.now.entries)
    (kept_are R c.args.slot c.args.one.now.entries ∙ ap (map f) (sym (c.deref.ensures.value ∙ c.in_ok-ones.ensures)))
    (kept_are R c.args.slot c.args.other.now.entries ∙ ap (map h) (sym (c.deref-2.ensures.value ∙ c.in_ok-others.ensures)))
    (λ n x y at s e. search rules) c.first_difference.result c.first_difference.ensures
