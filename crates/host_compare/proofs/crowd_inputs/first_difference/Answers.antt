use Rattle.std.proofs.Common.{◌≡◌, ◌∙◌, Bor, List, Some, map, option_map, rules, slice_get, sym, ap}
use Rattle.std.proofs.lemmas.Simd.{map-map}
use Rattle.std.proofs.lemmas.Option.{slice_get-map}
use Rattle.scp_types.specs.declared.event.Event.{Event}
use Rattle.scp_spec.specs.Sets.{among}
use Rattle.scp_spec.specs.Networks.{Step}
use Rattle.host_closure.specs.Announcing.{member_names}
use Rattle.host_network.specs.Decoding.{step_of}
use Rattle.host_journal.specs.Keeping.{IsReadable}
use Rattle.host_closure.proofs.Parted.{difference_is}
use Rattle.host_compare.specs.Submitted.{concerning_steps_in}
use Rattle.host_compare.proofs.ConcerningSteps.{are_readable}
use Rattle.host_compare.proofs.crowd_inputs.first_difference.Goals as goal

pub returns : goal.returns
returns c =
    let R = among (member_names c.args.members.now) in
    let f = λ (e : Bor Event). step_of e.now in
    let step = λ (e : Bor Event). Some (step_of e.now) in
    let ones = concerning_steps_in R c.args.slot c.args.net c.args.one.now in
    let others = concerning_steps_in R c.args.slot c.args.net c.args.other.now in
    let first : ones ≡ map f c.deref.result.now = sym c.in_ok-ones.ensures ∙ ap (map f) (sym c.deref.ensures.value) in
    let second : others ≡ map f c.deref-2.result.now = sym c.in_ok-others.ensures ∙ ap (map f) (sym c.deref-2.ensures.value) in
    difference_is step step _ _ (λ x y s. search rules) c.deref.result.now c.deref-2.result.now ones others
    (ap (map Some) first ∙ map-map Some f c.deref.result.now) (ap (map Some) second ∙ map-map Some f c.deref-2.result.now)
    (λ k x y there s e.
    let readable : IsReadable (step_of x.now) = are_readable R c.args.slot c.args.net c.args.one.now k (step_of x.now) (ap (λ (es : List Step). slice_get es k) first ∙ (slice_get-map f c.deref.result.now k ∙ ap (option_map f) there)) in
    let same : step_of x.now ≡ step_of y.now = cc in
    search rules)
    c.first_difference.result c.first_difference.ensures
