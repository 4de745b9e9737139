use Rattle.std.proofs.Common.{rules, ◌≡◌, ◌∙◌, ◌&&◌, true, nat_eq, ap, sym, subst, arith, take_all}
use lib.Pointwise.{pointwise_decides}
use Rattle.scp_bits.specs.declared.mask.Mask.{Mask}
use Rattle.scp_bits.specs.Places.{Compiled, weight_of_sets}
use Rattle.scp_bits.proofs.Weights.{inner_weighs_less}
use Rattle.scp_bits.proofs.set.+is_same.Goals as goal

pub is_same-requires : goal.is_same-requires
is_same-requires t c =
    let w = inner_weighs_less c.inner-sets.result.now c.loop-place.place c.index-sets-place.result c.loop-place-test.true in
    let f = ap (λ (s : Compiled). weight_of_sets s.inner) c.index-sets-place.is in
    let e = ap weight_of_sets c.inner-sets.ensures in
    (omega (arith, w, e, f, c.decreases), tt)

told : (x y : Mask) → ((nat_eq x.index y.index && nat_eq x.bits y.bits) ≡ true → x ≡ y) × (x ≡ y → (nat_eq x.index y.index && nat_eq x.bits y.bits) ≡ true)
told x y = (
  λ h.
      let index : x.index ≡ y.index = search rules in
      let bits : x.bits ≡ y.bits = search rules in
      λ i. record { index = index i; bits = bits i },
  λ h. subst (λ (z : Mask). (nat_eq x.index z.index && nat_eq x.bits z.bits) ≡ true) h (search rules),
)

pub returns : goal.returns
returns t c =
    let needed : c.args.set.now.needed ≡ c.args.other.now.needed = search rules in
    let masks : c.args.set.now.masks ≡ c.args.other.now.masks = sym c.masks.ensures ∙ (pointwise_decides told c.masks.result.now c.masks-else-needed_count.result.now).0 (search rules) ∙ c.masks-else-needed_count.ensures in
    let lists : c.inner-sets.result.now ≡ c.inner-others.result.now = search (rules, take_all) in
    let inner : c.args.set.now.inner ≡ c.args.other.now.inner = search (rules, lists) in
    λ _ i. record { needed = needed i; masks = masks i; inner = inner i }
