use Rattle.std.proofs.Common.{◌==◌, None, get_or, sym, ◌∙◌, ap, refl}
use Rattle.std.proofs.lemmas.Bool.{false≢true, and_parts, eqb-true}
use Rattle.scp_spec.specs.Sets.{among}
use Rattle.scp_bits.specs.Places.{bit_of}
use Rattle.scp_bits.specs.Met.{nodes_at}
use Rattle.scp_bits.specs.Searching.{met_at}
use Rattle.scp_bits.proofs.Sweeps.{at_first, no_quorum, is_quorum}
use Rattle.scp_bits.proofs.search.in_quorum.Goals as goal

pub loop-place-init : goal.loop-place-init
loop-place-init c = λ us slices_at up compiled. at_first slices_at (among (nodes_at us c.args.left.now))

pub loop-place-preserved : goal.loop-place-preserved
loop-place-preserved c = λ us slices_at up compiled.
    c.sweep.ensures.kept us slices_at (among (nodes_at us c.args.left.now)) up compiled (c.loop-place.invariant us slices_at up compiled)

pub returns-then-not-stays : goal.returns-then-not-stays
returns-then-not-stays c = λ us slices_at up compiled. (
  λ h. absurd (false≢true h),
  λ h. absurd (no_quorum us slices_at c.args.compiled.now (among (nodes_at us c.args.left.now)) up compiled c.args.place c.loop-place.left c.requires (c.loop-place.invariant us slices_at up compiled) (sym c.stays.ensures ∙ c.if-not-stays.true) h),
)

pub returns-then-not-sweep : goal.returns-then-not-sweep
returns-then-not-sweep c = λ us slices_at up compiled.
    let left = c.sweep.ensures.kept us slices_at (among (nodes_at us c.args.left.now)) up compiled (c.loop-place.invariant us slices_at up compiled) in
    let there = and_parts (bit_of c.loop-place.left c.args.place == 1) (met_at (get_or c.args.compiled.now c.args.place None) c.loop-place.left) (sym c.stays.ensures ∙ c.if-not-stays.false) in
    let bit = ap (λ ws. bit_of ws c.args.place) (c.sweep.ensures.same c.if-not-sweep.true) ∙ eqb-true (bit_of c.loop-place.left c.args.place) 1 there.0 in (
      λ h. is_quorum us slices_at c.args.compiled.now (among (nodes_at us c.args.left.now)) up compiled c.args.place c.sweep.new.left c.requires left (c.sweep.ensures.settled c.if-not-sweep.true compiled.agreed) bit,
      λ h. refl,
    )
