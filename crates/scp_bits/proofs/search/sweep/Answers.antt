use Rattle.std.proofs.Common.{◌+◌, Bool, List, ℕ, refl, sym, subst, inl, inr}
use Rattle.scp_bits.proofs.Sweeps.{Swept, begun, one_fails, one_holds, one_out}
use Rattle.scp_bits.proofs.search.sweep.Goals as goal
use Rattle.scp_bits.proofs.search.sweep.Goals.{then-fails, else-fails}

pub loop-place-init : goal.loop-place-init
loop-place-init c = begun c.args.compiled.now c.args.left.now c.none-answers.result c.none-answers.ensures

pub loop-place-preserved : goal.loop-place-preserved
loop-place-preserved c =
    let cs = c.args.compiled.now in
    let n = c.loop-place.place in
    let old = c.args.left.now in
    let before = c.loop-place.answers in
    let next = c.fails.new.answers in
    let so_far = c.loop-place.invariant in
    elim c.if-fails.branch [
      | then-fails w ↦
          let it = w.if-fails.ensures.fails refl in
          let after = one_fails cs n old c.loop-place.left w.clear_place.new.places c.loop-place.changed before next so_far c.loop-place-test.true it.1 it.2 w.clear_place.ensures in
          subst (λ (p : List ℕ × Bool). Swept cs (n + 1) old p.0 p.1 next) (λ i. (sym w.left-is i, sym w.changed-is i)) after
      | else-fails w ↦
          let after : Swept cs (n + 1) old c.loop-place.left c.loop-place.changed next = elim (w.if-fails.ensures.holds refl) [
            | inl out ↦ one_out cs n old c.loop-place.left c.loop-place.changed before next so_far out
            | inr answer ↦ one_holds cs n old c.loop-place.left c.loop-place.changed before next so_far answer
          ] in
          subst (λ (p : List ℕ × Bool). Swept cs (n + 1) old p.0 p.1 next) (λ i. (sym w.left-is i, sym w.changed-is i)) after
    ]
