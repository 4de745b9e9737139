use Rattle.std.proofs.Common.{◌≡◌, ◌+◌, ◌<◌, get_or, length, arith, ap}
use Rattle.std.proofs.lemmas.List.{length-set}
use Rattle.scp_bits.specs.declared.mask.Mask.{Mask}
use Rattle.scp_bits.specs.Places.{ones_at}
use Rattle.scp_bits.proofs.FewWords.{word_more}
use Rattle.scp_bits.proofs.Tallies.{places_at}
use Rattle.scp_bits.proofs.few.words_of.Goals as goal

pub loop-mask-preserved : goal.loop-mask-preserved
loop-mask-preserved c =
    let ms = c.args.masks.now in
    let i = c.loop-mask.mask-index in
    let d : Mask = record { index = 0; bits = 0 } in
    let m = get_or ms i d in
    let words = c.loop-mask.words in
    let kept = c.loop-mask.invariant in
    let inside : m.index < length words = omega (arith, kept.four, c.if-mask-ge-FEW_WORDS.false) in
    let at : 0 + m.index ≡ m.index = omega arith in
    record {
      four = omega (arith, length-set words m.index m.bits, kept.four);
      so_far = λ ws. omega (ap (λ j. ones_at (record { index = j; bits = m.bits }) ws) at, arith, word_more words 0 m.index m.bits ws inside c.if-words-mask-ne0.false, places_at ms i d ws c.loop-mask-test.true, kept.so_far ws);
    }
