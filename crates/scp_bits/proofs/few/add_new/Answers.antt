use Rattle.scp_bits.proofs.FewWords.{place_more}
use Rattle.std.proofs.Common.{refl}
use Rattle.scp_bits.proofs.few.add_new.Goals as goal

pub returns-clause-places : goal.returns-clause-places
returns-clause-places c = λ _. place_more c.args.words.now _ c.args.place c.if-index-words.false c.if-words-index-ne0.false refl
