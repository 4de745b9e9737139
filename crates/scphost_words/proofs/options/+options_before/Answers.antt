use Rattle.std.proofs.Common.{sym}
use Rattle.scphost_words.specs.Options.AreOptions.{none, more}
use Rattle.scphost_words.proofs.options.+options_before.Goals as goal

pub returns-in-Some-clause-given : goal.returns-in-Some-clause-given
returns-in-Some-clause-given g t c = more (sym c.in-Some.ensures.option) c.options_before.ensures.given

pub returns-in-None-clause-given : goal.returns-in-None-clause-given
returns-in-None-clause-given g t c = none
