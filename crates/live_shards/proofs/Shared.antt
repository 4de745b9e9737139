-- Where each part answers the lines of its place, the whole host answers them.
use Rattle.live_shards.specs.Parts.{PartsAnswerLinesForTheWhole}
use Rattle.live_shards.proofs.Many.{lines_for_the_whole}
use Rattle.live_shards.proofs.Whole.{parts_answer_for_the_whole}

pub parts_answer_lines_for_the_whole : PartsAnswerLinesForTheWhole
parts_answer_lines_for_the_whole = lines_for_the_whole parts_answer_for_the_whole
