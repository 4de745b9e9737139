use Rattle.live_shards.proofs.Counted.{joined_hosts_have_all_networks}
use Rattle.live_shards.proofs.Shared.{parts_answer_lines_for_the_whole}
use Rattle.live_shards.proofs.Whole.{parts_answer_for_the_whole}
use Rattle.live_shards.proofs.laws.parts_answer_for_the_whole.Goals as goal

pub returns-clause-line : goal.returns-clause-line
returns-clause-line c = parts_answer_for_the_whole

pub returns-clause-lines : goal.returns-clause-lines
returns-clause-lines c = parts_answer_lines_for_the_whole

pub returns-clause-networks : goal.returns-clause-networks
returns-clause-networks c = joined_hosts_have_all_networks
