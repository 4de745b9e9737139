use Rattle.node_table.proofs.Indexes.{senders-ascend, senders-exactly}
use Rattle.node_table.proofs.senders.senders_are_those_with_a_row.Goals as goal

pub returns : goal.returns
returns c = record { ascending = senders-ascend; exactly = senders-exactly }
