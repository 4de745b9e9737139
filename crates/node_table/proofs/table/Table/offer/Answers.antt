use Rattle.node_store.specs.Archives.{sent_of, sents_of}
use Rattle.node_table.proofs.Tabled.{put-answer, answer-stale, answer-table, answer-whole}
use Rattle.node_table.proofs.table.Table.offer.Goals as goal

pub returns-clause-stale : goal.returns-clause-stale
returns-clause-stale g c = answer-stale (sents_of c.args.self.now) (sent_of c.args.envelope) c.offer.result (sents_of c.put.new.self) (put-answer c.args.self.now (sent_of c.args.envelope) c.put.result c.offer.result c.put.new.self c.put.ensures.put c.offer.ensures)

pub returns-clause-table : goal.returns-clause-table
returns-clause-table g c = answer-table (sents_of c.args.self.now) (sent_of c.args.envelope) c.offer.result (sents_of c.put.new.self) (put-answer c.args.self.now (sent_of c.args.envelope) c.put.result c.offer.result c.put.new.self c.put.ensures.put c.offer.ensures)

pub returns-clause-whole : goal.returns-clause-whole
returns-clause-whole g c = answer-whole (sents_of c.args.self.now) (sent_of c.args.envelope) c.offer.result (sents_of c.put.new.self) (put-answer c.args.self.now (sent_of c.args.envelope) c.put.result c.offer.result c.put.new.self c.put.ensures.put c.offer.ensures)
