use Rattle.matching.proofs.Laws.Side.{first_byte, word_in, record_is, record_small}
use Rattle.matching.proofs.sheet.Sheet.record.Goals as goal

pub bounds-self-0 : goal.bounds-self-0
bounds-self-0 c = first_byte c.args.self.now

pub record_at-requires : goal.record_at-requires
record_at-requires c = word_in c.args.self.now c.requires c.from.ensures

pub returns-clause-is : goal.returns-clause-is
returns-clause-is c = record_is c.args.self.now c.requires c.from.ensures c.record_at.ensures

pub returns-clause-small : goal.returns-clause-small
returns-clause-small c = record_small c.args.self.now _ (record_is c.args.self.now c.requires c.from.ensures c.record_at.ensures)
