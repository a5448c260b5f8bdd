use Rattle.translator.proofs.Repeats.{same_of}
use Rattle.format.proofs.Chunks.{four_each}
use Rattle.translator.proofs.cells.Cells.same_operand.Goals as goal

pub returns : goal.returns
returns c = same_of _ _ (four_each c.args.self.now.rows) _ _ _ _ c.operand.ensures c.operand-2.ensures c.eq.result c.eq.ensures
