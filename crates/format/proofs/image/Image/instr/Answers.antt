use Rattle.std.proofs.Common.{arith}
use Rattle.format.proofs.ImageTests.{instr_in}
use Rattle.format.proofs.image.Image.instr.Goals as goal

pub returns : goal.returns
returns c = instr_in c.args.self.now c.args.i _ c.in_ok-row.ensures c.args.self.now.few (omega arith) (omega arith) c.read.result (rw c.len.ensures at c.read.ensures)
