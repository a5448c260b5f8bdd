use Rattle.std.proofs.Common.{rules, refl, arith}
use Rattle.std.proofs.lemmas.Iterator.{cases_from_any, YieldsList-from_range}
use Rattle.translator.specs.InCells.{cell_operands}
use Rattle.translator.specs.Reading.{Same}
use Rattle.translator.proofs.Repeats.{earlier}
use Rattle.translator.proofs.cells.Cells.repeats.Goals as goal

pub returns : goal.returns
returns c =
    let operands = cell_operands c.args.self.now in
    let i = c.args.i in
    earlier _ _ _ (cases_from_any _ _ c.any.result (λ j. Same operands j i) (λ j. Same operands j i → ⊥) c.any.ensures.ran (YieldsList-from_range 0 i i refl (omega arith)) (λ x q k. search rules) (λ x q k. search rules))
