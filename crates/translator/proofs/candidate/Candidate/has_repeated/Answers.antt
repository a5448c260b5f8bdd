use Rattle.std.proofs.Common.{rules, refl, arith}
use Rattle.std.proofs.lemmas.Iterator.{cases_from_any, YieldsList-from_range}
use Rattle.translator.specs.InCells.{cell_operands}
use Rattle.translator.specs.Reading.{Earlier, NoEarlier}
use Rattle.translator.proofs.Repeats.{repeated}
use Rattle.translator.proofs.candidate.Candidate.has_repeated.Goals as goal

pub returns : goal.returns
returns c =
    let operands = cell_operands c.args.self.now.cells in
    repeated _ _ _ (cases_from_any _ _ c.any.result (Earlier operands) (NoEarlier operands) c.any.ensures.ran (YieldsList-from_range 0 c.args.self.now.header.formals c.args.self.now.header.formals refl (omega arith)) (λ x q k. search rules) (λ x q k. search rules))
