use Rattle.std.proofs.Common.{arith, rules}
use Rattle.std.proofs.lemmas.Iterator.{first_from_Range}
use Rattle.translator.specs.InCells.{RightIn}
use Rattle.translator.proofs.Arrays.{first_wrong}
use Rattle.translator.proofs.candidate.Candidate.first_wrong.Goals as goal

pub returns : goal.returns
returns c =
    let cells = c.args.self.now.cells in
    let n = c.args.self.now.header.formals in
    first_wrong _ _ n _ (omega (arith, c.max-count.ensures, c.len.ensures)) c.find.result (first_from_Range _ _ _ c.find.result (λ i. RightIn cells n i → ⊥) (RightIn cells n) c.find.ensures.ran (λ x q k. search rules) (λ x q k. search rules))
