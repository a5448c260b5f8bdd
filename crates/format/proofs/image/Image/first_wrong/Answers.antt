use Rattle.std.proofs.Common.{rules}
use Rattle.std.proofs.lemmas.Iterator.{first_from_Range}
use Rattle.format.specs.Images.{NoInstrIn, HasInstr, codes_of_image, operands_of_image}
use Rattle.format.proofs.ImageTests.{some_instr, no_instr}
use Rattle.format.proofs.image.Image.first_wrong.Goals as goal

pub returns : goal.returns
returns c =
    let image = c.args.self.now in
    let first = first_from_Range _ _ _ c.find.result (NoInstrIn image) (HasInstr (codes_of_image image) (operands_of_image image) image.header) c.find.ensures.ran (λ x q k. search (rules, no_instr)) (λ x q k. search (rules, some_instr)) in
    search rules
