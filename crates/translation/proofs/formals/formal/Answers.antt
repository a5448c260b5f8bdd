use Rattle.std.proofs.Common.{ℕ, refl, None, Some, Option, MatchOption, IsSome}
use Rattle.format.specs.declared.cell.Cell.{Cell}
use Rattle.translator.specs.declared.cells.Cells.{Cells}
use Rattle.translator.specs.InCells.{CellIn, NoCellIn}
use Rattle.translation.proofs.formals.formal.Goals as goal

some_there : (t : Cells) (at : ℕ) (c : Cell) → CellIn t at c → (o : Option Cell) → MatchOption o (NoCellIn t at) (CellIn t at) → IsSome o
some_there t at c here None none = absurd (none c here)
some_there t at c here (Some d) there = refl

pub unwrap-requires : goal.unwrap-requires
unwrap-requires c = some_there c.args.cells.now c.args.at _ c.requires.here c.cell.result c.cell.ensures
