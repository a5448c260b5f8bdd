-- Where the cells of a table stand.
use Rattle.std.specs.Prelude.{ℕ, ◌<◌, List, slice_index}
use Rattle.format.specs.declared.cell.Cell.{Cell}
use Rattle.format.specs.declared.cell.Cell.TheVariants.{Formal}
use Rattle.translator.specs.InCells.{cell_codes, cell_operands, CellIn}
use Rattle.translator.specs.Reading.{CellsAt}
use Rattle.translator.specs.declared.cells.Cells.{Cells}

-- cells stand at `at` and after it
abbrev pub CellsIn : Cells → ℕ → List Cell → Type 0
CellsIn t at cs = CellsAt (cell_codes t) (cell_operands t) at cs

pub record SomeCell (t : Cells) (at : ℕ) : Type 0 where
  pub cell : Cell
  pub here : CellIn t at cell

-- a FORMAL stands there
pub record SomeFormal (t : Cells) (at : ℕ) : Type 0 where
  pub name : ℕ
  pub here : CellIn t at (Formal name)

abbrev pub FormalsTo : Cells → ℕ → Type 0
FormalsTo t n = (i : ℕ) → i < n → SomeFormal t i

-- the first n names are those of the first n cells
abbrev pub Named : Cells → ℕ → List ℕ → Type 0
Named t n names = (i : ℕ) → i < n → CellIn t i (Formal (slice_index names i))
