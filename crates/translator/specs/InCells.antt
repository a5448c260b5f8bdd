-- What stands in `Cells`.
use Rattle.std.specs.Prelude.{ℕ, List}
use Rattle.format.specs.declared.cell.Cell.{Cell}
use Rattle.format.specs.Rows.{codes_of, operands_of, Cut}
use Rattle.translator.specs.declared.cells.Cells.{Cells}
use Rattle.translator.specs.declared.expression.Extent.{Extent}
use Rattle.translator.specs.Tables.{Sized, CellAt, Right, AllRight, FirstWrong}
use Rattle.translator.specs.Reading.{ExpAt, NoExp, ExpsAt, NoExps}

abbrev pub cell_codes : Cells → List ℕ
cell_codes cells = codes_of cells.rows

abbrev pub cell_operands : Cells → List ℕ
cell_operands cells = operands_of cells.rows

-- bytes of the right length, and their cells
pub record CutInto (bytes : List ℕ) (cells : Cells) : Type 0 where
  pub sized : Sized bytes
  pub cut : Cut bytes (cell_codes cells) (cell_operands cells)

abbrev pub CellIn : Cells → ℕ → Cell → Type 0
CellIn cells i c = CellAt (cell_codes cells) (cell_operands cells) i c

abbrev pub NoCellIn : Cells → ℕ → Type 0
NoCellIn cells i = (c : Cell) → CellIn cells i c → ⊥

abbrev pub RightIn : Cells → ℕ → ℕ → Type 0
RightIn cells n i = Right (cell_codes cells) (cell_operands cells) n i

abbrev pub AllRightIn : Cells → ℕ → Type 0
AllRightIn cells n = AllRight (cell_codes cells) (cell_operands cells) n

abbrev pub FirstWrongIn : Cells → ℕ → ℕ → Type 0
FirstWrongIn cells n i = FirstWrong (cell_codes cells) (cell_operands cells) n i

abbrev pub ExpIn : Cells → ℕ → Extent → Type 0
ExpIn cells at x = ExpAt (cell_codes cells) (cell_operands cells) at x

abbrev pub NoExpIn : Cells → ℕ → Type 0
NoExpIn cells at = NoExp (cell_codes cells) (cell_operands cells) at

abbrev pub ExpsIn : Cells → ℕ → ℕ → ℕ → Extent → Type 0
ExpsIn cells at n k x = ExpsAt (cell_codes cells) (cell_operands cells) at n k x

abbrev pub NoExpsIn : Cells → ℕ → ℕ → Type 0
NoExpsIn cells at n = NoExps (cell_codes cells) (cell_operands cells) at n
