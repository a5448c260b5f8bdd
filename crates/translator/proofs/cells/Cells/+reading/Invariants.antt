use Rattle.std.proofs.Common.{◌+◌, ◌-◌, ◌*◌, length}
use Rattle.translator.specs.InCells.{cell_codes}
use Rattle.translator.proofs.cells.Cells.+reading.Given as goal

abbrev pub decreases-read_expression : goal.decreases-read_expression
decreases-read_expression l = 2 * (length (cell_codes l.self.now) - l.at)

abbrev pub decreases-read_parts : goal.decreases-read_parts
decreases-read_parts l = 2 * (length (cell_codes l.self.now) - l.at) + 1
