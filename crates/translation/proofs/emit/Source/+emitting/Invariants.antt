use Rattle.std.proofs.Common.{◌+◌, ◌-◌, ◌*◌, length}
use Rattle.translator.specs.InCells.{cell_codes}
use Rattle.translation.proofs.emit.Source.+emitting.Given as goal

abbrev pub decreases-translate_apply : goal.decreases-translate_apply
decreases-translate_apply l = 3 * (length (cell_codes l.self.now.cells) - l.out.now.next)

abbrev pub decreases-translate_begin : goal.decreases-translate_begin
decreases-translate_begin l = 3 * (length (cell_codes l.self.now.cells) - l.out.now.next)

abbrev pub decreases-translate_expression : goal.decreases-translate_expression
decreases-translate_expression l = 3 * (length (cell_codes l.self.now.cells) - l.out.now.next) + 1

abbrev pub decreases-translate_if : goal.decreases-translate_if
decreases-translate_if l = 3 * (length (cell_codes l.self.now.cells) - l.out.now.next)

abbrev pub decreases-translate_list : goal.decreases-translate_list
decreases-translate_list l = 3 * (length (cell_codes l.self.now.cells) - l.out.now.next) + 2

abbrev pub decreases-translate_set : goal.decreases-translate_set
decreases-translate_set l = 3 * (length (cell_codes l.self.now.cells) - l.out.now.next)

abbrev pub decreases-translate_while : goal.decreases-translate_while
decreases-translate_while l = 3 * (length (cell_codes l.self.now.cells) - l.out.now.next)
