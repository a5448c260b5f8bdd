use Rattle.std.proofs.Common.{ℕ, ◌+◌, ◌<◌, ◌≤◌, refl, arith, w32, SFits, rules}
use Rattle.std.proofs.lemmas.Int.{to_z-of_z}
use Rattle.translation.proofs.Emitting.{begins, ready_as, formal_never, some_room, literal_done, var_done, empty_done, set_ready, set_room, set_done, put_last, if_test_ready, if_test_room, if_second_ready, if_second_room, if_third_ready, if_done, while_test_ready, while_test_room, while_body_ready, while_body_room, while_done, list_none, list_first_ready, list_rest_ready, list_done, begin_first_ready, begin_rest_ready, begin_done, apply_list_ready, apply_room, apply_done}
use Rattle.translation.proofs.emit.Source.+emitting.Goals.{translate_if-After-translate_expression, translate_if-After-translate_expression-2, translate_while-After-translate_expression, translate_while-After-translate_expression-2}
use Rattle.translation.proofs.emit.Source.+emitting.Goals as goal

-- ---- any expression

pub translate_expression-cell-requires : goal.translate_expression-cell-requires
translate_expression-cell-requires t c = begins _ c.requires

pub translate_expression-emit-requires : goal.translate_expression-emit-requires
translate_expression-emit-requires t c = some_room _ c.skip_cell.ensures c.requires.here

pub translate_expression-emit-requires-in-Var : goal.translate_expression-emit-requires-in-Var
translate_expression-emit-requires-in-Var t c = some_room _ c.skip_cell-in-Var.ensures c.requires.here

pub translate_expression-unreachable-requires : goal.translate_expression-unreachable-requires
translate_expression-unreachable-requires t c = formal_never _ (ready_as _ c.cell.ensures c.in-Formal.is c.requires)

pub translate_expression-returns-in-Literal : goal.translate_expression-returns-in-Literal
translate_expression-returns-in-Literal t c =
    let fits : SFits w32 c.in-Literal.value = search rules in
    literal_done _ c.skip_cell.ensures (ready_as _ c.cell.ensures c.in-Literal.is c.requires) (simp to_z-of_z at c.emit.ensures)

pub translate_expression-returns-in-Var : goal.translate_expression-returns-in-Var
translate_expression-returns-in-Var t c =
    var_done _ c.skip_cell-in-Var.ensures (ready_as _ c.cell.ensures c.in-Var.is c.requires) c.load.ensures c.emit-in-Var.ensures

-- ---- SET

pub translate_set-translate_expression-requires : goal.translate_set-translate_expression-requires
translate_set-translate_expression-requires t c = (omega arith, set_ready _ c.requires c.skip_cell.ensures)

pub translate_set-reserve-last-requires : goal.translate_set-reserve-last-requires
translate_set-reserve-last-requires t c = set_room _ c.requires c.skip_cell.ensures c.translate_expression.ensures

pub translate_set-put-requires : goal.translate_set-put-requires
translate_set-put-requires t c =
    omega (arith, set_room _ c.requires c.skip_cell.ensures c.translate_expression.ensures, some_room _ c.skip_cell.ensures c.requires.here, c.translate_expression.ensures.kept.same_count)

pub translate_set-returns : goal.translate_set-returns
translate_set-returns t c =
    set_done _ c.requires c.skip_cell.ensures c.translate_expression.ensures c.store.ensures (put_last c.reserve-last.ensures.passed c.reserve-last.ensures.told c.put.ensures)

-- ---- IF

test_room : (t : ℕ) (c : translate_if-After-translate_expression t) → let out = c.translate_expression.new.out in out.«end» < out.count
test_room t c = if_test_room _ c.requires c.skip_cell.ensures c.translate_expression.ensures

second_room : (t : ℕ) (c : translate_if-After-translate_expression-2 t) → let out = c.translate_expression-2.new.out in out.«end» < out.count
second_room t c = if_second_room _ c.requires c.skip_cell.ensures c.translate_expression.ensures c.reserve-test.ensures.passed c.translate_expression-2.ensures

pub translate_if-translate_expression-requires : goal.translate_if-translate_expression-requires
translate_if-translate_expression-requires t c = (omega arith, if_test_ready _ c.requires c.skip_cell.ensures)

pub translate_if-reserve-test-requires : goal.translate_if-reserve-test-requires
translate_if-reserve-test-requires t c = test_room t (goal.at.translate_if-reserve-test-requires t c).After-translate_expression

pub translate_if-translate_expression-requires-2 : goal.translate_if-translate_expression-requires-2
translate_if-translate_expression-requires-2 t c = (omega (arith, c.translate_expression.ensures.further), if_second_ready _ c.requires c.skip_cell.ensures c.translate_expression.ensures c.reserve-test.ensures.passed)

pub translate_if-reserve-second-requires : goal.translate_if-reserve-second-requires
translate_if-reserve-second-requires t c = second_room t (goal.at.translate_if-reserve-second-requires t c).After-translate_expression-2

pub translate_if-put-requires : goal.translate_if-put-requires
translate_if-put-requires t c = omega (arith, test_room t (goal.at.translate_if-put-requires t c).After-translate_expression, c.translate_expression-2.ensures.kept.same_count)

pub translate_if-translate_expression-requires-3 : goal.translate_if-translate_expression-requires-3
translate_if-translate_expression-requires-3 t c = (omega (arith, c.translate_expression.ensures.further, c.translate_expression-2.ensures.further), if_third_ready _ c.requires c.skip_cell.ensures c.translate_expression.ensures c.reserve-test.ensures.passed c.translate_expression-2.ensures c.reserve-second.ensures.passed c.put.ensures)

pub translate_if-put-requires-2 : goal.translate_if-put-requires-2
translate_if-put-requires-2 t c = omega (arith, second_room t (goal.at.translate_if-put-requires-2 t c).After-translate_expression-2, c.translate_expression-3.ensures.kept.same_count)

pub translate_if-returns : goal.translate_if-returns
translate_if-returns t c = if_done _ c.requires c.skip_cell.ensures c.translate_expression.ensures c.reserve-test.ensures.passed c.translate_expression-2.ensures c.reserve-second.ensures.passed c.put.ensures c.reserve-test.ensures.told c.reserve-second.ensures.told c.translate_expression-3.ensures c.put-2.ensures

-- ---- WHILE

exit_room : (t : ℕ) (c : translate_while-After-translate_expression t) → let out = c.translate_expression.new.out in out.«end» < out.count
exit_room t c = while_test_room _ c.requires c.skip_cell.ensures c.translate_expression.ensures

last_room : (t : ℕ) (c : translate_while-After-translate_expression-2 t) → let out = c.translate_expression-2.new.out in out.«end» + 3 ≤ out.count
last_room t c = while_body_room _ c.requires c.skip_cell.ensures c.translate_expression.ensures c.reserve-exit.ensures.passed c.translate_expression-2.ensures

pub translate_while-translate_expression-requires : goal.translate_while-translate_expression-requires
translate_while-translate_expression-requires t c = (omega arith, while_test_ready _ c.requires c.skip_cell.ensures)

pub translate_while-reserve-exit-requires : goal.translate_while-reserve-exit-requires
translate_while-reserve-exit-requires t c = exit_room t (goal.at.translate_while-reserve-exit-requires t c).After-translate_expression

pub translate_while-translate_expression-requires-2 : goal.translate_while-translate_expression-requires-2
translate_while-translate_expression-requires-2 t c = (omega (arith, c.translate_expression.ensures.further), while_body_ready _ c.requires c.skip_cell.ensures c.translate_expression.ensures c.reserve-exit.ensures.passed)

pub translate_while-emit-requires : goal.translate_while-emit-requires
translate_while-emit-requires t c = omega (arith, last_room t (goal.at.translate_while-emit-requires t c).After-translate_expression-2)

pub translate_while-emit-requires-2 : goal.translate_while-emit-requires-2
translate_while-emit-requires-2 t c = omega (arith, last_room t (goal.at.translate_while-emit-requires-2 t c).After-translate_expression-2)

pub translate_while-put-requires : goal.translate_while-put-requires
translate_while-put-requires t c = omega (arith, exit_room t (goal.at.translate_while-put-requires t c).After-translate_expression, c.translate_expression-2.ensures.kept.same_count)

pub translate_while-emit-requires-3 : goal.translate_while-emit-requires-3
translate_while-emit-requires-3 t c = omega (arith, last_room t (goal.at.translate_while-emit-requires-3 t c).After-translate_expression-2)

pub translate_while-returns : goal.translate_while-returns
translate_while-returns t c = while_done _ c.requires c.skip_cell.ensures c.translate_expression.ensures c.reserve-exit.ensures.passed c.translate_expression-2.ensures refl c.reserve-exit.ensures.told c.emit.ensures c.emit-2.ensures c.put.ensures (omega arith) c.emit-3.ensures

-- ---- BEGIN

pub translate_begin-emit-requires : goal.translate_begin-emit-requires
translate_begin-emit-requires t c = some_room _ c.skip_cell.ensures c.requires.here

pub translate_begin-returns-then-count-eq0 : goal.translate_begin-returns-then-count-eq0
translate_begin-returns-then-count-eq0 t c = empty_done _ c.skip_cell.ensures c.if-count-eq0.true c.requires c.emit.ensures

pub translate_begin-translate_expression-requires : goal.translate_begin-translate_expression-requires
translate_begin-translate_expression-requires t c = (omega arith, begin_first_ready _ (omega arith) c.requires c.skip_cell.ensures)

pub translate_begin-translate_list-requires : goal.translate_begin-translate_list-requires
translate_begin-translate_list-requires t c =
    (omega (arith, c.translate_expression.ensures.further), begin_rest_ready _ (omega arith) c.requires c.skip_cell.ensures c.translate_expression.ensures)

pub translate_begin-returns : goal.translate_begin-returns
translate_begin-returns t c = begin_done _ (omega arith) c.requires c.skip_cell.ensures c.translate_expression.ensures c.translate_list.ensures

-- ---- APPLY

pub translate_apply-emit-requires : goal.translate_apply-emit-requires
translate_apply-emit-requires t c = some_room _ c.skip_cell.ensures c.requires.here

pub translate_apply-translate_list-requires : goal.translate_apply-translate_list-requires
translate_apply-translate_list-requires t c = (omega arith, apply_list_ready _ c.requires c.skip_cell.ensures c.emit.ensures)

pub translate_apply-emit-requires-2 : goal.translate_apply-emit-requires-2
translate_apply-emit-requires-2 t c = apply_room _ c.requires c.skip_cell.ensures c.emit.ensures c.translate_list.ensures

pub translate_apply-returns : goal.translate_apply-returns
translate_apply-returns t c = apply_done _ c.requires c.skip_cell.ensures c.emit.ensures c.translate_list.ensures c.emit-2.ensures

-- ---- lists

pub translate_list-returns-then-count-eq0 : goal.translate_list-returns-then-count-eq0
translate_list-returns-then-count-eq0 t c = list_none _ c.if-count-eq0.true

pub translate_list-translate_expression-requires : goal.translate_list-translate_expression-requires
translate_list-translate_expression-requires t c = (omega arith, list_first_ready _ (omega arith) c.requires c.put_pop.ensures)

pub translate_list-translate_list-requires : goal.translate_list-translate_list-requires
translate_list-translate_list-requires t c =
    let within = (begins _ (list_first_ready _ (omega arith) c.requires c.put_pop.ensures)).here.within in
    (omega (arith, c.translate_expression.ensures.further, within), list_rest_ready _ (omega arith) c.requires c.put_pop.ensures c.translate_expression.ensures)

pub translate_list-returns : goal.translate_list-returns
translate_list-returns t c = list_done _ (omega arith) c.requires c.put_pop.ensures c.translate_expression.ensures c.translate_list.ensures
