use Rattle.std.proofs.Common.{◌+◌, ◌≤◌, refl, ap, arith, rules}
use Rattle.translator.specs.InCells.{cell_codes, cell_operands}
use Rattle.translator.proofs.Steps.{no_cell, formal, no_parts, whole, alone, none_left, no_first, no_rest, joined, exp_bounds, exps_bounds, exps_within, end_within, lift_low, own_bound}
use Rattle.translator.proofs.cells.Cells.+reading.Goals as goal

pub read_expression-returns-in_err-cell : goal.read_expression-returns-in_err-cell
read_expression-returns-in_err-cell t c = rw c.from_residual.ensures (no_cell _ _ _ c.in_err-cell.ensures)

pub read_expression-returns-in_err-parts : goal.read_expression-returns-in_err-parts
read_expression-returns-in_err-parts t c =
    rw c.from_residual-in_err-parts.ensures (formal _ _ _ _ c.in_ok-cell.ensures c.in_err-parts.ensures)

pub read_expression-returns-in_err-inner : goal.read_expression-returns-in_err-inner
read_expression-returns-in_err-inner t c =
    rw c.from_residual-in_err-inner.ensures (no_parts _ _ _ _ c.in_ok-cell.ensures _ c.in_ok-parts.ensures c.in_err-inner.ensures)

pub read_expression-returns-then-parts-eq0 : goal.read_expression-returns-then-parts-eq0
read_expression-returns-then-parts-eq0 t c = alone _ _ _ _ c.in_ok-cell.ensures _ _ c.in_ok-parts.ensures c.if-parts-eq0.true refl refl c.own_count-own.ensures refl

pub read_expression-read_parts-requires : goal.read_expression-read_parts-requires
read_expression-read_parts-requires t c = (omega (arith, c.in_ok-cell.ensures.within), omega (arith, lift_low c.in_ok-cell.cell, c.lift_of.ensures))

pub read_expression-overflow_add-result-2 : goal.read_expression-overflow_add-result-2
read_expression-overflow_add-result-2 t c =
    let low : c.lift_of.result ≤ 1 = omega (arith, lift_low c.in_ok-cell.cell, c.lift_of.ensures) in
    let bounds = exps_bounds (cell_codes c.args.self.now) (cell_operands c.args.self.now) (c.args.at + 1) _ c.lift_of.result c.in_ok-inner.inner low c.in_ok-inner.ensures in
    search (rules, bounds.0)

pub read_expression-overflow_add-result-3 : goal.read_expression-overflow_add-result-3
read_expression-overflow_add-result-3 t c =
    let low : c.lift_of.result ≤ 1 = omega (arith, lift_low c.in_ok-cell.cell, c.lift_of.ensures) in
    let bounds = exps_bounds (cell_codes c.args.self.now) (cell_operands c.args.self.now) (c.args.at + 1) _ c.lift_of.result c.in_ok-inner.inner low c.in_ok-inner.ensures in
    let within = exps_within (cell_codes c.args.self.now) (cell_operands c.args.self.now) (c.args.at + 1) _ c.lift_of.result c.in_ok-inner.inner (omega (arith, c.in_ok-cell.ensures.within)) c.in_ok-inner.ensures in
    omega (arith, bounds.1, within, c.own_count-own.ensures, own_bound _ _ c.in_ok-parts.ensures, c.args.self.now.few)

pub read_expression-returns : goal.read_expression-returns
read_expression-returns t c =
    whole _ _ _ _ c.in_ok-cell.ensures _ _ c.in_ok-inner.inner _ c.in_ok-parts.ensures c.lift_of.ensures c.in_ok-inner.ensures refl refl (ap (λ k. c.in_ok-inner.inner.count + k) c.own_count-own.ensures) c.max.ensures

pub read_parts-returns-then-count-eq0 : goal.read_parts-returns-then-count-eq0
read_parts-returns-then-count-eq0 t c = none_left _ _ _ _ _ _ c.if-count-eq0.true refl refl refl refl

pub read_parts-returns-in_err-first : goal.read_parts-returns-in_err-first
read_parts-returns-in_err-first t c = rw c.from_residual.ensures (no_first _ _ _ c.args.count (omega arith) c.in_err-first.ensures)

pub read_parts-read_parts-requires : goal.read_parts-read_parts-requires
read_parts-read_parts-requires t c = let b = exp_bounds _ _ _ _ c.in_ok-first.ensures in (omega arith, c.requires)

pub read_parts-returns-in_err-rest : goal.read_parts-returns-in_err-rest
read_parts-returns-in_err-rest t c =
    rw c.from_residual-in_err-rest.ensures (no_rest _ _ _ _ _ (omega arith) c.in_ok-first.ensures c.in_err-rest.ensures)

pub read_parts-overflow_add-result : goal.read_parts-overflow_add-result
read_parts-overflow_add-result t c =
    let first = exp_bounds _ _ _ _ c.in_ok-first.ensures in
    let rest = exps_bounds _ _ _ _ _ _ c.requires c.in_ok-rest.ensures in
    let within = exps_within _ _ _ _ _ _ (end_within _ _ _ _ c.in_ok-first.ensures) c.in_ok-rest.ensures in
    omega (arith, first.3, rest.1, within, c.args.self.now.few)

pub read_parts-overflow_add-lift : goal.read_parts-overflow_add-lift
read_parts-overflow_add-lift t c =
    let rest = exps_bounds _ _ _ _ _ _ c.requires c.in_ok-rest.ensures in
    let within = exps_within _ _ _ _ _ _ (end_within _ _ _ _ c.in_ok-first.ensures) c.in_ok-rest.ensures in
    omega (arith, rest.2, within, c.requires, c.args.self.now.few)

pub read_parts-returns : goal.read_parts-returns
read_parts-returns t c =
    joined _ _ _ _ _ c.in_ok-first.first c.in_ok-rest.rest _ (omega arith) c.in_ok-first.ensures c.in_ok-rest.ensures refl c.max.ensures refl c.max-2.ensures
