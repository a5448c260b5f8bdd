use Rattle.std.proofs.Common.{◌≡◌, List, ℕ, Err, Result, refl, sym, subst, ◌∙◌, arith, rules}
use Rattle.format.specs.declared.refusal.Refusal.{Refusal}
use Rattle.format.specs.declared.refusal.Refusal.TheVariants.{Size, Head, Shape}
use Rattle.translator.specs.declared.table.Table.{Table}
use Rattle.translator.specs.Verdict.{Verdict, Answered}
use Rattle.translator.proofs.Steps.{exp_bounds, end_within}
use Rattle.translator.proofs.Decoded.{decoded}
use Rattle.translator.proofs.Verdicts.{refuse_size, refuse_head, refuse_cell, no_body, left_over, refuse_twice, refuse_nest, accepted}
use Rattle.translator.proofs.Only.{answered}
use Rattle.translator.proofs.table.accept.Goals as goal

refused : (t : List ℕ) (e : Refusal) (r : Result Table Refusal) → r ≡ Err e → Verdict t (Err e) → Answered t r
refused t e r is verdict = subst (Answered t) (sym is) (answered t (Err e) verdict)

pub returns-in_err-cells : goal.returns-in_err-cells
returns-in_err-cells c =
    let never = rw c.in_err-cells.ensures.ok_part at c.cut.ensures in
    refused _ Size _ (search rules) (refuse_size _ never)

pub returns-in_err-header : goal.returns-in_err-header
returns-in_err-header c =
    let cells = rw c.in_ok-cells.ensures.ok_part at c.cut.ensures in
    let none = rw c.in_err-header.ensures.ok_part at c.read.ensures in
    refused _ Head _ (search rules) (refuse_head _ cells.sized (λ h. none cells.cut.whole.headed h.headed))

pub returns-then-header-ne0 : goal.returns-then-header-ne0
returns-then-header-ne0 c =
    let cells = rw c.in_ok-cells.ensures.ok_part at c.cut.ensures in
    let at = rw c.in_ok-header.ensures.ok_part at c.read.ensures in
    answered _ _ (refuse_head _ cells.sized (λ h. c.if-header-ne0.true (at.height ∙ h.flat)))

pub returns-in-Some : goal.returns-in-Some
returns-in-Some c =
    let cells = rw c.in_ok-cells.ensures.ok_part at c.cut.ensures in
    let at = rw c.in_ok-header.ensures.ok_part at c.read.ensures in
    answered _ _ (refuse_cell _ _ _ cells.cut _ at cells.sized c.if-header-ne0.false c.in-Some.ensures)

pub returns-in_err-body : goal.returns-in_err-body
returns-in_err-body c =
    let cells = rw c.in_ok-cells.ensures.ok_part at c.cut.ensures in
    let at = rw c.in_ok-header.ensures.ok_part at c.read.ensures in
    let none = rw c.in_err-body.ensures.ok_part at c.read_body.ensures in
    refused _ Shape _ (search rules) (no_body _ _ _ cells.cut _ at cells.sized c.if-header-ne0.false c.in_default.ensures none)

pub returns-then-body-len : goal.returns-then-body-len
returns-then-body-len c =
    let cells = rw c.in_ok-cells.ensures.ok_part at c.cut.ensures in
    let at = rw c.in_ok-header.ensures.ok_part at c.read.ensures in
    let exp = rw c.in_ok-body.ensures.ok_part at c.read_body.ensures in
    answered _ _ (left_over _ _ _ cells.cut _ at c.in_ok-body.body cells.sized c.if-header-ne0.false c.in_default.ensures exp (omega arith))

pub returns-then-has_repeated : goal.returns-then-has_repeated
returns-then-has_repeated c =
    let cells = rw c.in_ok-cells.ensures.ok_part at c.cut.ensures in
    let at = rw c.in_ok-header.ensures.ok_part at c.read.ensures in
    let exp = rw c.in_ok-body.ensures.ok_part at c.read_body.ensures in
    let m = decoded _ _ _ _ c.in_ok-body.body cells.cut c.in_ok-cells.cells.few at c.if-header-ne0.false exp (omega arith) (end_within _ _ _ _ exp) c.in_default.ensures in
    answered _ _ (refuse_twice _ _ _ cells.cut _ at _ m c.if-has_repeated.ensures)

pub returns-then-body-gt-MAX_DEPTH : goal.returns-then-body-gt-MAX_DEPTH
returns-then-body-gt-MAX_DEPTH c =
    let cells = rw c.in_ok-cells.ensures.ok_part at c.cut.ensures in
    let at = rw c.in_ok-header.ensures.ok_part at c.read.ensures in
    let exp = rw c.in_ok-body.ensures.ok_part at c.read_body.ensures in
    let m = decoded _ _ _ _ c.in_ok-body.body cells.cut c.in_ok-cells.cells.few at c.if-header-ne0.false exp (omega arith) (end_within _ _ _ _ exp) c.in_default.ensures in
    answered _ _ (refuse_nest _ _ _ cells.cut _ at _ m c.if-has_repeated.ensures c.if-body-gt-MAX_DEPTH.true)

pub overflow_add-result : goal.overflow_add-result
overflow_add-result c =
    let exp = rw c.in_ok-body.ensures.ok_part at c.read_body.ensures in
    omega (arith, c.in_ok-cells.cells.few, (exp_bounds _ _ _ _ exp).3, end_within _ _ _ _ exp)

pub returns : goal.returns
returns c =
    let cells = rw c.in_ok-cells.ensures.ok_part at c.cut.ensures in
    let at = rw c.in_ok-header.ensures.ok_part at c.read.ensures in
    let exp = rw c.in_ok-body.ensures.ok_part at c.read_body.ensures in
    let m = decoded _ _ _ _ c.in_ok-body.body cells.cut c.in_ok-cells.cells.few at c.if-header-ne0.false exp (omega arith) (end_within _ _ _ _ exp) c.in_default.ensures in
    answered _ _ (accepted _ _ _ cells.cut _ at _ m _ refl refl refl refl refl c.if-has_repeated.ensures c.if-body-gt-MAX_DEPTH.false)
