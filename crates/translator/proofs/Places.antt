-- A place holds one cell at most, and the code and operand there tell which.
use Rattle.std.proofs.Common.{◌≡◌, ℕ, zero, suc, ◌+◌, ◌*◌, ◌/◌, ◌%◌, ◌<◌, ◌≤◌, cond, eqb, List, [], ◌∷◌, ◌++◌, map, length, get_or, ℤ, pos, negsuc, sym, refl, ◌∙◌, subst, append-nil, arith}
use Rattle.language.specs.Limits.{IsValue}
use Rattle.format.specs.declared.cell.Cell.{Cell}
use Rattle.format.specs.declared.cell.Cell.TheVariants.{Literal, Var, Set, If, While, Begin, Apply, Formal}
use Rattle.format.specs.Cells.{code, operand, Valid}
use Rattle.format.proofs.Bytes.{bytes4_injective}
use Rattle.translator.specs.Tables.{CellAt}
use Rattle.translator.specs.Reading.{CellsAt}

natural : ℤ → ℕ
natural (pos n) = n
natural (negsuc n) = 0

cell_from : ℕ → ℤ → Cell
unfolding natural
cell_from b v = cond (eqb b 0) (Literal v) (cond (eqb b 1) (Var (natural v)) (cond (eqb b 2) (Set (natural v)) (cond (eqb b 3) If (cond (eqb b 4) While (cond (eqb b 5) (Begin (natural v)) (cond (eqb b 6) (Apply (natural v / 16) (natural v % 16)) (Formal (natural v))))))))

cell_back : (c : Cell) → Valid c → cell_from (code c) (operand c) ≡ c
unfolding natural cell_from
cell_back (Literal v) h = refl
cell_back (Var x) h = refl
cell_back (Set x) h = refl
cell_back If h = refl
cell_back While h = refl
cell_back (Begin n) h = refl
cell_back (Apply f k) h =
    let q : (16 * f + k) / 16 ≡ f = omega arith in
    let r : (16 * f + k) % 16 ≡ k = omega arith in
    λ i. Apply (q i) (r i)
cell_back (Formal x) h = refl

pub operand_value : (c : Cell) → Valid c → IsValue (operand c)
operand_value (Literal v) h = h
operand_value (Var x) h = omega arith
operand_value (Set x) h = omega arith
operand_value If h = omega arith
operand_value While h = omega arith
operand_value (Begin n) h = omega arith
operand_value (Apply f k) h = omega arith
operand_value (Formal x) h = omega arith

module _ {codes operands : List ℕ} {i : ℕ} where
  pub one_cell : {c d : Cell} → CellAt codes operands i c → CellAt codes operands i d → c ≡ d
  one_cell {c} {d} x y =
      let o : operand c ≡ operand d = bytes4_injective _ _ (operand_value c x.valid) (operand_value d y.valid) (sym x.operand_is ∙ y.operand_is) in
      let b : code c ≡ code d = sym x.code_is ∙ y.code_is in
      sym (cell_back c x.valid) ∙ (λ j. cell_from (b j) (o j)) ∙ cell_back d y.valid

-- of two lists of cells from one place on, one is the beginning of the other
pub record Meet (cs ds : List Cell) : Type 0 where
  pub left : List Cell
  pub right : List Cell
  pub joined : cs ++ left ≡ ds ++ right

module _ (codes operands : List ℕ) where
  -- cells one after the other
  pub cells_append : (at : ℕ) (cs ds : List Cell) → CellsAt codes operands at cs → CellsAt codes operands (at + length cs) ds → CellsAt codes operands at (cs ++ ds)
  cells_append at [] ds x y = subst (λ k. CellsAt codes operands k ds) (omega arith) y
  cells_append at (c ∷ cs) ds x y = (x.0, cells_append (at + 1) cs ds x.1 (subst (λ k. CellsAt codes operands k ds) (omega arith) y))

  pub cells_front : (at : ℕ) (cs ds : List Cell) → CellsAt codes operands at (cs ++ ds) → CellsAt codes operands at cs
  cells_front at [] ds x = tt
  cells_front at (c ∷ cs) ds x = (x.0, cells_front (at + 1) cs ds x.1)

  pub cells_back : (at : ℕ) (cs ds : List Cell) → CellsAt codes operands at (cs ++ ds) → CellsAt codes operands (at + length cs) ds
  cells_back at [] ds x = subst (λ k. CellsAt codes operands k ds) (omega arith) x
  cells_back at (c ∷ cs) ds x = subst (λ k. CellsAt codes operands k ds) (omega arith) (cells_back (at + 1) cs ds x.1)

  pub cells_within : (at : ℕ) (cs : List Cell) → at ≤ length codes → CellsAt codes operands at cs → at + length cs ≤ length codes
  cells_within at [] h x = omega arith
  cells_within at (c ∷ cs) h x = omega (arith, cells_within (at + 1) cs (omega (arith, x.0.within)) x.1)

  pub cells_nth : (at : ℕ) (cs : List Cell) (k : ℕ) (d : Cell) → CellsAt codes operands at cs → k < length cs → CellAt codes operands (at + k) (get_or cs k d)
  cells_nth at [] k d x h = absurd (omega arith)
  cells_nth at (c ∷ cs) zero d x h = subst (λ j. CellAt codes operands j c) (omega arith) x.0
  cells_nth at (c ∷ cs) (suc k) d x h = subst (λ j. CellAt codes operands j (get_or cs k d)) (omega arith) (cells_nth (at + 1) cs k d x.1 (omega arith))

  pub formals_nth : (at : ℕ) (xs : List ℕ) (k : ℕ) → k < length xs → CellsAt codes operands at (map Formal xs) → CellAt codes operands (at + k) (Formal (get_or xs k 0))
  formals_nth at [] k h x = absurd (omega arith)
  formals_nth at (y ∷ xs) zero h x = subst (λ j. CellAt codes operands j (Formal y)) (omega arith) x.0
  formals_nth at (y ∷ xs) (suc k) h x = subst (λ j. CellAt codes operands j (Formal (get_or xs k 0))) (omega arith) (formals_nth (at + 1) xs k (omega arith) x.1)

  pub meet : (at : ℕ) (cs ds : List Cell) → CellsAt codes operands at cs → CellsAt codes operands at ds → Meet cs ds
  meet at [] ds x y = record { left = ds; right = []; joined = sym (append-nil ds) }
  meet at (c ∷ cs) [] x y = record { left = []; right = c ∷ cs; joined = append-nil (c ∷ cs) }
  meet at (c ∷ cs) (d ∷ ds) x y =
      let m = meet (at + 1) cs ds x.1 y.1 in
      record { left = m.left; right = m.right; joined = λ i. one_cell x.0 y.0 i ∷ m.joined i }
