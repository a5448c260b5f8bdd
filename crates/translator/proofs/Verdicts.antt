-- What each answer of the check of a table rests on.
use Rattle.std.proofs.Common.{◌≡◌, ℕ, ◌+◌, ◌<◌, ◌≤◌, List, map, length, get_or, pos, sym, ap, ◌∙◌, subst, arith}
use Rattle.std.proofs.lemmas.List.{length-map}
use Rattle.language.specs.Tree.{Definition, formals, body}
use Rattle.language.specs.Limits.{Distinct, Shallow}
use Rattle.format.specs.declared.cell.Cell.{Cell}
use Rattle.format.specs.declared.cell.Cell.TheVariants.{Formal}
use Rattle.format.specs.declared.header.Header.{Header}
use Rattle.format.specs.declared.refusal.Refusal.TheVariants.{Size, Head, Cell as WrongCell, Shape, Twice, Nest}
use Rattle.format.specs.Refusals.{told}
use Rattle.format.specs.Layout.{bytes4, codes_in, operands_in}
use Rattle.format.specs.Headers.{HeaderAt}
use Rattle.format.specs.Rows.{Cut}
use Rattle.format.specs.Cells.{encode}
use Rattle.format.proofs.Bytes.{bytes4_injective}
use Rattle.translator.specs.declared.expression.Extent.{Extent}
use Rattle.translator.specs.declared.table.Table.{Table}
use Rattle.translator.specs.Tables.{Sized, TableHead, formals_in, CellAt, AllRight, FirstWrong, wrong, missing, IsTable}
use Rattle.translator.specs.InCells.{cell_codes, cell_operands}
use Rattle.translator.specs.Verdict.{Passed, Refused, SIZE, HEAD, CELL, SHAPE, TWICE, NEST, NoTable, Accepted}
use Rattle.translator.specs.Reading.{CellsAt, ExpAt, NoExp, Repeated, NoneRepeated}
use Rattle.translator.proofs.Places.{operand_value, cells_front, cells_back, formals_nth}
use Rattle.translator.proofs.Steps.{one_exp}
use Rattle.translator.proofs.Facts.{is_table, facts, one_definition}
use Rattle.translator.proofs.Decoded.{Decoded}

passes : {t : List ℕ} {d : Definition} → IsTable t d → Passed t
passes x = let f = facts x in record { sized = f.sized; head = f.head; right = f.right }

pub refuse_size : (t : List ℕ) → (Sized t → ⊥) → Refused t (told Size) × NoTable t
refuse_size t never = (SIZE never, λ d w is. never (facts (is_table w is)).sized)

pub refuse_head : (t : List ℕ) → Sized t → (TableHead t → ⊥) → Refused t (told Head) × NoTable t
refuse_head t s never = (HEAD s never, λ d w is. never (facts (is_table w is)).head)

pub not_both : {codes operands : List ℕ} {n i : ℕ} → FirstWrong codes operands n i → AllRight codes operands n → ⊥
not_both (wrong within before here) all = here (all.each _ within)
not_both (missing at_end before few) all = omega (arith, all.enough)

module _ (t codes operands : List ℕ) (cut : Cut t codes operands) where
  module _ (h : Header) (at : HeaderAt t h) where
    all_in : AllRight codes operands h.formals → AllRight (codes_in t) (operands_in t) (formals_in t)
    all_in x = subst (λ n. AllRight (codes_in t) (operands_in t) n) at.formals (subst (λ l. AllRight (codes_in t) l h.formals) cut.operands_are (subst (λ l. AllRight l operands h.formals) cut.codes_are x))

    wrong_in : {i : ℕ} → FirstWrong codes operands h.formals i → FirstWrong (codes_in t) (operands_in t) (formals_in t) i
    wrong_in {i} x = subst (λ n. FirstWrong (codes_in t) (operands_in t) n i) at.formals (subst (λ l. FirstWrong (codes_in t) l h.formals i) cut.operands_are (subst (λ l. FirstWrong l operands h.formals i) cut.codes_are x))

    out : (k : ℕ) (cs : List Cell) → CellsAt (codes_in t) (operands_in t) k cs → CellsAt codes operands k cs
    out k cs x = subst (λ l. CellsAt codes l k cs) (sym cut.operands_are) (subst (λ l. CellsAt l (operands_in t) k cs) (sym cut.codes_are) x)

    pub flat_head : h.height ≡ 0 → TableHead t
    flat_head flat = record { flat = sym at.height ∙ flat; headed = at.headed }

    pub refuse_cell : {i : ℕ} → Sized t → h.height ≡ 0 → FirstWrong codes operands h.formals i → Refused t (told (WrongCell i)) × NoTable t
    refuse_cell s flat w = (CELL s (flat_head flat) (wrong_in w), λ d v is. not_both (wrong_in w) (facts (is_table v is)).right)

    many : {d : Definition} → IsTable t d → length (map Formal (formals d)) ≡ h.formals
    many {d} x = length-map (formals d) Formal ∙ sym (facts x).many ∙ sym at.formals

    body_stands : {d : Definition} → IsTable t d → CellsAt codes operands h.formals (encode (body d))
    body_stands {d} x =
        let k : 0 + length (map Formal (formals d)) ≡ h.formals = omega (arith, many x) in
        out h.formals (encode (body d)) (subst (λ k. CellsAt (codes_in t) (operands_in t) k (encode (body d))) k (cells_back (codes_in t) (operands_in t) 0 (map Formal (formals d)) (encode (body d)) (facts x).stand))

    passed : Sized t → h.height ≡ 0 → AllRight codes operands h.formals → Passed t
    passed s flat all = record { sized = s; head = flat_head flat; right = all_in all }

    refuse_shape : Sized t → h.height ≡ 0 → AllRight codes operands h.formals → ((d : Definition) → IsTable t d → ⊥) → Refused t (told Shape) × NoTable t
    refuse_shape s flat all never = (SHAPE (passed s flat all) never, λ d w is. never d (is_table w is))

    pub no_body : Sized t → h.height ≡ 0 → AllRight codes operands h.formals → NoExp codes operands h.formals → Refused t (told Shape) × NoTable t
    no_body s flat all never = refuse_shape s flat all (λ d x. never (body d) (body_stands x))

    pub left_over : (x : Extent) → Sized t → h.height ≡ 0 → AllRight codes operands h.formals → ExpAt codes operands h.formals x → x.«end» < length codes → Refused t (told Shape) × NoTable t
    left_over x s flat all exp short =
        refuse_shape s flat all
        (λ d y.
        let same : body d ≡ exp.e = one_exp codes operands h.formals (body d) exp.e (body_stands y) exp.stand in
        let long : length codes ≡ length (formals d) + length (encode (body d)) = ap length cut.codes_are ∙ (facts y).long in
        omega (arith, long, ap (λ e. length (encode e)) same, exp.past, (facts y).many, at.formals))

    formal_here : {d : Definition} → IsTable t d → (k : ℕ) → k < length (formals d) → CellAt codes operands k (Formal (get_or (formals d) k 0))
    formal_here {d} x k lt =
        let front = out 0 (map Formal (formals d)) (cells_front (codes_in t) (operands_in t) 0 (map Formal (formals d)) (encode (body d)) (facts x).stand) in
        subst (λ j. CellAt codes operands j (Formal (get_or (formals d) k 0))) (omega arith) (formals_nth codes operands 0 (formals d) k lt front)

    count_is : {d : Definition} → IsTable t d → length (formals d) ≡ h.formals
    count_is x = sym (facts x).many ∙ sym at.formals

    not_distinct : {d : Definition} → IsTable t d → Repeated operands h.formals → Distinct (formals d) → ⊥
    not_distinct {d} x r distinct =
        let i = r.earlier.i in
        let j = r.j in
        let a = formal_here x i (omega (arith, count_is x, r.within, r.earlier.before)) in
        let b = formal_here x j (omega (arith, count_is x, r.within)) in
        let same : pos (get_or (formals d) i 0) ≡ pos (get_or (formals d) j 0) = bytes4_injective _ _ (operand_value (Formal (get_or (formals d) i 0)) a.valid) (operand_value (Formal (get_or (formals d) j 0)) b.valid) (sym a.operand_is ∙ r.earlier.same ∙ b.operand_is) in
        distinct i j r.earlier.before (omega (arith, count_is x, r.within)) (let e : get_or (formals d) i 0 ≡ get_or (formals d) j 0 = cc same in e)

    distinct_from : {d : Definition} → IsTable t d → NoneRepeated operands h.formals → Distinct (formals d)
    distinct_from {d} x none i j before within same =
        let a = formal_here x i (omega arith) in
        let b = formal_here x j within in
        none j (omega (arith, count_is x)) i before (a.operand_is ∙ ap (λ v. bytes4 (pos v)) same ∙ sym b.operand_is)

    module _ (x : Extent) (m : Decoded t h x) where
      only : (d : Definition) → IsTable t d → d ≡ m.definition
      only d y = one_definition y m.table

      pub refuse_twice : Repeated operands h.formals → Refused t (told Twice) × NoTable t
      refuse_twice r =
          let never = not_distinct m.table r in
          (TWICE (passes m.table) m.table never, λ d w is. never (subst (λ c. Distinct (formals c)) (only d (is_table w is)) w.distinct))

      pub refuse_nest : NoneRepeated operands h.formals → 200 < x.depth → Refused t (told Nest) × NoTable t
      refuse_nest none deep =
          let never : Shallow m.definition → ⊥ = λ s. omega (arith, m.deep) in
          (NEST (passes m.table) m.table (distinct_from m.table none) never, λ d w is. never (subst Shallow (only d (is_table w is)) w.shallow))

      pub accepted : (r : Table) → r.header ≡ h → cell_codes r.cells ≡ codes → cell_operands r.cells ≡ operands → r.count ≡ x.count + 1 → r.height ≡ x.height → NoneRepeated operands h.formals → x.depth ≤ 200 → Accepted t r
      accepted r same same_codes same_operands long high none shallow =
          record {
            definition = m.definition;
            within = record { fits = m.table.fits; distinct = distinct_from m.table none; shallow = omega (arith, m.deep) };
            is = m.table.is;
            only = only;
            header = same ∙ m.header;
            codes = same_codes ∙ cut.codes_are;
            operands = same_operands ∙ cut.operands_are;
            counted = omega (arith, long, m.long);
            high = high ∙ m.high;
          }
