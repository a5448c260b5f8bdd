-- From an accepted table to the bytes of its image.
use Rattle.std.proofs.Common.{◌≡◌, ℕ, ◌+◌, ◌*◌, ◌<◌, ◌≤◌, List, [], ◌∷◌, ◌++◌, map, length, get_or, drop, sym, refl, ap, ◌∙◌, subst, arith}
use Rattle.std.proofs.lemmas.List.Edits.{sets}
use Rattle.std.proofs.lemmas.List.{get_or_default, length-map, same_lists}
use Rattle.language.specs.Tree.{Definition, VAL, DEFINE, body, formals}
use Rattle.format.specs.declared.cell.Cell.TheVariants.{Formal}
use Rattle.format.specs.declared.header.Header.{Header}
use Rattle.format.specs.declared.instr.Instr.{Instr}
use Rattle.format.specs.Layout.{header_bytes, operand_bytes}
use Rattle.translator.specs.InCells.{cell_codes, cell_operands, CellIn}
use Rattle.format.specs.Cells.{encode, header_of}
use Rattle.format.specs.Instrs.{code as code_of, operand}
use Rattle.translator.specs.declared.table.Table.{Table}
use Rattle.translation.specs.declared.emit.Source.{Source}
use Rattle.translator.specs.declared.cells.Cells.{Cells}
use Rattle.translation.specs.declared.writer.Writer.{Writer}
use Rattle.translator.specs.Weight.{weight}
use Rattle.translator.specs.Tables.{CellAt}
use Rattle.translation.specs.Translation.{code, instrs, image_header, image}
use Rattle.translation.specs.Standing.{CellsIn, FormalsTo, Named}
use Rattle.translation.specs.Writing.{written, Emitted}
use Rattle.translation.specs.Emission.{names, Here, Ready, Emits}
use Rattle.translation.specs.Imaging.{IsSource, Holds, HoldsSome, CodeWritten, Imaged, last_of}
use Rattle.translator.proofs.Places.{one_cell, cells_front, cells_back, formals_nth}
use Rattle.translation.proofs.Coding.{length-code, length-instrs}
use Rattle.translation.proofs.Writing.{both, written_whole, sets_is}

ended : (d : Definition) → instrs d ≡ code (formals d) (body d) 0 ++ (last_of (header_of d) ∷ [])
ended (VAL x e) = refl
ended (DEFINE f xs e) = refl

module _ (r : Table) (d : Definition) (holds : Holds r d) where
  pub formals_are : r.header.formals ≡ length (formals d)
  formals_are = ap (λ h. h.formals) holds.header

  counted : r.count ≡ weight (body d) + 1
  counted = holds.counted ∙ length-instrs d

  -- the cells of the table
  module _ (t : Cells) (same : r.cells ≡ t) where
    stands : CellsIn t 0 (map Formal (formals d) ++ encode (body d))
    stands = subst (λ l. CellsIn l 0 (map Formal (formals d) ++ encode (body d))) same holds.stand

    formal_here : (k : ℕ) → k < length (formals d) → CellIn t k (Formal (get_or (formals d) k 0))
    formal_here k lt =
        let cods = cell_codes t in
        let ops = cell_operands t in
        subst (λ j. CellAt cods ops j (Formal (get_or (formals d) k 0))) (omega arith) (formals_nth cods ops 0 (formals d) k lt (cells_front cods ops 0 (map Formal (formals d)) (encode (body d)) stands))

    pub formals_to : (n : ℕ) → n ≡ r.header.formals → FormalsTo t n
    formals_to n h i lt = record { name = get_or (formals d) i 0; here = formal_here i (omega (arith, formals_are)) }

    one_name : (xs : List ℕ) (k e : ℕ) → length xs ≡ r.header.formals → Named t (length xs) xs → k < length xs → get_or xs k e ≡ get_or (formals d) k e
    one_name xs k e long named lt =
        let one = one_cell (named k (omega arith)) (formal_here k (omega (arith, formals_are))) in
        get_or_default xs k e 0 lt
        ∙ cc one
        ∙ get_or_default (formals d) k 0 e (omega (arith, formals_are))

    names_are : (xs : List ℕ) → length xs ≡ r.header.formals → Named t (length xs) xs → xs ≡ formals d
    names_are xs long named = same_lists xs (formals d) (long ∙ formals_are) (λ k e lt. one_name xs k e long named lt)

    body_stands : CellsIn t r.header.formals (encode (body d))
    body_stands =
        subst (λ k. CellsIn t k (encode (body d))) (omega (arith, formals_are, length-map (formals d) Formal)) (cells_back (cell_codes t) (cell_operands t) 0 (map Formal (formals d)) (encode (body d)) stands)

module _ {r : Table} {s : Source} {w : Writer} (b : IsSource r s) (next_is : w.next ≡ r.header.formals) (end_is : w.«end» ≡ 0) (count_is : w.count ≡ r.count) where
  body_here : (d : Definition) → Holds r d → Here s w (body d)
  body_here d h =
      record { stand = subst (λ k. CellsIn s.cells k (encode (body d))) (sym next_is) (body_stands r d h s.cells b.same); room = omega (arith, end_is, count_is, counted r d h) }

  pub body_ready : HoldsSome r → Ready s w
  body_ready h = record { e = body h.d; here = body_here h.d h.holds }

  module _ {w₁ : Writer} (told : Emits s w w₁) where
    body_told : (d : Definition) → Holds r d → Emitted w w₁ (length (encode (body d))) (code (names s) (body d) w.«end»)
    body_told d h = told.told (body d) (body_here d h).stand

    last_room : (d : Definition) → Holds r d → w₁.«end» + 1 ≤ w.count
    last_room d h = omega (arith, (body_told d h).end_is, length-code (names s) (body d) w.«end», end_is, count_is, counted r d h)

    pub last_ready : HoldsSome r → w₁.«end» < w₁.count
    last_ready h = omega (arith, last_room h.d h.holds, told.kept.same_count)

    pub code_done : {w₂ : Writer} {x : Instr} {out : List ℕ} → x ≡ last_of r.header → Emitted w₁ w₂ 0 (x ∷ []) → out ≡ w₂.bytes.now → CodeWritten r w.bytes.now out
    code_done {w₂} {x} {out} x_is last out_is =
        record {
          told = λ d h.
              let xs = names_are r d h s.cells b.same (names s) b.many b.named in
              out_is
              ∙ (both (body_told d h) last (omega (arith, last_room d h, last.end_is))).wrote.bytes_are
              ∙ (λ i. written (count_is i) w.bytes.now (end_is i) (code (xs i) (body d) (end_is i) ++ ((x_is ∙ ap last_of h.header) i ∷ [])))
              ∙ ap (written r.count w.bytes.now 0) (sym (ended d));
        }

-- the header, and then the instructions
header_is : (r : Table) (d : Definition) (h : Header) → Holds r d → h ≡ record { height = r.height; kind = r.header.kind; number = r.header.number; formals = r.header.formals } → h ≡ image_header d
header_is r d h holds is =
    is ∙ (λ i. record { height = holds.high i; kind = (holds.header i).kind; number = (holds.header i).number; formals = (holds.header i).formals })

eight : (n : ℕ) (h : Header) → length (header_bytes n h) ≡ 8
eight n h = refl

pub image_done : {r : Table} {out out₁ out₂ head : List ℕ} {h : Header} → 8 + 5 * r.count ≤ length out → h ≡ record { height = r.height; kind = r.header.kind; number = r.header.number; formals = r.header.formals } → head ≡ header_bytes r.count h → out₁ ≡ head ++ drop 8 out → CodeWritten r out₁ out₂ → Imaged r out out₂
image_done {r} {out} {out₁} {out₂} {head} {h} room header bytes first m = record { told = go }
  where
    go : (d : Definition) → Holds r d → out₂ ≡ image d ++ drop (8 + 5 * r.count) out
    go d holds =
        let n = r.count in
        let hb = header_bytes n h in
        let counts : length (instrs d) ≡ n = sym holds.counted in
        let codes_long : n ≡ length (map code_of (instrs d)) = holds.counted ∙ sym (length-map (instrs d) code_of) in
        let start : out₁ ≡ sets out 0 hb = first ∙ ap (λ l. l ++ drop 8 out) bytes ∙ sym (sets_is out 0 hb (omega (arith, eight n h))) in
        m.told d holds
        ∙ ap (λ l. written n l 0 (instrs d)) start
        ∙ written_whole n out hb (instrs d) (eight n h) counts room
        ∙ (λ i. (header_bytes (codes_long i) (header_is r d h holds header i) ++ (map code_of (instrs d) ++ operand_bytes (map operand (instrs d)))) ++ drop (8 + 5 * n) out)
