-- What is true of the table of a definition, and that it has one definition only.
use Rattle.std.proofs.Common.{◌≡◌, ℕ, ◌+◌, ◌*◌, ◌≤◌, List, [], ◌∷◌, map, length, get_or, sym, refl, ap, ◌∙◌, subst, arith, length-append}
use Rattle.std.proofs.lemmas.List.{drop-drop, drop_at, take_at, length-map}
use Rattle.language.specs.Tree.{Definition, VAL, DEFINE, body, formals, number}
use Rattle.language.specs.Limits.{Fits, Within}
use Rattle.format.specs.declared.cell.Cell.{Cell}
use Rattle.format.specs.declared.cell.Cell.TheVariants.{Formal}
use Rattle.format.specs.Layout.{operand_bytes, kind_byte, count_in, codes_in, operands_in}
use Rattle.format.specs.Headers.{most_formals}
use Rattle.format.specs.Cells.{code, operand, encode, cells, kind_of, table_of}
use Rattle.format.proofs.Bytes.{length-operands}
use Rattle.translator.specs.Tables.{Sized, TableHead, formals_in, AllRight, IsTable}
use Rattle.translator.specs.Reading.{CellsAt}
use Rattle.translator.proofs.Trees.{encode_size, size_some}
use Rattle.translator.proofs.Places.{one_cell, cells_front, cells_back}
use Rattle.translator.proofs.Steps.{one_exp}
use Rattle.translator.proofs.Arrays.{AllValid, valid_append, ranged_valid, names_valid, cells_of_arrays, right}

pub is_table : {t : List ℕ} {d : Definition} → Within d → t ≡ table_of d → IsTable t d
is_table w is = record { fits = w.fits; is = is }

pub record Facts (t : List ℕ) (d : Definition) : Type 0 where
  pub sized : Sized t
  pub head : TableHead t
  pub right : AllRight (codes_in t) (operands_in t) (formals_in t)
  pub stand : CellsAt (codes_in t) (operands_in t) 0 (cells d)
  pub long : length (codes_in t) ≡ length (formals d) + length (encode (body d))
  pub many : formals_in t ≡ length (formals d)
  pub kind : get_or t 4 0 ≡ kind_byte (kind_of d)
  pub number_is : get_or t 5 0 ≡ number d

most : (d : Definition) → Fits d → length (formals d) ≤ most_formals (kind_of d)
most (VAL x e) f = omega arith
most (DEFINE g xs e) f = omega (arith, f.few)

facts_of : (d : Definition) → Fits d → Facts (table_of d) d
facts_of d f =
    let cs = cells d in
    let t = table_of d in
    let cods = map code cs in
    let ops = operand_bytes (map operand cs) in
    let l : length cs ≡ length (formals d) + length (encode (body d)) = length-append (map Formal (formals d)) (encode (body d)) ∙ ap (λ k. k + length (encode (body d))) (length-map (formals d) Formal) in
    let lc : length cods ≡ length cs = length-map cs code in
    let lo : length ops ≡ 4 * length cs = length-operands (map operand cs) ∙ ap (λ k. 4 * k) (length-map cs operand) in
    let few : length cs ≤ 2048 = omega (arith, l, encode_size (body d), f.sized) in
    let n : count_in t ≡ length cs = omega (arith, lc, few) in
    let codes_are : codes_in t ≡ cods = take_at cods ops (count_in t) (lc ∙ sym n) in
    let operands_are : operands_in t ≡ ops = sym (drop-drop (count_in t) 8 t) ∙ drop_at cods ops (count_in t) (lc ∙ sym n) in
    let total : length t ≡ 8 + 5 * count_in t = omega (arith, length-append cods ops, lc, lo, n) in
    let valid : AllValid cs = valid_append (map Formal (formals d)) (encode (body d)) (names_valid (formals d) f.named) (ranged_valid (body d) f.ranged) in
    let x : CellsAt (codes_in t) (operands_in t) 0 cs = cells_of_arrays (codes_in t) (operands_in t) 0 cs valid codes_are operands_are in
    let lengths : length (codes_in t) ≡ length cs = ap length codes_are ∙ lc in
    record {
      sized = record { whole = record { headed = omega (arith, total); long = total }; some = omega (arith, n, l, encode_size (body d), size_some (body d)); few = omega (arith, n, few) };
      head = record { flat = refl; headed = record { kind = kind_of d; kind_is = refl; number = f.numbered; formals = most d f; last = refl } };
      right = right (codes_in t) (operands_in t) (formals d) (body d) (sym lengths) x;
      stand = x;
      long = lengths ∙ l;
      many = refl;
      kind = refl;
      number_is = refl;
    }

pub facts : {t : List ℕ} {d : Definition} → IsTable t d → Facts t d
facts {t} {d} x = subst (λ u. Facts u d) (sym x.is) (facts_of d x.fits)

-- ---- one definition only

same_cells : (codes operands : List ℕ) (at : ℕ) (cs ds : List Cell) → length cs ≡ length ds → CellsAt codes operands at cs → CellsAt codes operands at ds → cs ≡ ds
same_cells codes operands at [] [] l x y = refl
same_cells codes operands at [] (d ∷ ds) l x y = absurd (omega arith)
same_cells codes operands at (c ∷ cs) [] l x y = absurd (omega arith)
same_cells codes operands at (c ∷ cs) (d ∷ ds) l x y = λ i. one_cell x.0 y.0 i ∷ same_cells codes operands (at + 1) cs ds (omega arith) x.1 y.1 i

same_names : (xs ys : List ℕ) → map Formal xs ≡ map Formal ys → xs ≡ ys
same_names [] [] h = refl
same_names [] (y ∷ ys) h = absurd (omega (arith, ap length h))
same_names (x ∷ xs) [] h = absurd (omega (arith, ap length h))
same_names (x ∷ xs) (y ∷ ys) h =
    let same : x ≡ y = cc h in
    let rest : map Formal xs ≡ map Formal ys = cc h in
    λ i. same i ∷ same_names xs ys rest i

joined : (c d : Definition) → kind_byte (kind_of c) ≡ kind_byte (kind_of d) → number c ≡ number d → formals c ≡ formals d → body c ≡ body d → c ≡ d
joined (VAL x e) (VAL y f) k n xs b = λ i. VAL (n i) (b i)
joined (VAL x e) (DEFINE g ys f) k n xs b = absurd (omega arith)
joined (DEFINE g xs e) (VAL y f) k n same b = absurd (omega arith)
joined (DEFINE g xs e) (DEFINE h ys f) k n same b = λ i. DEFINE (n i) (same i) (b i)

pub one_definition : {t : List ℕ} {c d : Definition} → IsTable t c → IsTable t d → c ≡ d
one_definition {t} {c} {d} x y =
    let p = facts x in
    let q = facts y in
    let codes = codes_in t in
    let operands = operands_in t in
    let xs = map Formal (formals c) in
    let ys = map Formal (formals d) in
    let many : length (formals c) ≡ length (formals d) = sym p.many ∙ q.many in
    let lx : length xs ≡ length (formals c) = length-map (formals c) Formal in
    let ly : length ys ≡ length (formals d) = length-map (formals d) Formal in
    let names : xs ≡ ys = same_cells codes operands 0 xs ys (omega (arith, lx, ly, many)) (cells_front codes operands 0 xs (encode (body c)) p.stand) (cells_front codes operands 0 ys (encode (body d)) q.stand) in
    let after : CellsAt codes operands (0 + length xs) (encode (body d)) = subst (λ k. CellsAt codes operands (0 + k) (encode (body d))) (let z : length ys ≡ length xs = omega (arith, lx, ly, many) in z) (cells_back codes operands 0 ys (encode (body d)) q.stand) in
    joined c d (sym p.kind ∙ q.kind) (sym p.number_is ∙ q.number_is) (same_names (formals c) (formals d) names)
    (one_exp codes operands (0 + length xs) (body c) (body d) (cells_back codes operands 0 xs (encode (body c)) p.stand) after)
