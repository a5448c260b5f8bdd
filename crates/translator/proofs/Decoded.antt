-- From bytes that pass every test to their definition.
use Rattle.std.proofs.Common.{◌≡◌, ℕ, zero, suc, ◌+◌, ◌/◌, ◌%◌, ◌<◌, ◌≤◌, true, List, [], ◌∷◌, ◌++◌, map, length, get_or, take, drop, sym, refl, ap, ◌∙◌, subst, arith, length-append, take-append-drop, lt-ltb}
use Rattle.std.proofs.lemmas.List.{drop-drop, length-map}
use Rattle.language.specs.Tree.{Exp, Definition, VAL, DEFINE, body, formals, number, depth, size}
use Rattle.language.specs.Height.{height}
use Rattle.language.specs.Limits.{Fits, AreNames, InRange}
use Rattle.format.specs.declared.cell.Cell.{Cell}
use Rattle.format.specs.declared.cell.Cell.TheVariants.{Literal, Var, Set, If, While, Begin, Apply, Formal}
use Rattle.format.specs.declared.header.Header.{Header}
use Rattle.format.specs.declared.header.Kind.{Kind}
use Rattle.format.specs.declared.header.Kind.TheVariants.{Function, Variable}
use Rattle.format.specs.Layout.{header_bytes, layout, operand_bytes, count_in}
use Rattle.format.specs.Headers.{most_formals, HeaderAt}
use Rattle.format.specs.Rows.{Cut}
use Rattle.format.specs.Cells.{code, operand, encode, cells, is_formal, kind_of, header_of}
use Rattle.format.proofs.Bytes.{take_two}
use Rattle.format.proofs.Headers.{one_kind, few_formals, sizes}
use Rattle.translator.specs.declared.expression.Extent.{Extent}
use Rattle.translator.specs.Tables.{CellAt, Right, AllRight, IsTable}
use Rattle.translator.specs.Weight.{weight}
use Rattle.translator.specs.Reading.{CellsAt, ExpAt}
use Rattle.translator.proofs.Trees.{encode_size}
use Rattle.translator.proofs.Places.{cells_append}
use Rattle.translator.proofs.Arrays.{valid_front, valid_back, valid_ranged, valid_names, cells_valid, codes_of_cells, operands_of_cells}

-- ---- the formals

formal_cell : (c : Cell) → is_formal c ≡ true → (x : ℕ) × (c ≡ Formal x)
formal_cell (Literal v) h = absurd (cc h)
formal_cell (Var x) h = absurd (cc h)
formal_cell (Set x) h = absurd (cc h)
formal_cell If h = absurd (cc h)
formal_cell While h = absurd (cc h)
formal_cell (Begin n) h = absurd (cc h)
formal_cell (Apply f k) h = absurd (cc h)
formal_cell (Formal x) h = (x, refl)

record Names (codes operands : List ℕ) (at n : ℕ) : Type 0 where
  names : List ℕ
  many : length names ≡ n
  stand : CellsAt codes operands at (map Formal names)

names_from : (codes operands : List ℕ) (m n at : ℕ) → at + n ≤ m → ((k : ℕ) → k < at + n → Right codes operands m k) → Names codes operands at n
names_from codes operands m zero at le h = record { names = []; many = refl; stand = tt }
names_from codes operands m (suc n) at le h =
    let r = h at (omega arith) in
    let f = formal_cell r.cell (r.placed ∙ lt-ltb at m (omega arith)) in
    let rest = names_from codes operands m n (at + 1) (omega arith) (λ k lt. h k (omega arith)) in
    record { names = f.0 ∷ rest.names; many = ap suc rest.many; stand = (subst (λ c. CellAt codes operands at c) f.1 r.here, rest.stand) }

-- ---- the header

eight : (t : List ℕ) → 8 ≤ length t → take 8 t ≡ get_or t 0 0 ∷ get_or t 1 0 ∷ get_or t 2 0 ∷ get_or t 3 0 ∷ get_or t 4 0 ∷ get_or t 5 0 ∷ get_or t 6 0 ∷ get_or t 7 0 ∷ []
eight [] l = absurd (omega arith)
eight (a ∷ []) l = absurd (omega arith)
eight (a ∷ b ∷ []) l = absurd (omega arith)
eight (a ∷ b ∷ c ∷ []) l = absurd (omega arith)
eight (a ∷ b ∷ c ∷ d ∷ []) l = absurd (omega arith)
eight (a ∷ b ∷ c ∷ d ∷ e ∷ []) l = absurd (omega arith)
eight (a ∷ b ∷ c ∷ d ∷ e ∷ f ∷ []) l = absurd (omega arith)
eight (a ∷ b ∷ c ∷ d ∷ e ∷ f ∷ g ∷ []) l = absurd (omega arith)
eight (a ∷ b ∷ c ∷ d ∷ e ∷ f ∷ g ∷ h ∷ t) l = refl

header_is : (t codes operands : List ℕ) (h : Header) → Cut t codes operands → HeaderAt t h → h.height ≡ 0 → take 8 t ≡ header_bytes (length codes) h
header_is t codes operands h cut at flat =
    let two : get_or t 0 0 ∷ get_or t 1 0 ∷ [] ≡ length codes % 256 ∷ length codes / 256 ∷ [] = sym (take_two t 0 (omega (arith, at.long))) ∙ cut.count in
    let p₀ : get_or t 0 0 ≡ length codes % 256 = cc two in
    let p₁ : get_or t 1 0 ≡ length codes / 256 = cc two in
    let p₂ : get_or t 2 0 ≡ h.height % 256 = omega (arith, at.height, flat) in
    let p₃ : get_or t 3 0 ≡ h.height / 256 = omega (arith, at.height, flat) in
    eight t at.long ∙ (λ i. p₀ i ∷ p₁ i ∷ p₂ i ∷ p₃ i ∷ sym at.kind i ∷ sym at.number i ∷ sym at.formals i ∷ at.headed.last i ∷ [])

-- the whole
pub layout_is : (t codes operands : List ℕ) (h : Header) (cs : List Cell) → Cut t codes operands → HeaderAt t h → h.height ≡ 0 → length cs ≡ length codes → CellsAt codes operands 0 cs → t ≡ layout h (map code cs) (map operand cs)
layout_is t codes operands h cs cut at flat long x =
    let s = sizes t codes operands cut in
    let c : codes ≡ map code cs = codes_of_cells codes operands 0 cs (omega (arith, long)) x in
    let o : operands ≡ operand_bytes (map operand cs) = operands_of_cells codes operands 0 cs (omega (arith, s.0, s.1, long)) x in
    let rest : drop 8 t ≡ codes ++ operands = sym (take-append-drop (count_in t) (drop 8 t)) ∙ (λ i. sym cut.codes_are i ++ (drop-drop (count_in t) 8 t ∙ sym cut.operands_are) i) in
    sym (take-append-drop 8 t) ∙ (λ i. (header_is t codes operands h cut at flat ∙ ap (λ l. header_bytes (length l) h) c) i ++ (rest ∙ (λ j. c j ++ o j)) i)

-- ---- the definition

definition_of : Kind → ℕ → List ℕ → Exp → Definition
definition_of Function f xs e = DEFINE f xs e
definition_of Variable x xs e = VAL x e

record Parts (k : Kind) (n : ℕ) (xs : List ℕ) (e : Exp) (d : Definition) : Type 0 where
  kind : kind_of d ≡ k
  number_is : number d ≡ n
  formals_are : formals d ≡ xs
  body_is : body d ≡ e

empty : (xs : List ℕ) → length xs ≤ 0 → [] ≡ xs
empty [] h = refl
empty (x ∷ xs) h = absurd (omega arith)

parts : (k : Kind) (n : ℕ) (xs : List ℕ) (e : Exp) → length xs ≤ most_formals k → Parts k n xs e (definition_of k n xs e)
unfolding definition_of
parts Function n xs e h = record { kind = refl; number_is = refl; formals_are = refl; body_is = refl }
parts Variable n xs e h = record { kind = refl; number_is = refl; formals_are = empty xs h; body_is = refl }

pub record Decoded (t : List ℕ) (h : Header) (x : Extent) : Type 0 where
  pub definition : Definition
  pub table : IsTable t definition
  pub header : h ≡ header_of definition
  pub deep : x.depth ≡ depth (body definition)
  pub long : x.count ≡ weight (body definition)
  pub high : x.height ≡ height (body definition)

module _ (t codes operands : List ℕ) (h : Header) (x : Extent) (cut : Cut t codes operands) (few : length codes ≤ 2048) (at : HeaderAt t h) (flat : h.height ≡ 0) (exp : ExpAt codes operands h.formals x) (low : length codes ≤ x.«end») (high : x.«end» ≤ length codes) where
  join : (ns : Names codes operands 0 h.formals) (d : Definition) → Parts h.kind h.number ns.names exp.e d → Decoded t h x
  join ns d p =
      let xs = ns.names in
      let e = exp.e in
      let cs = map Formal xs ++ encode e in
      let lx : length (map Formal xs) ≡ h.formals = length-map xs Formal ∙ ns.many in
      let from : h.formals ≡ 0 + length (map Formal xs) = omega (arith, lx) in
      let stand : CellsAt codes operands 0 cs = cells_append codes operands 0 (map Formal xs) (encode e) ns.stand (subst (λ k. CellsAt codes operands k (encode e)) from exp.stand) in
      let long : length cs ≡ length codes = length-append (map Formal xs) (encode e) ∙ omega (arith, lx, exp.past) in
      let valid = cells_valid codes operands 0 cs stand in
      let header : h ≡ header_of d = λ i. record { height = flat i; kind = sym p.kind i; number = sym p.number_is i; formals = (sym ns.many ∙ ap length (sym p.formals_are)) i } in
      let same : cs ≡ cells d = λ i. map Formal (sym p.formals_are i) ++ encode (sym p.body_is i) in
      let many : length (formals d) ≡ h.formals = ap length p.formals_are ∙ ns.many in
      let size_is : size (body d) ≡ size e = ap size p.body_is in
      let fits : Fits d = record {
        numbered = omega (arith, p.number_is, at.number, at.headed.number);
        few = omega (arith, many, at.formals, few_formals at.headed.kind, at.headed.formals);
        named = subst AreNames (sym p.formals_are) (valid_names xs (valid_front (map Formal xs) (encode e) valid));
        ranged = subst InRange (sym p.body_is) (valid_ranged e (valid_back (map Formal xs) (encode e) valid));
        sized = omega (arith, many, size_is, encode_size e, exp.past, few);
      } in
      record {
        definition = d;
        table = record { fits = fits; is = layout_is t codes operands h cs cut at flat long stand ∙ (λ i. layout (header i) (map code (same i)) (map operand (same i))) };
        header = header;
        deep = exp.deep ∙ ap depth (sym p.body_is);
        long = exp.long ∙ ap weight (sym p.body_is);
        high = exp.high ∙ ap height (sym p.body_is);
      }

  pub decoded : AllRight codes operands h.formals → Decoded t h x
  decoded all =
      let ns = names_from codes operands h.formals h.formals 0 (omega arith) (λ k lt. all.each k (omega (arith, all.enough))) in
      let kind : at.headed.kind ≡ h.kind = one_kind _ _ (at.headed.kind_is ∙ sym at.kind) in
      let most : length ns.names ≤ most_formals h.kind = omega (arith, ns.many, at.formals, at.headed.formals, ap most_formals kind) in
      join ns _ (parts h.kind h.number ns.names exp.e most)
