-- Where cells stand in two arrays, the arrays are their codes and operands, and the other way round.
use Rattle.std.proofs.Common.{◌≡◌, ℕ, zero, suc, ◌+◌, ◌*◌, ◌<◌, ◌≤◌, max, Bool, true, false, ltb, List, [], ◌∷◌, ◌++◌, map, length, None, Some, Option, MatchOption, get_or, take, drop, sym, refl, ap, ◌∙◌, subst, arith, length-append, length-drop, take-append-drop, ltb-false, ltb-true}
use native.Mathlib.Decide.{dec_lt}
use Rattle.std.proofs.lemmas.List.{drop_more, drop_all, drop-drop, length-map}
use Rattle.language.specs.Tree.{Exp, LITERAL, VAR, SET, IF, WHILE, BEGIN, APPLY, Exps, nil, cons}
use Rattle.language.specs.Limits.{InRange, AllInRange, AreNames}
use Rattle.format.specs.declared.cell.Cell.{Cell}
use Rattle.format.specs.declared.cell.Cell.TheVariants.{If, Formal}
use Rattle.format.specs.Layout.{operand_bytes}
use Rattle.format.specs.Cells.{code, operand, Valid, encode, encodes, is_formal}
use Rattle.translator.specs.Tables.{CellAt, Right, AllRight, FirstWrong, wrong, missing}
use Rattle.translator.specs.Reading.{CellsAt}
use Rattle.translator.proofs.Places.{cells_nth}

-- ---- cells in range

abbrev pub AllValid : List Cell → Type 0
AllValid [] = Unit {0}
AllValid (c ∷ cs) = Valid c × AllValid cs

pub valid_append : (cs ds : List Cell) → AllValid cs → AllValid ds → AllValid (cs ++ ds)
valid_append [] ds x y = y
valid_append (c ∷ cs) ds x y = (x.0, valid_append cs ds x.1 y)

pub valid_front : (cs ds : List Cell) → AllValid (cs ++ ds) → AllValid cs
valid_front [] ds x = tt
valid_front (c ∷ cs) ds x = (x.0, valid_front cs ds x.1)

pub valid_back : (cs ds : List Cell) → AllValid (cs ++ ds) → AllValid ds
valid_back [] ds x = x
valid_back (c ∷ cs) ds x = valid_back cs ds x.1

mutual
  pub ranged_valid : (e : Exp) → InRange e → AllValid (encode e)
  ranged_valid (LITERAL v) h = (h, tt)
  ranged_valid (VAR x) h = (h, tt)
  ranged_valid (SET x e) h = (h.0, ranged_valid e h.1)
  ranged_valid (IF c a b) h = (tt, valid_append (encode c) _ (ranged_valid c h.0) (valid_append (encode a) _ (ranged_valid a h.1) (ranged_valid b h.2)))
  ranged_valid (WHILE c b) h = (tt, valid_append (encode c) _ (ranged_valid c h.0) (ranged_valid b h.1))
  ranged_valid (BEGIN es) h = (h.0, rangeds_valid es h.1)
  ranged_valid (APPLY f es) h = ((h.0, h.1), rangeds_valid es h.2)

  rangeds_valid : (es : Exps) → AllInRange es → AllValid (encodes es)
  rangeds_valid nil h = tt
  rangeds_valid (cons e es) h = valid_append (encode e) _ (ranged_valid e h.0) (rangeds_valid es h.1)

mutual
  pub valid_ranged : (e : Exp) → AllValid (encode e) → InRange e
  valid_ranged (LITERAL v) h = h.0
  valid_ranged (VAR x) h = h.0
  valid_ranged (SET x e) h = (h.0, valid_ranged e h.1)
  valid_ranged (IF c a b) h =
      let ab = valid_back (encode c) (encode a ++ encode b) h.1 in
      (valid_ranged c (valid_front (encode c) (encode a ++ encode b) h.1), valid_ranged a (valid_front (encode a) (encode b) ab), valid_ranged b (valid_back (encode a) (encode b) ab))
  valid_ranged (WHILE c b) h = (valid_ranged c (valid_front (encode c) (encode b) h.1), valid_ranged b (valid_back (encode c) (encode b) h.1))
  valid_ranged (BEGIN es) h = (h.0, valids_ranged es h.1)
  valid_ranged (APPLY f es) h = (h.0.0, h.0.1, valids_ranged es h.1)

  valids_ranged : (es : Exps) → AllValid (encodes es) → AllInRange es
  valids_ranged nil h = tt
  valids_ranged (cons e es) h = (valid_ranged e (valid_front (encode e) (encodes es) h), valids_ranged es (valid_back (encode e) (encodes es) h))

pub names_valid : (xs : List ℕ) → AreNames xs → AllValid (map Formal xs)
names_valid [] h = tt
names_valid (x ∷ xs) h = (h.0, names_valid xs h.1)

pub valid_names : (xs : List ℕ) → AllValid (map Formal xs) → AreNames xs
valid_names [] h = tt
valid_names (x ∷ xs) h = (h.0, valid_names xs h.1)

-- ---- a FORMAL or none

abbrev NoFormals : List Cell → Type 0
NoFormals [] = Unit {0}
NoFormals (c ∷ cs) = (is_formal c ≡ false) × NoFormals cs

none_append : (cs ds : List Cell) → NoFormals cs → NoFormals ds → NoFormals (cs ++ ds)
none_append [] ds x y = y
none_append (c ∷ cs) ds x y = (x.0, none_append cs ds x.1 y)

mutual
  no_formals : (e : Exp) → NoFormals (encode e)
  no_formals (LITERAL v) = (refl, tt)
  no_formals (VAR x) = (refl, tt)
  no_formals (SET x e) = (refl, no_formals e)
  no_formals (IF c a b) = (refl, none_append (encode c) _ (no_formals c) (none_append (encode a) _ (no_formals a) (no_formals b)))
  no_formals (WHILE c b) = (refl, none_append (encode c) _ (no_formals c) (no_formals b))
  no_formals (BEGIN es) = (refl, no_formals_in es)
  no_formals (APPLY f es) = (refl, no_formals_in es)

  no_formals_in : (es : Exps) → NoFormals (encodes es)
  no_formals_in nil = tt
  no_formals_in (cons e es) = none_append (encode e) _ (no_formals e) (no_formals_in es)

formal_first : (xs : List ℕ) (ds : List Cell) (k : ℕ) (d : Cell) → k < length xs → is_formal (get_or (map Formal xs ++ ds) k d) ≡ true
formal_first [] ds k d h = absurd (omega arith)
formal_first (x ∷ xs) ds zero d h = refl
formal_first (x ∷ xs) ds (suc k) d h = formal_first xs ds k d (omega arith)

none_at : (cs : List Cell) (k : ℕ) (d : Cell) → NoFormals cs → k < length cs → is_formal (get_or cs k d) ≡ false
none_at [] k d x h = absurd (omega arith)
none_at (c ∷ cs) zero d x h = x.0
none_at (c ∷ cs) (suc k) d x h = none_at cs k d x.1 (omega arith)

none_after : (xs : List ℕ) (ds : List Cell) (k : ℕ) (d : Cell) → NoFormals ds → length xs ≤ k → k < length (map Formal xs ++ ds) → is_formal (get_or (map Formal xs ++ ds) k d) ≡ false
none_after [] ds k d x h l = none_at ds k d x l
none_after (y ∷ xs) ds zero d x h l = absurd (omega arith)
none_after (y ∷ xs) ds (suc k) d x h l = none_after xs ds k d x (omega arith) (omega arith)

-- ---- arrays and cells

module _ (codes operands : List ℕ) where
  pub cells_valid : (at : ℕ) (cs : List Cell) → CellsAt codes operands at cs → AllValid cs
  cells_valid at [] x = tt
  cells_valid at (c ∷ cs) x = (x.0.valid, cells_valid (at + 1) cs x.1)

  pub codes_of_cells : (at : ℕ) (cs : List Cell) → at + length cs ≡ length codes → CellsAt codes operands at cs → drop at codes ≡ map code cs
  codes_of_cells at [] l x = drop_all at codes (omega arith)
  codes_of_cells at (c ∷ cs) l x = drop_more codes at 0 x.0.within ∙ (λ i. x.0.code_is i ∷ codes_of_cells (at + 1) cs (omega arith) x.1 i)

  pub operands_of_cells : (at : ℕ) (cs : List Cell) → length operands ≡ 4 * (at + length cs) → CellsAt codes operands at cs → drop (4 * at) operands ≡ operand_bytes (map operand cs)
  operands_of_cells at [] l x = drop_all (4 * at) operands (omega arith)
  operands_of_cells at (c ∷ cs) l x =
      let next : drop 4 (drop (4 * at) operands) ≡ operand_bytes (map operand cs) = drop-drop 4 (4 * at) operands ∙ ap (λ k. drop k operands) (let e : 4 * at + 4 ≡ 4 * (at + 1) = omega arith in e) ∙ operands_of_cells (at + 1) cs (omega arith) x.1 in
      sym (take-append-drop 4 (drop (4 * at) operands)) ∙ (λ i. x.0.operand_is i ++ next i)

  pub cells_of_arrays : (at : ℕ) (cs : List Cell) → AllValid cs → drop at codes ≡ map code cs → drop (4 * at) operands ≡ operand_bytes (map operand cs) → CellsAt codes operands at cs
  cells_of_arrays at [] v p q = tt
  cells_of_arrays at (c ∷ cs) v p q =
      let within : at < length codes = omega (arith, ap length p, length-drop at codes) in
      let both : get_or codes at 0 ∷ drop (at + 1) codes ≡ code c ∷ map code cs = sym (drop_more codes at 0 within) ∙ p in
      let here : get_or codes at 0 ≡ code c = cc both in
      let rest : drop (at + 1) codes ≡ map code cs = cc both in
      let after : drop (4 * (at + 1)) operands ≡ operand_bytes (map operand cs) = ap (λ k. drop k operands) (let e : 4 * (at + 1) ≡ 4 * at + 4 = omega arith in e) ∙ sym (drop-drop 4 (4 * at) operands) ∙ ap (drop 4) q in
      (record { within = within; valid = v.0; code_is = here; operand_is = ap (take 4) q }, cells_of_arrays (at + 1) cs v.1 rest after)

  -- the cells of formals and of an expression after them are right
  pub right : (xs : List ℕ) (e : Exp) → length (map Formal xs ++ encode e) ≡ length codes → CellsAt codes operands 0 (map Formal xs ++ encode e) → AllRight codes operands (length xs)
  right xs e l x =
      let cs = map Formal xs ++ encode e in
      record {
        each = λ k h.
            let lt : k < length cs = omega (arith, l) in
            record {
              cell = get_or cs k If;
              here = subst (λ j. CellAt codes operands j (get_or cs k If)) (let z : 0 + k ≡ k = omega arith in z) (cells_nth codes operands 0 cs k If x lt);
              placed = placed xs e k lt;
            };
        enough = omega (arith, l, length-append (map Formal xs) (encode e), length-map xs Formal);
      }
    where
      placed : (xs : List ℕ) (e : Exp) (k : ℕ) → k < length (map Formal xs ++ encode e) → is_formal (get_or (map Formal xs ++ encode e) k If) ≡ ltb k (length xs)
      placed xs e k h = go (ltb k (length xs)) refl
        where
          go : (t : Bool) → ltb k (length xs) ≡ t → is_formal (get_or (map Formal xs ++ encode e) k If) ≡ ltb k (length xs)
          go true is = formal_first xs (encode e) k If (ltb-true k (length xs) is) ∙ sym is
          go false is = none_after xs (encode e) k If (no_formals e) (ltb-false k (length xs) is) h ∙ sym is

-- what looking at each place tells, up to the end of the cells or of the formals
module _ (codes operands : List ℕ) (n m : ℕ) (upto : m ≡ max (length codes) n) where
  within_of : {i : ℕ} → ((k : ℕ) → k < i → k < length codes) → i ≤ length codes
  within_of {i} each =
      elim (dec_lt (length codes) i) [ yes past ↦ omega (arith, each (length codes) past) | no within ↦ omega (arith, within) ]

  pub first_wrong : (r : Option ℕ) → MatchOption r ((k : ℕ) → 0 ≤ k → k < m → Right codes operands n k) (λ i. (0 ≤ i) × (i < m) × (Right codes operands n i → ⊥) × ((k : ℕ) → 0 ≤ k → k < i → Right codes operands n k)) → MatchOption r (AllRight codes operands n) (FirstWrong codes operands n)
  first_wrong None all = record { each = λ k lt. all k (omega arith) (omega (arith, upto, lt)); enough = within_of (λ k lt. (all k (omega arith) (omega (arith, upto, lt))).here.within) }
  first_wrong (Some i) found =
      let low : i ≤ length codes = within_of (λ k lt. (found.3 k (omega arith) lt).here.within) in
      elim (dec_lt i (length codes)) [
        | yes within ↦ wrong within (λ k lt. found.3 k (omega arith) lt) found.2
        | no past ↦ missing (omega (arith, past, low)) (λ k lt. found.3 k (omega arith) lt) (omega (arith, upto, past, found.1))
      ]
