-- What each exit of the two functions that read prefix cells shows.
use Rattle.std.proofs.Common.{◌≡◌, ℕ, ◌+◌, ◌-◌, ◌*◌, ◌<◌, ◌≤◌, max, List, length, Some, None, sym, ap, ◌∙◌, subst, arith, length-append}
use Rattle.language.specs.Tree.{Exp, nil, cons, count}
use Rattle.format.specs.declared.cell.Cell.{Cell}
use Rattle.format.specs.declared.cell.Cell.TheVariants.{Literal, Var, Set, If, While, Begin, Apply, Formal}
use Rattle.format.specs.Cells.{encode, encodes, parts}
use Rattle.translator.specs.declared.expression.Extent.{Extent}
use Rattle.translator.specs.Tables.{CellAt}
use Rattle.translator.specs.Reading.{CellsAt, ExpAt, NoExp, ExpsAt, NoExps, raised, lift_of, own}
use Rattle.translator.proofs.Trees.{head_of, parts_in, split, make, unique, encode_size, encodes_size, depth_bound, depths_bound, size_some, between_bound, weight_bound, weights_bound, height_bound, raised_bound}
use Rattle.translator.proofs.Places.{one_cell, cells_append, cells_front, cells_back, cells_within, meet}

module _ (codes operands : List ℕ) where
  -- the first cell of an expression, and its parts after it
  pub first : {at : ℕ} (e : Exp) → CellsAt codes operands at (encode e) → CellAt codes operands at (head_of e) × CellsAt codes operands (at + 1) (encodes (parts_in e))
  first {at} e x = subst (λ cs. CellsAt codes operands at cs) (split e).cells x

  pub one_exp : (at : ℕ) (e f : Exp) → CellsAt codes operands at (encode e) → CellsAt codes operands at (encode f) → e ≡ f
  one_exp at e f x y = let m = meet codes operands at (encode e) (encode f) x y in unique e f _ _ m.joined

  pub no_cell : (at : ℕ) → ((c : Cell) → CellAt codes operands at c → ⊥) → NoExp codes operands at
  no_cell at none e x = none (head_of e) (first e x).0

  module _ (at : ℕ) (c : Cell) (here : CellAt codes operands at c) where
    head_is : (e : Exp) → CellsAt codes operands at (encode e) → parts c ≡ Some (count (parts_in e))
    head_is e x = ap parts (one_cell here (first e x).0) ∙ (split e).many

    pub formal : None ≡ parts c → NoExp codes operands at
    formal h e x = let z : None ≡ Some (count (parts_in e)) = h ∙ head_is e x in cc z

    pub no_parts : (n : ℕ) → Some n ≡ parts c → NoExps codes operands (at + 1) n → NoExp codes operands at
    no_parts n h none e x =
        let z : Some n ≡ Some (count (parts_in e)) = h ∙ head_is e x in
        let m : count (parts_in e) ≡ n = cc z in
        none (parts_in e) m (first e x).1

    pub whole : (n k : ℕ) (p q : Extent) → Some n ≡ parts c → k ≡ lift_of c → ExpsAt codes operands (at + 1) n k p → q.«end» ≡ p.«end» → q.depth ≡ p.depth + 1 → q.count ≡ p.count + own c → q.height ≡ max p.height 1 → ExpAt codes operands at q
    whole n k p q h lift x same deep long high =
        let m = make c x.es (sym h ∙ ap Some (sym x.many)) in
        record {
          e = m.0;
          stand = subst (λ cs. CellsAt codes operands at cs) (sym m.1.cells) (here, x.stand);
          past = same ∙ x.past ∙ omega (arith, ap length m.1.cells);
          deep = deep ∙ omega (arith, x.deep, m.1.deep);
          long = omega (arith, long, x.long, m.1.long);
          high = omega (arith, high, x.high ∙ ap (λ k. raised k x.es) lift, m.1.high);
        }

    -- an expression of one cell
    pub alone : (n : ℕ) (q : Extent) → Some n ≡ parts c → n ≡ 0 → q.«end» ≡ at + 1 → q.depth ≡ 1 → q.count ≡ own c → q.height ≡ 1 → ExpAt codes operands at q
    alone n q h none past deep long high =
        let m = make c nil (sym h ∙ ap Some none) in
        record {
          e = m.0;
          stand = subst (λ cs. CellsAt codes operands at cs) (sym m.1.cells) (here, tt);
          past = past ∙ omega (arith, ap length m.1.cells);
          deep = deep ∙ omega (arith, m.1.deep);
          long = omega (arith, long, m.1.long);
          high = omega (arith, high, m.1.high);
        }

  pub none_left : (at n k : ℕ) (q : Extent) → n ≡ 0 → q.«end» ≡ at → q.depth ≡ 0 → q.count ≡ 0 → q.height ≡ 0 → ExpsAt codes operands at n k q
  none_left at n k q none same flat short low =
      record { es = nil; many = sym none; stand = tt; past = omega arith; deep = flat; long = short; high = low }

  pub no_first : (at n : ℕ) → 0 < n → NoExp codes operands at → NoExps codes operands at n
  no_first at n h none nil long x = omega arith
  no_first at n h none (cons e es) long x = none e (cells_front codes operands at (encode e) (encodes es) x)

  pub no_rest : (at n : ℕ) (p : Extent) → 0 < n → ExpAt codes operands at p → NoExps codes operands p.«end» (n - 1) → NoExps codes operands at n
  no_rest at n p h x none nil long y = omega arith
  no_rest at n p h x none (cons e es) long y =
      let same : x.e ≡ e = one_exp at x.e e x.stand (cells_front codes operands at (encode e) (encodes es) y) in
      none es (omega arith) (subst (λ k. CellsAt codes operands k (encodes es)) (ap (λ f. at + length (encode f)) (sym same) ∙ sym x.past) (cells_back codes operands at (encode e) (encodes es) y))

  pub joined : (at n k : ℕ) (p q r : Extent) → 0 < n → ExpAt codes operands at p → ExpsAt codes operands p.«end» (n - 1) k q → r.«end» ≡ q.«end» → r.depth ≡ max p.depth q.depth → r.count ≡ p.count + q.count → r.height ≡ max p.height (k + q.height) → ExpsAt codes operands at n k r
  joined at n k p q r h x y same deep long high =
      record {
        es = cons x.e y.es;
        many = omega (arith, y.many);
        stand = cells_append codes operands at (encode x.e) (encodes y.es) x.stand (subst (λ k. CellsAt codes operands k (encodes y.es)) x.past y.stand);
        past = same ∙ y.past ∙ simp length-append (omega (arith, x.past));
        deep = deep ∙ omega (arith, x.deep, y.deep);
        long = omega (arith, long, x.long, y.long);
        high = high ∙ omega (arith, x.high, y.high);
      }

  -- bounds
  pub exp_bounds : (at : ℕ) (p : Extent) → ExpAt codes operands at p → (at < length codes) × (at < p.«end») × (p.depth + at ≤ p.«end») × (p.count + 1 + 3 * at ≤ 3 * p.«end») × (p.height + at ≤ p.«end»)
  exp_bounds at p x = (
    (first x.e x.stand).0.within,
    omega (arith, x.past, encode_size x.e, size_some x.e),
    omega (arith, x.past, x.deep, encode_size x.e, depth_bound x.e),
    omega (arith, x.past, x.long, encode_size x.e, weight_bound x.e),
    omega (arith, x.past, x.high, encode_size x.e, height_bound x.e),
  )

  pub exps_bounds : (at n k : ℕ) (p : Extent) → k ≤ 1 → ExpsAt codes operands at n k p → (p.depth + at ≤ p.«end») × (p.count + n + 3 * at ≤ 3 * p.«end») × (p.height + at ≤ p.«end»)
  exps_bounds at n k p low x = (
    omega (arith, x.past, x.deep, encodes_size x.es, depths_bound x.es),
    omega (arith, x.past, x.long, x.many, encodes_size x.es, weights_bound x.es),
    omega (arith, x.past, x.high, encodes_size x.es, raised_bound x.es k low),
  )

  pub exps_within : (at n k : ℕ) (p : Extent) → at ≤ length codes → ExpsAt codes operands at n k p → p.«end» ≤ length codes
  exps_within at n k p h x = omega (arith, x.past, cells_within codes operands at (encodes x.es) h x.stand)

  pub end_within : (at : ℕ) (p : Extent) → ExpAt codes operands at p → p.«end» ≤ length codes
  end_within at p x =
      let b = (first x.e x.stand).0.within in
      omega (arith, x.past, cells_within codes operands at (encode x.e) (omega arith) x.stand)

pub lift_low : (c : Cell) → lift_of c ≤ 1
lift_low (Literal v) = omega arith
lift_low (Var x) = omega arith
lift_low (Set x) = omega arith
lift_low If = omega arith
lift_low While = omega arith
lift_low (Begin n) = omega arith
lift_low (Apply f n) = omega arith
lift_low (Formal x) = omega arith

-- a cell adds at most three instructions, beside those that stand between its parts
pub own_bound : (c : Cell) (n : ℕ) → Some n ≡ parts c → own c ≤ n + 3
own_bound (Literal v) n h = omega arith
own_bound (Var x) n h = omega arith
own_bound (Set x) n h = omega arith
own_bound If n h = omega arith
own_bound While n h = let m : n ≡ 2 = cc h in omega arith
own_bound (Begin k) n h = let m : n ≡ k = cc h in omega (arith, between_bound k)
own_bound (Apply f k) n h = omega arith
own_bound (Formal x) n h = omega arith
