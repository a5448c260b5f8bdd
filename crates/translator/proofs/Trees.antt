-- Prefix codes: an expression by its first cell and its parts, and that cells begin with one expression at most.
use Rattle.std.proofs.Common.{◌≡◌, ℕ, zero, suc, ◌+◌, ◌*◌, ◌<◌, ◌≤◌, max, List, [], ◌∷◌, ◌++◌, length, Some, sym, refl, ap, ◌∙◌, subst, append_assoc, append-nil, arith, length-append}
use Rattle.language.specs.Tree.{Exp, LITERAL, VAR, SET, IF, WHILE, BEGIN, APPLY, Exps, nil, cons, count, size, sizes, depth, depths}
use Rattle.format.specs.declared.cell.Cell.{Cell}
use Rattle.format.specs.declared.cell.Cell.TheVariants.{Literal, Var, Set, If, While, Begin, Apply, Formal}
use Rattle.format.specs.Cells.{encode, encodes, parts}
use Rattle.language.specs.Height.{height, highest, stacked}
use Rattle.translator.specs.Reading.{raised, lift_of, between, own}
use Rattle.translator.specs.Weight.{weight, together, weights}

abbrev pub head_of : Exp → Cell
head_of (LITERAL v) = Literal v
head_of (VAR x) = Var x
head_of (SET x e) = Set x
head_of (IF c a b) = If
head_of (WHILE c b) = While
head_of (BEGIN es) = Begin (count es)
head_of (APPLY f es) = Apply f (count es)

abbrev pub parts_in : Exp → Exps
parts_in (LITERAL v) = nil
parts_in (VAR x) = nil
parts_in (SET x e) = cons e nil
parts_in (IF c a b) = cons c (cons a (cons b nil))
parts_in (WHILE c b) = cons c (cons b nil)
parts_in (BEGIN es) = es
parts_in (APPLY f es) = es

-- an expression is its first cell and its parts
pub record Split (e : Exp) (c : Cell) (es : Exps) : Type 0 where
  pub cells : encode e ≡ c ∷ encodes es
  pub many : parts c ≡ Some (count es)
  pub deep : depth e ≡ suc (depths es)
  pub long : weight e ≡ weights es + own c
  pub high : height e ≡ max 1 (raised (lift_of c) es)

-- no expression is flat
mutual
  pub height_some : (e : Exp) → 0 < height e
  height_some (LITERAL v) = omega arith
  height_some (VAR x) = omega arith
  height_some (SET x e) = height_some e
  height_some (IF c a b) = omega (arith, height_some c)
  height_some (WHILE c b) = omega (arith, height_some c)
  height_some (BEGIN es) = omega arith
  height_some (APPLY f es) = omega arith

-- the height of arguments, from the last to the first
stacked_raised : (i : ℕ) (e : Exp) (es : Exps) → stacked i (cons e es) ≡ i + raised 1 (cons e es)
stacked_raised i e nil = omega (arith, height_some e)
stacked_raised i e (cons f es) = omega (arith, stacked_raised (suc i) f es)

highest_raised : (es : Exps) → highest es ≡ raised 0 es
highest_raised nil = refl
highest_raised (cons e es) = omega (arith, highest_raised es)

together_own : (es : Exps) → together es ≡ weights es + between (count es)
together_own nil = refl
together_own (cons e es) = omega arith

pub between_bound : (n : ℕ) → between n ≤ n + 1
between_bound zero = omega arith
between_bound (suc n) = omega arith

applied : (es : Exps) → max 1 (stacked 0 es) ≡ max 1 (raised 1 es)
applied nil = refl
applied (cons e es) = ap (max 1) (stacked_raised 0 e es ∙ omega arith)

pub split : (e : Exp) → Split e (head_of e) (parts_in e)
split (LITERAL v) = record { cells = refl; many = refl; deep = refl; long = refl; high = refl }
split (VAR x) = record { cells = refl; many = refl; deep = refl; long = refl; high = refl }
split (SET x e) = record { cells = rw (append-nil (encode e)) refl; many = refl; deep = omega arith; long = omega arith; high = omega (arith, height_some e) }
split (IF c a b) = record { cells = rw (append-nil (encode b)) refl; many = refl; deep = omega arith; long = omega arith; high = omega (arith, height_some c) }
split (WHILE c b) = record { cells = rw (append-nil (encode b)) refl; many = refl; deep = omega arith; long = omega arith; high = omega (arith, height_some c) }
split (BEGIN es) = record { cells = refl; many = refl; deep = refl; long = together_own es; high = ap (max 1) (highest_raised es) }
split (APPLY f es) = record { cells = refl; many = refl; deep = refl; long = refl; high = applied es }

same_count : (m n : ℕ) → Some m ≡ Some n → m ≡ n
same_count m n h = cc h

-- a cell with as many parts as follow it is an expression
pub make : (c : Cell) (es : Exps) → parts c ≡ Some (count es) → (e : Exp) × Split e c es
make (Literal v) nil h = (LITERAL v, split (LITERAL v))
make (Literal v) (cons a es) h = absurd (omega (arith, same_count _ _ h))
make (Var x) nil h = (VAR x, split (VAR x))
make (Var x) (cons a es) h = absurd (omega (arith, same_count _ _ h))
make (Set x) nil h = absurd (omega (arith, same_count _ _ h))
make (Set x) (cons a nil) h = (SET x a, split (SET x a))
make (Set x) (cons a (cons b es)) h = absurd (omega (arith, same_count _ _ h))
make If nil h = absurd (omega (arith, same_count _ _ h))
make If (cons a nil) h = absurd (omega (arith, same_count _ _ h))
make If (cons a (cons b nil)) h = absurd (omega (arith, same_count _ _ h))
make If (cons a (cons b (cons c nil))) h = (IF a b c, split (IF a b c))
make If (cons a (cons b (cons c (cons d es)))) h = absurd (omega (arith, same_count _ _ h))
make While nil h = absurd (omega (arith, same_count _ _ h))
make While (cons a nil) h = absurd (omega (arith, same_count _ _ h))
make While (cons a (cons b nil)) h = (WHILE a b, split (WHILE a b))
make While (cons a (cons b (cons c es))) h = absurd (omega (arith, same_count _ _ h))
make (Begin n) es h = (BEGIN es, subst (λ k. Split (BEGIN es) (Begin k) es) (sym (same_count _ _ h)) (split (BEGIN es)))
make (Apply f n) es h = (APPLY f es, subst (λ k. Split (APPLY f es) (Apply f k) es) (sym (same_count _ _ h)) (split (APPLY f es)))
make (Formal x) es h = absurd (cc h)

-- The cells read from the right, each taking its parts off what is built; the result means nothing where parts are missing.
abbrev takes : ℕ → Exps → Exps
takes zero es = nil
takes (suc n) nil = nil
takes (suc n) (cons e es) = cons e (takes n es)

abbrev drops : ℕ → Exps → Exps
drops zero es = es
drops (suc n) nil = nil
drops (suc n) (cons e es) = drops n es

abbrev push : Cell → Exps → Exps
push (Literal v) s = cons (LITERAL v) s
push (Var x) s = cons (VAR x) s
push (Set x) nil = nil
push (Set x) (cons a s) = cons (SET x a) s
push If nil = nil
push If (cons a nil) = nil
push If (cons a (cons b nil)) = nil
push If (cons a (cons b (cons c s))) = cons (IF a b c) s
push While nil = nil
push While (cons a nil) = nil
push While (cons a (cons b s)) = cons (WHILE a b) s
push (Begin n) s = cons (BEGIN (takes n s)) (drops n s)
push (Apply f n) s = cons (APPLY f (takes n s)) (drops n s)
push (Formal x) s = s

abbrev build : List Cell → Exps
build [] = nil
build (c ∷ cs) = push c (build cs)

abbrev joins : Exps → Exps → Exps
joins nil s = s
joins (cons e es) s = cons e (joins es s)

takes_joins : (es s : Exps) → takes (count es) (joins es s) ≡ es
takes_joins nil s = refl
takes_joins (cons e es) s = ap (cons e) (takes_joins es s)

drops_joins : (es s : Exps) → drops (count es) (joins es s) ≡ s
drops_joins nil s = refl
drops_joins (cons e es) s = drops_joins es s

mutual
  build_encode : (e : Exp) (cs : List Cell) → build (encode e ++ cs) ≡ cons e (build cs)
  build_encode (LITERAL v) cs = refl
  build_encode (VAR x) cs = refl
  build_encode (SET x e) cs = ap (push (Set x)) (build_encode e cs)
  build_encode (IF c a b) cs =
      let e₁ : build ((encode c ++ (encode a ++ encode b)) ++ cs) ≡ cons c (cons a (cons b (build cs))) = simp append_assoc (build_encode c (encode a ++ (encode b ++ cs)) ∙ ap (cons c) (build_encode a (encode b ++ cs) ∙ ap (cons a) (build_encode b cs))) in
      ap (push If) e₁
  build_encode (WHILE c b) cs =
      let e₁ : build ((encode c ++ encode b) ++ cs) ≡ cons c (cons b (build cs)) = simp append_assoc (build_encode c (encode b ++ cs) ∙ ap (cons c) (build_encode b cs)) in
      ap (push While) e₁
  build_encode (BEGIN es) cs = ap (push (Begin (count es))) (build_encodes es cs) ∙ (λ i. cons (BEGIN (takes_joins es (build cs) i)) (drops_joins es (build cs) i))
  build_encode (APPLY f es) cs = ap (push (Apply f (count es))) (build_encodes es cs) ∙ (λ i. cons (APPLY f (takes_joins es (build cs) i)) (drops_joins es (build cs) i))

  build_encodes : (es : Exps) (cs : List Cell) → build (encodes es ++ cs) ≡ joins es (build cs)
  build_encodes nil cs = refl
  build_encodes (cons e es) cs = simp append_assoc (build_encode e (encodes es ++ cs) ∙ ap (cons e) (build_encodes es cs))

-- cells begin with one expression at most
pub unique : (e f : Exp) (r s : List Cell) → encode e ++ r ≡ encode f ++ s → e ≡ f
unique e f r s h =
    let m : cons e (build r) ≡ cons f (build s) = sym (build_encode e r) ∙ ap build h ∙ build_encode f s in
    cc m

-- a cell for each node
mutual
  pub encode_size : (e : Exp) → length (encode e) ≡ size e
  encode_size (LITERAL v) = refl
  encode_size (VAR x) = refl
  encode_size (SET x e) = ap suc (encode_size e)
  encode_size (IF c a b) = simp length-append (omega (arith, encode_size c, encode_size a, encode_size b))
  encode_size (WHILE c b) = simp length-append (omega (arith, encode_size c, encode_size b))
  encode_size (BEGIN es) = ap suc (encodes_size es)
  encode_size (APPLY f es) = ap suc (encodes_size es)

  pub encodes_size : (es : Exps) → length (encodes es) ≡ sizes es
  encodes_size nil = refl
  encodes_size (cons e es) = simp length-append (omega (arith, encode_size e, encodes_size es))

mutual
  pub depth_bound : (e : Exp) → depth e ≤ size e
  depth_bound (LITERAL v) = omega arith
  depth_bound (VAR x) = omega arith
  depth_bound (SET x e) = omega (arith, depth_bound e)
  depth_bound (IF c a b) = omega (arith, depth_bound c, depth_bound a, depth_bound b)
  depth_bound (WHILE c b) = omega (arith, depth_bound c, depth_bound b)
  depth_bound (BEGIN es) = omega (arith, depths_bound es)
  depth_bound (APPLY f es) = omega (arith, depths_bound es)

  pub depths_bound : (es : Exps) → depths es ≤ sizes es
  depths_bound nil = omega arith
  depths_bound (cons e es) = omega (arith, depth_bound e, depths_bound es)

pub size_some : (e : Exp) → 0 < size e
size_some (LITERAL v) = omega arith
size_some (VAR x) = omega arith
size_some (SET x e) = omega arith
size_some (IF c a b) = omega arith
size_some (WHILE c b) = omega arith
size_some (BEGIN es) = omega arith
size_some (APPLY f es) = omega arith

-- at most three instructions for each cell, with the one that ends an image
mutual
  pub weight_bound : (e : Exp) → weight e + 1 ≤ 3 * size e
  weight_bound (LITERAL v) = omega arith
  weight_bound (VAR x) = omega arith
  weight_bound (SET x e) = omega (arith, weight_bound e)
  weight_bound (IF c a b) = omega (arith, weight_bound c, weight_bound a, weight_bound b)
  weight_bound (WHILE c b) = omega (arith, weight_bound c, weight_bound b)
  weight_bound (BEGIN es) = omega (arith, weights_bound es, together_own es, between_bound (count es))
  weight_bound (APPLY f es) = omega (arith, weights_bound es)

  pub weights_bound : (es : Exps) → weights es + count es ≤ 3 * sizes es
  weights_bound nil = omega arith
  weights_bound (cons e es) = omega (arith, weight_bound e, weights_bound es)

mutual
  pub height_bound : (e : Exp) → height e ≤ size e
  height_bound (LITERAL v) = omega arith
  height_bound (VAR x) = omega arith
  height_bound (SET x e) = omega (arith, height_bound e)
  height_bound (IF c a b) = omega (arith, height_bound c, height_bound a, height_bound b)
  height_bound (WHILE c b) = omega (arith, height_bound c, height_bound b)
  height_bound (BEGIN es) = omega (arith, raised_bound es 0 (omega arith), highest_raised es)
  height_bound (APPLY f es) = omega (arith, raised_bound es 1 (omega arith), applied es)

  pub raised_bound : (es : Exps) (k : ℕ) → k ≤ 1 → raised k es ≤ sizes es
  raised_bound nil k low = omega arith
  raised_bound (cons e es) k low = omega (arith, height_bound e, raised_bound es k low, height_some e)
