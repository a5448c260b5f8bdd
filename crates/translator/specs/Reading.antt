-- What the parts of the check answer.
use Rattle.std.specs.Prelude.{◌≡◌, ℕ, zero, suc, ◌+◌, ◌*◌, ◌<◌, max, List, [], ◌∷◌, length, take, drop}
use Rattle.language.specs.Tree.{Exp, Exps, nil, cons, count, depth, depths}
use Rattle.language.specs.Height.{height}
use Rattle.format.specs.declared.cell.Cell.{Cell}
use Rattle.format.specs.declared.cell.Cell.TheVariants.{Literal, Var, Set, If, While, Begin, Apply, Formal}
use Rattle.format.specs.Cells.{encode, encodes}
use Rattle.translator.specs.declared.expression.Extent.{Extent}
use Rattle.translator.specs.Tables.{CellAt}
use Rattle.translator.specs.Weight.{weight, weights}

-- these cells stand at `at` and after it
abbrev pub CellsAt : List ℕ → List ℕ → ℕ → List Cell → Type 0
CellsAt codes operands at [] = Unit {0}
CellsAt codes operands at (c ∷ cs) = CellAt codes operands at c × CellsAt codes operands (at + 1) cs

pub record ExpAt (codes operands : List ℕ) (at : ℕ) (x : Extent) : Type 0 where
  pub e : Exp
  pub stand : CellsAt codes operands at (encode e)
  pub past : x.«end» ≡ at + length (encode e)
  pub deep : x.depth ≡ depth e
  pub long : x.count ≡ weight e
  pub high : x.height ≡ height e

abbrev pub NoExp : List ℕ → List ℕ → ℕ → Type 0
NoExp codes operands at = (e : Exp) → CellsAt codes operands at (encode e) → ⊥

-- the greatest height of a part, where each leaves k values below the next
abbrev pub raised : ℕ → Exps → ℕ
raised k nil = 0
raised k (cons e es) = max (height e) (k + raised k es)

-- how many values a part leaves below the next: an argument leaves its own
abbrev pub lift_of : Cell → ℕ
lift_of (Literal v) = 0
lift_of (Var x) = 0
lift_of (Set x) = 0
lift_of If = 0
lift_of While = 0
lift_of (Begin n) = 0
lift_of (Apply f n) = 1
lift_of (Formal x) = 0

-- how many instructions stand between n parts, or in place of none
abbrev pub between : ℕ → ℕ
between zero = 1
between (suc n) = n

-- how many instructions an expression has besides those of its parts
abbrev pub own : Cell → ℕ
own (Literal v) = 1
own (Var x) = 1
own (Set x) = 1
own If = 2
own While = 4
own (Begin n) = between n
own (Apply f n) = 2
own (Formal x) = 0

pub record ExpsAt (codes operands : List ℕ) (at n k : ℕ) (x : Extent) : Type 0 where
  pub es : Exps
  pub many : count es ≡ n
  pub stand : CellsAt codes operands at (encodes es)
  pub past : x.«end» ≡ at + length (encodes es)
  pub deep : x.depth ≡ depths es
  pub long : x.count ≡ weights es
  pub high : x.height ≡ raised k es

abbrev pub NoExps : List ℕ → List ℕ → ℕ → ℕ → Type 0
NoExps codes operands at n = (es : Exps) → count es ≡ n → CellsAt codes operands at (encodes es) → ⊥

-- the operands at two places are the same
abbrev pub Same : List ℕ → ℕ → ℕ → Type 0
Same operands i j = take 4 (drop (4 * i) operands) ≡ take 4 (drop (4 * j) operands)

pub record Earlier (operands : List ℕ) (j : ℕ) : Type 0 where
  pub i : ℕ
  pub before : i < j
  pub same : Same operands i j

abbrev pub NoEarlier : List ℕ → ℕ → Type 0
NoEarlier operands j = (i : ℕ) → i < j → Same operands i j → ⊥

pub record Repeated (operands : List ℕ) (n : ℕ) : Type 0 where
  pub j : ℕ
  pub within : j < n
  pub earlier : Earlier operands j

abbrev pub NoneRepeated : List ℕ → ℕ → Type 0
NoneRepeated operands n = (j : ℕ) → j < n → NoEarlier operands j
