-- The abstract syntax of Impcore. Variables and functions are numbers.
use Rattle.std.specs.Prelude.{ℕ, suc, ◌+◌, max, List, [], ℤ}

mutual
  pub data Exp : Type 0 where
    LITERAL : ℤ → Exp
    VAR : ℕ → Exp
    SET : ℕ → Exp → Exp
    IF : Exp → Exp → Exp → Exp
    WHILE : Exp → Exp → Exp
    BEGIN : Exps → Exp
    APPLY : ℕ → Exps → Exp

  -- the parts of a BEGIN, or the arguments of an APPLY
  pub data Exps : Type 0 where
    nil : Exps
    cons : Exp → Exps → Exps

-- a variable with its expression, or a function with its formals and its body
pub data Definition : Type 0 where
  VAL : ℕ → Exp → Definition
  DEFINE : ℕ → List ℕ → Exp → Definition

-- the expression of a definition
abbrev pub body : Definition → Exp
body (VAL x e) = e
body (DEFINE f xs e) = e

abbrev pub formals : Definition → List ℕ
formals (VAL x e) = []
formals (DEFINE f xs e) = xs

abbrev pub number : Definition → ℕ
number (VAL x e) = x
number (DEFINE f xs e) = f

-- how many there are
abbrev pub count : Exps → ℕ
count nil = 0
count (cons e es) = suc (count es)

-- how many nodes a tree has
abbrev mutual
  pub size : Exp → ℕ
  size (LITERAL v) = 1
  size (VAR x) = 1
  size (SET x e) = suc (size e)
  size (IF c a b) = suc (size c + (size a + size b))
  size (WHILE c b) = suc (size c + size b)
  size (BEGIN es) = suc (sizes es)
  size (APPLY f es) = suc (sizes es)

  pub sizes : Exps → ℕ
  sizes nil = 0
  sizes (cons e es) = size e + sizes es

-- the greatest depth of a node, the root being at depth 1
abbrev mutual
  pub depth : Exp → ℕ
  depth (LITERAL v) = 1
  depth (VAR x) = 1
  depth (SET x e) = suc (depth e)
  depth (IF c a b) = suc (max (depth c) (max (depth a) (depth b)))
  depth (WHILE c b) = suc (max (depth c) (depth b))
  depth (BEGIN es) = suc (depths es)
  depth (APPLY f es) = suc (depths es)

  pub depths : Exps → ℕ
  depths nil = 0
  depths (cons e es) = max (depth e) (depths es)
