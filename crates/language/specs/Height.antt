-- The height of an expression: how many values its evaluation holds at once, at most.
use Rattle.std.specs.Prelude.{ℕ, suc, ◌+◌, max}
use Rattle.language.specs.Tree.{Exp, LITERAL, VAR, SET, IF, WHILE, BEGIN, APPLY, Exps, nil, cons}

abbrev mutual
  pub height : Exp → ℕ
  height (LITERAL v) = 1
  height (VAR x) = 1
  height (SET x e) = height e
  height (IF c a b) = max (height c) (max (height a) (height b))
  height (WHILE c b) = max (height c) (height b)
  height (BEGIN es) = max 1 (highest es)
  height (APPLY f es) = max 1 (stacked 0 es)

  -- the greatest height of a part
  pub highest : Exps → ℕ
  highest nil = 0
  highest (cons e es) = max (height e) (highest es)

  -- the same of arguments, where the values of i others stand below the first
  pub stacked : ℕ → Exps → ℕ
  stacked i nil = 0
  stacked i (cons e es) = max (i + height e) (stacked (suc i) es)
