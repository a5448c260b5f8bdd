-- How many instructions an expression takes.
use Rattle.std.specs.Prelude.{ℕ, ◌+◌}
use Rattle.language.specs.Tree.{Exp, LITERAL, VAR, SET, IF, WHILE, BEGIN, APPLY, Exps, nil, cons, count}

abbrev mutual
  pub weight : Exp → ℕ
  weight (LITERAL v) = 1
  weight (VAR x) = 1
  weight (SET x e) = weight e + 1
  weight (IF c a b) = weight c + weight a + weight b + 2
  weight (WHILE c b) = weight c + weight b + 4
  weight (BEGIN es) = together es
  weight (APPLY f es) = weights es + 2

  -- with one instruction between two parts, or one in place of none
  pub together : Exps → ℕ
  together nil = 1
  together (cons e es) = weight e + (count es + weights es)

  pub weights : Exps → ℕ
  weights nil = 0
  weights (cons e es) = weight e + weights es
