-- What a definition may hold: the ranges of its numbers, its size and its depth.
use Rattle.std.specs.Prelude.{ℕ, ◌+◌, ◌^◌, ◌<◌, ◌≤◌, List, [], ◌∷◌, length, ℤ, pos, negsuc, ◌≢◌, slice_index}
use Rattle.language.specs.Tree.{Exp, LITERAL, VAR, SET, IF, WHILE, BEGIN, APPLY, Exps, nil, cons, Definition, body, formals, number, count, size, depth}

-- a value runs from −2,147,483,648 to 2,147,483,647
abbrev pub IsValue : ℤ → Type 0
IsValue (pos n) = n < 2 ^ 31
IsValue (negsuc n) = n < 2 ^ 31

-- variables and functions are numbered 0 to 63
abbrev pub IsName : ℕ → Type 0
IsName x = x < 64

abbrev pub AreNames : List ℕ → Type 0
AreNames [] = Unit {0}
AreNames (x ∷ xs) = IsName x × AreNames xs

-- each number in an expression is in its range
abbrev mutual
  pub InRange : Exp → Type 0
  InRange (LITERAL v) = IsValue v
  InRange (VAR x) = IsName x
  InRange (SET x e) = IsName x × InRange e
  InRange (IF c a b) = InRange c × InRange a × InRange b
  InRange (WHILE c b) = InRange c × InRange b
  InRange (BEGIN es) = (count es < 2048) × AllInRange es
  InRange (APPLY f es) = IsName f × (count es < 16) × AllInRange es

  pub AllInRange : Exps → Type 0
  AllInRange nil = Unit {0}
  AllInRange (cons e es) = InRange e × AllInRange es

-- a definition of which there can be a table: its numbers are in range, and it has few enough cells, one for each formal and each node
pub record Fits (d : Definition) : Type 0 where
  pub numbered : IsName (number d)
  pub few : length (formals d) < 16
  pub named : AreNames (formals d)
  pub ranged : InRange (body d)
  pub sized : length (formals d) + size (body d) ≤ 2048

-- no name stands twice
abbrev pub Distinct : List ℕ → Type 0
Distinct xs = (i j : ℕ) → i < j → j < length xs → slice_index xs i ≢ slice_index xs j

-- the expression of a definition stands at depth 1, and no part of it below depth 200
abbrev pub Shallow : Definition → Type 0
Shallow d = depth (body d) ≤ 200

-- a definition within the limits
pub record Within (d : Definition) : Type 0 where
  pub fits : Fits d
  pub distinct : Distinct (formals d)
  pub shallow : Shallow d
