-- Where a name stands among the formals.
use Rattle.std.specs.Prelude.{ℕ, suc, cond, List, [], ◌∷◌, Some, None, Option, ◌==◌}

-- one place further
abbrev pub further : Option ℕ → Option ℕ
further None = None
further (Some i) = Some (suc i)

-- the index of the first x, from 0, or none
abbrev pub place : List ℕ → ℕ → Option ℕ
place [] x = None
place (y ∷ ys) x = cond (y == x) (Some 0) (further (place ys x))
