-- Where a name stands.
use Rattle.std.proofs.Common.{◌≡◌, ℕ, ◌==◌, List, [], ◌∷◌, refl, arith}
use Rattle.std.proofs.lemmas.Grind.{common_steps}
use Rattle.std.specs.List.{position}
use Rattle.language.specs.Names.{place}

pub position_place : (xs : List ℕ) (x : ℕ) → position (λ y. y == x) xs ≡ place xs x
position_place [] x = refl
position_place (y ∷ ys) x = grind (arith, common_steps, position_place ys x)
