use Rattle.std.proofs.Common.{◌≡◌, ℕ, arith, rules, refl, Option, Some, None, MatchOption}
use Rattle.std.proofs.lemmas.Option.{MatchOption-at_some}
use Rattle.listing.proofs.Heights.{notes_nowhere, notes_after}
use Rattle.listing.proofs.height.follow.Goals as goal

some_then : (o : Option ℕ) (r : ℕ) (P : ℕ → Type 0) → MatchOption o (Some r ≡ None) P → (x : ℕ) × (o ≡ Some x) × P x
some_then (Some x) r P h = (x, refl, h)
some_then None r P h = cc

pub returns-in_default : goal.returns-in_default
returns-in_default c =
    notes_nowhere _ _ _ (λ height is. let after = MatchOption-at_some _ _ height is c.in_default.ensures in search rules)

pub returns-in-Some : goal.returns-in-Some
returns-in-Some c =
    let had = some_then _ c.in-Some.height_after _ c.in-Some.ensures in
    notes_after _ _ _ _ _ _ had.1 (let after = had.2 in search rules) (omega arith) c.note_onward.ensures
