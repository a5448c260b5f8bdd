use Rattle.std.proofs.Common.{ℕ, ◌<◌, MatchOption, List, length, Option, Some, None, rules, tests, arith}
use Rattle.std.specs.List.{AllWithin, HoldsAt}
use Rattle.std.proofs.lemmas.Iterator.{IsFirst-from_position, YieldsList-from_slice}
use Rattle.commands.specs.Hex.{IsDigit, FirstNonDigit}
use Rattle.commands.proofs.hex.first_non_digit.Goals as goal

is_first : (text : List ℕ) (r : Option ℕ) → MatchOption r (AllWithin IsDigit text 0 (length text)) (λ i. (i < length text) × HoldsAt (λ c. IsDigit c → ⊥) text i × AllWithin IsDigit text 0 i) → FirstNonDigit text r
is_first text None all = λ k h. all k 0 (omega arith) h
is_first text (Some i) (within, here, before) = (within, here 0, λ k h. before k 0 (omega arith) h)

pub returns : goal.returns
returns c =
    is_first c.args.text.now _ (IsFirst-from_position _ _ c.position.result (λ c. IsDigit c → ⊥) IsDigit c.position.ensures.ran (YieldsList-from_slice c.args.text.now cc) (λ x q k. search (rules, tests)) (λ x q k. search (rules, tests)))
