-- The characters of hexadecimal digits.
use Rattle.std.proofs.Common.{◌≡◌, ℕ, ◌-◌, ◌<◌, cond, nat_lt, refl, arith}
use Rattle.std.proofs.lemmas.Bool.Decides.{nat_tests}
use Rattle.commands.specs.Hex.{digit, IsDigit}

-- no two digits have one character
pub digit_same : (d e : ℕ) → d < 16 → e < 16 → digit d ≡ digit e → d ≡ e
unfolding digit
digit_same d e small low same = grind (arith, nat_tests)

-- the number of a digit's character
unfoldable pub number : ℕ → ℕ
number c = cond (nat_lt c 58) (c - 48) (c - 87)

pub number-digit : (d : ℕ) → d < 16 → number (digit d) ≡ d
unfolding digit number
number-digit d small = grind (arith, nat_tests)

pub number_fits : (c : ℕ) → IsDigit c → (number c < 16) × (digit (number c) ≡ c)
number_fits c (d, small, is) = (rw (← is, number-digit d) small, rw (← is, number-digit d) refl)
