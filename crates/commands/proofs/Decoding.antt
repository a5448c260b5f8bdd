-- The pairs of digits, and the byte that each writes.
use Rattle.std.proofs.Common.{◌≡◌, ℕ, zero, suc, ◌+◌, ◌*◌, ◌/◌, ◌%◌, ◌<◌, ◌≤◌, List, [], ◌∷◌, length, map, get_or, refl, arith}
use Rattle.std.specs.Simd.{first_chunks}
use Rattle.commands.specs.Hex.{hex_of, Bytes, IsDigit, DigitsTo}
use Rattle.commands.proofs.Digit.{number, number_fits}

pub length-hex_of : (bs : List ℕ) → length (hex_of bs) ≡ 2 * length bs
length-hex_of [] = refl
length-hex_of (b ∷ bs) = omega (arith, length-hex_of bs)

-- the byte that a pair of digits writes
abbrev pub byte : List ℕ → ℕ
byte pair = 16 * number (get_or pair 0 0) + number (get_or pair 1 0)

pub pair_digits : (n : ℕ) (text : List ℕ) (k : ℕ) (d : List ℕ) → 2 * n ≤ length text → DigitsTo (length text) text → k < n → IsDigit (get_or (get_or (first_chunks 2 n text) k d) 0 0) × IsDigit (get_or (get_or (first_chunks 2 n text) k d) 1 0)
pair_digits zero text k d fits digits h = absurd (omega arith)
pair_digits (suc n) [] k d fits digits h = absurd (omega arith)
pair_digits (suc n) (a ∷ []) k d fits digits h = absurd (omega arith)
pair_digits (suc n) (a ∷ b ∷ rest) zero d fits digits h = (digits 0 (omega arith), digits 1 (omega arith))
pair_digits (suc n) (a ∷ b ∷ rest) (suc k) d fits digits h = pair_digits n rest k d (omega arith) (λ i w. digits (suc (suc i)) (omega arith)) (omega arith)

pub decoded : (n : ℕ) (text : List ℕ) → length text ≡ 2 * n → DigitsTo (length text) text → (text ≡ hex_of (map byte (first_chunks 2 n text))) × Bytes (map byte (first_chunks 2 n text))
decoded zero [] e digits = (refl, tt)
decoded zero (a ∷ rest) e digits = absurd (omega arith)
decoded (suc n) [] e digits = absurd (omega arith)
decoded (suc n) (a ∷ []) e digits = absurd (omega arith)
decoded (suc n) (a ∷ b ∷ rest) e digits =
    let high = number_fits a (digits 0 (omega arith)) in
    let low = number_fits b (digits 1 (omega arith)) in
    let more = decoded n rest (omega arith) (λ i w. digits (suc (suc i)) (omega arith)) in
    let high_is : (16 * number a + number b) / 16 ≡ number a = omega (arith, low.0) in
    let low_is : (16 * number a + number b) % 16 ≡ number b = omega (arith, low.0) in
    (rw (high_is, low_is, high.1, low.1, ← more.0) refl, (omega (arith, high.0, low.0), more.1))
