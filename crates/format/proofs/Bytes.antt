-- Little-endian numbers and their bytes.
use Rattle.std.proofs.Common.{◌≡◌, ℕ, ◌+◌, ◌*◌, ◌/◌, ◌%◌, ◌<◌, ◌≤◌, List, [], ◌∷◌, length, get_or, take, drop, ℤ, pos, negsuc, sym, refl, ap, ◌∙◌, arith, w32, SFits, to_z, of_z}
use mir.ValLaws.{of_z_fits}
use Rattle.std.proofs.lemmas.List.{drop_more}
use Rattle.std.specs.Int.{from_le_bytes}
use Rattle.std.proofs.lemmas.Nat.{from_le_bytes-to_le_bytes_4}
use Rattle.std.proofs.lemmas.Int.{to_z-of_z}
use Rattle.language.specs.Limits.{IsValue}
use Rattle.format.specs.Layout.{bytes2, bytes4, operand_bytes}

pub value_fits : (v : ℤ) → IsValue v → SFits w32 v
value_fits (pos n) h = record { sfits = h }
value_fits (negsuc n) h = record { sfits = h }

pub fits_value : (v : ℤ) → SFits w32 v → IsValue v
fits_value (pos n) f = f.sfits
fits_value (negsuc n) f = f.sfits

value_of : List ℕ → ℤ
value_of bs = to_z w32 (from_le_bytes w32 bs)

value_back : (v : ℤ) → IsValue v → value_of (bytes4 v) ≡ v
unfolding value_of
value_back v h =
    ap (to_z w32) (from_le_bytes-to_le_bytes_4 (of_z w32 v) (of_z_fits w32 v (value_fits v h)).fits) ∙ to_z-of_z w32 v (value_fits v h)

-- values with the same bytes are the same
pub bytes4_injective : (v w : ℤ) → IsValue v → IsValue w → bytes4 v ≡ bytes4 w → v ≡ w
bytes4_injective v w hv hw e = sym (value_back v hv) ∙ ap value_of e ∙ value_back w hw

-- the first bytes of a list
pub take_two : (xs : List ℕ) (at : ℕ) → at + 2 ≤ length xs → take 2 (drop at xs) ≡ get_or xs at 0 ∷ get_or xs (at + 1) 0 ∷ []
take_two xs at h =
    ap (take 2) (drop_more xs at 0 (omega arith) ∙ ap (λ l. get_or xs at 0 ∷ l) (drop_more xs (at + 1) 0 (omega arith)))

pub bytes2_of : (a b : ℕ) → a < 256 → b < 256 → bytes2 (a + b * 256) ≡ a ∷ b ∷ []
bytes2_of a b ha hb =
    let r : (a + b * 256) % 256 ≡ a = omega arith in
    let q : (a + b * 256) / 256 ≡ b = omega arith in
    λ i. r i ∷ q i ∷ []

pub length-operands : (vs : List ℤ) → length (operand_bytes vs) ≡ 4 * length vs
length-operands [] = refl
length-operands (v ∷ vs) = omega (arith, length-operands vs)
