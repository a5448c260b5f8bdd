-- The value of four bytes.
use Rattle.std.proofs.Common.{◌≡◌, ℕ, ◌*◌, ◌<◌, List, [], length, get_or, ℤ, sym, ap, refl, ◌∙◌, arith, w32, SFits, to_z}
use Rattle.std.specs.Int.{from_le_bytes, to_le_bytes}
use Rattle.std.specs.List.{All, concat}
use Rattle.std.proofs.lemmas.Int.{of_z-to_z}
use Rattle.std.proofs.lemmas.Nat.{le_bytes_4}
use Rattle.format.specs.Layout.{bytes4, FourBytes}
use Rattle.format.specs.Rows.{ValueAt}
use Rattle.format.proofs.Bytes.{fits_value}
use Rattle.format.proofs.Chunks.{chunk_at}

bytes4_value : (b : List ℕ) → FourBytes b → bytes4 (to_z w32 (from_le_bytes w32 b)) ≡ b
bytes4_value b f =
    let n = from_le_bytes w32 b in
    ap (to_le_bytes w32) (of_z-to_z w32 n (omega (arith, f.small 0, f.small 1, f.small 2, f.small 3))) ∙ le_bytes_4 b n f.four f.small refl

pub value_at : (operands : List (List ℕ)) → All FourBytes operands → (i j : ℕ) → j ≡ i → i < length operands → (v : ℤ) → SFits w32 v → v ≡ to_z w32 (from_le_bytes w32 (get_or operands j [])) → ValueAt (concat operands) (4 * i) v
value_at operands all i j same lt v fits e =
    let b = get_or operands i [] in
    let is : v ≡ to_z w32 (from_le_bytes w32 b) = e ∙ ap (λ k. to_z w32 (from_le_bytes w32 (get_or operands k []))) same in
    record { value = fits_value v fits; four = chunk_at operands all i [] lt ∙ sym (bytes4_value b (all i [] lt)) ∙ ap bytes4 (sym is) }
