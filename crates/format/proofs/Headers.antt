-- What the bytes of a header tell.
use Rattle.std.proofs.Common.{◌≡◌, ℕ, ◌+◌, ◌*◌, ◌<◌, List, length, drop, refl, ap, ◌∙◌, arith, length-drop, length-take}
use native.Mathlib.Decide.{dec_lt}
use Rattle.format.specs.declared.header.Kind.{Kind}
use Rattle.format.specs.declared.header.Kind.TheVariants.{Function, Variable}
use Rattle.format.specs.Layout.{kind_byte, count_in}
use Rattle.format.specs.Headers.{most_formals}
use Rattle.format.specs.Rows.{Cut}

pub one_kind : (k l : Kind) → kind_byte k ≡ kind_byte l → k ≡ l
one_kind Function Function e = refl
one_kind Function Variable e = absurd (omega arith)
one_kind Variable Function e = absurd (omega arith)
one_kind Variable Variable e = refl

pub few_formals : (k : Kind) → most_formals k < 16
few_formals Function = omega arith
few_formals Variable = omega arith

-- the two arrays are as long as the header says
pub sizes : (bytes codes operands : List ℕ) → Cut bytes codes operands → (length codes ≡ count_in bytes) × (length operands ≡ 4 * count_in bytes)
sizes bytes codes operands cut =
    let w = cut.whole in (
      ap length cut.codes_are ∙ length-take (count_in bytes) (drop 8 bytes) ∙ omega (arith, length-drop 8 bytes, w.long),
      ap length cut.operands_are ∙ length-drop (8 + count_in bytes) bytes ∙ omega (arith, w.long),
    )

-- of numbers that none other may follow there is one only
pub only_first : (First : ℕ → Type 0) → ((i j : ℕ) → First i → First j → i < j → ⊥) → (i j : ℕ) → First i → First j → i ≡ j
only_first First not_later i j x y =
    elim (dec_lt i j) [
      | yes lt ↦ absurd (not_later i j x y lt)
      | no ge ↦ elim (dec_lt j i) [ yes lt ↦ absurd (not_later j i y x lt) | no le ↦ omega arith ]
    ]
