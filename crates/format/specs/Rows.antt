-- The codes and operands that bytes hold.
use Rattle.std.specs.Prelude.{◌≡◌, ℕ, ◌+◌, ◌*◌, ◌<◌, ◌≤◌, List, length, take, drop, ℤ, slice_index}
use Rattle.std.specs.List.{concat}
use Rattle.language.specs.Limits.{IsValue}
use Rattle.format.specs.declared.layout.Layout.{Layout}
use Rattle.format.specs.declared.layout.Row.{Row}
use Rattle.format.specs.Layout.{bytes2, bytes4, count_in, codes_in, operands_in}

-- the two arrays of a layout, as bytes
abbrev pub codes_of : Layout → List ℕ
codes_of l = l.codes.now

abbrev pub operands_of : Layout → List ℕ
operands_of l = concat l.operands.now

-- the bytes are as many as their header says
pub record Whole (bytes : List ℕ) : Type 0 where
  pub headed : 8 ≤ length bytes
  pub long : length bytes ≡ 8 + 5 * count_in bytes

-- whole bytes, and their two arrays
pub record Cut (bytes codes operands : List ℕ) : Type 0 where
  pub whole : Whole bytes
  pub count : take 2 bytes ≡ bytes2 (length codes)
  pub codes_are : codes ≡ codes_in bytes
  pub operands_are : operands ≡ operands_in bytes

-- some rows, but not too many, and as many bytes as they take
pub record SizedTo (most : ℕ) (bytes : List ℕ) : Type 0 where
  pub whole : Whole bytes
  pub some : 0 < count_in bytes
  pub few : count_in bytes ≤ most

-- such bytes, and their layout
pub record CutTo (most : ℕ) (bytes : List ℕ) (l : Layout) : Type 0 where
  pub sized : SizedTo most bytes
  pub cut : Cut bytes (codes_of l) (operands_of l)

-- the four bytes from a place on are those of a value
pub record ValueAt (bytes : List ℕ) (at : ℕ) (v : ℤ) : Type 0 where
  pub value : IsValue v
  pub four : take 4 (drop at bytes) ≡ bytes4 v

-- row i of a layout
pub record RowAt (l : Layout) (i : ℕ) (row : Row) : Type 0 where
  pub within : i < length (codes_of l)
  pub code : row.code ≡ slice_index (codes_of l) i
  pub operand : ValueAt (operands_of l) (4 * i) row.operand

abbrev pub NoRow : Layout → ℕ → Type 0
NoRow l i = length (codes_of l) ≤ i
