-- What makes bytes the table of a definition.
use Rattle.std.specs.Prelude.{◌≡◌, ℕ, ◌*◌, ◌<◌, ◌≤◌, List, length, take, drop, nat_lt, slice_index}
use Rattle.language.specs.Tree.{Definition}
use Rattle.language.specs.Limits.{Fits}
use Rattle.format.specs.declared.cell.Cell.{Cell}
use Rattle.format.specs.Layout.{bytes4, u16_at}
use Rattle.format.specs.Headers.{Headed}
use Rattle.format.specs.Rows.{SizedTo}
use Rattle.format.specs.Cells.{code, operand, Valid, is_formal, table_of}

-- 1 to 2,048 cells, and as many bytes as they take
abbrev pub Sized : List ℕ → Type 0
Sized t = SizedTo 2048 t

-- a header of height 0
pub record TableHead (t : List ℕ) : Type 0 where
  pub flat : u16_at t 2 ≡ 0
  pub headed : Headed t

-- the number of formals, by the header
abbrev pub formals_in : List ℕ → ℕ
formals_in t = slice_index t 6

-- cell i of two parallel arrays
pub record CellAt (codes operands : List ℕ) (i : ℕ) (c : Cell) : Type 0 where
  pub within : i < length codes
  pub valid : Valid c
  pub code_is : slice_index codes i ≡ code c
  pub operand_is : take 4 (drop (4 * i) operands) ≡ bytes4 (operand c)

-- a cell stands there, a FORMAL among the first n and none after
pub record Right (codes operands : List ℕ) (n i : ℕ) : Type 0 where
  pub cell : Cell
  pub here : CellAt codes operands i cell
  pub placed : is_formal cell ≡ nat_lt i n

pub record AllRight (codes operands : List ℕ) (n : ℕ) : Type 0 where
  pub each : (k : ℕ) → k < length codes → Right codes operands n k
  pub enough : n ≤ length codes

-- the first wrong cell: one that stands there, or the first that is missing
pub data FirstWrong (codes operands : List ℕ) (n : ℕ) : ℕ → Type 0 where
  wrong : {i : ℕ} → i < length codes → ((k : ℕ) → k < i → Right codes operands n k) → (Right codes operands n i → ⊥) → FirstWrong codes operands n i
  missing : {i : ℕ} → i ≡ length codes → ((k : ℕ) → k < i → Right codes operands n k) → i < n → FirstWrong codes operands n i

-- the bytes are the table of a definition whose numbers are in range
pub record IsTable (t : List ℕ) (d : Definition) : Type 0 where
  pub fits : Fits d
  pub is : t ≡ table_of d
