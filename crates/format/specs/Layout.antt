-- The bytes of a table or an image: a header of eight, then the codes, then the operands, four bytes each. Numbers are little-endian.
use Rattle.std.specs.Prelude.{◌≡◌, ℕ, ◌+◌, ◌*◌, ◌/◌, ◌%◌, ◌<◌, List, [], ◌∷◌, ◌++◌, length, take, drop, ℤ, slice_index}
use Rattle.std.specs.List.{All}
use Rattle.std.specs.Int.{w32, cast_unsigned}
use Rattle.format.specs.declared.header.Header.{Header}
use Rattle.format.specs.declared.header.Kind.{Kind}
use Rattle.format.specs.declared.header.Kind.TheVariants.{Function, Variable}

-- two bytes, for a number below 65,536
abbrev pub bytes2 : ℕ → List ℕ
bytes2 n = n % 256 ∷ n / 256 ∷ []

-- four bytes, in two's complement
abbrev pub bytes4 : ℤ → List ℕ
bytes4 v = cast_unsigned w32 v % 256 ∷ cast_unsigned w32 v / 256 % 256 ∷ cast_unsigned w32 v / 65536 % 256 ∷ cast_unsigned w32 v / 16777216 % 256 ∷ []

abbrev pub operand_bytes : List ℤ → List ℕ
operand_bytes [] = []
operand_bytes (v ∷ vs) = bytes4 v ++ operand_bytes vs

abbrev pub kind_byte : Kind → ℕ
kind_byte Function = 0
kind_byte Variable = 1

-- byte 7 is 0
abbrev pub header_bytes : ℕ → Header → List ℕ
header_bytes n h = bytes2 n ++ (bytes2 h.height ++ (kind_byte h.kind ∷ h.number ∷ h.formals ∷ 0 ∷ []))

-- the whole of a table or an image
abbrev pub layout : Header → List ℕ → List ℤ → List ℕ
layout h codes operands = header_bytes (length codes) h ++ (codes ++ operand_bytes operands)

-- and back: what stands at a place
abbrev pub u16_at : List ℕ → ℕ → ℕ
u16_at s at = slice_index s at + slice_index s (at + 1) * 256

-- the number of cells or instructions, by the header
abbrev pub count_in : List ℕ → ℕ
count_in bytes = u16_at bytes 0

abbrev pub codes_in : List ℕ → List ℕ
codes_in bytes = take (count_in bytes) (drop 8 bytes)

abbrev pub operands_in : List ℕ → List ℕ
operands_in bytes = drop (8 + count_in bytes) bytes

pub record FourBytes (bytes : List ℕ) : Type 0 where
  pub four : length bytes ≡ 4
  pub small : (i : ℕ) → slice_index bytes i < 256

-- an operand of four bytes for each code
pub record Parallel (codes : List ℕ) (operands : List (List ℕ)) : Type 0 where
  pub as_many : length operands ≡ length codes
  pub each : All FourBytes operands
