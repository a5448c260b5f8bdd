-- Bytes written as lower-case hexadecimal digits, two to a byte.
use Rattle.std.specs.Prelude.{◌≡◌, ℕ, ◌+◌, ◌/◌, ◌%◌, ◌<◌, cond, List, [], ◌∷◌, length, Some, None, Ok, Err, vec_items, Option, Result, Vec, nat_lt, slice_index}
use Rattle.std.specs.declared.alloc.Global.{Global}
use Rattle.commands.specs.declared.hex.HexError.{HexError}
use Rattle.commands.specs.declared.hex.HexError.TheVariants.{NotDigit, OddDigits, OutOfMemory}

-- the character of a number below 16: 0 to 9, then a to f
unfoldable pub digit : ℕ → ℕ
digit d = cond (nat_lt d 10) (48 + d) (87 + d)

abbrev pub hex_of : List ℕ → List ℕ
hex_of [] = []
hex_of (b ∷ bs) = digit (b / 16) ∷ digit (b % 16) ∷ hex_of bs

abbrev pub Bytes : List ℕ → Type 0
Bytes [] = Unit {0}
Bytes (b ∷ bs) = (b < 256) × Bytes bs

-- c is the character of a digit
abbrev pub IsDigit : ℕ → Type 0
IsDigit c = (d : ℕ) × (d < 16) × (digit d ≡ c)

-- the first n characters are digits
abbrev pub DigitsTo : ℕ → List ℕ → Type 0
DigitsTo n text = (k : ℕ) → k < n → IsDigit (slice_index text k)

-- bytes in hexadecimal
abbrev pub IsHex : List ℕ → Type 0
IsHex text = DigitsTo (length text) text × (length text % 2 ≡ 0)

-- what an error says of the text; memory is short only where the text is hexadecimal
abbrev pub Fault : List ℕ → HexError → Type 0
Fault text (NotDigit i) = (i < length text) × (IsDigit (slice_index text i) → ⊥) × DigitsTo i text
Fault text OddDigits = (length text % 2 ≡ 1) × DigitsTo (length text) text
Fault text OutOfMemory = IsHex text

-- what `first_non_digit` answers for a text
abbrev pub FirstNonDigit : List ℕ → Option ℕ → Type 0
FirstNonDigit text None = DigitsTo (length text) text
FirstNonDigit text (Some i) = (i < length text) × (IsDigit (slice_index text i) → ⊥) × DigitsTo i text

-- what `decode` answers for a text
abbrev pub Decoded : List ℕ → Result (Vec ℕ Global) HexError → Type 0
Decoded text (Ok bytes) = (text ≡ hex_of (vec_items bytes)) × Bytes (vec_items bytes)
Decoded text (Err e) = Fault text e
