-- How a command is written on a line, and what is wrong with a line that is no command.
use Rattle.std.specs.Prelude.{◌≡◌, ℕ, ◌+◌, ◌%◌, ◌<◌, ◌⊎◌, List, [], ◌∷◌, ◌++◌, length, Some, None, Ok, Err, vec_items, codes, Option, Result, Vec, slice_index}
use Rattle.std.specs.Borrow.{Bor}
use Rattle.std.specs.declared.alloc.Global.{Global}
use Rattle.commands.specs.Hex.{hex_of, Bytes, IsDigit, DigitsTo, IsHex}
use Rattle.commands.specs.Lines.{NoBlank}
use Rattle.commands.specs.declared.command.Command.{Command}
use Rattle.commands.specs.declared.command.Command.TheVariants.{Table}
use Rattle.commands.specs.declared.command.Mistake.{Mistake}
use Rattle.commands.specs.declared.command.Mistake.TheVariants.{UnknownCommand, MissingWord, SurplusWord, NotDigit, OddDigits, OutOfMemory}

abbrev pub written : Command → List ℕ
written (Table bytes) = codes "table " ++ hex_of (vec_items bytes)

-- the numbers in it are bytes
abbrev pub HoldsBytes : Command → Type 0
HoldsBytes (Table bytes) = Bytes (vec_items bytes)

-- an empty line, or one that begins with `#`
abbrev pub Silent : List ℕ → Type 0
Silent line = (line ≡ []) ⊎ ((rest : List ℕ) × (line ≡ 35 ∷ rest))

-- the names of the commands
abbrev pub IsName : List ℕ → Type 0
IsName word = word ≡ codes "table"

abbrev pub FirstWord : List ℕ → List ℕ → Type 0
FirstWord line word = ((line ≡ word) ⊎ ((rest : List ℕ) × (line ≡ word ++ (32 ∷ rest)))) × NoBlank word

-- a command's name, a blank and a text
abbrev pub Names : List ℕ → List ℕ → List ℕ → Type 0
Names line name text = IsName name × (line ≡ name ++ (32 ∷ text))

-- what a mistake says of the line; a column counts from 1
abbrev pub Cause : List ℕ → Mistake → Type 0
Cause line UnknownCommand = (word : List ℕ) × FirstWord line word × (IsName word → ⊥)
Cause line MissingWord = IsName line
Cause line (SurplusWord column) = (name : List ℕ) × (word : List ℕ) × (rest : List ℕ) × Names line name (word ++ (32 ∷ rest)) × NoBlank word × (column ≡ length name + length word + 2)
Cause line (NotDigit column) = (name : List ℕ) × (text : List ℕ) × (i : ℕ) × Names line name text × NoBlank text × (i < length text) × (IsDigit (slice_index text i) → ⊥) × DigitsTo i text × (column ≡ length name + i + 2)
Cause line OddDigits = (name : List ℕ) × (text : List ℕ) × Names line name text × DigitsTo (length text) text × (length text % 2 ≡ 1)
Cause line OutOfMemory = (name : List ℕ) × (text : List ℕ) × Names line name text × IsHex text

-- what `parse` answers for a line
abbrev pub Parsed : List ℕ → Result (Option Command) Mistake → Type 0
Parsed line (Ok None) = Silent line
Parsed line (Ok (Some c)) = line ≡ written c
Parsed line (Err m) = Cause line m

abbrev pub Same : Command → Command → Type 0
Same (Table a) (Table b) = vec_items a ≡ vec_items b

-- what `parse` answers where c is on the line: c, unless memory is short
abbrev pub ReadAs : Command → Result (Option Command) Mistake → Type 0
ReadAs c (Ok None) = ⊥
ReadAs c (Ok (Some d)) = Same c d
ReadAs c (Err m) = m ≡ OutOfMemory

-- a line that a command is written on is read as that command
abbrev pub Complete : List ℕ → Result (Option Command) Mistake → Type 0
Complete line r = (c : Command) → HoldsBytes c → line ≡ written c → ReadAs c r

-- what `hex_operand` answers for the operands of a line of n characters
abbrev pub Operand : ℕ → Option (Bor (List ℕ)) → Result (Vec ℕ Global) Mistake → Type 0
Operand n o (Ok bytes) = (text : Bor (List ℕ)) × (o ≡ Some text) × (text.now ≡ hex_of (vec_items bytes)) × Bytes (vec_items bytes)
Operand n o (Err UnknownCommand) = ⊥
Operand n o (Err MissingWord) = o ≡ None
Operand n o (Err (SurplusWord column)) = (text : Bor (List ℕ)) × (word : List ℕ) × (rest : List ℕ) × (o ≡ Some text) × (text.now ≡ word ++ (32 ∷ rest)) × NoBlank word × (column + length rest ≡ n)
Operand n o (Err (NotDigit column)) = (text : Bor (List ℕ)) × (i : ℕ) × (o ≡ Some text) × NoBlank text.now × (i < length text.now) × (IsDigit (slice_index text.now i) → ⊥) × DigitsTo i text.now × (column + length text.now ≡ n + i + 1)
Operand n o (Err OddDigits) = (text : Bor (List ℕ)) × (o ≡ Some text) × DigitsTo (length text.now) text.now × (length text.now % 2 ≡ 1)
Operand n o (Err OutOfMemory) = (text : Bor (List ℕ)) × (o ≡ Some text) × IsHex text.now
