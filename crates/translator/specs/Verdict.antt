-- What the check of a table answers.
use Rattle.std.specs.Prelude.{◌≡◌, ℕ, ◌+◌, List, Ok, Err, Result, ◌≢◌}
use Rattle.language.specs.Tree.{Definition, body, formals}
use Rattle.language.specs.Height.{height}
use Rattle.language.specs.Limits.{Distinct, Shallow, Within}
use Rattle.format.specs.declared.header.Header.{Header}
use Rattle.format.specs.declared.refusal.Refusal.{Refusal}
use Rattle.format.specs.declared.refusal.Refusal.TheVariants.{Size, Head, Cell, Shape, Twice, Nest}
use Rattle.format.specs.Refusals.{Told, told}
use Rattle.format.specs.Layout.{codes_in, operands_in}
use Rattle.format.specs.Cells.{header_of, table_of}
use Rattle.translator.specs.declared.table.Table.{Table}
use Rattle.translator.specs.Weight.{weight}
use Rattle.translator.specs.InCells.{cell_codes, cell_operands}
use Rattle.translator.specs.Tables.{Sized, TableHead, formals_in, AllRight, FirstWrong, IsTable}

-- the tests of SIZE, HEAD and CELL are passed
pub record Passed (t : List ℕ) : Type 0 where
  pub sized : Sized t
  pub head : TableHead t
  pub right : AllRight (codes_in t) (operands_in t) (formals_in t)

-- Why a table is refused. The tests are in this order, and each presumes that those before it were passed.
pub data Refused (t : List ℕ) : Told → Type 0 where
  SIZE : (Sized t → ⊥) → Refused t (told Size)
  HEAD : Sized t → (TableHead t → ⊥) → Refused t (told Head)
  CELL : {i : ℕ} → Sized t → TableHead t → FirstWrong (codes_in t) (operands_in t) (formals_in t) i → Refused t (told (Cell i))
  SHAPE : Passed t → ((d : Definition) → IsTable t d → ⊥) → Refused t (told Shape)
  TWICE : {d : Definition} → Passed t → IsTable t d → (Distinct (formals d) → ⊥) → Refused t (told Twice)
  NEST : {d : Definition} → Passed t → IsTable t d → Distinct (formals d) → (Shallow d → ⊥) → Refused t (told Nest)

-- the bytes are the table of a definition within the limits, and of no other
pub record Accepted (t : List ℕ) (r : Table) : Type 0 where
  pub definition : Definition
  pub within : Within definition
  pub is : t ≡ table_of definition
  pub only : (d : Definition) → IsTable t d → d ≡ definition
  pub header : r.header ≡ header_of definition
  pub codes : cell_codes r.cells ≡ codes_in t
  pub operands : cell_operands r.cells ≡ operands_in t
  pub counted : r.count ≡ weight (body definition) + 1
  pub high : r.height ≡ height (body definition)

abbrev pub NoTable : List ℕ → Type 0
NoTable t = (d : Definition) → Within d → t ≢ table_of d

-- what the check answers
abbrev pub Verdict : List ℕ → Result Table Refusal → Type 0
Verdict t (Ok r) = Accepted t r
Verdict t (Err e) = Refused t (told e) × NoTable t

-- all that an accepted table tells
pub record Content : Type 0 where
  pub header : Header
  pub codes : List ℕ
  pub operands : List ℕ
  pub count : ℕ
  pub height : ℕ

abbrev pub content : Table → Content
content r = record { header = r.header; codes = cell_codes r.cells; operands = cell_operands r.cells; count = r.count; height = r.height }

-- what an answer tells
abbrev pub answer : Result Table Refusal → Result Content Told
answer (Ok r) = Ok (content r)
answer (Err e) = Err (told e)

-- no other answer is right
abbrev pub Only : List ℕ → Result Table Refusal → Type 0
Only t r = (s : Result Table Refusal) → Verdict t s → answer s ≡ answer r

pub record Answered (t : List ℕ) (r : Result Table Refusal) : Type 0 where
  pub verdict : Verdict t r
  pub only : Only t r
