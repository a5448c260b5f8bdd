-- What the parts of `translate` rest on.
use Rattle.std.specs.Prelude.{◌≡◌, ℕ, ◌+◌, ◌*◌, ◌<◌, ◌≤◌, List, ◌++◌, length, drop}
use Rattle.language.specs.Tree.{Definition, body, formals}
use Rattle.language.specs.Height.{height}
use Rattle.format.specs.declared.header.Header.{Header}
use Rattle.format.specs.declared.header.Kind.{Kind}
use Rattle.format.specs.declared.header.Kind.TheVariants.{Function, Variable}
use Rattle.format.specs.declared.instr.Instr.{Instr}
use Rattle.format.specs.declared.instr.Instr.TheVariants.{Ret, Bind}
use Rattle.format.specs.Cells.{cells, header_of}
use Rattle.translator.specs.declared.table.Table.{Table}
use Rattle.translation.specs.Translation.{instrs, image}
use Rattle.translation.specs.declared.emit.Source.{Source}
use Rattle.translation.specs.Standing.{CellsIn, Named}
use Rattle.translation.specs.Writing.{written}
use Rattle.translation.specs.Emission.{names}

-- an accepted table is that of d
pub record Holds (r : Table) (d : Definition) : Type 0 where
  pub header : r.header ≡ header_of d
  pub few : length (formals d) < 16
  pub stand : CellsIn r.cells 0 (cells d)
  pub counted : r.count ≡ length (instrs d)
  pub short : r.count ≤ 6144
  pub high : r.height ≡ height (body d)

pub record HoldsSome (r : Table) : Type 0 where
  pub d : Definition
  pub holds : Holds r d

-- the source has the cells of the table, and the names of its formals
pub record IsSource (r : Table) (s : Source) : Type 0 where
  pub same : r.cells ≡ s.cells
  pub many : length (names s) ≡ r.header.formals
  pub named : Named s.cells (length (names s)) (names s)

-- the instructions are written, but no header
pub record CodeWritten (r : Table) (out out' : List ℕ) : Type 0 where
  pub told : (d : Definition) → Holds r d → out' ≡ written r.count out 0 (instrs d)

-- the front of the memory is the image
pub record Imaged (r : Table) (out out' : List ℕ) : Type 0 where
  pub told : (d : Definition) → Holds r d → out' ≡ image d ++ drop (8 + 5 * r.count) out

-- the instruction that ends an image
abbrev pub last_for : Kind → ℕ → Instr
last_for Function x = Ret
last_for Variable x = Bind x

abbrev pub last_of : Header → Instr
last_of h = last_for h.kind h.number
