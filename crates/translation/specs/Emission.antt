-- What the translation of an expression requires, and what it leaves.
use Rattle.std.specs.Prelude.{◌≡◌, ℕ, ◌+◌, ◌<◌, ◌≤◌, List, [], ◌∷◌, length}
use Rattle.language.specs.Tree.{Exp, Exps, count}
use Rattle.format.specs.declared.cell.Cell.{Cell}
use Rattle.format.specs.declared.instr.Instr.{Instr}
use Rattle.format.specs.declared.instr.Instr.TheVariants.{Pop}
use Rattle.format.specs.Cells.{encode, encodes}
use Rattle.translator.specs.Weight.{weight, weights}
use Rattle.translation.specs.declared.emit.Source.{Source}
use Rattle.translation.specs.declared.emit.Role.{Role}
use Rattle.translation.specs.declared.emit.Role.TheVariants.{Part, Argument}
use Rattle.translation.specs.declared.writer.Writer.{Writer}
use Rattle.translation.specs.Translation.{code, rest, arguments}
use Rattle.translator.specs.InCells.{CellIn}
use Rattle.translation.specs.Standing.{CellsIn}
use Rattle.translation.specs.Writing.{Kept, Emitted}

abbrev pub names : Source → List ℕ
names s = s.formals.names.now

-- an expression stands at the next cell, and there is room for its code
pub record Here (s : Source) (w : Writer) (e : Exp) : Type 0 where
  pub stand : CellsIn s.cells w.next (encode e)
  pub room : w.«end» + weight e ≤ w.count

pub record Ready (s : Source) (w : Writer) : Type 0 where
  pub e : Exp
  pub here : Here s w e

-- one that begins with this cell
pub record ReadyAs (s : Source) (w : Writer) (c : Cell) : Type 0 where
  pub head : CellIn s.cells w.next c
  pub e : Exp
  pub here : Here s w e

pub record Emits (s : Source) (w w' : Writer) : Type 0 where
  pub kept : Kept w w'
  pub further : w.next < w'.next
  pub told : (e : Exp) → CellsIn s.cells w.next (encode e) → Emitted w w' (length (encode e)) (code (names s) e w.«end»)

-- what stands before each expression of a list
abbrev pub before : Role → List Instr
before Part = Pop ∷ []
before Argument = []

abbrev pub listed : Role → List ℕ → Exps → ℕ → List Instr
listed Part xs es p = rest xs es p
listed Argument xs es p = arguments xs es p

-- how many instructions that is
abbrev pub listed_weight : Role → Exps → ℕ
listed_weight Part es = count es + weights es
listed_weight Argument es = weights es

pub record HereList (s : Source) (role : Role) (w : Writer) (es : Exps) : Type 0 where
  pub stand : CellsIn s.cells w.next (encodes es)
  pub room : w.«end» + listed_weight role es ≤ w.count

pub record ReadyList (s : Source) (role : Role) (w : Writer) (k : ℕ) : Type 0 where
  pub es : Exps
  pub many : count es ≡ k
  pub here : HereList s role w es

pub record EmitsList (s : Source) (role : Role) (w w' : Writer) (k : ℕ) : Type 0 where
  pub kept : Kept w w'
  pub told : (es : Exps) → count es ≡ k → CellsIn s.cells w.next (encodes es) → Emitted w w' (length (encodes es)) (listed role (names s) es w.«end»)
