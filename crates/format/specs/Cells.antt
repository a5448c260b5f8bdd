-- A cell's code and operand, and the cells of a definition.
use Rattle.std.specs.Prelude.{◌≡◌, ℕ, ◌+◌, ◌*◌, ◌<◌, Bool, true, false, List, [], ◌∷◌, ◌++◌, map, length, ℤ, pos, Some, None, Option}
use Rattle.language.specs.Tree.{Exp, LITERAL, VAR, SET, IF, WHILE, BEGIN, APPLY, Exps, nil, cons, Definition, VAL, DEFINE, body, formals, number, count}
use Rattle.language.specs.Limits.{IsValue, IsName}
use Rattle.format.specs.declared.cell.Cell.{Cell}
use Rattle.format.specs.declared.cell.Cell.TheVariants.{Literal, Var, Set, If, While, Begin, Apply, Formal}
use Rattle.format.specs.declared.header.Header.{Header}
use Rattle.format.specs.declared.header.Kind.{Kind}
use Rattle.format.specs.declared.header.Kind.TheVariants.{Function, Variable}
use Rattle.format.specs.Layout.{layout}

abbrev pub code : Cell → ℕ
code (Literal v) = 0
code (Var x) = 1
code (Set x) = 2
code If = 3
code While = 4
code (Begin n) = 5
code (Apply f k) = 6
code (Formal x) = 7

abbrev pub operand : Cell → ℤ
operand (Literal v) = v
operand (Var x) = pos x
operand (Set x) = pos x
operand If = pos 0
operand While = pos 0
operand (Begin n) = pos n
operand (Apply f k) = pos (16 * f + k)
operand (Formal x) = pos x

-- a cell's numbers are in their ranges
abbrev pub Valid : Cell → Type 0
Valid (Literal v) = IsValue v
Valid (Var x) = IsName x
Valid (Set x) = IsName x
Valid If = Unit {0}
Valid While = Unit {0}
Valid (Begin n) = n < 2048
Valid (Apply f k) = IsName f × (k < 16)
Valid (Formal x) = IsName x

-- a cell with this code and operand
pub record IsCell (b : ℕ) (v : ℤ) (c : Cell) : Type 0 where
  pub valid : Valid c
  pub code_is : b ≡ code c
  pub operand_is : v ≡ operand c

abbrev pub NoCell : ℕ → ℤ → Type 0
NoCell b v = (c : Cell) → IsCell b v c → ⊥

-- how many parts follow a cell that begins an expression; a FORMAL begins none
abbrev pub parts : Cell → Option ℕ
parts (Literal v) = Some 0
parts (Var x) = Some 0
parts (Set x) = Some 1
parts If = Some 3
parts While = Some 2
parts (Begin n) = Some n
parts (Apply f k) = Some k
parts (Formal x) = None

abbrev pub is_formal : Cell → Bool
is_formal (Literal v) = false
is_formal (Var x) = false
is_formal (Set x) = false
is_formal If = false
is_formal While = false
is_formal (Begin n) = false
is_formal (Apply f k) = false
is_formal (Formal x) = true

-- an expression in prefix order, each cell before its parts
abbrev mutual
  pub encode : Exp → List Cell
  encode (LITERAL v) = Literal v ∷ []
  encode (VAR x) = Var x ∷ []
  encode (SET x e) = Set x ∷ encode e
  encode (IF c a b) = If ∷ (encode c ++ (encode a ++ encode b))
  encode (WHILE c b) = While ∷ (encode c ++ encode b)
  encode (BEGIN es) = Begin (count es) ∷ encodes es
  encode (APPLY f es) = Apply f (count es) ∷ encodes es

  pub encodes : Exps → List Cell
  encodes nil = []
  encodes (cons e es) = encode e ++ encodes es

-- the formals come first
abbrev pub cells : Definition → List Cell
cells d = map Formal (formals d) ++ encode (body d)

abbrev pub kind_of : Definition → Kind
kind_of (VAL x e) = Variable
kind_of (DEFINE f xs e) = Function

-- the header of a definition's table
abbrev pub header_of : Definition → Header
header_of d = record { height = 0; kind = kind_of d; number = number d; formals = length (formals d) }

-- the table of a definition
abbrev pub table_of : Definition → List ℕ
table_of d = layout (header_of d) (map code (cells d)) (map operand (cells d))
