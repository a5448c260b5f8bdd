-- The translation of expressions into instructions, and the image of a definition.
use Rattle.std.specs.Prelude.{ℕ, ◌+◌, List, [], ◌∷◌, ◌++◌, length, pos, Some, None, Option}
use Rattle.language.specs.Tree.{Exp, LITERAL, VAR, SET, IF, WHILE, BEGIN, APPLY, Exps, nil, cons, Definition, VAL, DEFINE, body, formals, number, count}
use Rattle.language.specs.Height.{height}
use Rattle.language.specs.Names.{place}
use Rattle.format.specs.declared.header.Header.{Header}
use Rattle.format.specs.declared.instr.Instr.{Instr}
use Rattle.format.specs.declared.instr.Instr.TheVariants.{Push, LoadF, LoadG, StoreF, StoreG, Pop, Jump, Jz, Find, Call, Ret, Bind}
use Rattle.format.specs.Cells.{kind_of}
use Rattle.format.specs.Instrs.{image_of}

-- a variable that is a formal, and one that is not
abbrev pub load : Option ℕ → ℕ → Instr
load (Some i) x = LoadF i
load None x = LoadG x

abbrev pub store : Option ℕ → ℕ → Instr
store (Some i) x = StoreF i
store None x = StoreG x

-- the code of an expression, where xs are the formals and the first instruction stands at place p
unfoldable mutual
  pub code : List ℕ → Exp → ℕ → List Instr
  code xs (LITERAL v) p = Push v ∷ []
  code xs (VAR x) p = load (place xs x) x ∷ []
  code xs (SET x e) p = code xs e p ++ (store (place xs x) x ∷ [])
  code xs (IF c a b) p =
      let test = code xs c p in
      let q = p + length test + 1 in
      let second = code xs a q in
      let r = q + length second + 1 in
      let third = code xs b r in
      test ++ (Jz r ∷ (second ++ (Jump (r + length third) ∷ third)))
  code xs (WHILE c b) p =
      let test = code xs c p in
      let q = p + length test + 1 in
      let body = code xs b q in
      test ++ (Jz (q + length body + 2) ∷ (body ++ (Pop ∷ Jump p ∷ Push (pos 0) ∷ [])))
  code xs (BEGIN es) p = sequence xs es p
  code xs (APPLY f es) p = Find f ∷ (arguments xs es (p + 1) ++ (Call f (count es) ∷ []))

  -- the parts of a BEGIN
  pub sequence : List ℕ → Exps → ℕ → List Instr
  sequence xs nil p = Push (pos 0) ∷ []
  sequence xs (cons e es) p =
      let first = code xs e p in
      first ++ rest xs es (p + length first)

  -- and those after its first
  pub rest : List ℕ → Exps → ℕ → List Instr
  rest xs nil p = []
  rest xs (cons e es) p =
      let next = code xs e (p + 1) in
      Pop ∷ (next ++ rest xs es (p + 1 + length next))

  pub arguments : List ℕ → Exps → ℕ → List Instr
  arguments xs nil p = []
  arguments xs (cons e es) p =
      let next = code xs e p in
      next ++ arguments xs es (p + length next)

-- the instructions of a definition
abbrev pub instrs : Definition → List Instr
instrs (VAL x e) = code [] e 0 ++ (Bind x ∷ [])
instrs (DEFINE f xs e) = code xs e 0 ++ (Ret ∷ [])

abbrev pub image_header : Definition → Header
image_header d = record { height = height (body d); kind = kind_of d; number = number d; formals = length (formals d) }

-- the image of a definition
abbrev pub image : Definition → List ℕ
image d = image_of (image_header d) (instrs d)
