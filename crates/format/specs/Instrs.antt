-- An instruction's name, its code and operand, and where it may stand.
use Rattle.std.specs.Prelude.{◌≡◌, ℕ, ◌+◌, ◌*◌, ◌<◌, List, map, ℤ, pos, codes}
use Rattle.language.specs.Limits.{IsValue, IsName}
use Rattle.format.specs.declared.header.Header.{Header}
use Rattle.format.specs.declared.header.Kind.TheVariants.{Function, Variable}
use Rattle.format.specs.declared.instr.Instr.{Instr}
use Rattle.format.specs.declared.instr.Instr.TheVariants.{Push, LoadF, LoadG, StoreF, StoreG, Pop, Jump, Jz, Find, Call, Ret, Bind}
use Rattle.format.specs.Layout.{layout}

abbrev pub name : Instr → List ℕ
name (Push v) = codes "PUSH"
name (LoadF i) = codes "LOADF"
name (LoadG x) = codes "LOADG"
name (StoreF i) = codes "STOREF"
name (StoreG x) = codes "STOREG"
name Pop = codes "POP"
name (Jump t) = codes "JUMP"
name (Jz t) = codes "JZ"
name (Find f) = codes "FIND"
name (Call f k) = codes "CALL"
name Ret = codes "RET"
name (Bind x) = codes "BIND"

abbrev pub code : Instr → ℕ
code (Push v) = 0
code (LoadF i) = 1
code (LoadG x) = 2
code (StoreF i) = 3
code (StoreG x) = 4
code Pop = 5
code (Jump t) = 6
code (Jz t) = 7
code (Find f) = 8
code (Call f k) = 9
code Ret = 10
code (Bind x) = 11

abbrev pub operand : Instr → ℤ
operand (Push v) = v
operand (LoadF i) = pos i
operand (LoadG x) = pos x
operand (StoreF i) = pos i
operand (StoreG x) = pos x
operand Pop = pos 0
operand (Jump t) = pos t
operand (Jz t) = pos t
operand (Find f) = pos f
operand (Call f k) = pos (16 * f + k)
operand Ret = pos 0
operand (Bind x) = pos x

-- the bytes of an image: its header and its instructions
abbrev pub image_of : Header → List Instr → List ℕ
image_of h is = layout h (map code is) (map operand is)

-- an instruction that may stand in an image with this header and n instructions
abbrev pub Belongs : Header → ℕ → Instr → Type 0
Belongs h n (Push v) = IsValue v
Belongs h n (LoadF i) = i < h.formals
Belongs h n (LoadG x) = IsName x
Belongs h n (StoreF i) = i < h.formals
Belongs h n (StoreG x) = IsName x
Belongs h n Pop = Unit {0}
Belongs h n (Jump t) = t < n
Belongs h n (Jz t) = t < n
Belongs h n (Find f) = IsName f
Belongs h n (Call f k) = IsName f × (k < 16)
Belongs h n Ret = h.kind ≡ Function
Belongs h n (Bind x) = (h.kind ≡ Variable) × (x ≡ h.number)

-- an instruction with this code and operand that may stand there
pub record IsInstr (h : Header) (n b : ℕ) (v : ℤ) (x : Instr) : Type 0 where
  pub belongs : Belongs h n x
  pub code_is : b ≡ code x
  pub operand_is : v ≡ operand x

abbrev pub NoInstr : Header → ℕ → ℕ → ℤ → Type 0
NoInstr h n b v = (x : Instr) → IsInstr h n b v x → ⊥
