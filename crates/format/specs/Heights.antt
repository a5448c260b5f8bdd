-- The heights of the operand stack with which control reaches each place of stack code.
use Rattle.std.specs.Prelude.{◌≡◌, ℕ, ◌+◌, ◌<◌, ◌⊎◌, List, length, slice_index_or}
use Rattle.format.specs.declared.instr.Instr.{Instr}
use Rattle.format.specs.declared.instr.Instr.TheVariants.{Push, LoadF, LoadG, StoreF, StoreG, Pop, Jump, Jz, Find, Call, Ret, Bind}

-- how many values an instruction takes off the stack
abbrev pub needs : Instr → ℕ
needs (Push v) = 0
needs (LoadF i) = 0
needs (LoadG x) = 0
needs (StoreF i) = 1
needs (StoreG x) = 1
needs Pop = 1
needs (Jump t) = 0
needs (Jz t) = 1
needs (Find f) = 0
needs (Call f k) = k
needs Ret = 1
needs (Bind x) = 1

-- how many values it then puts there
abbrev pub leaves : Instr → ℕ
leaves (Push v) = 1
leaves (LoadF i) = 1
leaves (LoadG x) = 1
leaves (StoreF i) = 1
leaves (StoreG x) = 1
leaves Pop = 0
leaves (Jump t) = 0
leaves (Jz t) = 0
leaves (Find f) = 0
leaves (Call f k) = 1
leaves Ret = 0
leaves (Bind x) = 0

-- control goes from an instruction at p to q; from RET and BIND it goes nowhere
abbrev pub GoesTo : Instr → ℕ → ℕ → Type 0
GoesTo (Push v) p q = q ≡ p + 1
GoesTo (LoadF i) p q = q ≡ p + 1
GoesTo (LoadG x) p q = q ≡ p + 1
GoesTo (StoreF i) p q = q ≡ p + 1
GoesTo (StoreG x) p q = q ≡ p + 1
GoesTo Pop p q = q ≡ p + 1
GoesTo (Jump t) p q = q ≡ t
GoesTo (Jz t) p q = (q ≡ t) ⊎ (q ≡ p + 1)
GoesTo (Find f) p q = q ≡ p + 1
GoesTo (Call f k) p q = q ≡ p + 1
GoesTo Ret p q = ⊥
GoesTo (Bind x) p q = ⊥

-- instruction i stands at p
pub record At (code : List Instr) (p : ℕ) (i : Instr) : Type 0 where
  pub within : p < length code
  pub is : slice_index_or code p i ≡ i

-- control reaches a place with so many values on the stack
pub data Reaches (code : List Instr) : ℕ → ℕ → Type 0 where
  start : Reaches code 0 0
  step : {p q : ℕ} {i : Instr} (h : ℕ) → Reaches code p (needs i + h) → At code p i → GoesTo i p q → Reaches code q (leaves i + h)
