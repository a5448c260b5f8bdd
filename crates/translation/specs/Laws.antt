-- What is true of the code of every expression.
use Rattle.std.specs.Prelude.{◌≡◌, ℕ, ◌+◌, ◌≤◌, List, [], ◌∷◌, map, length}
use Rattle.language.specs.Tree.{Exp}
use Rattle.format.specs.declared.instr.Instr.{Instr}
use Rattle.format.specs.declared.instr.Instr.TheVariants.{Push, LoadF, LoadG, StoreF, StoreG, Pop, Jump, Jz, Find, Call, Ret, Bind}
use Rattle.translation.specs.Translation.{code}

-- an instruction with its jump going k places further
abbrev pub moved : ℕ → Instr → Instr
moved k (Push v) = Push v
moved k (LoadF i) = LoadF i
moved k (LoadG x) = LoadG x
moved k (StoreF i) = StoreF i
moved k (StoreG x) = StoreG x
moved k Pop = Pop
moved k (Jump t) = Jump (k + t)
moved k (Jz t) = Jz (k + t)
moved k (Find f) = Find f
moved k (Call f n) = Call f n
moved k Ret = Ret
moved k (Bind x) = Bind x

-- the code depends on its place through its jumps only, and they move with it
abbrev pub Relocates : Type 0
Relocates = (xs : List ℕ) (e : Exp) (k p : ℕ) → code xs e (k + p) ≡ map (moved k) (code xs e p)

-- where an instruction may jump to
abbrev pub JumpsIn : ℕ → ℕ → Instr → Type 0
JumpsIn low high (Push v) = Unit {0}
JumpsIn low high (LoadF i) = Unit {0}
JumpsIn low high (LoadG x) = Unit {0}
JumpsIn low high (StoreF i) = Unit {0}
JumpsIn low high (StoreG x) = Unit {0}
JumpsIn low high Pop = Unit {0}
JumpsIn low high (Jump t) = (low ≤ t) × (t ≤ high)
JumpsIn low high (Jz t) = (low ≤ t) × (t ≤ high)
JumpsIn low high (Find f) = Unit {0}
JumpsIn low high (Call f n) = Unit {0}
JumpsIn low high Ret = Unit {0}
JumpsIn low high (Bind x) = Unit {0}

abbrev pub AllJumpIn : ℕ → ℕ → List Instr → Type 0
AllJumpIn low high [] = Unit {0}
AllJumpIn low high (x ∷ is) = JumpsIn low high x × AllJumpIn low high is

-- no jump leaves the code, but to the place right after it
abbrev pub Encloses : Type 0
Encloses = (xs : List ℕ) (e : Exp) (p : ℕ) → AllJumpIn p (p + length (code xs e p)) (code xs e p)

pub record Laws : Type 0 where
  pub relocates : Relocates
  pub encloses : Encloses
