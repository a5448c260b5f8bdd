-- What the parts of the pass over the code do.
use Rattle.std.specs.Prelude.{◌≡◌, ℕ, ◌+◌, ◌<◌, ◌⊎◌, List, length, Some, None, Option, slice_index_or}
use Rattle.format.specs.declared.instr.Instr.{Instr}
use Rattle.format.specs.Heights.{needs, leaves, GoesTo}
use Rattle.listing.specs.declared.Line.{Line}
use Rattle.listing.specs.Lines.{instrs_in, heights_in}

-- the height at k is known, and is h
abbrev pub Tells : List (Option ℕ) → ℕ → ℕ → Type 0
Tells heights k h = slice_index_or heights k None ≡ Some h

-- no line tells a height
abbrev pub Unknown : List Line → Type 0
Unknown lines = (k h : ℕ) → Tells (heights_in lines) k h → ⊥

-- the height before an instruction and the height after it
pub record After (i : Instr) (height after : ℕ) : Type 0 where
  pub rest : ℕ
  pub before_is : height ≡ needs i + rest
  pub after_is : after ≡ leaves i + rest

-- no height below 65,536 comes after it
abbrev pub NoneAfter : Instr → ℕ → Type 0
NoneAfter i height = (after : ℕ) → after < 65536 → After i height after → ⊥

-- The heights become known that are new by this, at places that had none, and no others.
pub record Adds (New : ℕ → ℕ → Type 0) (before after : List (Option ℕ)) : Type 0 where
  pub kept : (k h : ℕ) → Tells before k h → Tells after k h
  pub only : (k h : ℕ) → Tells after k h → Tells before k h ⊎ New k h
  pub known : (k h : ℕ) → New k h → k < length before → (g : ℕ) × Tells after k g

-- the same of lines, whose instructions stay
pub record Notes (New : ℕ → ℕ → Type 0) (before after : List Line) : Type 0 where
  pub instrs : instrs_in after ≡ instrs_in before
  pub heights : Adds New (heights_in before) (heights_in after)

-- this height, at this place
abbrev pub Here : ℕ → ℕ → ℕ → ℕ → Type 0
Here place height k h = (k ≡ place) × (h ≡ height)

-- this height, at each place where control goes from instruction i at p
abbrev pub Onward : Instr → ℕ → ℕ → ℕ → ℕ → Type 0
Onward i p height k h = GoesTo i p k × (h ≡ height)

-- the height after instruction i at p, at each place where control goes from it
pub record Stepped (heights : List (Option ℕ)) (i : Instr) (p k h : ℕ) : Type 0 where
  pub height : ℕ
  pub told : Tells heights p height
  pub after : After i height h
  pub small : h < 65536
  pub goes : GoesTo i p k
