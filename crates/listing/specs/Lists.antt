-- What a listing holds.
use Rattle.std.specs.Prelude.{◌≡◌, ℕ, ◌+◌, ◌<◌, List, length, vec_items, Option}
use Rattle.format.specs.declared.instr.Instr.{Instr}
use Rattle.format.specs.Heights.{needs, leaves, GoesTo, At, Reaches}
use Rattle.listing.specs.declared.Listing.{Listing}
use Rattle.listing.specs.Lines.{instrs_in, heights_in}
use Rattle.listing.specs.Passes.{Tells}

abbrev pub instrs_of : Listing → List Instr
instrs_of l = instrs_in (vec_items l.lines)

abbrev pub heights_of : Listing → List (Option ℕ)
heights_of l = heights_in (vec_items l.lines)

-- each known height is one with which control reaches that place
abbrev pub Sound : List Instr → List (Option ℕ) → Type 0
Sound code heights = (p h : ℕ) → Tells heights p h → Reaches code p h

-- control reaches each place with one height only
abbrev pub Level : List Instr → Type 0
Level code = (p g h : ℕ) → Reaches code p g → Reaches code p h → g ≡ h

-- control reaches a place by steps to later places, with heights below 65,536
pub data Forward (code : List Instr) : ℕ → ℕ → Type 0 where
  start : Forward code 0 0
  step : {p q : ℕ} {i : Instr} (h : ℕ) → Forward code p (needs i + h) → At code p i → GoesTo i p q → p < q → leaves i + h < 65536 → Forward code q (leaves i + h)

-- of level code each such height is known
abbrev pub Complete : List Instr → List (Option ℕ) → Type 0
Complete code heights = Level code → (p h : ℕ) → p < length code → Forward code p h → Tells heights p h

-- a listing of this code
pub record Lists (code : List Instr) (l : Listing) : Type 0 where
  pub instrs_are : instrs_of l ≡ code
  pub one_each : length (heights_of l) ≡ length code
  pub sound : Sound code (heights_of l)
  pub complete : Complete code (heights_of l)
