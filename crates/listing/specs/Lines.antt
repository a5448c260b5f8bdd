-- The lines of a listing.
use Rattle.std.specs.Prelude.{ℕ, List, map, Option}
use Rattle.format.specs.declared.instr.Instr.{Instr}
use Rattle.listing.specs.declared.Line.{Line}

abbrev pub instrs_in : List Line → List Instr
instrs_in lines = map (λ (l : Line). l.instr) lines

abbrev pub heights_in : List Line → List (Option ℕ)
heights_in lines = map (λ (l : Line). l.height) lines
