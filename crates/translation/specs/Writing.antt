-- Instructions as they are written into the memory of an image.
use Rattle.std.specs.Prelude.{◌≡◌, ℕ, ◌+◌, ◌*◌, List, [], ◌∷◌, map, length}
use Rattle.std.proofs.lemmas.List.Edits.{sets}
use Rattle.format.specs.declared.instr.Instr.{Instr}
use Rattle.format.specs.Layout.{operand_bytes}
use Rattle.format.specs.Instrs.{code as code_of, operand}
use Rattle.translation.specs.declared.writer.Writer.{Writer}

-- the memory of an image of n instructions, with these from place p on
unfoldable pub written : ℕ → List ℕ → ℕ → List Instr → List ℕ
written n out p is = sets (sets out (8 + p) (map code_of is)) (8 + n + 4 * p) (operand_bytes (map operand is))

-- the same reference to bytes, for an image of as many instructions
pub record Kept (w w' : Writer) : Type 0 where
  pub same_bytes : w'.bytes.ghost_name ≡ w.bytes.ghost_name
  pub same_count : w'.count ≡ w.count

-- these instructions were written from place p on
pub record Wrote (w w' : Writer) (p : ℕ) (is : List Instr) : Type 0 where
  pub kept : Kept w w'
  pub bytes_are : w'.bytes.now ≡ written w.count w.bytes.now p is

-- k cells were read, and these instructions written
pub record Emitted (w w' : Writer) (k : ℕ) (is : List Instr) : Type 0 where
  pub next_is : w'.next ≡ w.next + k
  pub end_is : w'.«end» ≡ w.«end» + length is
  pub wrote : Wrote w w' w.«end» is

-- k cells and the places of j instructions were passed, and nothing written
pub record Passed (w w' : Writer) (k j : ℕ) : Type 0 where
  pub kept : Kept w w'
  pub bytes_are : w'.bytes.now ≡ w.bytes.now
  pub next_is : w'.next ≡ w.next + k
  pub end_is : w'.«end» ≡ w.«end» + j

-- this instruction was written, and nothing passed
pub record Put (w w' : Writer) (p : ℕ) (x : Instr) : Type 0 where
  pub next_is : w'.next ≡ w.next
  pub end_is : w'.«end» ≡ w.«end»
  pub wrote : Wrote w w' p (x ∷ [])
