-- The listing of the bytes of an image.
use Rattle.std.specs.Prelude.{◌≡◌, ℕ, ◌<◌, List, length, Ok, Err, Result, slice_index_or}
use Rattle.format.specs.declared.header.Header.{Header}
use Rattle.format.specs.declared.image.Image.{Image}
use Rattle.format.specs.declared.instr.Instr.{Instr}
use Rattle.format.specs.declared.instr.Instr.TheVariants.{Pop}
use Rattle.format.specs.Refusals.{told}
use Rattle.format.specs.Layout.{codes_in, operands_in}
use Rattle.format.specs.Headers.{HeaderAt}
use Rattle.format.specs.Images.{ImageSized, ImageHead, InstrAt, ImageRefused, ImageRead}
use Rattle.listing.specs.declared.Listing.{Listing}
use Rattle.listing.specs.declared.list.ListError.{ListError}
use Rattle.listing.specs.declared.list.ListError.TheVariants.{Refused, OutOfMemory}
use Rattle.listing.specs.Lists.{instrs_of, Lists}

-- these are the instructions of two parallel arrays
pub record Decodes (codes operands : List ℕ) (h : Header) (code : List Instr) : Type 0 where
  pub many : length code ≡ length codes
  pub each : (k : ℕ) → k < length codes → InstrAt codes operands h k (slice_index_or code k Pop)

-- the bytes are an image with this code
pub record ImageOf (bytes : List ℕ) (code : List Instr) : Type 0 where
  pub sized : ImageSized bytes
  pub head : ImageHead bytes
  pub h : Header
  pub header : HeaderAt bytes h
  pub decodes : Decodes (codes_in bytes) (operands_in bytes) h code

-- what `list` answers; memory is short only where the bytes are an image
abbrev pub Listed : List ℕ → Result Listing ListError → Type 0
Listed bytes (Ok l) = ImageOf bytes (instrs_of l) × Lists (instrs_of l) l
Listed bytes (Err (Refused e)) = ImageRefused bytes (told e)
Listed bytes (Err OutOfMemory) = (image : Image) × ImageRead bytes (Ok image)
