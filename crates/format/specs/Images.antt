-- What makes bytes an image, and what reading one answers.
use Rattle.std.specs.Prelude.{◌≡◌, ℕ, ◌*◌, ◌<◌, ◌≤◌, List, length, take, drop, Ok, Err, Result, slice_index}
use Rattle.format.specs.declared.header.Header.{Header}
use Rattle.format.specs.declared.image.Image.{Image}
use Rattle.format.specs.declared.instr.Instr.{Instr}
use Rattle.format.specs.declared.refusal.Refusal.{Refusal}
use Rattle.format.specs.declared.refusal.Refusal.TheVariants.{Size, Head, Code}
use Rattle.format.specs.Refusals.{Told, told}
use Rattle.format.specs.Layout.{bytes4, u16_at, codes_in, operands_in}
use Rattle.format.specs.Headers.{Headed, HeaderAt}
use Rattle.format.specs.Rows.{codes_of, operands_of, SizedTo}
use Rattle.format.specs.Instrs.{code, operand, Belongs}

-- 1 to 6,144 instructions, and as many bytes as they take
abbrev pub ImageSized : List ℕ → Type 0
ImageSized bytes = SizedTo 6144 bytes

-- a header of a height from 1 to 2,048
pub record ImageHead (bytes : List ℕ) : Type 0 where
  pub some : 0 < u16_at bytes 2
  pub low : u16_at bytes 2 ≤ 2048
  pub headed : Headed bytes

-- instruction i of two parallel arrays, in an image with this header; an image has at most 6,144 instructions
pub record InstrAt (codes operands : List ℕ) (h : Header) (i : ℕ) (x : Instr) : Type 0 where
  pub few : length codes ≤ 6144
  pub within : i < length codes
  pub belongs : Belongs h (length codes) x
  pub code_is : slice_index codes i ≡ code x
  pub operand_is : take 4 (drop (4 * i) operands) ≡ bytes4 (operand x)

abbrev pub NoInstrAt : List ℕ → List ℕ → Header → ℕ → Type 0
NoInstrAt codes operands h i = (x : Instr) → InstrAt codes operands h i x → ⊥

pub record HasInstr (codes operands : List ℕ) (h : Header) (i : ℕ) : Type 0 where
  pub instr : Instr
  pub here : InstrAt codes operands h i instr

abbrev pub AllInstrs : List ℕ → List ℕ → Header → Type 0
AllInstrs codes operands h = (k : ℕ) → k < length codes → HasInstr codes operands h k

-- the first row that is no instruction
pub record FirstNoInstr (codes operands : List ℕ) (h : Header) (i : ℕ) : Type 0 where
  pub within : i < length codes
  pub before : (k : ℕ) → k < i → HasInstr codes operands h k
  pub wrong : NoInstrAt codes operands h i

-- Why bytes are no image. The tests are in this order, and each presumes that those before it were passed.
pub data ImageRefused (bytes : List ℕ) : Told → Type 0 where
  SIZE : (ImageSized bytes → ⊥) → ImageRefused bytes (told Size)
  HEAD : ImageSized bytes → (ImageHead bytes → ⊥) → ImageRefused bytes (told Head)
  CODE : {h : Header} → {i : ℕ} → ImageSized bytes → ImageHead bytes → HeaderAt bytes h → FirstNoInstr (codes_in bytes) (operands_in bytes) h i → ImageRefused bytes (told (Code i))

-- the two arrays of an image
abbrev pub codes_of_image : Image → List ℕ
codes_of_image r = codes_of r.instrs

abbrev pub operands_of_image : Image → List ℕ
operands_of_image r = operands_of r.instrs

-- instruction i of an image
abbrev pub InstrIn : Image → ℕ → Instr → Type 0
InstrIn r i x = InstrAt (codes_of_image r) (operands_of_image r) r.header i x

abbrev pub NoInstrIn : Image → ℕ → Type 0
NoInstrIn r i = NoInstrAt (codes_of_image r) (operands_of_image r) r.header i

abbrev pub EachInstr : Image → Type 0
EachInstr r = AllInstrs (codes_of_image r) (operands_of_image r) r.header

abbrev pub FirstWrong : Image → ℕ → Type 0
FirstWrong r i = FirstNoInstr (codes_of_image r) (operands_of_image r) r.header i

-- the image that the bytes are
pub record ImageIn (bytes : List ℕ) (r : Image) : Type 0 where
  pub sized : ImageSized bytes
  pub head : ImageHead bytes
  pub header : HeaderAt bytes r.header
  pub codes : codes_of_image r ≡ codes_in bytes
  pub operands : operands_of_image r ≡ operands_in bytes
  pub each : AllInstrs (codes_in bytes) (operands_in bytes) r.header

-- what reading answers
abbrev pub ImageRead : List ℕ → Result Image Refusal → Type 0
ImageRead bytes (Ok r) = ImageIn bytes r
ImageRead bytes (Err e) = ImageRefused bytes (told e)

-- what an answer tells
abbrev pub answer : Result Image Refusal → Result Header Told
answer (Ok r) = Ok r.header
answer (Err e) = Err (told e)

-- and no other answer is right
pub record ImageAnswered (bytes : List ℕ) (r : Result Image Refusal) : Type 0 where
  pub read : ImageRead bytes r
  pub only : (s : Result Image Refusal) → ImageRead bytes s → answer s ≡ answer r
