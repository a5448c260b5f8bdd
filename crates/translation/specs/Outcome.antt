-- What `translate` answers, and what it leaves in the output memory.
use Rattle.std.specs.Prelude.{◌≡◌, ℕ, ◌*◌, ◌<◌, ◌≤◌, List, ◌++◌, length, drop, Ok, Err, Result}
use Rattle.language.specs.Tree.{Definition, body}
use Rattle.language.specs.Height.{height}
use Rattle.language.specs.Limits.{Within}
use Rattle.format.specs.declared.refusal.Refusal.{Refusal}
use Rattle.format.specs.declared.refusal.Refusal.TheVariants.{Short}
use Rattle.format.specs.Refusals.{Told, told}
use Rattle.format.specs.Cells.{cells, table_of}
use Rattle.translator.specs.Verdict.{Refused, NoTable}
use Rattle.translation.specs.Translation.{instrs, image}

-- N, H and M of a translation: at most three instructions for each cell, and as many, and as high, as a header takes
pub record Sizes (d : Definition) : Type 0 where
  pub three : length (instrs d) ≤ 3 * length (cells d)
  pub some : 0 < length (instrs d)
  pub few : length (instrs d) ≤ 6144
  pub high : 0 < height (body d)
  pub low : height (body d) ≤ 2048

-- the bytes are the table of a definition, and the front of the memory is now that definition's image
pub record Translated (t out out' : List ℕ) (len : ℕ) : Type 0 where
  pub definition : Definition
  pub within : Within definition
  pub is : t ≡ table_of definition
  pub long : len ≡ length (image definition)
  pub fits : len ≤ length out
  pub after : out' ≡ image definition ++ drop len out
  pub sizes : Sizes definition

-- why there is no image: a table that is refused, or too little memory
pub data Cause (t out : List ℕ) : Told → Type 0 where
  TABLE : {why : Told} → Refused t why → NoTable t → Cause t out why
  SHORT : {d : Definition} → Within d → t ≡ table_of d → length out < length (image d) → Cause t out (told Short)

pub record Refuses (t out out' : List ℕ) (e : Refusal) : Type 0 where
  pub cause : Cause t out (told e)
  pub same : out' ≡ out

abbrev pub Outcome : List ℕ → List ℕ → List ℕ → Result ℕ Refusal → Type 0
Outcome t out out' (Ok len) = Translated t out out' len
Outcome t out out' (Err e) = Refuses t out out' e

-- what an answer tells
abbrev pub answer : Result ℕ Refusal → Result ℕ Told
answer (Ok len) = Ok len
answer (Err e) = Err (told e)

-- no other answer is right, and nothing else may stand in the memory
pub record Sole (t out out' : List ℕ) (r : Result ℕ Refusal) : Type 0 where
  pub same_answer : (s : Result ℕ Refusal) (u : List ℕ) → Outcome t out u s → answer s ≡ answer r
  pub same_memory : (s : Result ℕ Refusal) (u : List ℕ) → Outcome t out u s → u ≡ out'

pub record Translates (t out out' : List ℕ) (r : Result ℕ Refusal) : Type 0 where
  pub outcome : Outcome t out out' r
  pub sole : Sole t out out' r
