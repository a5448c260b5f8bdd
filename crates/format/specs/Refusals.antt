-- What each refusal tells: its number, its word and, for CELL and CODE, an index.
use Rattle.std.specs.Prelude.{ℕ, List, [], ◌++◌, Some, None, codes, decimal, Option}
use Rattle.format.specs.declared.refusal.Refusal.{Refusal}
use Rattle.format.specs.declared.refusal.Refusal.TheVariants.{Size, Head, Cell, Shape, Twice, Nest, Short, Kind, Code, Height, Busy, Full, Idle, Limit}

pub record Told : Type 0 where
  pub number : ℕ
  pub word : List ℕ
  pub index : Option ℕ

abbrev pub told : Refusal → Told
told Size = record { number = 1; word = codes "SIZE"; index = None }
told Head = record { number = 2; word = codes "HEAD"; index = None }
told (Cell i) = record { number = 3; word = codes "CELL"; index = Some i }
told Shape = record { number = 4; word = codes "SHAPE"; index = None }
told Twice = record { number = 5; word = codes "TWICE"; index = None }
told Nest = record { number = 6; word = codes "NEST"; index = None }
told Short = record { number = 7; word = codes "SHORT"; index = None }
told Kind = record { number = 8; word = codes "KIND"; index = None }
told (Code i) = record { number = 9; word = codes "CODE"; index = Some i }
told Height = record { number = 10; word = codes "HEIGHT"; index = None }
told Busy = record { number = 11; word = codes "BUSY"; index = None }
told Full = record { number = 12; word = codes "FULL"; index = None }
told Idle = record { number = 13; word = codes "IDLE"; index = None }
told Limit = record { number = 14; word = codes "LIMIT"; index = None }

abbrev pub index_text : Option ℕ → List ℕ
index_text None = []
index_text (Some i) = codes " " ++ decimal i

-- the number, the word and, where there is one, the index
abbrev pub refusal_text : Refusal → List ℕ
refusal_text r = decimal (told r).number ++ (codes " " ++ ((told r).word ++ index_text (told r).index))
