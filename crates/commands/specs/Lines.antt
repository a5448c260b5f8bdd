-- The text of a line, and its words.
use Rattle.std.specs.Prelude.{◌≡◌, ℕ, ◌<◌, ◌⊎◌, List, [], ◌∷◌, ◌++◌, length, Some, None, Option, ◌≢◌, slice_index}
use Rattle.std.specs.Borrow.{Bor}

abbrev pub EndsIn : ℕ → List ℕ → Type 0
EndsIn b bytes = (front : List ℕ) × (bytes ≡ front ++ (b ∷ []))

-- a line ends in 13 and 10, in 10 alone, or at the end of the input
abbrev pub HasText : List ℕ → List ℕ → Type 0
HasText line text = (line ≡ text ++ (13 ∷ 10 ∷ [])) ⊎ (((line ≡ text ++ (10 ∷ [])) × (EndsIn 13 text → ⊥)) ⊎ ((line ≡ text) × (EndsIn 10 line → ⊥)))

abbrev pub NoBlank : List ℕ → Type 0
NoBlank word = (k : ℕ) → k < length word → slice_index word k ≢ 32

-- a text is its first word, or that, a blank and the rest
abbrev pub Splits : List ℕ → List ℕ → Option (Bor (List ℕ)) → Type 0
Splits text word None = (text ≡ word) × NoBlank word
Splits text word (Some rest) = (text ≡ word ++ (32 ∷ rest.now)) × NoBlank word
