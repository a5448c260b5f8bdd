-- A line's end, and the blank between two words.
use Rattle.std.proofs.Common.{◌≡◌, ℕ, ◌+◌, List, [], ◌∷◌, ◌++◌, length, Some, None, Option, unwrap_or, ap, ◌∙◌, inl, inr, append_assoc, arith, Bor, MatchOption}
use Rattle.std.proofs.lemmas.List.{length-append}
use Rattle.commands.specs.Lines.{HasText}

pub ended : (line : List ℕ) (text : Bor (List ℕ)) (r : Option (Bor (List ℕ))) → line ≡ text.now ++ (10 ∷ []) → MatchOption r ((front : List ℕ) → text.now ≡ front ++ (13 ∷ []) → ⊥) (λ x. text.now ≡ x.now ++ (13 ∷ [])) → HasText line (unwrap_or r text).now
ended line text None e none = inr (inl (e, λ p. none p.0 p.1))
ended line text (Some x) e cut = inl (e ∙ ap (λ (l : List ℕ). l ++ (10 ∷ [])) cut ∙ append_assoc x.now (13 ∷ []) (10 ∷ []))

pub length_cut : (text word rest : List ℕ) → text ≡ word ++ (32 ∷ rest) → length text ≡ length word + length rest + 1
length_cut text word rest e = omega (arith, ap length e, length-append word (32 ∷ rest))
