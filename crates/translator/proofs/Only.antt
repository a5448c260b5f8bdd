-- A table has one answer only.
use Rattle.std.proofs.Common.{◌≡◌, ℕ, ◌+◌, ◌<◌, List, Ok, Err, Result, sym, refl, ap, ◌∙◌, subst, arith}
use Rattle.language.specs.Tree.{Definition, body, formals}
use Rattle.language.specs.Height.{height}
use Rattle.language.specs.Limits.{Distinct}
use Rattle.format.specs.declared.refusal.Refusal.{Refusal}
use Rattle.format.specs.declared.refusal.Refusal.TheVariants.{Cell}
use Rattle.format.specs.Refusals.{Told, told}
use Rattle.format.specs.Layout.{codes_in, operands_in}
use Rattle.format.specs.Cells.{header_of}
use Rattle.format.proofs.Headers.{only_first}
use Rattle.translator.specs.declared.table.Table.{Table}
use Rattle.translator.specs.Tables.{formals_in, FirstWrong, wrong, missing, IsTable}
use Rattle.translator.specs.Weight.{weight}
use Rattle.translator.specs.InCells.{cell_codes, cell_operands}
use Rattle.translator.specs.Verdict.{Refused, SIZE, HEAD, CELL, SHAPE, TWICE, NEST, Verdict, Only, Answered}
use Rattle.translator.proofs.Facts.{one_definition}
use Rattle.translator.proofs.Verdicts.{not_both}

module _ (codes operands : List ℕ) (n : ℕ) where
  not_later : (i j : ℕ) → FirstWrong codes operands n i → FirstWrong codes operands n j → i < j → ⊥
  not_later i j (wrong within before here) (wrong within' before' here') lt = here (before' _ lt)
  not_later i j (wrong within before here) (missing at_end before' few) lt = here (before' _ lt)
  not_later i j (missing at_end before few) (wrong within' before' here') lt = omega arith
  not_later i j (missing at_end before few) (missing at_end' before' few') lt = omega arith

module _ (t : List ℕ) where
  distinct_too : {c d : Definition} → IsTable t c → IsTable t d → Distinct (formals c) → Distinct (formals d)
  distinct_too x y h = subst (λ z. Distinct (formals z)) (one_definition x y) h

  pub one_refusal : {a b : Told} → Refused t a → Refused t b → a ≡ b
  one_refusal (SIZE z) (SIZE y) = refl
  one_refusal (SIZE z) (HEAD s y) = absurd (z s)
  one_refusal (SIZE z) (CELL s h w) = absurd (z s)
  one_refusal (SIZE z) (SHAPE p y) = absurd (z p.sized)
  one_refusal (SIZE z) (TWICE p x y) = absurd (z p.sized)
  one_refusal (SIZE z) (NEST p x u y) = absurd (z p.sized)
  one_refusal (HEAD s z) (SIZE y) = absurd (y s)
  one_refusal (HEAD s z) (HEAD s' y) = refl
  one_refusal (HEAD s z) (CELL s' h w) = absurd (z h)
  one_refusal (HEAD s z) (SHAPE p y) = absurd (z p.head)
  one_refusal (HEAD s z) (TWICE p x y) = absurd (z p.head)
  one_refusal (HEAD s z) (NEST p x u y) = absurd (z p.head)
  one_refusal (CELL s h w) (SIZE y) = absurd (y s)
  one_refusal (CELL s h w) (HEAD s' y) = absurd (y h)
  one_refusal (CELL s h w) (CELL s' h' v) = ap (λ k. told (Cell k)) (only_first (FirstWrong (codes_in t) (operands_in t) (formals_in t)) (not_later (codes_in t) (operands_in t) (formals_in t)) _ _ w v)
  one_refusal (CELL s h w) (SHAPE p y) = absurd (not_both w p.right)
  one_refusal (CELL s h w) (TWICE p x y) = absurd (not_both w p.right)
  one_refusal (CELL s h w) (NEST p x u y) = absurd (not_both w p.right)
  one_refusal (SHAPE p z) (SIZE y) = absurd (y p.sized)
  one_refusal (SHAPE p z) (HEAD s y) = absurd (y p.head)
  one_refusal (SHAPE p z) (CELL s h w) = absurd (not_both w p.right)
  one_refusal (SHAPE p z) (SHAPE p' y) = refl
  one_refusal (SHAPE p z) (TWICE p' x y) = absurd (z _ x)
  one_refusal (SHAPE p z) (NEST p' x u y) = absurd (z _ x)
  one_refusal (TWICE p x z) (SIZE y) = absurd (y p.sized)
  one_refusal (TWICE p x z) (HEAD s y) = absurd (y p.head)
  one_refusal (TWICE p x z) (CELL s h w) = absurd (not_both w p.right)
  one_refusal (TWICE p x z) (SHAPE p' y) = absurd (y _ x)
  one_refusal (TWICE p x z) (TWICE p' x' y) = refl
  one_refusal (TWICE p x z) (NEST p' x' u y) = absurd (z (distinct_too x' x u))
  one_refusal (NEST p x u z) (SIZE y) = absurd (y p.sized)
  one_refusal (NEST p x u z) (HEAD s y) = absurd (y p.head)
  one_refusal (NEST p x u z) (CELL s h w) = absurd (not_both w p.right)
  one_refusal (NEST p x u z) (SHAPE p' y) = absurd (y _ x)
  one_refusal (NEST p x u z) (TWICE p' x' y) = absurd (y (distinct_too x x' u))
  one_refusal (NEST p x u z) (NEST p' x' u' y) = refl

  one_answer : (r : Result Table Refusal) → Verdict t r → Only t r
  one_answer (Ok r) v (Ok s) w =
      let same : w.definition ≡ v.definition = v.only _ record { fits = w.within.fits; is = w.is } in
      let headers : s.header ≡ r.header = w.header ∙ ap header_of same ∙ sym v.header in
      let all_codes : cell_codes s.cells ≡ cell_codes r.cells = w.codes ∙ sym v.codes in
      let all_operands : cell_operands s.cells ≡ cell_operands r.cells = w.operands ∙ sym v.operands in
      let counts : s.count ≡ r.count = w.counted ∙ ap (λ d. weight (body d) + 1) same ∙ sym v.counted in
      let heights : s.height ≡ r.height = w.high ∙ ap (λ d. height (body d)) same ∙ sym v.high in
      λ i. Ok (record { header = headers i; codes = all_codes i; operands = all_operands i; count = counts i; height = heights i })
  one_answer (Ok r) v (Err e) w = absurd (w.1 v.definition v.within v.is)
  one_answer (Err e) v (Ok s) w = absurd (v.1 w.definition w.within w.is)
  one_answer (Err e) v (Err f) w = ap Err (one_refusal w.0 v.0)

  pub answered : (r : Result Table Refusal) → Verdict t r → Answered t r
  answered r v = record { verdict = v; only = one_answer r v }
