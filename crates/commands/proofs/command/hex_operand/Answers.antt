use Rattle.std.proofs.Common.{◌≡◌, ℕ, ◌+◌, ◌-◌, ◌≤◌, List, length, Some, Ok, Err, MatchResult, Option, Result, Vec, Bor, sym, ap, subst, arith}
use Rattle.std.specs.declared.alloc.Global.{Global}
use Rattle.std.proofs.lemmas.Option.{MatchOption-at_some}
use Rattle.std.proofs.lemmas.Result.{MatchResult-weaker}
use Rattle.std.proofs.lemmas.Grind.{common_steps}
use Rattle.commands.specs.declared.hex.HexError.{HexError}
use Rattle.commands.specs.declared.hex.HexError.TheVariants.{NotDigit, OddDigits, OutOfMemory}
use Rattle.commands.specs.declared.command.Mistake.{Mistake}
use Rattle.commands.specs.Commands.{Operand}
use Rattle.commands.specs.Hex.{Decoded}
use Rattle.commands.specs.Lines.{NoBlank, Splits}
use Rattle.commands.proofs.command.hex_operand.Goals as goal

-- the mistake for an error in a text, which is the last m of the n characters of a line
abbrev mistake : ℕ → ℕ → HexError → Mistake
mistake n m (NotDigit i) = Mistake.NotDigit (n - m + i + 1)
mistake n m OddDigits = Mistake.OddDigits
mistake n m OutOfMemory = Mistake.OutOfMemory

answered : (n m : ℕ) (o : Option (Bor (List ℕ))) (text : Bor (List ℕ)) (r : Result (Vec ℕ Global) HexError) (s : Result (Vec ℕ Global) Mistake) → o ≡ Some text → m ≡ length text.now → m ≤ n → NoBlank text.now → Decoded text.now r → MatchResult r (λ v. s ≡ Ok v) (λ e. s ≡ Err (mistake n m e)) → Operand n o s
answered n m o text (Ok v) s is long fits none told same = rw same (text, is, told.0, told.1)
answered n m o text (Err (NotDigit i)) s is long fits none told same = rw same (text, i, is, none, told.0, told.1, told.2, omega arith)
answered n m o text (Err OddDigits) s is long fits none told same = rw same (text, is, told.1, told.0)
answered n m o text (Err OutOfMemory) s is long fits none told same = rw same (text, is, told)

pub returns : goal.returns
returns c =
    let parts = subst (Splits _ _) c.in_default.is c.split_word.ensures in
    let some : c.args.operands ≡ Some c.in_ok-text.text = grind arith in
    let fits = MatchOption-at_some _ _ _ some c.requires in
    answered _ (length c.split_word.result.0.now) _ c.in_ok-text.text c.decode.result _ some (ap length (sym parts.0)) (omega (arith, fits, ap length parts.0)) (rw parts.0 parts.1) (rw parts.0 c.decode.ensures) (MatchResult-weaker c.decode.result c.map_err.ensures.cases (λ x e. e) (λ e k. grind (arith, common_steps)))
