use Rattle.std.proofs.Common.{◌≡◌, List, ℕ, Err, Result, refl, sym, subst, arith, rules}
use Rattle.format.specs.declared.image.Image.{Image}
use Rattle.format.specs.declared.refusal.Refusal.{Refusal}
use Rattle.format.specs.declared.refusal.Refusal.TheVariants.{Size, Head}
use Rattle.format.specs.Images.{SIZE, HEAD, ImageRead, ImageAnswered}
use Rattle.format.proofs.ImageTests.{few_codes, some_head, refuse_code, image_in}
use Rattle.format.proofs.OnlyImage.{answered}
use Rattle.format.proofs.image.Image.read.Goals as goal

refused : (bytes : List ℕ) (e : Refusal) (r : Result Image Refusal) → r ≡ Err e → ImageRead bytes (Err e) → ImageAnswered bytes r
refused bytes e r is read = subst (ImageAnswered bytes) (sym is) (answered bytes (Err e) read)

pub returns-in_err-instrs : goal.returns-in_err-instrs
returns-in_err-instrs c =
    let never = rw c.in_err-instrs.ensures.ok_part at c.cut_to.ensures in refused _ Size _ (search rules) (SIZE never)

pub returns-in_err-header : goal.returns-in_err-header
returns-in_err-header c =
    let rows = rw c.in_ok-instrs.ensures.ok_part at c.cut_to.ensures in
    let none = rw c.in_err-header.ensures.ok_part at c.read.ensures in
    refused _ Head _ (search rules) (HEAD rows.sized (λ h. none rows.sized.whole.headed h.headed))

pub returns-then-header-eq0 : goal.returns-then-header-eq0
returns-then-header-eq0 c =
    let rows = rw c.in_ok-instrs.ensures.ok_part at c.cut_to.ensures in
    let at = rw c.in_ok-header.ensures.ok_part at c.read.ensures in
    answered _ _ (HEAD rows.sized (λ h. omega (arith, at.height, h.some, h.low, c.then-header-eq0.either)))

pub invariant_of-image : goal.invariant_of-image
invariant_of-image c =
    let rows = rw c.in_ok-instrs.ensures.ok_part at c.cut_to.ensures in
    let at = rw c.in_ok-header.ensures.ok_part at c.read.ensures in
    record { few = few_codes _ _ _ rows.cut rows.sized }

pub returns-in-Some : goal.returns-in-Some
returns-in-Some c =
    let rows = rw c.in_ok-instrs.ensures.ok_part at c.cut_to.ensures in
    let at = rw c.in_ok-header.ensures.ok_part at c.read.ensures in
    answered _ _ (refuse_code _ _ _ rows.cut _ at rows.sized (some_head _ _ _ rows.cut _ at (omega arith) (omega arith)) c.in-Some.ensures)

pub returns-in-None : goal.returns-in-None
returns-in-None c =
    let rows = rw c.in_ok-instrs.ensures.ok_part at c.cut_to.ensures in
    let at = rw c.in_ok-header.ensures.ok_part at c.read.ensures in
    answered _ _ (image_in _ _ _ rows.cut _ at rows.sized (some_head _ _ _ rows.cut _ at (omega arith) (omega arith)) _ refl refl refl c.in-None.ensures)
