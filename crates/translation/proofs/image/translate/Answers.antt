use Rattle.std.proofs.Common.{Err, sym, refl, ap, ◌∙◌, subst, arith}
use Rattle.std.proofs.lemmas.Result.{err_from_is_err_and}
use Rattle.translation.specs.Outcome.{Translates}
use Rattle.translation.proofs.Coding.{laws}
use Rattle.translation.proofs.Outcomes.{holds_some, translated, too_short, refuses, translates}
use Rattle.translation.proofs.image.translate.Goals as goal

pub returns-in_err-table : goal.returns-in_err-table
returns-in_err-table c =
    let exit = err_from_is_err_and c.from_residual.result c.from_residual.ensures.1 in
    let is = exit.1 ∙ ap Err exit.2 in
    let why = c.in_err-table.ensures.verdict in
    let t = c.args.table.now in
    let out = c.args.out.now in
    record { translates = subst (Translates t out out) (sym is) (translates t out (refuses t out _ why.0 why.1)); lawful = laws }

pub returns-then-out-len : goal.returns-then-out-len
returns-then-out-len c = record { translates = translates _ _ (too_short _ _ c.in_ok-table.ensures.verdict _ _ refl (omega arith)); lawful = laws }

pub write_image-requires : goal.write_image-requires
write_image-requires c = record { holds = holds_some _ _ c.in_ok-table.ensures.verdict; room = omega arith }

pub returns : goal.returns
returns c =
    record { translates = translates _ _ (translated _ _ c.in_ok-table.ensures.verdict _ _ _ refl (omega arith) c.write_image.ensures); lawful = laws }
