use Rattle.std.proofs.Common.{◌≡◌, ℕ, List, length, take, refl, ◌∙◌, length-take, arith, rules}
use Rattle.translator.specs.declared.table.Table.{Table}
use Rattle.translation.specs.Emission.{names}
use Rattle.translation.specs.Imaging.{HoldsSome, IsSource}
use Rattle.translation.proofs.Imaging.{formals_are, formals_to, body_ready, last_ready, code_done}
use Rattle.translation.proofs.image.write_code.Goals.{After-read}
use Rattle.translation.proofs.image.write_code.Goals as goal

-- the names have room in fifteen bytes
taken : (r : Table) → HoldsSome r → (names : List ℕ) → length names ≡ 15 → length (take r.header.formals names) ≡ r.header.formals
taken r h names fifteen =
    length-take r.header.formals names ∙ omega (arith, formals_are r h.d h.holds, h.holds.few, fifteen)

pub read-requires-clause-formals : goal.read-requires-clause-formals
read-requires-clause-formals c =
    let h = c.requires.holds in formals_to _ h.d h.holds _ refl _ (taken _ h _ refl)

source : (c : After-read) → IsSource c.args.table.now record { cells = c.args.table.now.cells; formals = c.read.result }
source c = record { same = refl; many = c.read.ensures.many ∙ taken _ c.requires.holds _ refl; named = c.read.ensures.named }

pub translate_expression-requires : goal.translate_expression-requires
translate_expression-requires c = body_ready (source (goal.at.translate_expression-requires c).After-read) refl refl refl c.requires.holds

pub emit-requires : goal.emit-requires
emit-requires c = last_ready (source (goal.at.emit-requires c).After-read) refl refl refl c.translate_expression.ensures c.requires.holds

pub returns : goal.returns
returns c =
    code_done (source (goal.at.returns c).After-read) refl refl refl c.translate_expression.ensures c.last_instr.ensures c.emit.ensures (search rules)
