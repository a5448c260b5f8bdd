-- What a command is answered.
use Rattle.std.specs.Prelude.{◌≡◌, vec_items}
use Rattle.language.specs.Tree.{Definition}
use Rattle.language.specs.Limits.{Within}
use Rattle.format.specs.Refusals.{told}
use Rattle.format.specs.Cells.{table_of}
use Rattle.translator.specs.Verdict.{Refused}
use Rattle.commands.specs.declared.command.Command.{Command}
use Rattle.commands.specs.declared.command.Command.TheVariants.{Table}
use Rattle.commands.specs.declared.answer.Answer.{Answer}
use Rattle.commands.specs.declared.answer.Answer.TheVariants.{Accepted, Refused as Told, Error}

abbrev pub Answers : Command → Answer → Type 0
Answers (Table bytes) Accepted = (d : Definition) × Within d × (vec_items bytes ≡ table_of d)
Answers (Table bytes) (Told e) = Refused (vec_items bytes) (told e)
Answers (Table bytes) (Error m) = ⊥
