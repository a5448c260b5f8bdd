use Rattle.std.proofs.Common.{◌≡◌, arith, rules}
use Rattle.std.proofs.lemmas.Grind.{common_steps}
use Rattle.std.proofs.lemmas.Result.{err_from_is_err_and}
use Rattle.commands.specs.Commands.{IsName, written}
use Rattle.commands.specs.declared.command.Command.TheVariants.{Table}
use Rattle.commands.specs.declared.command.Mistake.TheVariants.{UnknownCommand}
use Rattle.commands.proofs.Parsing.{cause, only_memory, same_table, unknown}
use Rattle.commands.proofs.command.parse.Goals as goal

pub returns-in_err-bytes : goal.returns-in_err-bytes
returns-in_err-bytes c =
    let exit = err_from_is_err_and c.from_residual.result c.from_residual.ensures.1 in
    let name : IsName c.split_word.result.0.now = search rules in
    let why = cause c.args.line.now _ _ _ name c.split_word.ensures c.in_err-bytes.ensures in
    record {
      reads = rw (exit.1, exit.2) why;
      complete = rw (exit.1, exit.2) (only_memory _ _ why);
      silent = grind (arith, common_steps);
    }

pub returns-then-eq-clause-complete : goal.returns-then-eq-clause-complete
returns-then-eq-clause-complete c =
    let here : c.args.line.now ≡ written (Table c.in_ok-bytes.bytes) = search rules in
    same_table c.args.line.now c.in_ok-bytes.bytes here c.in_ok-bytes.ensures.3

pub returns : goal.returns
returns c =
    let other : IsName c.split_word.result.0.now → ⊥ = grind (arith, common_steps) in
    let why = unknown c.args.line.now _ _ c.split_word.ensures other in
    record { reads = why; complete = only_memory _ UnknownCommand why; silent = grind (arith, common_steps) }
