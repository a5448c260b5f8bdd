use Rattle.translation.proofs.Writing.{nothing}
use Rattle.translation.proofs.emit.Role.put_pop.Goals as goal

pub returns-in-Argument : goal.returns-in-Argument
returns-in-Argument c = rw c.in-Argument.is nothing
