-- The text of each answer.
use Rattle.std.specs.Prelude.{ℕ, List, ◌++◌, codes, decimal}
use Rattle.format.specs.Refusals.{refusal_text}
use Rattle.commands.specs.declared.answer.Answer.{Answer}
use Rattle.commands.specs.declared.answer.Answer.TheVariants.{Accepted, Refused, Error}
use Rattle.commands.specs.declared.command.Mistake.{Mistake}
use Rattle.commands.specs.declared.command.Mistake.TheVariants.{UnknownCommand, MissingWord, SurplusWord, NotDigit, OddDigits, OutOfMemory}

abbrev pub mistake_text : Mistake → List ℕ
mistake_text UnknownCommand = codes "unknown command; the commands are: table HEX"
mistake_text MissingWord = codes "missing word: the command, one blank, then hexadecimal digits"
mistake_text (SurplusWord column) = codes "one word too many after the blank at column " ++ decimal column
mistake_text (NotDigit column) = codes "no hexadecimal digit (0-9, a-f) at column " ++ decimal column
mistake_text OddDigits = codes "odd number of hexadecimal digits: each byte has two"
mistake_text OutOfMemory = codes "out of memory"

abbrev pub answer_text : Answer → List ℕ
answer_text Accepted = codes "accepted"
answer_text (Refused refusal) = codes "refused " ++ refusal_text refusal
answer_text (Error mistake) = codes "error " ++ mistake_text mistake
