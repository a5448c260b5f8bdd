use Rattle.std.proofs.Common.{[], ◌∷◌}
use Rattle.std.proofs.lemmas.Slice.Eq.{strip_suffix_is}
use Rattle.std.proofs.lemmas.Option.{MatchOption-at_some}
use Rattle.commands.proofs.Splitting.{ended}
use Rattle.commands.proofs.line.without_end.Goals as goal
use Rattle.std.proofs.lemmas.Bool.Decides.{Decides-eqb}

pub returns-in-Some : goal.returns-in-Some
returns-in-Some c =
    let line = c.args.line.now in
    let text = c.in-Some.text in
    let first = MatchOption-at_some _ _ text c.in-Some.is (strip_suffix_is Decides-eqb line (10 ∷ []) _ c.strip_suffix.ensures.cases) in
    let second = strip_suffix_is Decides-eqb text.now (13 ∷ []) _ c.strip_suffix-in-Some.ensures.cases in
    rw c.unwrap_or.ensures (ended line text _ first second)
