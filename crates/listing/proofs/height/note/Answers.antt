use Rattle.listing.proofs.Heights.{notes_here}
use Rattle.listing.proofs.height.note.Goals as goal

pub returns-then-place-lines : goal.returns-then-place-lines
returns-then-place-lines c = notes_here _ _ _ _ _ c.if-place-lines.true c.get_or_insert.ensures.value
