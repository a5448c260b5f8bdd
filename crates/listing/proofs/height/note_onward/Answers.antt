use Rattle.listing.proofs.Heights.{notes_both, notes_next}
use Rattle.listing.proofs.height.note_onward.Goals as goal

pub returns-in-Jump : goal.returns-in-Jump
returns-in-Jump c = rw c.in-Jump.is c.note.ensures

pub returns-in-Jz : goal.returns-in-Jz
returns-in-Jz c = rw c.in-Jz.is (notes_both _ _ _ _ _ _ c.note-in-Jz.ensures c.note-in-Jz-2.ensures)

pub returns-in_default : goal.returns-in_default
returns-in_default c =
    notes_next _ _ _ _ _ c.in_default.not-Jump c.in_default.not-Jz c.in_default.not-Ret c.in_default.not-Bind c.note-in_default.ensures
