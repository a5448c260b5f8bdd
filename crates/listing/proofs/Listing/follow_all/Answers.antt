use Rattle.std.proofs.Common.{ap, ◌∙◌, length, arith}
use Rattle.listing.specs.Lines.{instrs_in}
use Rattle.listing.proofs.Heights.{one_each}
use Rattle.listing.proofs.Passing.{pass_none, pass_more, pass_whole, in_vec}
use Rattle.listing.proofs.Listing.follow_all.Goals as goal

pub loop-p-init : goal.loop-p-init
loop-p-init c =
    record { each = omega arith; passed = in_vec _ _ _ _ _ (omega arith) (pass_none _ _ _ (ap instrs_in c.deref_mut.ensures.value) (rw c.deref_mut.ensures.value c.requires) c.note.ensures) }

pub loop-p-preserved : goal.loop-p-preserved
loop-p-preserved c =
    record { each = omega arith; passed = in_vec _ _ _ _ _ (omega arith) (pass_more _ _ _ _ (omega arith) c.follow.ensures (rw c.deref_mut-in-loop-p.ensures.value c.loop-p.invariant.passed)) }

pub returns : goal.returns
returns c =
    let passed = c.loop-p.invariant.passed in
    record { instrs_are = passed.instrs; one_each = one_each _ ∙ ap length passed.instrs; sound = passed.sound; complete = pass_whole _ _ _ (omega arith) passed }
