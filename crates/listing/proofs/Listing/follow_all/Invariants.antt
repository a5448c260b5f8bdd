use Rattle.std.proofs.Common.{◌≡◌, vec_items, vec_len}
use Rattle.listing.specs.Lines.{instrs_in}
use Rattle.listing.proofs.Passing.{Passed}
use Rattle.listing.proofs.Listing.follow_all.Given as goal

abbrev pub invariant-loop-p : goal.invariant-loop-p
invariant-loop-p l = record { each : vec_len l.lines ≡ l.p-end; passed : Passed (instrs_in (vec_items l.fn.unknown)) l.p (vec_items l.lines) }
