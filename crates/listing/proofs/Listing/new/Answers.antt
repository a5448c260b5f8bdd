use Rattle.std.proofs.Common.{◌≡◌, vec_items, map, rules}
use Rattle.listing.proofs.Passing.{unknown, instrs_unknown, none_told}
use Rattle.listing.proofs.Listing.new.Goals as goal

pub follow_all-requires : goal.follow_all-requires
follow_all-requires c =
    let made : vec_items c.in_ok-lines.lines ≡ map unknown (vec_items c.args.instrs) = search rules in
    λ k h told. none_told _ k h (rw made at told)

pub returns : goal.returns
returns c =
    let made : vec_items c.in_ok-lines.lines ≡ map unknown (vec_items c.args.instrs) = search rules in
    rw (made, instrs_unknown) at c.follow_all.ensures
