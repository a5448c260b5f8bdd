use Rattle.std.proofs.Common.{rules, arith, ℕ, ap}
use Rattle.std.specs.declared.ops.Range.{Range}
use Rattle.std.proofs.lemmas.Iterator.{serves_from_Range}
use Rattle.std.proofs.iter.runs.Sources.{range_runs}
use Rattle.listing.proofs.Collecting.{found, decodes, collected}
use Rattle.listing.proofs.list.collect.Goals as goal

pub collect-requires-clause-can : goal.collect-requires-clause-can
collect-requires-clause-can c =
    let end = ap (λ (r : Range ℕ). r.end) c.map.ensures.source in
    let same = ap (λ f. f.0.now) c.map.ensures.closure in
    (tt, serves_from_Range (λ x q r. search rules) (λ x low below a ptr name w r instr l. found c.args.image.now c.map.result.f.0.now x instr.result same c.requires (omega arith) instr.ensures))

pub returns : goal.returns
returns c = collected _ _ _ c.collect.result c.collect.ensures.runs (λ p from whole.
    let m = c.map.ensures.runs p p.seen from in
    let up = rw (m.1, c.len-count.ensures) at (range_runs m.0 m.0.seen) in
    decodes _ _ _ _ p m.0 up whole m.2.0 m.2.1 (m.2.2 (λ a r q k. search rules)) (λ k x called. search rules))
