use Rattle.std.proofs.Common.{◌≡◌, ◌+◌, ◌-◌, length, take, drop, arith, length-drop}
use Rattle.std.proofs.lemmas.List.{take_all}
use Rattle.format.proofs.Chunks.{small_drop}
use Rattle.format.proofs.Cutting.{count_is, each_four, concat_is, cut_of}
use Rattle.format.proofs.layout.Layout.cut.Goals as goal

pub invariant_of-result : goal.invariant_of-result
invariant_of-result c =
    let rows = c.in_ok-header.rows.now in
    let n = c.from_le_bytes-count.result in
    record {
      few = omega arith;
      parallel = record {
        as_many = omega arith;
        each = each_four _ _ c.if-rows-count.false _ (take_all (length rows - n) (drop n rows) (omega (arith, length-drop n rows))) _ c.as_chunks.ensures.front (λ i. rw (c.in_ok-header.ensures.cases.2) (small_drop 8 c.args.bytes.now (λ j. (c.type_inv.bytes j).fits) i));
      };
    }

pub returns : goal.returns
returns c =
    let rows = c.in_ok-header.rows.now in
    let n = c.from_le_bytes-count.result in
    let split = c.in_ok-header.ensures.cases in
    let same : 8 + n - 8 ≡ n = omega arith in
    let front : take (8 + n - 8) (drop 8 c.args.bytes.now) ≡ take n rows = rw (split.2) (λ i. take (same i) (drop 8 c.args.bytes.now)) in
    cut_of _ _ _ c.as_chunks.result.0.now _ split.0 (c.type_inv.bytes 0).fits (c.type_inv.bytes 1).fits split.2 (count_is _ _ _ split.1 c.from_le_bytes-count.ensures) c.if-rows-count.false front (concat_is _ _ c.if-rows-count.false _ (take_all (length rows - n) (drop n rows) (omega (arith, length-drop n rows))) _ c.as_chunks.ensures.front (λ i. rw (c.in_ok-header.ensures.cases.2) (small_drop 8 c.args.bytes.now (λ j. (c.type_inv.bytes j).fits) i)))
