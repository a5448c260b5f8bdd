use Rattle.std.proofs.Common.{◌≡◌, w32, SFits, to_z, of_z, arith, rules}
use Rattle.std.proofs.lemmas.Int.{to_z-of_z}
use Rattle.format.proofs.Values.{value_at}
use Rattle.format.proofs.layout.Layout.row.Goals as goal

pub returns : goal.returns
returns c =
    let v = c.from_le_bytes-operand.result in
    let f : SFits w32 v = search rules in
    let same : to_z w32 (of_z w32 v) ≡ v = to_z-of_z w32 v f in
    let each = c.args.self.now.parallel.each in
    record {
      within = search rules;
      code = search rules;
      operand = rw same (value_at c.args.self.now.operands.now each c.args.i _ (omega arith) (search rules) v f c.from_le_bytes-operand.ensures);
    }
