use Rattle.std.proofs.Common.{refl, ap, ◌∙◌, w32, SFits, rules}
use Rattle.std.proofs.lemmas.Int.{to_z-of_z}
use Rattle.format.specs.Layout.{bytes4}
use Rattle.translation.proofs.Writing.{put_one}
use Rattle.translation.proofs.writer.Writer.put.Goals as goal

pub returns : goal.returns
returns c =
    let fits : SFits w32 c.operand.result = search rules in
    record {
      next_is = refl;
      end_is = refl;
      wrote = record {
        kept = record { same_bytes = refl; same_count = refl };
        bytes_are = put_one _ _ _ c.args.instr _ _ c.code.ensures (c.copy_from_slice.ensures.after ∙ simp to_z-of_z at c.to_le_bytes.ensures ∙ ap bytes4 c.operand.ensures) c.requires c.args.self.now.long;
      };
    }
