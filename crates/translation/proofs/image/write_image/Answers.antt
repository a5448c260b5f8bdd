use Rattle.std.proofs.Common.{refl, ◌∙◌}
use Rattle.translation.proofs.Imaging.{image_done}
use Rattle.translation.proofs.image.write_image.Goals as goal

pub returns : goal.returns
returns c = image_done c.requires.room refl (c.copy_from_slice.ensures.after ∙ c.to_bytes.ensures) refl c.write_code.ensures
