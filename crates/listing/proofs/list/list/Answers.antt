use Rattle.std.proofs.Common.{◌≡◌, List, ℕ, Ok, Err, Result, sym, subst, rules}
use Rattle.format.specs.declared.image.Image.{Image}
use Rattle.format.specs.Images.{ImageRead}
use Rattle.listing.specs.declared.Listing.{Listing}
use Rattle.listing.specs.declared.list.ListError.{ListError}
use Rattle.listing.specs.declared.list.ListError.TheVariants.{OutOfMemory}
use Rattle.listing.specs.Images.{Listed}
use Rattle.listing.proofs.list.list.Goals as goal

out_of_memory : (bytes : List ℕ) (image : Image) → ImageRead bytes (Ok image) → (r : Result Listing ListError) → r ≡ Err OutOfMemory → Listed bytes r
out_of_memory bytes image read r is = subst (Listed bytes) (sym is) (image, read)

pub returns-in_err-lines : goal.returns-in_err-lines
returns-in_err-lines c = out_of_memory _ c.in_ok-image.image c.in_ok-image.ensures.read _ (search rules)
