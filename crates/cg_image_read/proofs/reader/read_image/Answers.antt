use Rattle.std.proofs.Common.{arith, ℕ, ◌<◌, get_or}
use Rattle.cg_image_read.proofs.TablesStand.{image_found, whole_found}
use Rattle.cg_image_read.proofs.WholeAgain.{whole_again}
use Rattle.cg_image_read.proofs.Fits.{accepted_found, counted_found}
use Rattle.cg_image_read.proofs.reader.read_image.Goals as goal

pub returns : goal.returns
returns c =
    let bytes = c.args.bytes.now in
    let found = c.read_whole.result in
    let low : (i : ℕ) → get_or bytes i 0 < 256 = λ i. omega (arith, c.type_inv.bytes i) in
    record {
      read = c.read_whole.ensures;
      image = image_found bytes found low c.read_whole.ensures;
      whole = whole_found bytes found low c.read_whole.ensures;
      accepted = accepted_found bytes found low c.read_whole.ensures;
      counted = counted_found bytes found low c.read_whole.ensures;
      again = whole_again bytes found c.read_whole.ensures;
    }
