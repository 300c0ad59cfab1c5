use Rattle.std.proofs.Common.{◌∙◌, List, ℕ, length, sym, ap, arith}
use Rattle.bc_disk.proofs.Sectors.{length-image_of}
use Rattle.bc_plain.proofs.image.value_of.Goals as goal

pub copy_from_slice-requires : goal.copy_from_slice-requires
copy_from_slice-requires c = sym (ap (λ (xs : List ℕ). length xs) c.sector_of.ensures ∙ length-image_of c.args.bytes.now c.from.result (omega arith))
