use Rattle.std.proofs.Common.{◌*◌, ◌%◌, ◌^◌, ap, ◌∙◌}
use Rattle.std.specs.Int.Bits.{bit_or}
use Rattle.bc_key.proofs.WordLaws.{ptr_or}
use Rattle.bc_key.proofs.words.word_of_ptr.Goals as goal

pub returns : goal.returns
returns c =
    let ptr = c.args.ptr.now in
    ap (λ dev. bit_or (bit_or (dev * 2 ^ 51 % 2 ^ 64) (ptr.offset * 2 ^ 8 % 2 ^ 64)) c.from-2.result) c.from.ensures
    ∙ ap (bit_or (bit_or (ptr.dev * 2 ^ 51 % 2 ^ 64) (ptr.offset * 2 ^ 8 % 2 ^ 64))) c.from-2.ensures
    ∙ ptr_or ptr.dev ptr.offset ptr.generation ptr.dev_fits ptr.offset_fits ptr.generation_fits
