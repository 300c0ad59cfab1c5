use Rattle.std.proofs.Common.{◌≡◌, ◌+◌, ◌*◌, ◌/◌, ◌%◌, refl, arith}
use Rattle.bc_key.proofs.KeyLaws.{same_key}
use Rattle.bc_extent.proofs.Kept.{all_there}
use Rattle.bc_extent.proofs.slot.Slot.new.Goals as goal

pub returns : goal.returns
returns c =
    let key = c.args.key.now in
    let few = key.csum_fits in
    let count : (4 * key.count + key.csum) / 4 ≡ key.count = omega arith in
    let csum : (4 * key.count + key.csum) % 4 ≡ key.csum = omega arith in
    same_key _ key refl refl refl refl csum count (all_there key _ _ _ _ _ _ _ count
    (c.index-key-0.result, c.word_of.ensures) (c.index-key-1.result, c.word_of-2.ensures) (c.index-key-2.result, c.word_of-3.ensures)
    (c.index-key-3.result, c.word_of-4.ensures) (c.index-key-4.result, c.word_of-5.ensures) (c.index-key-5.result, c.word_of-6.ensures))
