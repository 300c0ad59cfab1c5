use Rattle.std.proofs.Common.{◌≡◌, ◌∙◌}
use Rattle.bc_key.specs.Words.{bit_of}
use Rattle.bc_key.proofs.WordLaws.{high_or, few_ptrs, bit_small, bit_is}
use Rattle.bc_key.proofs.words.high_word_of.Goals as goal

pub returns : goal.returns
returns c =
    let k = c.args.k.now in
    let dirty : c.from-3.result ≡ bit_of k.dirty = c.from-3.ensures ∙ bit_is k.dirty in
    let built = high_or k.count k.csum (bit_of k.dirty) k.size k.inode (few_ptrs k.count k.count_fits) k.csum_fits (bit_small k.dirty) k.size_fits k.inode_fits in
    cc
