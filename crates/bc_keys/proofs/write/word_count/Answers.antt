use Rattle.std.proofs.Common.{length, take, ap, ◌∙◌, arith}
use Rattle.std.proofs.lemmas.List.{length-append}
use Rattle.bc_key.specs.Words.{words_of}
use Rattle.bc_keys.specs.Spelling.{words_of_all}
use Rattle.bc_keys.proofs.KeyLists.{length-words_of, words_of_all_more}
use Rattle.bc_keys.proofs.write.word_count.Goals as goal

pub loop-key-preserved : goal.loop-key-preserved
loop-key-preserved c =
    let inv = c.loop-key.invariant in
    let i = c.loop-key.key-index in
    let keys = c.args.keys.now in
    let key = c.key-item.result in
    let more = ap (λ ws. length ws) (words_of_all_more keys i key c.loop-key-test.true c.key-item.is) ∙ length-append (words_of_all (take i keys)) (words_of key) in
    let one = length-words_of key in
    let few = key.count_fits in
    record { counted = omega (arith, c.from.ensures); few = omega (arith, c.from.ensures) }
