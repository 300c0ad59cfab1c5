use Rattle.std.proofs.Common.{◌*◌, length, take, refl, ap, ◌∙◌, arith}
use Rattle.std.proofs.lemmas.List.{length-append}
use Rattle.bc_key.specs.Words.{words_of}
use Rattle.bc_keys.specs.Spelling.{words_at, words_of_all}
use Rattle.bc_keys.proofs.KeyLists.{length-words_of, words_of_all_more, room_for_more, keys_written}
use Rattle.bc_keys.proofs.WordsAt.{SameOutside-none, SameOutside-then}
use Rattle.bc_keys.proofs.write.write_keys.Goals as goal

pub loop-key-init : goal.loop-key-init
unfolding words_at
loop-key-init c = record { counted = refl; written = refl; others = SameOutside-none _ _ _ (omega arith) }

pub overflow_mul-count : goal.overflow_mul-count
overflow_mul-count c =
    let room = room_for_more c.args.keys.now c.loop-key.key-index c.key-item.result c.loop-key-test.true c.key-item.is in
    omega arith

pub overflow_add-at : goal.overflow_add-at
overflow_add-at c =
    let room = room_for_more c.args.keys.now c.loop-key.key-index c.key-item.result c.loop-key-test.true c.key-item.is in
    omega arith

pub write_key-count-requires : goal.write_key-count-requires
write_key-count-requires c =
    let room = room_for_more c.args.keys.now c.loop-key.key-index c.key-item.result c.loop-key-test.true c.key-item.is in
    omega arith

pub overflow_add-count : goal.overflow_add-count
overflow_add-count c =
    let room = room_for_more c.args.keys.now c.loop-key.key-index c.key-item.result c.loop-key-test.true c.key-item.is in
    omega arith

pub loop-key-preserved : goal.loop-key-preserved
loop-key-preserved c =
    let inv = c.loop-key.invariant in
    let i = c.loop-key.key-index in
    let keys = c.args.keys.now in
    let key = c.key-item.result in
    let count = c.loop-key.count in
    let n = c.write_key-count.result in
    let more = ap (λ ws. length ws) (words_of_all_more keys i key c.loop-key-test.true c.key-item.is) ∙ length-append (words_of_all (take i keys)) (words_of key) in
    let one = length-words_of key in
    record {
      counted = omega (arith, c.write_key-count.ensures.count);
      written = keys_written count n c.args.at c.loop-key.into c.write_key-count.new.into keys i key c.loop-key-test.true c.key-item.is inv.written c.write_key-count.ensures.written c.write_key-count.ensures.others;
      others = SameOutside-then (8 * count) (8 * n) _ _ c.loop-key.into _ c.args.at _ refl (omega arith) inv.others c.write_key-count.ensures.others;
    }
