use Rattle.std.proofs.Common.{◌*◌, ◌<◌, length, take, refl, ap, ◌∙◌, arith}
use Rattle.std.proofs.lemmas.List.{length-append}
use Rattle.bc_key.specs.Words.{words_of}
use Rattle.bc_keys.specs.Spelling.{words_at, words_of_all}
use Rattle.bc_keys.proofs.KeyLists.{length-words_of, words_of_all_more, room_for_more, keys_written}
use Rattle.bc_keys.proofs.WordsAt.{SameOutside-none, SameOutside-then}
use Rattle.bc_node.proofs.KeyLists.{key_here}
use Rattle.bc_node.proofs.keys.put_keys.Goals as goal

pub loop-i-init : goal.loop-i-init
unfolding words_at
loop-i-init c = record { counted = refl; written = refl; others = SameOutside-none _ _ _ (omega arith) }

pub overflow_mul-count : goal.overflow_mul-count
overflow_mul-count c =
    let low = c.loop-i-test.true in
    let room = room_for_more c.args.keys.now.keys c.loop-i.i c.key-key.result (omega (arith, low, c.len-i-end.ensures.count)) (key_here c.args.keys.now.keys c.loop-i.i c.key-key.result c.key-key.ensures.key) in
    omega arith

pub overflow_add-at : goal.overflow_add-at
overflow_add-at c =
    let low = c.loop-i-test.true in
    let room = room_for_more c.args.keys.now.keys c.loop-i.i c.key-key.result (omega (arith, low, c.len-i-end.ensures.count)) (key_here c.args.keys.now.keys c.loop-i.i c.key-key.result c.key-key.ensures.key) in
    omega arith

pub write_key-count-requires : goal.write_key-count-requires
write_key-count-requires c =
    let low = c.loop-i-test.true in
    let room = room_for_more c.args.keys.now.keys c.loop-i.i c.key-key.result (omega (arith, low, c.len-i-end.ensures.count)) (key_here c.args.keys.now.keys c.loop-i.i c.key-key.result c.key-key.ensures.key) in
    omega arith

pub overflow_add-count : goal.overflow_add-count
overflow_add-count c =
    let low = c.loop-i-test.true in
    let room = room_for_more c.args.keys.now.keys c.loop-i.i c.key-key.result (omega (arith, low, c.len-i-end.ensures.count)) (key_here c.args.keys.now.keys c.loop-i.i c.key-key.result c.key-key.ensures.key) in
    omega arith

pub loop-i-preserved : goal.loop-i-preserved
loop-i-preserved c =
    let inv = c.loop-i.invariant in
    let i = c.loop-i.i in
    let keys = c.args.keys.now.keys in
    let key = c.key-key.result in
    let count = c.loop-i.count in
    let n = c.write_key-count.result in
    let low = c.loop-i-test.true in
    let inside : i < length keys = omega (arith, low, c.len-i-end.ensures.count) in
    let is = key_here keys i key c.key-key.ensures.key in
    let more = ap (λ ws. length ws) (words_of_all_more keys i key inside is) ∙ length-append (words_of_all (take i keys)) (words_of key) in
    let one = length-words_of key in
    record {
      counted = omega (arith, more, one, c.write_key-count.ensures.count, inv.counted);
      written = keys_written count n c.args.at c.loop-i.into c.write_key-count.new.into keys i key inside is inv.written c.write_key-count.ensures.written c.write_key-count.ensures.others;
      others = SameOutside-then (8 * count) (8 * n) _ _ c.loop-i.into _ c.args.at _ refl (omega arith) inv.others c.write_key-count.ensures.others;
    }
