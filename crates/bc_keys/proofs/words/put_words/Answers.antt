use Rattle.std.proofs.Common.{◌*◌, refl, arith}
use Rattle.bc_keys.specs.Spelling.{words_at}
use Rattle.bc_keys.proofs.WordsAt.{SameOutside-none, SameOutside-then, words_written}
use Rattle.bc_keys.proofs.words.put_words.Goals as goal

pub loop-i-init : goal.loop-i-init
unfolding words_at
loop-i-init c = record { written = refl; others = SameOutside-none _ _ _ (omega arith) }

pub loop-i-preserved : goal.loop-i-preserved
loop-i-preserved c =
    let inv = c.loop-i.invariant in
    let i = c.loop-i.i in
    record {
      written = words_written i c.args.at c.loop-i.into c.put_u64.new.bytes c.args.words.now (omega arith) inv.written c.put_u64.ensures.field c.put_u64.ensures.others;
      others = SameOutside-then (8 * i) 8 _ _ c.loop-i.into _ c.args.at _ refl (omega arith) inv.others c.put_u64.ensures.others;
    }
