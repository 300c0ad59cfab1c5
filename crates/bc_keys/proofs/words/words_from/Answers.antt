use Rattle.std.proofs.Common.{◌∙◌, ◌<◌, length, refl, arith}
use Rattle.std.proofs.lemmas.List.{length-set, take_more_set}
use Rattle.bc_keys.specs.Spelling.{words_at}
use Rattle.bc_keys.proofs.WordsAt.{words_read}
use Rattle.bc_keys.proofs.words.words_from.Goals as goal

pub loop-i-init : goal.loop-i-init
unfolding words_at
loop-i-init c = record { long = refl; read = refl }

pub loop-i-preserved : goal.loop-i-preserved
loop-i-preserved c =
    let inv = c.loop-i.invariant in
    let i = c.loop-i.i in
    let inside : i < length c.loop-i.words = omega arith in
    record {
      long = length-set c.loop-i.words i c.get_u64.result ∙ inv.long;
      read = words_read i c.args.at c.get_u64.result c.args.bytes.now _ c.loop-i.words inv.read (take_more_set c.loop-i.words i c.get_u64.result inside) c.get_u64.ensures;
    }
