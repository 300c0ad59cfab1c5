use Rattle.std.proofs.Common.{remove, ap, ◌∙◌, arith}
use Rattle.bc_extent.proofs.Edits.{remove_more}
use Rattle.bc_extent.proofs.gap.close.Goals as goal

pub loop-preserved : goal.loop-preserved
loop-preserved c =
    let keeps = c.loop.invariant in
    record {
      keys = c.remove.ensures.keys
          ∙ ap (λ keys. remove keys c.args.gap.from) keeps.keys
          ∙ remove_more c.args.rows.now.keys c.args.gap.from c.loop.counter (omega (arith, c.requires));
      spare = omega (arith, keeps.spare, c.remove.ensures.spare, c.loop.auto.counter);
    }
