use Rattle.std.proofs.Common.{◌+◌, get_or, set, ap, ◌∙◌}
use Rattle.bc_spine.proofs.Lists.{one_over}
use Rattle.bc_spine.proofs.row.overwrite.Goals as goal

pub loop-i-preserved : goal.loop-i-preserved
loop-i-preserved c =
    let old = c.args.row.now.items in
    let come = c.args.come.now in
    let i = c.loop-i.i in
    let d = c.index-come-i.result in
    record {
      leaves = ap (λ x. set c.loop-i.row.items (c.args.at + i) x) c.index-come-i.is
          ∙ ap (λ xs. set xs (c.args.at + i) (get_or come i d)) c.loop-i.invariant.leaves
          ∙ one_over old come c.args.at i d c.requires c.loop-i-test.true;
      room = c.loop-i.invariant.room;
    }
