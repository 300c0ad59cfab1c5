use Rattle.std.proofs.Common.{List, subst}
use Rattle.bc_key.specs.declared.key.Key.{Key}
use Rattle.bc_plan.specs.Parent.{HasMoreIn}
use Rattle.bc_tree.specs.Append.{IsSetWrite}
use Rattle.bc_plan.proofs.Parents.{root_fits_more, root_more}
use Rattle.bc_plan.proofs.parent.append_top.Goals as goal

pub returns-in-Set-clause-set : goal.returns-in-Set-clause-set
returns-in-Set-clause-set g c =
    let s = c.args.spine.now in (
      c.in-Set.keys,
      c.in-Set.is,
      subst (λ (ks : List Key). IsSetWrite s.geometry s.root ks c.append_root.new.buffer (g.D.Disk.facts c.args.disk.now) (g.D.Disk.facts c.append_root.new.disk) c.append_root.result) c.as_slice.ensures c.append_root.ensures.set,
    )

pub returns-in-Set-clause-fits : goal.returns-in-Set-clause-fits
returns-in-Set-clause-fits g c plan fits = root_fits_more c.append_root.result c.as_slice.result.now c.args.spine.now c.append_root.new.self plan c.append_root.ensures.tree fits

pub returns-in-Set-clause-more : goal.returns-in-Set-clause-more
returns-in-Set-clause-more g c =
    let s = c.args.spine.now in (
      c.in-Set.keys,
      c.in-Set.is,
      subst (λ (ks : List Key). HasMoreIn c.append_root.result s.root ks s c.append_root.new.self) c.as_slice.ensures
          (root_more c.append_root.result c.as_slice.result.now s c.append_root.new.self c.append_root.ensures.tree),
    )
