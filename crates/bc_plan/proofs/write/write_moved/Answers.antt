use Rattle.std.proofs.Common.{refl}
use Rattle.bc_inner.specs.Inner.{HasTaken, children_set}
use Rattle.bc_set.specs.Records.{set_sectors}
use Rattle.bc_plan.specs.Write.{HasMoved}
use Rattle.bc_tree.specs.declared.change.NodeChange.TheVariants as changes
use Rattle.bc_plan.proofs.Writes.{on_ok}
use Rattle.bc_plan.proofs.write.write_moved.Goals as goal

pub returns-in-Move-clause-written : goal.returns-in-Move-clause-written
returns-in-Move-clause-written g c =
    let node = c.in-Move.node in
    let next = c.write_inner.new.node in
    on_ok c.write_inner.result (HasTaken (set_sectors c.args.g.now (children_set node)) node next) (HasMoved c.args.g.now c.args.change.now (changes.Move next)) (λ taken. (node, next, c.in-Move.is, refl, taken)) c.write_inner.ensures.written
