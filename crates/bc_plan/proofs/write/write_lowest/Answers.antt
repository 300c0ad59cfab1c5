use Rattle.std.proofs.Common.{◌≡◌, Some, ap, sym}
use Rattle.bc_inner.specs.Inner.{HasTaken, Inner, children_set}
use Rattle.bc_set.specs.Records.{set_sectors}
use Rattle.bc_tree.specs.declared.beside.Beside.{Beside}
use Rattle.bc_tree.specs.declared.beside.Beside.TheVariants.{Under}
use Rattle.bc_plan.specs.Write.{lowest_of, with_lowest}
use Rattle.bc_plan.proofs.Writes.{on_ok}
use Rattle.bc_plan.proofs.write.write_lowest.Goals as goal

pub returns-in-Under-clause-node : goal.returns-in-Under-clause-node
returns-in-Under-clause-node g c = (c.in-Under.node, ap lowest_of c.in-Under.is, c.write_inner.ensures.node)

pub returns-in-Under-clause-written : goal.returns-in-Under-clause-written
returns-in-Under-clause-written g c =
    let old = c.in-Under.node in
    let next = c.write_inner.new.node in
    let same = ap (λ (b : Beside). with_lowest b next) c.in-Under.is in
    on_ok c.write_inner.result (HasTaken (set_sectors c.args.g.now (children_set old)) old next)
    ((a : Inner) × (b : Inner) × (lowest_of c.args.beside.now ≡ Some a) × (Under next c.in-Under.field-1 ≡ with_lowest c.args.beside.now b) × HasTaken (set_sectors c.args.g.now (children_set a)) a b)
    (λ taken. (old, next, ap lowest_of c.in-Under.is, sym same, taken)) c.write_inner.ensures.written
