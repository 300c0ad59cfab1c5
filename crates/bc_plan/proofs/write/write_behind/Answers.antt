use Rattle.std.proofs.Common.{◌≡◌, Some, ap, sym}
use Rattle.bc_inner.specs.Inner.{HasTaken, Inner, children_set}
use Rattle.bc_set.specs.Records.{set_sectors}
use Rattle.bc_tree.specs.declared.beside.Beside.{Beside}
use Rattle.bc_tree.specs.declared.beside.Beside.TheVariants.{Comes, Moves, Under}
use Rattle.bc_plan.specs.Write.{behind_of, with_behind}
use Rattle.bc_plan.proofs.Writes.{on_ok}
use Rattle.bc_plan.proofs.write.write_behind.Goals as goal

pub returns-in-Comes-clause-node : goal.returns-in-Comes-clause-node
returns-in-Comes-clause-node g c = (c.in-Comes.node, ap behind_of c.in-Comes.is, c.write_inner.ensures.node)

pub returns-in-Comes-clause-written : goal.returns-in-Comes-clause-written
returns-in-Comes-clause-written g c =
    let old = c.in-Comes.node in
    let next = c.write_inner.new.node in
    let same = ap (λ (b : Beside). with_behind b next) c.in-Comes.is in
    on_ok c.write_inner.result (HasTaken (set_sectors c.args.g.now (children_set old)) old next)
    ((a : Inner) × (b : Inner) × (behind_of c.args.beside.now ≡ Some a) × (Comes next ≡ with_behind c.args.beside.now b) × HasTaken (set_sectors c.args.g.now (children_set a)) a b)
    (λ taken. (old, next, ap behind_of c.in-Comes.is, sym same, taken)) c.write_inner.ensures.written

pub returns-in-Moves-clause-node : goal.returns-in-Moves-clause-node
returns-in-Moves-clause-node g c = (c.in-Moves.node, ap behind_of c.in-Moves.is, c.write_inner-in-Moves.ensures.node)

pub returns-in-Moves-clause-written : goal.returns-in-Moves-clause-written
returns-in-Moves-clause-written g c =
    let old = c.in-Moves.node in
    let next = c.write_inner-in-Moves.new.node in
    let same = ap (λ (b : Beside). with_behind b next) c.in-Moves.is in
    on_ok c.write_inner-in-Moves.result (HasTaken (set_sectors c.args.g.now (children_set old)) old next)
    ((a : Inner) × (b : Inner) × (behind_of c.args.beside.now ≡ Some a) × (Moves next ≡ with_behind c.args.beside.now b) × HasTaken (set_sectors c.args.g.now (children_set a)) a b)
    (λ taken. (old, next, ap behind_of c.in-Moves.is, sym same, taken)) c.write_inner-in-Moves.ensures.written

pub returns-in-Under-clause-node : goal.returns-in-Under-clause-node
returns-in-Under-clause-node g c = (c.in-Under.node, ap behind_of c.in-Under.is, c.write_inner-in-Under.ensures.node)

pub returns-in-Under-clause-written : goal.returns-in-Under-clause-written
returns-in-Under-clause-written g c =
    let old = c.in-Under.node in
    let next = c.write_inner-in-Under.new.node in
    let same = ap (λ (b : Beside). with_behind b next) c.in-Under.is in
    on_ok c.write_inner-in-Under.result (HasTaken (set_sectors c.args.g.now (children_set old)) old next)
    ((a : Inner) × (b : Inner) × (behind_of c.args.beside.now ≡ Some a) × (Under c.in-Under.field-0 next ≡ with_behind c.args.beside.now b) × HasTaken (set_sectors c.args.g.now (children_set a)) a b)
    (λ taken. (old, next, ap behind_of c.in-Under.is, sym same, taken)) c.write_inner-in-Under.ensures.written
