use Rattle.std.proofs.Common.{◌+◌, ◌≤◌, sym, subst}
use Rattle.std.specs.Prelude.{◌↔◌, IsTrue}
use Rattle.bc_by_set.specs.Given.{LiesWithin}
use Rattle.bc_disk.specs.declared.geometry.Geometry.{Geometry}
use Rattle.bc_inner.specs.Inner.{Inner}
use Rattle.bc_by_root.proofs.of_bc_install.of_bc_parent_set.Taker.{same_taker}
use Rattle.bc_by_set.proofs.put.lies_within.Goals as goal

pub returns : goal.returns
returns c at taker put takes =
    let its = c.taker_of.ensures in
    let node = c.taker_of.result.0.now in
    let says = c.ends_within.result in
    let one = same_taker c.args.spine.now c.args.plan.now at its.0 taker node put
    c.taker_of.result.1.now takes its.1 in
    subst (λ (n : Inner). IsTrue says ↔ LiesWithin c.args.sectors c.args.spine.now n) (sym one.0)
    (subst (λ (g : Geometry). IsTrue says ↔ (node.ptr.offset + g.node_sectors ≤ c.args.sectors))
    c.geometry.ensures c.ends_within.ensures)
