use Rattle.std.proofs.Common.{◌≡◌, ◌*◌, ◌≤◌, Option, Some, ap, refl, sym, subst}
use Rattle.std.specs.Prelude.{OnOk}
use Rattle.bc_disk.specs.declared.geometry.Geometry.{Geometry}
use Rattle.bc_inner.specs.Inner.{HasTaken, Inner, children_set}
use Rattle.bc_node.specs.Leaf.{IsAppended, Leaf}
use Rattle.bc_set.specs.Records.{set_sectors}
use Rattle.bc_set.specs.SetBytes.{bytes_of}
use Rattle.bc_tree.specs.declared.beside.Beside.{Beside}
use Rattle.bc_tree.specs.declared.change.NodeChange.{NodeChange}
use Rattle.bc_plan.specs.Write.{CanWrite, HasFirstSet, HasMoved, HasNodeWritten, behind_of, inner_set, leaf_set, lowest_of, with_behind, with_lowest}
use Rattle.bc_plan.specs.declared.write.NewNode.{NewNode}
use Rattle.bc_plan.specs.declared.write.NewNode.TheVariants.{Behind, Lowest, Root, Second}
use Rattle.bc_plan.proofs.Writes.{behind_fits, behind_if, fits_first, fits_moved, fits_root, lowest_fits, lowest_if, on_ok, parent_fits, root_fits}
use Rattle.bc_plan.proofs.write.write_node.Goals as goal

pub write_moved-requires-clause-unwritten : goal.write_moved-requires-clause-unwritten
write_moved-requires-clause-unwritten g c =
    let plan = c.args.plan.now in
    let f = c.requires.fits in
    let w = subst (λ (n : NewNode). CanWrite c.args.g.now (g.D.Disk.facts c.args.disk.now).sectors plan n) c.in-Parent.is c.requires.node in
    (w.0, w.1, w.2, subst (λ (x : Geometry). bytes_of (children_set w.0) ≤ 512 * x.node_sectors) f.1 (parent_fits f.0 plan w.0 f.2 w.1))

pub write_root-requires-clause-unwritten : goal.write_root-requires-clause-unwritten
write_root-requires-clause-unwritten g c =
    let plan = c.args.plan.now in
    let f = c.requires.fits in
    let w = subst (λ (n : NewNode). CanWrite c.args.g.now (g.D.Disk.facts c.args.disk.now).sectors plan n) c.in-Root.is c.requires.node in
    (w.0, w.1, w.2, subst (λ (x : Geometry). bytes_of (children_set w.0) ≤ 512 * x.node_sectors) f.1 (root_fits f.0 plan w.0 f.2 w.1))

pub returns-in-First-clause-node : goal.returns-in-First-clause-node
returns-in-First-clause-node g c =
    let plan = c.args.plan.now in
    (leaf_set plan.first, subst (λ (n : NewNode). HasFirstSet plan n (leaf_set plan.first)) (sym c.in-First.is) refl, c.write_leaf.ensures.node)

pub returns-in-First-clause-fits : goal.returns-in-First-clause-fits
returns-in-First-clause-fits g c spine fits = fits_first spine c.args.plan.now c.write_leaf.new.leaf c.args.plan.now.second fits

pub returns-in-Second-clause-node : goal.returns-in-Second-clause-node
returns-in-Second-clause-node g c =
    let plan = c.args.plan.now in
    let n = c.write_second.ensures.node in
    (leaf_set n.0, subst (λ (x : NewNode). HasFirstSet plan x (leaf_set n.0)) (sym c.in-Second.is) (n.0, n.1, refl), n.2)

pub returns-in-Second-clause-written : goal.returns-in-Second-clause-written
returns-in-Second-clause-written g c =
    let plan = c.args.plan.now in
    let geometry = c.args.g.now in
    let second = c.write_second.new.second in
    subst (λ (n : NewNode). OnOk c.write_second.result (HasNodeWritten geometry n plan (record plan { second = second }))) (sym c.in-Second.is)
    (on_ok c.write_second.result ((a : Leaf) × (b : Leaf) × (plan.second ≡ Some a) × (second ≡ Some b) × IsAppended geometry a b) (HasNodeWritten geometry Second plan (record plan { second = second }))
    (λ w. (w.0, w.1, w.2, ap (λ (x : Option Leaf). record plan { second = x }) w.3, w.4)) c.write_second.ensures.written)

pub returns-in-Second-clause-fits : goal.returns-in-Second-clause-fits
returns-in-Second-clause-fits g c spine fits = fits_first spine c.args.plan.now c.args.plan.now.first c.write_second.new.second fits

pub returns-in-Parent-clause-node : goal.returns-in-Parent-clause-node
returns-in-Parent-clause-node g c =
    let plan = c.args.plan.now in
    let n = c.write_moved.ensures.node in
    (inner_set n.0, subst (λ (x : NewNode). HasFirstSet plan x (inner_set n.0)) (sym c.in-Parent.is) (n.0, n.1, refl), n.2)

pub returns-in-Parent-clause-fits : goal.returns-in-Parent-clause-fits
returns-in-Parent-clause-fits g c spine fits = fits_moved c.write_moved.result c.args.g.now spine c.args.plan.now c.write_moved.new.change c.write_moved.ensures.written c.write_moved.ensures.kept fits

pub returns-in-Root-clause-node : goal.returns-in-Root-clause-node
returns-in-Root-clause-node g c =
    let plan = c.args.plan.now in
    let n = c.write_root.ensures.node in
    (inner_set n.0, subst (λ (x : NewNode). HasFirstSet plan x (inner_set n.0)) (sym c.in-Root.is) (n.0, n.1, refl), n.2)

pub returns-in-Root-clause-written : goal.returns-in-Root-clause-written
returns-in-Root-clause-written g c =
    let plan = c.args.plan.now in
    let geometry = c.args.g.now in
    let top = c.write_root.new.top in
    subst (λ (n : NewNode). OnOk c.write_root.result (HasNodeWritten geometry n plan (record plan { top = top }))) (sym c.in-Root.is)
    (on_ok c.write_root.result ((a : NodeChange) × (b : NodeChange) × (plan.top ≡ Some a) × (top ≡ Some b) × HasMoved geometry a b) (HasNodeWritten geometry Root plan (record plan { top = top }))
    (λ w. (w.0, w.1, w.2, ap (λ (x : Option NodeChange). record plan { top = x }) w.3, w.4)) c.write_root.ensures.written)

pub returns-in-Root-clause-fits : goal.returns-in-Root-clause-fits
returns-in-Root-clause-fits g c spine fits = fits_root c.write_root.result c.args.g.now spine c.args.plan.now c.write_root.new.top c.write_root.ensures.written c.write_root.ensures.kept fits

pub write_behind-requires-clause-unwritten : goal.write_behind-requires-clause-unwritten
write_behind-requires-clause-unwritten g c =
    let plan = c.args.plan.now in
    let f = c.requires.fits in
    let w = subst (λ (n : NewNode). CanWrite c.args.g.now (g.D.Disk.facts c.args.disk.now).sectors plan n) c.in-Behind.is c.requires.node in
    (w.0, w.1, w.2, subst (λ (x : Geometry). bytes_of (children_set w.0) ≤ 512 * x.node_sectors) f.1 (behind_fits f.0 plan w.0 f.2 w.1))

pub returns-in-Behind-clause-node : goal.returns-in-Behind-clause-node
returns-in-Behind-clause-node g c =
    let plan = c.args.plan.now in
    let n = c.write_behind.ensures.node in
    (inner_set n.0, subst (λ (x : NewNode). HasFirstSet plan x (inner_set n.0)) (sym c.in-Behind.is) (n.0, n.1, refl), n.2)

pub returns-in-Behind-clause-written : goal.returns-in-Behind-clause-written
returns-in-Behind-clause-written g c =
    let plan = c.args.plan.now in
    let geometry = c.args.g.now in
    let beside = c.write_behind.new.beside in
    subst (λ (n : NewNode). OnOk c.write_behind.result (HasNodeWritten geometry n plan (record plan { beside = beside }))) (sym c.in-Behind.is)
    (on_ok c.write_behind.result ((a : Inner) × (b : Inner) × (behind_of plan.beside ≡ Some a) × (beside ≡ with_behind plan.beside b) × HasTaken (set_sectors geometry (children_set a)) a b) (HasNodeWritten geometry Behind plan (record plan { beside = beside }))
    (λ w. (w.0, w.1, w.2, ap (λ (x : Beside). record plan { beside = x }) w.3, w.4)) c.write_behind.ensures.written)

pub returns-in-Behind-clause-fits : goal.returns-in-Behind-clause-fits
returns-in-Behind-clause-fits g c spine fits = behind_if c.write_behind.result c.args.g.now spine c.args.plan.now c.write_behind.new.beside c.write_behind.ensures.written c.write_behind.ensures.kept fits

pub write_lowest-requires-clause-unwritten : goal.write_lowest-requires-clause-unwritten
write_lowest-requires-clause-unwritten g c =
    let plan = c.args.plan.now in
    let f = c.requires.fits in
    let w = subst (λ (n : NewNode). CanWrite c.args.g.now (g.D.Disk.facts c.args.disk.now).sectors plan n) c.in-Lowest.is c.requires.node in
    (w.0, w.1, w.2, subst (λ (x : Geometry). bytes_of (children_set w.0) ≤ 512 * x.node_sectors) f.1 (lowest_fits f.0 plan w.0 f.2 w.1))

pub returns-in-Lowest-clause-node : goal.returns-in-Lowest-clause-node
returns-in-Lowest-clause-node g c =
    let plan = c.args.plan.now in
    let n = c.write_lowest.ensures.node in
    (inner_set n.0, subst (λ (x : NewNode). HasFirstSet plan x (inner_set n.0)) (sym c.in-Lowest.is) (n.0, n.1, refl), n.2)

pub returns-in-Lowest-clause-written : goal.returns-in-Lowest-clause-written
returns-in-Lowest-clause-written g c =
    let plan = c.args.plan.now in
    let geometry = c.args.g.now in
    let beside = c.write_lowest.new.beside in
    subst (λ (n : NewNode). OnOk c.write_lowest.result (HasNodeWritten geometry n plan (record plan { beside = beside }))) (sym c.in-Lowest.is)
    (on_ok c.write_lowest.result ((a : Inner) × (b : Inner) × (lowest_of plan.beside ≡ Some a) × (beside ≡ with_lowest plan.beside b) × HasTaken (set_sectors geometry (children_set a)) a b) (HasNodeWritten geometry Lowest plan (record plan { beside = beside }))
    (λ w. (w.0, w.1, w.2, ap (λ (x : Beside). record plan { beside = x }) w.3, w.4)) c.write_lowest.ensures.written)

pub returns-in-Lowest-clause-fits : goal.returns-in-Lowest-clause-fits
returns-in-Lowest-clause-fits g c spine fits = lowest_if c.write_lowest.result c.args.g.now spine c.args.plan.now c.write_lowest.new.beside c.write_lowest.ensures.written c.write_lowest.ensures.kept fits
