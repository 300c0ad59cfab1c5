use Rattle.std.proofs.Common.{◌==◌, List, length, sym, ap, ◌∙◌, arith}
use Rattle.bc_disk.specs.declared.geometry.Geometry.{Geometry}
use Rattle.bc_inner.specs.Inner.{Inner}
use Rattle.bc_key.specs.declared.ptr.Ptr.{Ptr}
use Rattle.bc_tree.specs.Needs.{has_room, words}
use Rattle.bc_tree.proofs.Spines.{none_of}
use Rattle.bc_plan.proofs.Examples.{takes}
use Rattle.bc_tree_rows.proofs.plans.takes_set.Goals as goal

pub returns-then-end-sectors : goal.returns-then-end-sectors
returns-then-end-sectors c = λ _.
    let s = c.args.spine.now in
    let keys = c.in-Set.keys in
    let root = c.root-root.ensures.root in
    let none = none_of (length s.below) (ap (λ (ns : List Inner). length ns == 0) (sym c.below.ensures) ∙ sym c.is_empty-is_low.ensures ∙ c.if-is_low.true) in (
      s.root,
      keys,
      takes s c.args.plan.now keys c.in-Set.is none c.if-plan-eq0.true,
      record {
        room = (λ t. has_room (sym c.geometry-g.ensures t) (sym root t) (sym (c.word_count-words.ensures.count ∙ ap words c.as_slice.ensures) t)) ∙ sym c.has_room.ensures ∙ c.if-has_room.true;
        within = omega (arith, ap (λ (p : Ptr). p.offset) c.ptr.ensures, ap (λ (n : Inner). n.ptr.offset) root, c.from.ensures, ap (λ (g : Geometry). g.node_sectors) c.geometry-g.ensures, c.if-end-sectors.true);
      },
    )
