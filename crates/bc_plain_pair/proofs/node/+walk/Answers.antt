use Rattle.std.proofs.Common.{◌≡◌, suc, ◌+◌, ◌-◌, ap, ◌∙◌, arith, drop}
use Rattle.bc_disk.specs.Bytes.{image_of}
use Rattle.bc_image.specs.Children.{children_of}
use Rattle.bc_image.specs.Tree.{set_keys, IsWalk}
use Rattle.bc_plain_pair.proofs.Walks.{no_sets, inner_met, none_met, lists_more, needs_more, one_left, all_met}
use Rattle.bc_plain_pair.proofs.node.+walk.Goals as goal

pub add_walk-returns-in_default : goal.add_walk-returns-in_default
add_walk-returns-in_default t c =
    let none = rw c.in_default.is at c.in_ok-sets.ensures in
    no_sets c.args.g.now (image_of c.args.image.now) c.args.level c.args.from c.args.key.now none

pub add_walk-returns : goal.add_walk-returns
add_walk-returns t c =
    let at = rw c.in-Some.is at c.in_ok-sets.ensures in
    let above : c.args.level ≡ suc (c.args.level - 1) = omega (arith, c.if-level-eq0.false) in
    inner_met c.args.g.now (image_of c.args.image.now) c.args.level (c.args.level - 1) c.args.from c.args.key.now c.in-Some.sets.items c.deref-3.result.now c.args.nodes.now.items c.push.new.self.items c.add_walks.new.nodes.items c.add_walks.result above at
    (c.deref-3.ensures.value ∙ c.in_ok-children.ensures ∙ ap children_of (c.deref-2.ensures.value ∙ c.in_ok-keys.ensures ∙ ap set_keys c.deref.ensures.value)) c.in_ok-push.ensures.items c.add_walks.ensures

pub add_walks-returns-then-not-branch : goal.add_walks-returns-then-not-branch
add_walks-returns-then-not-branch t c =
    let children = c.args.children.now in
    let i = c.loop-child.child-index in
    let none = rw c.if-not-branch.true at c.in_ok-add_walk.ensures in
    none_met (IsWalk c.args.g.now (image_of c.args.image.now) c.args.level) c.args.from children c.loop-child.low (drop i children) (drop (i + 1) children) c.child-item.result
    (one_left children i c.child-item.result c.loop-child-test.true c.child-item.is) c.loop-child.invariant.needs none

pub add_walks-loop-child-preserved : goal.add_walks-loop-child-preserved
add_walks-loop-child-preserved t c =
    let walk = IsWalk c.args.g.now (image_of c.args.image.now) c.args.level in
    let children = c.args.children.now in
    let i = c.loop-child.child-index in
    let met = rw c.if-not-branch.false at c.in_ok-add_walk.ensures in
    let split = one_left children i c.child-item.result c.loop-child-test.true c.child-item.is in
    record {
      lists = lists_more walk c.args.from children c.loop-child.low (drop i children) (drop (i + 1) children) c.child-item.result split c.args.nodes.now.items c.loop-child.nodes.items c.add_walk.new.nodes.items met.0 c.loop-child.invariant.lists met.1 met.2;
      needs = needs_more walk c.args.from children c.loop-child.low (drop i children) (drop (i + 1) children) c.child-item.result split c.loop-child.invariant.needs;
    }

pub add_walks-returns : goal.add_walks-returns
add_walks-returns t c =
    all_met (IsWalk c.args.g.now (image_of c.args.image.now) c.args.level) c.args.from c.loop-child.low c.loop-child.child-index c.args.children.now c.args.nodes.now.items c.loop-child.nodes.items c.loop-child-test.false c.loop-child.invariant.lists
