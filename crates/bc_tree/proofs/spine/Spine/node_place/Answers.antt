use Rattle.std.proofs.Common.{◌≡◌, ◌==◌, ◌<◌, ◌≤◌, Some, length, sym, ap, ◌∙◌, subst, arith}
use Rattle.std.specs.Prelude.{slice_get}
use Rattle.bc_inner.specs.Inner.{Inner}
use Rattle.bc_tree.specs.Spine.{Spine, bottom}
use Rattle.bc_tree.proofs.Places.{low_get, some_there}
use Rattle.bc_tree.proofs.Spines.{bottom_is, covers_at, named, none_of, some_of}
use Rattle.bc_tree.proofs.spine.Spine.node_place.Goals as goal

pub returns-then-is_empty-clause-node : goal.returns-then-is_empty-clause-node
returns-then-is_empty-clause-node c =
    let root = c.self.inside.root in
    let below = c.self.inside.below.items in
    let none = none_of (length below) (ap (λ n. n == 0) (sym c.self.inside.below.ok.0) ∙ sym c.is_empty.ensures ∙ c.if-is_empty.true) in
    let less = subst (λ (v : Spine). c.args.sector < v.root.end) (sym c.self.view_is) c.requires in
    let begins = c.self.invariant.0.inner.begins in
    subst (λ (v : Spine). (node : Inner) × (slice_get (bottom v.root v.below) 0 ≡ Some node) × (node.from ≤ c.args.sector) × (c.args.sector < node.end)) c.self.view_is
    (root, low_get root below none, omega (arith, begins), less)

pub returns-clause-node : goal.returns-clause-node
returns-clause-node c =
    let root = c.self.inside.root in
    let below = c.self.inside.below.items in
    let inner = c.self.invariant.0.inner in
    let i = c.place_of.result in
    let some = some_of (length below) (ap (λ n. n == 0) (sym c.self.inside.below.ok.0) ∙ sym c.is_empty.ensures ∙ c.if-is_empty.false) in
    let names = named root below some inner.root_of in
    let at = covers_at root.from c.args.sector root.children below i names (omega (arith, inner.begins)) c.place_of.ensures.below c.place_of.ensures.above c.place_of.ensures.within in
    let there = some_there below i at.0 in
    let node = there.0 in
    let spans = at.1 node in
    subst (λ (v : Spine). (n : Inner) × (slice_get (bottom v.root v.below) i ≡ Some n) × (n.from ≤ c.args.sector) × (c.args.sector < n.end)) c.self.view_is (
      node,
      ap (λ ns. slice_get ns i) (bottom_is root below some) ∙ there.1,
      subst (λ (n : Inner). n.from ≤ c.args.sector) (there.2 node) spans.0,
      subst (λ (n : Inner). c.args.sector < n.end) (there.2 node) spans.1,
    )
