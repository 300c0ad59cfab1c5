use Rattle.std.proofs.Common.{◌≡◌, ◌<◌, ◌≤◌, refl, subst, arith}
use Rattle.bc_inner.specs.Inner.{Inner}
use Rattle.bc_key.specs.declared.key.Key.{Key}
use Rattle.bc_spine.specs.Leaves.{Spans}
use Rattle.bc_spine.specs.declared.leaf.LeafRange.{LeafRange}
use Rattle.bc_tree.specs.Spine.{AreInRow, bottom}
use Rattle.bc_tree.proofs.Places.{begins_cut, bottom_covers, bottom_row, place_begins, place_is, some_there}
use Rattle.bc_tree.proofs.spine.Spine.place.Goals as goal

pub returns : goal.returns
returns c =
    let s = c.args.self.now in
    let sector = c.args.sector in
    let nodes = bottom s.root s.below in
    let spine = c.node_place-node.ensures.spine in
    let n = c.node_place-node.result in
    let node = c.node.result.now in
    let there = c.node.ensures in
    let found = c.node_place-node.ensures.node in
    let found_there = found.1 in
    let same : found.0 ≡ node = cc in
    let begins = subst (λ (x : Inner). x.from ≤ sector) same found.2 in
    let until = subst (λ (x : Inner). sector < x.end) same found.3 in
    let i = c.place_of-child.result in
    let child = some_there node.children i c.place_of-child.ensures.within in
    let key = child.0 in
    let high = subst (λ (k : Key). sector < k.end) (child.2 key) (c.place_of-child.ensures.above i key (omega arith) c.place_of-child.ensures.within) in
    let r = c.leaf_place-leaf.result in
    let range = c.leaf-range.result in
    let at = c.leaf-range.ensures.leaf in
    let leaf = c.leaf_place-leaf.ensures in
    let leaf_there = leaf.1 in
    let one : leaf.0 ≡ range = cc in
    let spans = subst (λ (x : LeafRange). Spans x sector) one leaf.2 in
    let are = place_is s.root.from s.root.end sector nodes s.leaves n i r node key range (bottom_row s.root s.below spine.inner.root_of) (bottom_covers s.root s.below spine.cover.0 spine.cover.1)
    c.leaf-range.ensures.all.row spine.names there begins child.1 c.place_of-child.ensures.below high at spans
    in
    let row = subst (λ n. AreInRow n nodes) spine.inner.begins (bottom_row s.root s.below spine.inner.root_of) in
    let all = c.leaf-range.ensures.all in
    record {
      parent = node;
      node = there;
      from = begins;
      end = until;
      key = key;
      child = child.1;
      there = at;
      spans = spans;
      ends = are.1;
      stands = are.2;
      begins = place_begins s.root.end nodes s.leaves n i r node key range row (bottom_covers s.root s.below spine.cover.0 spine.cover.1) all.row spine.names there child.1 at are.0;
      multiples = begins_cut 0 s.root.end s.leaves r range refl all.row all.cuts at;
      before = are.0;
    }
