-- A leaf of the tree has a set, so that none of its is the node's first one.
use Rattle.std.proofs.Common.{◌≡◌, ◌≢◌, ℕ, ◌<◌, false, List, [], ◌∷◌, refl, ap, ◌∙◌, arith}
use Rattle.bc_place.specs.bc_machine.Containers.{IsInTree, IsLeafFor, sets_len}
use Rattle.bc_place.specs.bc_machine.World.{IsCourseOf, IsOrigin, Origin, World, replay}
use Rattle.bc_append.proofs.Course.{inv_course}
use Rattle.bc_leaves.specs.Parts.{Coming, Draft, Free, IsLive, Leaving, NoNode, Role, node_of}
use Rattle.bc_meta.specs.Layout.{Layout}
use Rattle.bc_meta.specs.Tree.{NodeSet}
use Rattle.bc_node.specs.Leaf.{Leaf}
use Rattle.bc_shares.specs.Shares.{leaf_share}
use Rattle.bc_append.proofs.Leaf.{unsent_sets}

live_role : (r : Role) → IsInTree r → IsLive r
live_role NoNode tree = tree
live_role Draft tree = tree
live_role Free tree = tt
live_role Leaving tree = tt
live_role Coming tree = absurd tree

-- sets take some sectors
some_len : (w : Layout) (xs : List NodeSet) → xs ≢ [] → 0 < sets_len w xs
some_len w [] some = absurd (some refl)
some_len w (x ∷ xs) some = let here = w.sets.some x in omega (arith, here)

pub some_taken : (x : World) (o : Origin) → IsOrigin x o → IsCourseOf o x.log → (k : ℕ)
    (leaf : Leaf)
    → IsLeafFor o.opening.machine (leaf_share (replay o x.log).machine.whole.parts k) leaf
    → leaf.loaded ≡ false → (node_of (replay o x.log).machine.whole.parts k).sent ≡ false
    → leaf.taken ≢ 0
some_taken x o is course k leaf h own off none =
    let w = o.opening.machine in
    let p = (replay o x.log).machine.whole.parts in
    let firm = ((inv_course o is.sound x.log course).fits.leaves.firm k
    (live_role (p.leaves k).role h.at.role)).1 in
    let long = some_len w.layout (node_of p k).sets firm in
    let count = (h.own own).taken_is ∙ ap (sets_len w.layout) (unsent_sets (node_of p k) off) in
    omega (arith, long, count, none)
