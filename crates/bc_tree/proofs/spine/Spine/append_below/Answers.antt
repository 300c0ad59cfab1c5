use Rattle.std.proofs.Common.{◌≡◌, arith, refl, subst}
use Rattle.std.specs.Prelude.{slice_set}
use Rattle.std.proofs.lemmas.Option.{slice_get_within}
use Rattle.bc_inner.specs.Inner.{Inner}
use Rattle.bc_tree.specs.Append.{CanAppend}
use Rattle.bc_tree.proofs.Appends.{more_shape}
use Rattle.bc_tree.proofs.Coming.{item_there}
use Rattle.bc_tree.proofs.Same.{same_shape, shape_set, spine_shape}
use Rattle.bc_tree.proofs.spine.Spine.append_below.Goals as goal

pub index_mut-requires : goal.index_mut-requires
index_mut-requires g c =
    let can = rw (← c.self.view_is) at c.requires.can in
    omega (arith, slice_get_within c.self.inside.below.items c.args.place can.0 can.1, c.self.inside.below.ok.0)

pub append-requires-clause-can : goal.append-requires-clause-can
append-requires-clause-can g c =
    let i = c.self.inside in
    let can = rw (← c.self.view_is) at c.requires.can in
    let there = item_there i.below.items c.args.place c.index_mut.result.now (slice_get_within i.below.items c.args.place can.0 can.1) c.index_mut.ensures.value in
    let same : can.0 ≡ c.index_mut.result.now = let one = can.1 in let two = there in cc in
    subst (λ (n : Inner). CanAppend i.g (g.D.Disk.facts c.args.disk.now).sectors n c.args.keys.now) same can.2

pub append-requires-clause-whole : goal.append-requires-clause-whole
append-requires-clause-whole g c = rw (← c.self.view_is) at c.requires.whole

pub invariant_of-self : goal.invariant_of-self
invariant_of-self g c =
    let i = c.self.inside in
    let can = rw (← c.self.view_is) at c.requires.can in
    let there = item_there i.below.items c.args.place c.index_mut.result.now (slice_get_within i.below.items c.args.place can.0 can.1) c.index_mut.ensures.value in
    let same = more_shape c.append.result i.g c.args.keys.now c.index_mut.result.now c.append.new.node c.append.ensures.taken in (
      spine_shape i.g i.root i.root i.below.items (slice_set i.below.items c.args.place c.append.new.node) i.leaves.leaves (same_shape i.root)
          (shape_set i.below.items c.args.place c.index_mut.result.now c.append.new.node there same) c.self.invariant.0,
      c.self.invariant.1,
    )

pub returns-clause-set : goal.returns-clause-set
returns-clause-set g c =
    let i = c.self.inside in
    let can = rw (← c.self.view_is) at c.requires.can in
    let there = item_there i.below.items c.args.place c.index_mut.result.now (slice_get_within i.below.items c.args.place can.0 can.1) c.index_mut.ensures.value in
    rw (← c.self.view_is) (c.index_mut.result.now, there, c.append.ensures.set)

pub returns-clause-tree : goal.returns-clause-tree
returns-clause-tree g c =
    let i = c.self.inside in
    let can = rw (← c.self.view_is) at c.requires.can in
    let there = item_there i.below.items c.args.place c.index_mut.result.now (slice_get_within i.below.items c.args.place can.0 can.1) c.index_mut.ensures.value in
    rw (← c.self.view_is) (record { node = c.index_mut.result.now; next = c.append.new.node; there = there; only = refl; more = c.append.ensures.taken })
