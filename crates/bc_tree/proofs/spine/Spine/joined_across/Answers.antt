use Rattle.std.proofs.Common.{◌≡◌, ◌+◌, ◌-◌, ◌%◌, ◌^◌, List, true, false, length, get_or, take, drop, ap, refl, sym, subst, ◌∙◌, arith, length-drop}
use Rattle.std.proofs.lemmas.List.{take_all}
use Rattle.std.proofs.lemmas.Option.{slice_get_read, slice_get_within}
use Rattle.bc_disk.specs.declared.geometry.Geometry.{Geometry}
use Rattle.bc_inner.specs.Inner.{CoverRange, Inner}
use Rattle.bc_key.specs.declared.key.Key.{Key}
use Rattle.bc_tree.specs.Group.{AreTwo, IsFresh}
use Rattle.bc_tree.specs.Needs.{become_one}
use Rattle.bc_tree.specs.Across.{children_across}
use Rattle.bc_tree.specs.Spine.{IsProper}
use Rattle.bc_tree.proofs.Acrossing.{across_at, across_least, count_at, one_joined, one_left, one_may, propers_at, two_joined, two_least, two_left, two_may}
use Rattle.bc_tree.proofs.Choices.{test}
use Rattle.bc_tree.proofs.Coming.{item_there}
use Rattle.bc_tree.proofs.Crossed.{across_long, some_stay}
use Rattle.bc_tree.proofs.spine.Spine.joined_across.Goals as goal

pub bounds-nodes-place : goal.bounds-nodes-place
bounds-nodes-place c =
    let s = c.args.self.now in
    let place = c.args.place in
    let given = c.requires.can in
    let long = ap (λ (ns : List Inner). length ns) c.below-nodes.ensures in
    omega (arith, long, slice_get_within s.below place given.0 given.2.there)

pub bounds-nodes-place-2 : goal.bounds-nodes-place-2
bounds-nodes-place-2 c =
    let s = c.args.self.now in
    let place = c.args.place in
    let given = c.requires.can in
    let long = ap (λ (ns : List Inner). length ns) c.below-nodes.ensures in
    omega (arith, long, slice_get_within s.below (place + 1) given.1 given.2.behind)

pub both-requires-clause-left : goal.both-requires-clause-left
both-requires-clause-left c =
    let s = c.args.self.now in
    let place = c.args.place in
    let key = c.args.key.now in
    let to = c.args.to.now in
    let given = c.requires.can in
    let left = c.index-nodes-place.result in
    let right = c.index-nodes-place-2.result in
    let long = ap (λ (ns : List Inner). length ns) c.below-nodes.ensures in
    let there = item_there s.below place left (slice_get_within s.below place given.0 given.2.there) (c.index-nodes-place.is ∙ ap (λ (ns : List Inner). get_or ns place left) c.below-nodes.ensures) in
    let behind = item_there s.below (place + 1) right (slice_get_within s.below (place + 1) given.1 given.2.behind) (c.index-nodes-place-2.is ∙ ap (λ (ns : List Inner). get_or ns (place + 1) right) c.below-nodes.ensures) in
    let can = across_at s place key given.0 given.1 left right given.2 there behind in
    let count = count_at s place (length to) key given.0 given.1 left right given.2 there behind given.3 in
    can.some.0

pub both-requires-clause-right : goal.both-requires-clause-right
both-requires-clause-right c =
    let s = c.args.self.now in
    let place = c.args.place in
    let key = c.args.key.now in
    let to = c.args.to.now in
    let given = c.requires.can in
    let left = c.index-nodes-place.result in
    let right = c.index-nodes-place-2.result in
    let long = ap (λ (ns : List Inner). length ns) c.below-nodes.ensures in
    let there = item_there s.below place left (slice_get_within s.below place given.0 given.2.there) (c.index-nodes-place.is ∙ ap (λ (ns : List Inner). get_or ns place left) c.below-nodes.ensures) in
    let behind = item_there s.below (place + 1) right (slice_get_within s.below (place + 1) given.1 given.2.behind) (c.index-nodes-place-2.is ∙ ap (λ (ns : List Inner). get_or ns (place + 1) right) c.below-nodes.ensures) in
    let can = across_at s place key given.0 given.1 left right given.2 there behind in
    let count = count_at s place (length to) key given.0 given.1 left right given.2 there behind given.3 in
    can.some.1

pub become_one-requires-clause-left : goal.become_one-requires-clause-left
become_one-requires-clause-left c =
    let s = c.args.self.now in
    let place = c.args.place in
    let key = c.args.key.now in
    let to = c.args.to.now in
    let given = c.requires.can in
    let left = c.index-nodes-place.result in
    let right = c.index-nodes-place-2.result in
    let long = ap (λ (ns : List Inner). length ns) c.below-nodes.ensures in
    let there = item_there s.below place left (slice_get_within s.below place given.0 given.2.there) (c.index-nodes-place.is ∙ ap (λ (ns : List Inner). get_or ns place left) c.below-nodes.ensures) in
    let behind = item_there s.below (place + 1) right (slice_get_within s.below (place + 1) given.1 given.2.behind) (c.index-nodes-place-2.is ∙ ap (λ (ns : List Inner). get_or ns (place + 1) right) c.below-nodes.ensures) in
    let can = across_at s place key given.0 given.1 left right given.2 there behind in
    let count = count_at s place (length to) key given.0 given.1 left right given.2 there behind given.3 in
    subst (λ (x : Geometry). IsProper x left) (sym c.geometry.ensures) (propers_at s place left c.root.ensures.spine there)

pub become_one-requires-clause-right : goal.become_one-requires-clause-right
become_one-requires-clause-right c =
    let s = c.args.self.now in
    let place = c.args.place in
    let key = c.args.key.now in
    let to = c.args.to.now in
    let given = c.requires.can in
    let left = c.index-nodes-place.result in
    let right = c.index-nodes-place-2.result in
    let long = ap (λ (ns : List Inner). length ns) c.below-nodes.ensures in
    let there = item_there s.below place left (slice_get_within s.below place given.0 given.2.there) (c.index-nodes-place.is ∙ ap (λ (ns : List Inner). get_or ns place left) c.below-nodes.ensures) in
    let behind = item_there s.below (place + 1) right (slice_get_within s.below (place + 1) given.1 given.2.behind) (c.index-nodes-place-2.is ∙ ap (λ (ns : List Inner). get_or ns (place + 1) right) c.below-nodes.ensures) in
    let can = across_at s place key given.0 given.1 left right given.2 there behind in
    let count = count_at s place (length to) key given.0 given.1 left right given.2 there behind given.3 in
    subst (λ (x : Geometry). IsProper x right) (sym c.geometry.ensures) (propers_at s (place + 1) right c.root.ensures.spine behind)

pub bounds-to-0 : goal.bounds-to-0
bounds-to-0 c =
    let s = c.args.self.now in
    let place = c.args.place in
    let key = c.args.key.now in
    let to = c.args.to.now in
    let given = c.requires.can in
    let left = c.index-nodes-place.result in
    let right = c.index-nodes-place-2.result in
    let long = ap (λ (ns : List Inner). length ns) c.below-nodes.ensures in
    let there = item_there s.below place left (slice_get_within s.below place given.0 given.2.there) (c.index-nodes-place.is ∙ ap (λ (ns : List Inner). get_or ns place left) c.below-nodes.ensures) in
    let behind = item_there s.below (place + 1) right (slice_get_within s.below (place + 1) given.1 given.2.behind) (c.index-nodes-place-2.is ∙ ap (λ (ns : List Inner). get_or ns (place + 1) right) c.below-nodes.ensures) in
    let can = across_at s place key given.0 given.1 left right given.2 there behind in
    let count = count_at s place (length to) key given.0 given.1 left right given.2 there behind given.3 in
    omega (arith, across_least s left right, count)

pub fresh-one-requires : goal.fresh-one-requires
fresh-one-requires c =
    let s = c.args.self.now in
    let place = c.args.place in
    let key = c.args.key.now in
    let to = c.args.to.now in
    let given = c.requires.can in
    let left = c.index-nodes-place.result in
    let right = c.index-nodes-place-2.result in
    let long = ap (λ (ns : List Inner). length ns) c.below-nodes.ensures in
    let there = item_there s.below place left (slice_get_within s.below place given.0 given.2.there) (c.index-nodes-place.is ∙ ap (λ (ns : List Inner). get_or ns place left) c.below-nodes.ensures) in
    let behind = item_there s.below (place + 1) right (slice_get_within s.below (place + 1) given.1 given.2.behind) (c.index-nodes-place-2.is ∙ ap (λ (ns : List Inner). get_or ns (place + 1) right) c.below-nodes.ensures) in
    let can = across_at s place key given.0 given.1 left right given.2 there behind in
    let count = count_at s place (length to) key given.0 given.1 left right given.2 there behind given.3 in
    subst (λ (ks : List Key). CoverRange c.from.result c.end.result ks) (sym c.in_ok-all.ensures)
    (subst (λ n. CoverRange n c.end.result (children_across left right key)) (sym c.from.ensures) (subst (λ n. CoverRange left.from n (children_across left right key)) (sym c.end.ensures) can.cover))

pub slice_bounds-one_below-count : goal.slice_bounds-one_below-count
slice_bounds-one_below-count c =
    let s = c.args.self.now in
    let place = c.args.place in
    let key = c.args.key.now in
    let to = c.args.to.now in
    let given = c.requires.can in
    let left = c.index-nodes-place.result in
    let right = c.index-nodes-place-2.result in
    let long = ap (λ (ns : List Inner). length ns) c.below-nodes.ensures in
    let there = item_there s.below place left (slice_get_within s.below place given.0 given.2.there) (c.index-nodes-place.is ∙ ap (λ (ns : List Inner). get_or ns place left) c.below-nodes.ensures) in
    let behind = item_there s.below (place + 1) right (slice_get_within s.below (place + 1) given.1 given.2.behind) (c.index-nodes-place-2.is ∙ ap (λ (ns : List Inner). get_or ns (place + 1) right) c.below-nodes.ensures) in
    let can = across_at s place key given.0 given.1 left right given.2 there behind in
    let count = count_at s place (length to) key given.0 given.1 left right given.2 there behind given.3 in
    omega (arith, across_least s left right, count)

pub slice_bounds-one_below-start : goal.slice_bounds-one_below-start
slice_bounds-one_below-start c =
    let s = c.args.self.now in
    let place = c.args.place in
    let key = c.args.key.now in
    let to = c.args.to.now in
    let given = c.requires.can in
    let left = c.index-nodes-place.result in
    let right = c.index-nodes-place-2.result in
    let long = ap (λ (ns : List Inner). length ns) c.below-nodes.ensures in
    let there = item_there s.below place left (slice_get_within s.below place given.0 given.2.there) (c.index-nodes-place.is ∙ ap (λ (ns : List Inner). get_or ns place left) c.below-nodes.ensures) in
    let behind = item_there s.below (place + 1) right (slice_get_within s.below (place + 1) given.1 given.2.behind) (c.index-nodes-place-2.is ∙ ap (λ (ns : List Inner). get_or ns (place + 1) right) c.below-nodes.ensures) in
    let can = across_at s place key given.0 given.1 left right given.2 there behind in
    let count = count_at s place (length to) key given.0 given.1 left right given.2 there behind given.3 in
    omega (arith, across_least s left right, count)

pub one_below-requires-clause-can : goal.one_below-requires-clause-can
one_below-requires-clause-can c up name =
    let s = c.args.self.now in
    let place = c.args.place in
    let key = c.args.key.now in
    let to = c.args.to.now in
    let given = c.requires.can in
    let left = c.index-nodes-place.result in
    let right = c.index-nodes-place-2.result in
    let long = ap (λ (ns : List Inner). length ns) c.below-nodes.ensures in
    let there = item_there s.below place left (slice_get_within s.below place given.0 given.2.there) (c.index-nodes-place.is ∙ ap (λ (ns : List Inner). get_or ns place left) c.below-nodes.ensures) in
    let behind = item_there s.below (place + 1) right (slice_get_within s.below (place + 1) given.1 given.2.behind) (c.index-nodes-place-2.is ∙ ap (λ (ns : List Inner). get_or ns (place + 1) right) c.below-nodes.ensures) in
    let can = across_at s place key given.0 given.1 left right given.2 there behind in
    let count = count_at s place (length to) key given.0 given.1 left right given.2 there behind given.3 in
    let one = c.fresh-one.result in
    let fresh = subst (λ (ks : List Key). IsFresh 1 left.from right.end ks c.index-to-0.result c.args.seq one) c.in_ok-all.ensures
    (subst (λ n. IsFresh 1 n right.end c.in_ok-all.all.items c.index-to-0.result c.args.seq one) c.from.ensures (subst (λ n. IsFresh 1 c.from.result n c.in_ok-all.all.items c.index-to-0.result c.args.seq one) c.end.ensures c.fresh-one.ensures)) in
    one_may s.geometry s.root s.below s.leaves place key left right one up c.index-to-0.result c.args.seq c.root.ensures.spine can fresh name

pub one_below-requires-clause-place : goal.one_below-requires-clause-place
one_below-requires-clause-place c full =
    let s = c.args.self.now in
    let place = c.args.place in
    let key = c.args.key.now in
    let to = c.args.to.now in
    let given = c.requires.can in
    let left = c.index-nodes-place.result in
    let right = c.index-nodes-place-2.result in
    let long = ap (λ (ns : List Inner). length ns) c.below-nodes.ensures in
    let there = item_there s.below place left (slice_get_within s.below place given.0 given.2.there) (c.index-nodes-place.is ∙ ap (λ (ns : List Inner). get_or ns place left) c.below-nodes.ensures) in
    let behind = item_there s.below (place + 1) right (slice_get_within s.below (place + 1) given.1 given.2.behind) (c.index-nodes-place-2.is ∙ ap (λ (ns : List Inner). get_or ns (place + 1) right) c.below-nodes.ensures) in
    let can = across_at s place key given.0 given.1 left right given.2 there behind in
    let count = count_at s place (length to) key given.0 given.1 left right given.2 there behind given.3 in
    let small = test (λ (x : Geometry). become_one x left right) c.geometry.result.now s.geometry c.become_one.result true c.geometry.ensures c.become_one.ensures c.if-become_one.true in
    let rest = take_all (length to - 1) (drop 1 to) (omega (arith, length-drop 1 to)) in
    omega (arith, one_left s left right small full, count, length-drop 1 to, ap length rest)

pub returns-then-become_one : goal.returns-then-become_one
returns-then-become_one c =
    let s = c.args.self.now in
    let place = c.args.place in
    let key = c.args.key.now in
    let to = c.args.to.now in
    let given = c.requires.can in
    let left = c.index-nodes-place.result in
    let right = c.index-nodes-place-2.result in
    let long = ap (λ (ns : List Inner). length ns) c.below-nodes.ensures in
    let there = item_there s.below place left (slice_get_within s.below place given.0 given.2.there) (c.index-nodes-place.is ∙ ap (λ (ns : List Inner). get_or ns place left) c.below-nodes.ensures) in
    let behind = item_there s.below (place + 1) right (slice_get_within s.below (place + 1) given.1 given.2.behind) (c.index-nodes-place-2.is ∙ ap (λ (ns : List Inner). get_or ns (place + 1) right) c.below-nodes.ensures) in
    let can = across_at s place key given.0 given.1 left right given.2 there behind in
    let count = count_at s place (length to) key given.0 given.1 left right given.2 there behind given.3 in
    let small = test (λ (x : Geometry). become_one x left right) c.geometry.result.now s.geometry c.become_one.result true c.geometry.ensures c.become_one.ensures c.if-become_one.true in
    let one = c.fresh-one.result in
    let fresh = subst (λ (ks : List Key). IsFresh 1 left.from right.end ks c.index-to-0.result c.args.seq one) c.in_ok-all.ensures
    (subst (λ n. IsFresh 1 n right.end c.in_ok-all.all.items c.index-to-0.result c.args.seq one) c.from.ensures (subst (λ n. IsFresh 1 c.from.result n c.in_ok-all.all.items c.index-to-0.result c.args.seq one) c.end.ensures c.fresh-one.ensures)) in
    let rest = take_all (length to - 1) (drop 1 to) (omega (arith, length-drop 1 to)) in
    one_joined s place key left right one c.index-to-0.result to _ c.args.seq c.one_below.result can small (slice_get_read to (length to) 0 c.index-to-0.result refl (omega (arith, across_least s left right, count)) c.index-to-0.is) rest fresh c.one_below.ensures.root
    c.one_below.ensures.beside

pub divided-requires-clause-cover : goal.divided-requires-clause-cover
divided-requires-clause-cover c =
    let s = c.args.self.now in
    let place = c.args.place in
    let key = c.args.key.now in
    let to = c.args.to.now in
    let given = c.requires.can in
    let left = c.index-nodes-place.result in
    let right = c.index-nodes-place-2.result in
    let long = ap (λ (ns : List Inner). length ns) c.below-nodes.ensures in
    let there = item_there s.below place left (slice_get_within s.below place given.0 given.2.there) (c.index-nodes-place.is ∙ ap (λ (ns : List Inner). get_or ns place left) c.below-nodes.ensures) in
    let behind = item_there s.below (place + 1) right (slice_get_within s.below (place + 1) given.1 given.2.behind) (c.index-nodes-place-2.is ∙ ap (λ (ns : List Inner). get_or ns (place + 1) right) c.below-nodes.ensures) in
    let can = across_at s place key given.0 given.1 left right given.2 there behind in
    let count = count_at s place (length to) key given.0 given.1 left right given.2 there behind given.3 in
    subst (λ (ks : List Key). CoverRange c.from-2.result c.end-2.result ks) (sym (c.deref.ensures.value ∙ c.in_ok-all.ensures))
    (subst (λ n. CoverRange n c.end-2.result (children_across left right key)) (sym c.from-2.ensures) (subst (λ n. CoverRange left.from n (children_across left right key)) (sym c.end-2.ensures) can.cover))

pub divided-requires-clause-some : goal.divided-requires-clause-some
divided-requires-clause-some c =
    let s = c.args.self.now in
    let place = c.args.place in
    let key = c.args.key.now in
    let to = c.args.to.now in
    let given = c.requires.can in
    let left = c.index-nodes-place.result in
    let right = c.index-nodes-place-2.result in
    let long = ap (λ (ns : List Inner). length ns) c.below-nodes.ensures in
    let there = item_there s.below place left (slice_get_within s.below place given.0 given.2.there) (c.index-nodes-place.is ∙ ap (λ (ns : List Inner). get_or ns place left) c.below-nodes.ensures) in
    let behind = item_there s.below (place + 1) right (slice_get_within s.below (place + 1) given.1 given.2.behind) (c.index-nodes-place-2.is ∙ ap (λ (ns : List Inner). get_or ns (place + 1) right) c.below-nodes.ensures) in
    let can = across_at s place key given.0 given.1 left right given.2 there behind in
    let count = count_at s place (length to) key given.0 given.1 left right given.2 there behind given.3 in
    omega (arith, can.some.0, ap (λ (ks : List Key). length ks) c.children-cut.ensures.children)

pub divided-requires-clause-more : goal.divided-requires-clause-more
divided-requires-clause-more c =
    let s = c.args.self.now in
    let place = c.args.place in
    let key = c.args.key.now in
    let to = c.args.to.now in
    let given = c.requires.can in
    let left = c.index-nodes-place.result in
    let right = c.index-nodes-place-2.result in
    let long = ap (λ (ns : List Inner). length ns) c.below-nodes.ensures in
    let there = item_there s.below place left (slice_get_within s.below place given.0 given.2.there) (c.index-nodes-place.is ∙ ap (λ (ns : List Inner). get_or ns place left) c.below-nodes.ensures) in
    let behind = item_there s.below (place + 1) right (slice_get_within s.below (place + 1) given.1 given.2.behind) (c.index-nodes-place-2.is ∙ ap (λ (ns : List Inner). get_or ns (place + 1) right) c.below-nodes.ensures) in
    let can = across_at s place key given.0 given.1 left right given.2 there behind in
    let count = count_at s place (length to) key given.0 given.1 left right given.2 there behind given.3 in
    let small = test (λ (x : Geometry). become_one x left right) c.geometry.result.now s.geometry c.become_one.result false c.geometry.ensures c.become_one.ensures c.if-become_one.false in
    omega (arith, can.some.0, ap (λ (ks : List Key). length ks) c.children-cut.ensures.children, ap (λ (ks : List Key). length ks) (c.deref.ensures.value ∙ c.in_ok-all.ensures), across_long left right key can.some.0 can.some.1, some_stay s.geometry left right can.some.1 small)

pub divided-requires-clause-places : goal.divided-requires-clause-places
divided-requires-clause-places c =
    let s = c.args.self.now in
    let place = c.args.place in
    let key = c.args.key.now in
    let to = c.args.to.now in
    let given = c.requires.can in
    let left = c.index-nodes-place.result in
    let right = c.index-nodes-place-2.result in
    let long = ap (λ (ns : List Inner). length ns) c.below-nodes.ensures in
    let there = item_there s.below place left (slice_get_within s.below place given.0 given.2.there) (c.index-nodes-place.is ∙ ap (λ (ns : List Inner). get_or ns place left) c.below-nodes.ensures) in
    let behind = item_there s.below (place + 1) right (slice_get_within s.below (place + 1) given.1 given.2.behind) (c.index-nodes-place-2.is ∙ ap (λ (ns : List Inner). get_or ns (place + 1) right) c.below-nodes.ensures) in
    let can = across_at s place key given.0 given.1 left right given.2 there behind in
    let count = count_at s place (length to) key given.0 given.1 left right given.2 there behind given.3 in
    let small = test (λ (x : Geometry). become_one x left right) c.geometry.result.now s.geometry c.become_one.result false c.geometry.ensures c.become_one.ensures c.if-become_one.false in
    omega (arith, two_least s left right small, count)

pub slice_bounds-two_below-count : goal.slice_bounds-two_below-count
slice_bounds-two_below-count c =
    let s = c.args.self.now in
    let place = c.args.place in
    let key = c.args.key.now in
    let to = c.args.to.now in
    let given = c.requires.can in
    let left = c.index-nodes-place.result in
    let right = c.index-nodes-place-2.result in
    let long = ap (λ (ns : List Inner). length ns) c.below-nodes.ensures in
    let there = item_there s.below place left (slice_get_within s.below place given.0 given.2.there) (c.index-nodes-place.is ∙ ap (λ (ns : List Inner). get_or ns place left) c.below-nodes.ensures) in
    let behind = item_there s.below (place + 1) right (slice_get_within s.below (place + 1) given.1 given.2.behind) (c.index-nodes-place-2.is ∙ ap (λ (ns : List Inner). get_or ns (place + 1) right) c.below-nodes.ensures) in
    let can = across_at s place key given.0 given.1 left right given.2 there behind in
    let count = count_at s place (length to) key given.0 given.1 left right given.2 there behind given.3 in
    let small = test (λ (x : Geometry). become_one x left right) c.geometry.result.now s.geometry c.become_one.result false c.geometry.ensures c.become_one.ensures c.if-become_one.false in
    omega (arith, two_least s left right small, count)

pub slice_bounds-two_below-start : goal.slice_bounds-two_below-start
slice_bounds-two_below-start c =
    let s = c.args.self.now in
    let place = c.args.place in
    let key = c.args.key.now in
    let to = c.args.to.now in
    let given = c.requires.can in
    let left = c.index-nodes-place.result in
    let right = c.index-nodes-place-2.result in
    let long = ap (λ (ns : List Inner). length ns) c.below-nodes.ensures in
    let there = item_there s.below place left (slice_get_within s.below place given.0 given.2.there) (c.index-nodes-place.is ∙ ap (λ (ns : List Inner). get_or ns place left) c.below-nodes.ensures) in
    let behind = item_there s.below (place + 1) right (slice_get_within s.below (place + 1) given.1 given.2.behind) (c.index-nodes-place-2.is ∙ ap (λ (ns : List Inner). get_or ns (place + 1) right) c.below-nodes.ensures) in
    let can = across_at s place key given.0 given.1 left right given.2 there behind in
    let count = count_at s place (length to) key given.0 given.1 left right given.2 there behind given.3 in
    let small = test (λ (x : Geometry). become_one x left right) c.geometry.result.now s.geometry c.become_one.result false c.geometry.ensures c.become_one.ensures c.if-become_one.false in
    omega (arith, two_least s left right small, count)

pub two_below-requires-clause-can : goal.two_below-requires-clause-can
two_below-requires-clause-can c ka kb one other =
    let s = c.args.self.now in
    let place = c.args.place in
    let key = c.args.key.now in
    let to = c.args.to.now in
    let given = c.requires.can in
    let left = c.index-nodes-place.result in
    let right = c.index-nodes-place-2.result in
    let long = ap (λ (ns : List Inner). length ns) c.below-nodes.ensures in
    let there = item_there s.below place left (slice_get_within s.below place given.0 given.2.there) (c.index-nodes-place.is ∙ ap (λ (ns : List Inner). get_or ns place left) c.below-nodes.ensures) in
    let behind = item_there s.below (place + 1) right (slice_get_within s.below (place + 1) given.1 given.2.behind) (c.index-nodes-place-2.is ∙ ap (λ (ns : List Inner). get_or ns (place + 1) right) c.below-nodes.ensures) in
    let can = across_at s place key given.0 given.1 left right given.2 there behind in
    let count = count_at s place (length to) key given.0 given.1 left right given.2 there behind given.3 in
    let small = test (λ (x : Geometry). become_one x left right) c.geometry.result.now s.geometry c.become_one.result false c.geometry.ensures c.become_one.ensures c.if-become_one.false in
    let low = c.in_ok-two.two.low in
    let high = c.in_ok-two.two.high in
    let cut_is = ap (λ (ks : List Key). length ks) c.children-cut.ensures.children in
    let two = subst (λ (ks : List Key). AreTwo left.from right.end (length left.children) ks to c.args.seq low high) (c.deref.ensures.value ∙ c.in_ok-all.ensures)
    (subst (λ n. AreTwo left.from right.end n c.deref.result.now to c.args.seq low high) cut_is
    (subst (λ n. AreTwo n right.end (length c.children-cut.result.now) c.deref.result.now to c.args.seq low high) c.from-2.ensures
    (subst (λ n. AreTwo c.from-2.result n (length c.children-cut.result.now) c.deref.result.now to c.args.seq low high) c.end-2.ensures c.in_ok-two.ensures))) in
    two_may s.geometry s.root s.below s.leaves place key left right low high ka kb to c.args.seq c.root.ensures.spine can two small one other

pub two_below-requires-clause-place : goal.two_below-requires-clause-place
two_below-requires-clause-place c full =
    let s = c.args.self.now in
    let place = c.args.place in
    let key = c.args.key.now in
    let to = c.args.to.now in
    let given = c.requires.can in
    let left = c.index-nodes-place.result in
    let right = c.index-nodes-place-2.result in
    let long = ap (λ (ns : List Inner). length ns) c.below-nodes.ensures in
    let there = item_there s.below place left (slice_get_within s.below place given.0 given.2.there) (c.index-nodes-place.is ∙ ap (λ (ns : List Inner). get_or ns place left) c.below-nodes.ensures) in
    let behind = item_there s.below (place + 1) right (slice_get_within s.below (place + 1) given.1 given.2.behind) (c.index-nodes-place-2.is ∙ ap (λ (ns : List Inner). get_or ns (place + 1) right) c.below-nodes.ensures) in
    let can = across_at s place key given.0 given.1 left right given.2 there behind in
    let count = count_at s place (length to) key given.0 given.1 left right given.2 there behind given.3 in
    let small = test (λ (x : Geometry). become_one x left right) c.geometry.result.now s.geometry c.become_one.result false c.geometry.ensures c.become_one.ensures c.if-become_one.false in
    let rest = take_all (length to - 2) (drop 2 to) (omega (arith, length-drop 2 to)) in
    omega (arith, two_left s left right small full, count, length-drop 2 to, ap length rest)

pub returns : goal.returns
returns c =
    let s = c.args.self.now in
    let place = c.args.place in
    let key = c.args.key.now in
    let to = c.args.to.now in
    let given = c.requires.can in
    let left = c.index-nodes-place.result in
    let right = c.index-nodes-place-2.result in
    let long = ap (λ (ns : List Inner). length ns) c.below-nodes.ensures in
    let there = item_there s.below place left (slice_get_within s.below place given.0 given.2.there) (c.index-nodes-place.is ∙ ap (λ (ns : List Inner). get_or ns place left) c.below-nodes.ensures) in
    let behind = item_there s.below (place + 1) right (slice_get_within s.below (place + 1) given.1 given.2.behind) (c.index-nodes-place-2.is ∙ ap (λ (ns : List Inner). get_or ns (place + 1) right) c.below-nodes.ensures) in
    let can = across_at s place key given.0 given.1 left right given.2 there behind in
    let count = count_at s place (length to) key given.0 given.1 left right given.2 there behind given.3 in
    let small = test (λ (x : Geometry). become_one x left right) c.geometry.result.now s.geometry c.become_one.result false c.geometry.ensures c.become_one.ensures c.if-become_one.false in
    let low = c.in_ok-two.two.low in
    let high = c.in_ok-two.two.high in
    let cut_is = ap (λ (ks : List Key). length ks) c.children-cut.ensures.children in
    let two = subst (λ (ks : List Key). AreTwo left.from right.end (length left.children) ks to c.args.seq low high) (c.deref.ensures.value ∙ c.in_ok-all.ensures)
    (subst (λ n. AreTwo left.from right.end n c.deref.result.now to c.args.seq low high) cut_is
    (subst (λ n. AreTwo n right.end (length c.children-cut.result.now) c.deref.result.now to c.args.seq low high) c.from-2.ensures
    (subst (λ n. AreTwo c.from-2.result n (length c.children-cut.result.now) c.deref.result.now to c.args.seq low high) c.end-2.ensures c.in_ok-two.ensures))) in
    let rest = take_all (length to - 2) (drop 2 to) (omega (arith, length-drop 2 to)) in
    two_joined s place key left right low high to _ c.args.seq c.two_below.result can small rest two c.two_below.ensures.root c.two_below.ensures.beside
