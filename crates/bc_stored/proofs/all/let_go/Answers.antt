use Rattle.std.proofs.Common.{◌≡◌, ◌+◌, List, ◌∷◌, drop, sym, ap, ◌∙◌, subst, arith, None, rules}
use Rattle.std.proofs.lemmas.List.{drop_more}
use Rattle.bc_insert.proofs.of_bc_deed.May.{did_nothing}
use Rattle.bc_insert.proofs.of_bc_deed.Sequence.{done_first}
use Rattle.bc_fill.specs.declared.fill.Placed.{Placed}
use Rattle.bc_insert.specs.bc_hand.Seats.{empty, world}
use Rattle.bc_insert.specs.bc_machine.World.{FromEach}
use Rattle.bc_stored.specs.All.{AreOwnApart}
use Rattle.bc_stored.proofs.Letting.{rest_own, unpinned_more}
use Rattle.bc_stored.proofs.all.let_go.Goals as goal

pub loop-place-init : goal.loop-place-init
loop-place-init g c =
    let cf = g.C.Disk.facts in
    let bf = g.B.Disk.facts in
    let v = c.args.seat.now in (
      c.requires.works,
      c.requires.empty,
      omega arith,
      c.requires.own,
      done_first cf bf None v v (did_nothing cf bf v c.requires.works.seat),
    )

pub loop-place-preserved : goal.loop-place-preserved
loop-place-preserved g c =
    let cf = g.C.Disk.facts in
    let bf = g.B.Disk.facts in
    let l = c.loop-place in
    let ps = c.args.places.now in
    let i = l.place-index in
    let p = c.place-item.result in
    let next = c.unpin.new.seat in
    let still : c.unpin.new.hand ≡ empty = search rules in
    let spent = c.unpin.ensures.did.did.is.promises in
    let left = l.invariant.2 in
    let rest = drop_more ps i p c.loop-place-test.true
    ∙ ap (λ (q : Placed). q ∷ drop (i + 1) ps) (sym c.place-item.is) in (
      c.unpin.ensures.works,
      still,
      omega (arith, spent, left),
      rest_own cf bf p (drop (i + 1) ps) l.seat next
          (subst (λ (qs : List Placed). FromEach (world cf bf l.seat)
          (AreOwnApart l.seat.first qs)) rest l.invariant.3) c.unpin.ensures.did,
      unpinned_more cf bf ps i p c.args.seat.now l.seat next c.loop-place-test.true c.place-item.is
          l.invariant.4 c.unpin.ensures.did,
    )
