use Rattle.std.proofs.Common.{◌≡◌, ◌+◌, ◌≤◌, List, [], ◌∷◌, drop, length, sym, ap, ◌∙◌, subst, arith}
use Rattle.std.specs.Prelude.{All}
use Rattle.std.proofs.lemmas.List.{length-append, length-drop}
use Rattle.std.proofs.lemmas.List.Elements.{All-push}
use Rattle.bc_fill.specs.declared.fill.Placed.{Placed}
use Rattle.bc_insert.specs.bc_hand.Seats.{world}
use Rattle.bc_insert.specs.Write.{AreReady}
use Rattle.bc_insert.specs.bc_machine.World.{FromEach}
use Rattle.bc_insert.specs.bc_place.Named.{AreOnDevice, sectors_of}
use Rattle.bc_stored.specs.All.{AreOwnApart, HaveStored}
use Rattle.bc_stored.specs.Stored.{HasStoredAt}
use Rattle.bc_stored.proofs.Filling.{device_then, stored_then}
use Rattle.bc_stored.proofs.Letting.{ready_own}
use Rattle.bc_stored.proofs.Ready.{ready_then, sectors_then}
use Rattle.bc_stored.proofs.all.store.Goals as goal

pub loop-done-preserved : goal.loop-done-preserved
loop-done-preserved g c =
    let cf = g.C.Disk.facts in
    let bf = g.B.Disk.facts in
    let l = c.loop-done in
    let ps = l.places.items in
    let vs = c.args.values.now in
    let p = c.in-Ok-store_one.place in
    let next = c.store_one.new.seat in
    let inv = l.invariant in
    let it = subst (λ n. HasStoredAt cf bf c.args.before c.args.sectors p (drop n vs) l.seat next)
    inv.4 c.in-Ok-store_one.ensures.ok in
    let items = c.push_reserved.ensures.items in
    let long = ap (λ (x : List Placed). length x) items ∙ length-append ps (p ∷ []) in
    let some = it.given.is.some in
    let most = it.given.is.most in
    let rest = length-drop (sectors_of ps) vs in
    let at = inv.4 in
    let within = inv.5 in
    let count = inv.2 in
    let left = inv.6 in
    let spent = c.in-Ok-store_one.ensures.spared in
    let capacity = c.push_reserved.ensures.capacity in
    let room = inv.3 in (
      c.store_one.ensures.works,
      c.store_one.ensures.empty,
      omega (arith, long, some, count),
      omega (arith, capacity, room),
      subst (λ (qs : List Placed). l.done + p.count ≡ sectors_of qs) (sym items)
          (ap (λ n. n + p.count) at ∙ sym (sectors_then ps p)),
      omega (arith, most, rest, at, within),
      omega (arith, long, some, left, spent),
      it.stored.opening.before c.args.before (it.keeps.opening.before c.args.before inv.7),
      subst (λ (qs : List Placed). HaveStored cf bf c.args.before c.args.sectors qs vs
          c.args.seat.now next) (sym items)
          (stored_then cf bf c.args.before c.args.sectors ps p vs c.args.seat.now l.seat next inv.8
          it),
      subst (λ (qs : List Placed). FromEach (world cf bf next)
          (AreReady next.first c.args.first vs qs)) (sym items)
          (ready_then cf bf c.args.before c.args.sectors c.args.first vs ps p l.seat next inv.9 it),
      subst AreOnDevice (sym items)
          (device_then ps p inv.10 it.given.is.device it.lies.pointer),
      subst (All (λ (q : Placed). q.count ≤ 32768)) (sym items)
          (All-push (λ (q : Placed). q.count ≤ 32768) ps p inv.11 it.given.is.few),
    )

pub let_go-requires-clause-own : goal.let_go-requires-clause-own
let_go-requires-clause-own g c =
    let cf = g.C.Disk.facts in
    let bf = g.B.Disk.facts in
    let l = c.loop-done in
    let next = c.store_one.new.seat in
    subst (λ (qs : List Placed). FromEach (world cf bf next) (AreOwnApart next.first qs))
    (sym c.deref.ensures.value)
    (ready_own cf bf c.args.first c.args.values.now l.places.items l.seat next
    c.in-Err.ensures.err.keeps l.invariant.9)
