use Rattle.std.proofs.Common.{◌≡◌, ◌≤◌, ◌+◌, length, get_or, refl, sym, ◌∙◌, arith}
use Rattle.std.proofs.lemmas.Bool.{ltb-true, ltb-false}
use Rattle.std.proofs.lemmas.List.Elements.{All-nil}
use Rattle.std.proofs.lemmas.Option.{slice_get_read, slice_get_past}
use Rattle.bc_entries.specs.Lists.{picked}
use Rattle.bc_entries.proofs.Rooms.{EndsAt, EndsBefore, any_at, next_higher, next_kept, next_none, next_is}
use Rattle.bc_entries.proofs.room.next_place.Goals as goal
use Rattle.bc_entries.proofs.room.next_place.Goals.{in-Some+then-bucket_of-bucket, in-Some+else-bucket_of-bucket, in_default}

pub loop-place-init : goal.loop-place-init
loop-place-init c =
    let g = c.args.g.now in
    let newest = c.args.newest.now in
    record {
      last = any_at (EndsAt g newest c.end_of-next.result) (picked c.args.all.now c.args.order.now) newest c.requires.counts (refl, sym c.end_of-next.ensures);
      behind = All-nil (EndsBefore g newest c.end_of-next.result);
      within = omega (arith, c.requires.within, c.end_of-next.ensures);
    }

pub loop-place-preserved : goal.loop-place-preserved
loop-place-preserved c =
    let g = c.args.g.now in
    let all = c.args.all.now in
    let order = c.args.order.now in
    let newest = c.args.newest.now in
    let next = c.loop-place.next in
    let i = c.loop-place.place-index in
    let place = get_or order i 0 in
    elim c.match-get.branch [
      | in-Some+then-bucket_of-bucket w ↦
          let found = w.in-Some.ensures.lookup in
          let here = slice_get_read all (length all) place w.in-Some.e.now refl (ltb-true place (length all) (sym found.0)) found.1 in
          next_higher g all order newest next c.match-get.next w.end_of.result i place w.in-Some.e.now c.loop-place.invariant c.loop-place-test.true refl here c.requires.ends
          (sym w.bucket_of.ensures ∙ w.if-bucket_of-bucket.true ∙ c.bucket_of-bucket.ensures) w.end_of.ensures (w.next-is ∙ w.max-next.ensures)
      | in-Some+else-bucket_of-bucket w ↦
          let found = w.in-Some.ensures.lookup in
          let here = slice_get_read all (length all) place w.in-Some.e.now refl (ltb-true place (length all) (sym found.0)) found.1 in
          next_kept g all order newest next c.match-get.next i place w.in-Some.e.now c.loop-place.invariant c.loop-place-test.true refl here
          (λ same. w.if-bucket_of-bucket.false (w.bucket_of.ensures ∙ same ∙ sym c.bucket_of-bucket.ensures)) w.next-is
      | in_default w ↦
          let none = slice_get_past all place (ltb-false place (length all) (sym w.in_default.ensures.lookup.0)) in
          next_none g all order newest next c.match-get.next i place c.loop-place.invariant c.loop-place-test.true refl none w.next-is
    ]

pub returns-clause-place : goal.returns-clause-place
returns-clause-place c = next_is c.args.g.now c.args.all.now c.args.order.now c.args.newest.now c.loop-place.next c.loop-place.place-index c.loop-place-test.false c.loop-place.invariant

pub returns-clause-within : goal.returns-clause-within
returns-clause-within c = c.loop-place.invariant.within
