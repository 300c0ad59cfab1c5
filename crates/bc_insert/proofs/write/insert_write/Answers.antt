use Rattle.std.proofs.Common.{◌≡◌, true, Some, refl, sym, ap, ◌∙◌, subst, arith}
use Rattle.std.specs.Prelude.{List, ◌++◌, length}
use Rattle.bc_place.proofs.of_bc_deed.May.{did_nothing}
use Rattle.bc_events.specs.declared.event.Deed.{Deed}
use Rattle.bc_events.specs.declared.event.Deed.TheVariants as deed
use Rattle.bc_place.specs.bc_hand.Seats.{Did, MayDo, by}
use Rattle.bc_place.proofs.of_bc_hand.Knowing.{m}
use Rattle.bc_place.proofs.of_bc_hand.Lending.{works_waited}
use Rattle.bc_key.specs.declared.key.Key.{Key}
use Rattle.bc_place.specs.bc_machine.World.{are_plain, changes}
use Rattle.bc_place.specs.bc_machine.declared.part.CorePart.{CorePart}
use Rattle.bc_model.specs.Sector.{Value}
use Rattle.bc_parts.specs.Seat.{Run}
use Rattle.bc_place.proofs.Keeping.{keeps_waited}
use Rattle.bc_place.proofs.Storing.{keeps_nothing}
use Rattle.bc_seats.specs.Seats.{Kept}
use Rattle.bc_insert.proofs.Finding.{can_there, only_slot, put_here, put_write, still_buckets}
use Rattle.bc_insert.proofs.InHand.{holds_changed}
use Rattle.bc_insert.proofs.Writing.{may_insert, write_into}
use Rattle.bc_insert.proofs.Written.{has_inserted, some_keys, write_works}
use Rattle.bc_insert.proofs.write.insert_write.Goals as goal

pub returns-in-Some-clause-err : goal.returns-in-Some-clause-err
returns-in-Some-clause-err g c = did_nothing g.C.Disk.facts g.B.Disk.facts c.args.seat.now
    c.requires.works.seat

pub returns-in-Some-clause-keeps : goal.returns-in-Some-clause-keeps
returns-in-Some-clause-keeps g c = keeps_nothing g.C.Disk.facts g.B.Disk.facts c.args.seat.now
    c.requires.works.seat

pub slot_in-slot-requires : goal.slot_in-slot-requires
slot_in-slot-requires g c =
    let can = c.requires.can.2 in (
      can.leaves,
      c.requires.can.0,
      can.is,
      record {
        cached = c.requires.can.1;
        there = can.can.there;
        number_is = can.can.number_is;
      },
    )

pub returns-in_default-extend_from_slice-clause-err :
    goal.returns-in_default-extend_from_slice-clause-err
returns-in_default-extend_from_slice-clause-err g c = did_nothing g.C.Disk.facts g.B.Disk.facts
    c.args.seat.now c.requires.works.seat

pub returns-in_default-extend_from_slice-clause-keeps :
    goal.returns-in_default-extend_from_slice-clause-keeps
returns-in_default-extend_from_slice-clause-keeps g c = keeps_nothing g.C.Disk.facts
    g.B.Disk.facts c.args.seat.now c.requires.works.seat

pub returns-in_default-copy-clause-err : goal.returns-in_default-copy-clause-err
returns-in_default-copy-clause-err g c = did_nothing g.C.Disk.facts g.B.Disk.facts
    c.args.seat.now c.requires.works.seat

pub returns-in_default-copy-clause-keeps : goal.returns-in_default-copy-clause-keeps
returns-in_default-copy-clause-keeps g c = keeps_nothing g.C.Disk.facts g.B.Disk.facts
    c.args.seat.now c.requires.works.seat

pub commit-requires-clause-holds : goal.commit-requires-clause-holds
commit-requires-clause-holds g c =
    let cf = g.C.Disk.facts in
    let bf = g.B.Disk.facts in
    let v = c.args.seat.now in
    let slot = c.requires.can.0 in
    let cached = c.requires.can.1 in
    let can = c.requires.can.2 in
    let keys = c.from_vec.ensures ∙ c.in-Ok.ensures.items
    ∙ ap (λ (l : List Key). l ++ c.args.keys.now) c.new-own.ensures.items in
    let same = ap (λ (l : List Key). deed.InsertWrite c.args.leaf l c.args.of c.args.first
    c.in-Ok-copy.values) keys
    ∙ ap (λ (l : List Value). deed.InsertWrite c.args.leaf c.args.keys.now c.args.of c.args.first l)
    c.in-Ok-copy.ensures in
    λ k on. holds_changed cf bf c.args.parts.now v c.args.hand.now c.requires.works c.args.leaf slot
    cached c.args.keys.now can
    (deed.InsertWrite c.args.leaf c.args.keys.now c.args.of c.args.first c.args.values.now)
    (write_into c.args.leaf c.args.keys.now c.args.of c.args.first c.args.values.now) refl
    (length v.run.start)
    (ap (λ (r : Run (CorePart g.row.C.Denot g.row.B.Denot)). length r.start) c.requires.works.run) k
    (subst (λ (d : Deed). changes (length v.run.start) (by v.first d) k ≡ true) same on)

pub commit-requires-clause-may : goal.commit-requires-clause-may
commit-requires-clause-may g c =
    let cf = g.C.Disk.facts in
    let bf = g.B.Disk.facts in
    let v = c.args.seat.now in
    let slot = c.requires.can.0 in
    let cached = c.requires.can.1 in
    let can = c.requires.can.2 in
    let keys = c.from_vec.ensures ∙ c.in-Ok.ensures.items
    ∙ ap (λ (l : List Key). l ++ c.args.keys.now) c.new-own.ensures.items in
    let same = ap (λ (l : List Key). deed.InsertWrite c.args.leaf l c.args.of c.args.first
    c.in-Ok-copy.values) keys
    ∙ ap (λ (l : List Value). deed.InsertWrite c.args.leaf c.args.keys.now c.args.of c.args.first l)
    c.in-Ok-copy.ensures in
    subst (λ (d : Deed). MayDo cf bf v d) (sym same)
    (may_insert cf bf c.args.parts.now v c.args.hand.now c.requires.works c.args.leaf slot cached
    c.args.keys.now can
    (only_slot c.args.hand.now c.args.leaf c.slot_in-slot.result c.slot_in-slot.ensures
    (length c.args.parts.now.run.start) slot cached c.args.keys.now can)
    c.args.of c.args.first c.args.values.now c.args.places.now c.requires.keys c.requires.total
    c.requires.some c.requires.inside c.requires.may c.requires.device
    (ap (λ (r : Run (CorePart g.row.C.Denot g.row.B.Denot)). are_plain cf bf r.start)
    c.requires.works.run ∙ c.requires.cached) c.requires.line c.requires.ready)

pub returns-in-Err-clause-works : goal.returns-in-Err-clause-works
returns-in-Err-clause-works g c = works_waited g.C.Disk.facts g.B.Disk.facts c.args.parts.now
    c.args.seat.now c.commit.new.seat c.args.hand.now c.requires.works
    c.in-Err.ensures.err.seat.seat c.in-Err.ensures.err.is c.commit.ensures.kept.parts

pub returns-in-Err-clause-keeps : goal.returns-in-Err-clause-keeps
returns-in-Err-clause-keeps g c = keeps_waited g.C.Disk.facts g.B.Disk.facts c.args.seat.now
    c.commit.new.seat c.requires.works.seat c.in-Err.ensures.err.is

pub put_in-requires : goal.put_in-requires
put_in-requires g c =
    let slot = c.requires.can.0 in
    let cached = c.requires.can.1 in
    let can = c.requires.can.2 in (
      length c.args.parts.now.run.start,
      c.args.leaf,
      cached,
      can_there c.args.hand.now c.args.leaf c.slot_in-slot.result c.slot_in-slot.ensures
          (length c.args.parts.now.run.start) slot cached c.args.keys.now can,
    )

pub name_in-requires : goal.name_in-requires
name_in-requires g c =
    let slot = c.requires.can.0 in
    let cached = c.requires.can.1 in
    let can = c.requires.can.2 in
    let n = length c.args.parts.now.run.start in (
      can.buckets,
      still_buckets c.args.hand.now c.put_in.new.hand c.slot_in-slot.result cached c.args.keys.now
          can.buckets can.are_buckets
          (c.put_in.ensures n c.args.leaf cached
          (can_there c.args.hand.now c.args.leaf c.slot_in-slot.result c.slot_in-slot.ensures n slot
          cached c.args.keys.now can)),
    )

pub returns-clause-works : goal.returns-clause-works
returns-clause-works g c =
    let cf = g.C.Disk.facts in
    let bf = g.B.Disk.facts in
    let v = c.args.seat.now in
    let slot = c.requires.can.0 in
    let cached = c.requires.can.1 in
    let can = c.requires.can.2 in
    let keys = c.from_vec.ensures ∙ c.in-Ok.ensures.items
    ∙ ap (λ (l : List Key). l ++ c.args.keys.now) c.new-own.ensures.items in
    let same = ap (λ (l : List Key). deed.InsertWrite c.args.leaf l c.args.of c.args.first
    c.in-Ok-copy.values) keys
    ∙ ap (λ (l : List Value). deed.InsertWrite c.args.leaf c.args.keys.now c.args.of c.args.first l)
    c.in-Ok-copy.ensures in
    write_works c.args.leaf c.args.keys.now c.args.of c.args.first c.args.values.now
    c.args.places.now c.requires.keys cf bf c.args.parts.now v c.args.hand.now c.requires.works slot
    cached can
    (only_slot c.args.hand.now c.args.leaf c.slot_in-slot.result c.slot_in-slot.ensures
    (length c.args.parts.now.run.start) slot cached c.args.keys.now can)
    c.requires.ready c.commit.new.seat
    (subst (λ (d : Deed). Did cf bf (Some d) v c.commit.new.seat) same
    c.in_default-commit.ensures.ok)
    (some_keys c.args.first c.args.places.now c.args.keys.now c.requires.keys
    (omega (arith, c.requires.some, c.requires.total))) c.name_in.new.hand
    (put_write c.args.hand.now c.put_in.new.hand c.name_in.new.hand slot cached c.args.keys.now
    c.args.places.now
    (put_here c.args.hand.now c.args.leaf c.slot_in-slot.result c.slot_in-slot.ensures
    (length c.args.parts.now.run.start) slot cached c.args.keys.now can c.put_in.new.hand
    (c.put_in.ensures (length c.args.parts.now.run.start) c.args.leaf cached
    (can_there c.args.hand.now c.args.leaf c.slot_in-slot.result c.slot_in-slot.ensures
    (length c.args.parts.now.run.start) slot cached c.args.keys.now can)))
    can.buckets can.are_buckets c.name_in.ensures)
    (subst (λ (d : Deed). Kept (m cf bf) v c.commit.new.seat (changes (length v.run.start)
    (by v.first d))) same c.commit.ensures.kept)

pub returns-clause-ok : goal.returns-clause-ok
returns-clause-ok g c =
    let cf = g.C.Disk.facts in
    let bf = g.B.Disk.facts in
    let v = c.args.seat.now in
    let slot = c.requires.can.0 in
    let cached = c.requires.can.1 in
    let can = c.requires.can.2 in
    let keys = c.from_vec.ensures ∙ c.in-Ok.ensures.items
    ∙ ap (λ (l : List Key). l ++ c.args.keys.now) c.new-own.ensures.items in
    let same = ap (λ (l : List Key). deed.InsertWrite c.args.leaf l c.args.of c.args.first
    c.in-Ok-copy.values) keys
    ∙ ap (λ (l : List Value). deed.InsertWrite c.args.leaf c.args.keys.now c.args.of c.args.first l)
    c.in-Ok-copy.ensures in
    has_inserted c.args.leaf c.args.keys.now c.args.of c.args.first c.args.values.now
    c.args.places.now c.requires.keys cf bf c.args.parts.now v c.args.hand.now c.requires.works slot
    cached can
    (only_slot c.args.hand.now c.args.leaf c.slot_in-slot.result c.slot_in-slot.ensures
    (length c.args.parts.now.run.start) slot cached c.args.keys.now can)
    c.requires.ready c.commit.new.seat
    (subst (λ (d : Deed). Did cf bf (Some d) v c.commit.new.seat) same
    c.in_default-commit.ensures.ok)

pub returns-clause-hand : goal.returns-clause-hand
returns-clause-hand g c parts slot cached can =
    put_write c.args.hand.now c.put_in.new.hand c.name_in.new.hand slot cached c.args.keys.now
    c.args.places.now
    (put_here c.args.hand.now c.args.leaf c.slot_in-slot.result c.slot_in-slot.ensures parts slot
    cached c.args.keys.now can c.put_in.new.hand (c.put_in.ensures parts c.args.leaf cached
    (can_there c.args.hand.now c.args.leaf c.slot_in-slot.result c.slot_in-slot.ensures parts slot
    cached c.args.keys.now can))) can.buckets can.are_buckets c.name_in.ensures
