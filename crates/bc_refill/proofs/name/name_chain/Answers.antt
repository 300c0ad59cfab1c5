use Rattle.std.proofs.Common.{ℕ, ◌≤◌, List, length, sym, ap, ◌∙◌, subst, arith}
use Rattle.std.proofs.lemmas.List.{length-map}
use Rattle.std.specs.Prelude.{vec_capacity}
use Rattle.bc_bucket.specs.Buckets.{shown_on_disk}
use Rattle.bc_disk.specs.declared.gens.BucketRecord.{BucketRecord}
use Rattle.bc_new_chain.proofs.Keeping.{holds_on}
use Rattle.bc_new_chain.proofs.of_bc_chain.of_bc_place.Keeping.{keeps_both as places_both}
use Rattle.bc_new_chain.specs.bc_hand.Seats.{world}
use Rattle.bc_new_chain.specs.bc_hand.declared.hand.Hand.{Hand}
use Rattle.bc_new_chain.specs.bc_machine.declared.part.BucketsPart.{BucketsPart}
use Rattle.bc_new_chain.proofs.InHand.{same_some}
use Rattle.bc_new_chain.proofs.Keeping.{beside_all}
use Rattle.bc_refill.proofs.Holding.{then_beside}
use Rattle.bc_refill.proofs.Naming.{may_seal, named, not_named, not_written}
use Rattle.bc_refill.proofs.Writing.{cause_lost, const_written, kinds_with}
use Rattle.bc_refill.specs.Sets.{AreForSets}
use Rattle.bc_refill.proofs.name.name_chain.Goals as goal

pub copy_gens-requires : goal.copy_gens-requires
copy_gens-requires g c =
    let can = c.requires.can in
    (can.0, can.2, can.5.records ∙ sym can.4.each)

pub write_sets-requires-clause-promise : goal.write_sets-requires-clause-promise
write_sets-requires-clause-promise g c =
    let most = c.requires.promise in
    let same = ap (λ (ns : List ℕ). length ns) c.deref.ensures.value in
    omega (arith, most, same)

pub write_sets-requires-clause-chain : goal.write_sets-requires-clause-chain
write_sets-requires-clause-chain g c = subst (λ (ns : List ℕ). AreForSets c.args.g.now
    c.args.seat.now.first ns (world g.C.Disk.facts g.B.Disk.facts c.args.seat.now))
    (sym c.deref.ensures.value) c.requires.chain

pub write_sets-requires-clause-records : goal.write_sets-requires-clause-records
write_sets-requires-clause-records g c =
    let can = c.requires.can in
    ap (λ (rs : List BucketRecord). length rs) (c.copy_gens.ensures can.0 can.2)
    ∙ length-map can.0.buckets.records shown_on_disk ∙ can.4.each

pub write_sets-requires-clause-rooms : goal.write_sets-requires-clause-rooms
write_sets-requires-clause-rooms g c =
    let room = c.requires.can.5 in (
      room.sets ∙ sym (ap (λ (ns : List ℕ). length ns) c.deref.ensures.value),
      room.set_rooms,
    )

pub returns-in-Err-clause-kinds : goal.returns-in-Err-clause-kinds
returns-in-Err-clause-kinds g c = kinds_with c.args.g.now c.args.hand.now c.write_sets.new.hand
    c.write_sets.ensures.rest c.requires.all c.write_sets.ensures.all

pub returns-in-Err-clause-err : goal.returns-in-Err-clause-err
returns-in-Err-clause-err g c = not_written g.C.Disk.facts g.B.Disk.facts c.in-Err.error
    c.args.g.now c.deref.result.now c.args.new.items c.copy_gens.new.into.records
    c.args.hand.now c.write_sets.new.hand c.args.seat.now c.write_sets.new.seat
    c.deref.ensures.value c.copy_gens.ensures c.write_sets.ensures.rest c.in-Err.ensures.err

pub returns-in-Err-clause-cause : goal.returns-in-Err-clause-cause
returns-in-Err-clause-cause g c = cause_lost g.C.Disk.facts g.B.Disk.facts c.in-Err.error
    c.args.g.now c.copy_gens.new.into.records c.deref.result.now c.args.seat.now
    c.write_sets.new.seat c.in-Err.ensures.err

pub returns-in-Err-clause-left : goal.returns-in-Err-clause-left
returns-in-Err-clause-left g c =
    let left = c.write_sets.ensures.left in
    let same = ap (λ (ns : List ℕ). length ns) c.deref.ensures.value in
    omega (arith, left, same)

pub returns-in-Err-clause-held : goal.returns-in-Err-clause-held
returns-in-Err-clause-held g c = beside_all g.C.Disk.facts g.B.Disk.facts c.args.new.items
    c.args.seat.now c.write_sets.new.seat c.write_sets.ensures.held

pub finish-requires-clause-promise : goal.finish-requires-clause-promise
finish-requires-clause-promise g c =
    let most = c.requires.promise in
    let left = c.write_sets.ensures.left in
    let same = ap (λ (ns : List ℕ). length ns) c.deref.ensures.value in
    omega (arith, most, left, same)

pub finish-requires-clause-may : goal.finish-requires-clause-may
finish-requires-clause-may g c =
    let can = c.requires.can in
    may_seal g.C.Disk.facts g.B.Disk.facts c.args.g.now c.deref.result.now c.args.new.items
    c.copy_gens.new.into.records can.0 can.1 c.args.hand.now c.write_sets.new.hand
    c.args.seat.now c.write_sets.new.seat c.requires.all c.write_sets.ensures.all
    c.write_sets.ensures.rest can.2 can.3 can.4 (c.copy_gens.ensures can.0 can.2)
    c.deref.ensures.value c.write_sets.ensures.first c.write_sets.ensures.each
    c.in-Ok.ensures.sets

pub finish-requires-clause-room : goal.finish-requires-clause-room
finish-requires-clause-room g c = c.requires.can.5.chain

pub finish-requires-clause-back : goal.finish-requires-clause-back
finish-requires-clause-back g c =
    let can = c.requires.can in (
      can.5.none_back,
      λ p is. subst (λ (x : BucketsPart). length x.chain.items ≤ vec_capacity c.args.room.back)
          (same_some c.args.hand.now.buckets can.0 p can.2
          (sym (ap (λ (x : Hand _ _). x.buckets) c.write_sets.ensures.rest) ∙ is)) can.5.back,
    )

pub finish-requires-clause-listed : goal.finish-requires-clause-listed
finish-requires-clause-listed g c =
    let can = c.requires.can in (
      can.5.none_listed,
      λ p is. subst (λ (x : BucketsPart). length x.reserves.raised
          ≤ vec_capacity c.args.room.listed)
          (same_some c.args.hand.now.buckets can.0 p can.2
          (sym (ap (λ (x : Hand _ _). x.buckets) c.write_sets.ensures.rest) ∙ is)) can.5.listed,
    )

pub returns-clause-kinds : goal.returns-clause-kinds
returns-clause-kinds g c = c.finish.ensures.kinds
    ∙ kinds_with c.args.g.now c.args.hand.now c.write_sets.new.hand c.write_sets.ensures.rest
    c.requires.all c.write_sets.ensures.all

pub returns-clause-ok : goal.returns-clause-ok
returns-clause-ok g c = named g.C.Disk.facts g.B.Disk.facts c.args.g.now c.deref.result.now
    c.args.new c.copy_gens.new.into.records c.args.hand.now c.write_sets.new.hand
    c.finish.new.hand c.args.seat.now c.write_sets.new.seat c.finish.new.seat
    c.deref.ensures.value c.copy_gens.ensures c.write_sets.ensures.rest c.in-Ok.ensures.ok
    c.finish.result c.finish.ensures.ok

pub returns-clause-err : goal.returns-clause-err
returns-clause-err g c = not_named g.C.Disk.facts g.B.Disk.facts c.args.g.now c.deref.result.now
    c.args.new.items c.copy_gens.new.into.records c.args.hand.now c.write_sets.new.hand
    c.finish.new.hand c.args.seat.now c.write_sets.new.seat c.finish.new.seat
    c.deref.ensures.value c.copy_gens.ensures c.write_sets.ensures.rest c.in-Ok.ensures.ok
    c.finish.result c.finish.ensures.err

pub returns-clause-left : goal.returns-clause-left
returns-clause-left g c =
    let left = c.write_sets.ensures.left in
    let more = c.finish.ensures.left in
    let same = ap (λ (ns : List ℕ). length ns) c.deref.ensures.value in
    omega (arith, left, more, same)

pub returns-clause-keeps : goal.returns-clause-keeps
returns-clause-keeps g c = places_both g.C.Disk.facts g.B.Disk.facts c.args.seat.now
    c.write_sets.new.seat c.finish.new.seat c.write_sets.ensures.keeps c.finish.ensures.keeps

pub returns-clause-held : goal.returns-clause-held
returns-clause-held g c =
    let cf = g.C.Disk.facts in
    let bf = g.B.Disk.facts in
    then_beside cf bf c.args.new.items c.args.seat.now c.write_sets.new.seat c.finish.new.seat
    (holds_on cf bf c.args.parts.now c.args.seat.now c.write_sets.new.seat c.args.hand.now
    c.write_sets.new.hand c.requires.works c.write_sets.ensures.works
    (kinds_with c.args.g.now c.args.hand.now c.write_sets.new.hand c.write_sets.ensures.rest
    c.requires.all c.write_sets.ensures.all))
    (λ K h. const_written cf bf K c.args.g.now c.copy_gens.new.into.records c.deref.result.now 0
    (length c.deref.result.now) c.args.seat.now c.write_sets.new.seat c.requires.works.seat
    c.in-Ok.ensures.ok h) c.write_sets.ensures.held c.finish.ensures.held
