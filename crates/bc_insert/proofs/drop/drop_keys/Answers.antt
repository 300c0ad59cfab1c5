use Rattle.std.proofs.Common.{◌≡◌, true, Some, refl, sym, ap, ◌∙◌, subst}
use Rattle.std.specs.Prelude.{List, ◌++◌, length}
use Rattle.bc_place.proofs.of_bc_deed.May.{did_nothing}
use Rattle.bc_events.specs.declared.event.Deed.TheVariants as deed
use Rattle.bc_events.specs.declared.event.Form.TheVariants as form
use Rattle.bc_place.specs.bc_hand.Seats.{Did, MayDo, by}
use Rattle.bc_place.proofs.of_bc_hand.Knowing.{m}
use Rattle.bc_place.proofs.of_bc_hand.Lending.{works_waited}
use Rattle.bc_key.specs.declared.key.Key.{Key}
use Rattle.bc_place.specs.bc_machine.World.{are_plain, changes}
use Rattle.bc_place.specs.bc_machine.declared.part.CorePart.{CorePart}
use Rattle.bc_parts.specs.Seat.{Run}
use Rattle.bc_seats.specs.Seats.{Kept}
use Rattle.bc_insert.proofs.Dropped.{drop_works}
use Rattle.bc_insert.proofs.Dropping.{drop_into, may_drop}
use Rattle.bc_insert.proofs.Finding.{can_there, only_slot, put_here}
use Rattle.bc_insert.proofs.InHand.{holds_changed}
use Rattle.bc_insert.proofs.drop.drop_keys.Goals as goal

pub returns-in-Some-clause-err : goal.returns-in-Some-clause-err
returns-in-Some-clause-err g c = did_nothing g.C.Disk.facts g.B.Disk.facts c.args.seat.now
    c.requires.works.seat

pub slot_in-slot-requires : goal.slot_in-slot-requires
slot_in-slot-requires g c =
    let can = c.requires.can.2 in (
      can.leaves,
      c.requires.can.0,
      can.is,
      record {
        cached = c.requires.can.1;
        there = can.can.there;
        number_is = can.can.number_is;
      },
    )

pub next_entry-entry-requires : goal.next_entry-entry-requires
next_entry-entry-requires g c =
    let can = c.requires.can.2 in (can.journal, can.is_journal)

pub returns-in_default-extend_from_slice-clause-err :
    goal.returns-in_default-extend_from_slice-clause-err
returns-in_default-extend_from_slice-clause-err g c = did_nothing g.C.Disk.facts g.B.Disk.facts
    c.args.seat.now c.requires.works.seat

pub commit-requires-clause-holds : goal.commit-requires-clause-holds
commit-requires-clause-holds g c =
    let cf = g.C.Disk.facts in
    let bf = g.B.Disk.facts in
    let v = c.args.seat.now in
    let slot = c.requires.can.0 in
    let cached = c.requires.can.1 in
    let can = c.requires.can.2 in
    let keys = c.from_vec.ensures ∙ c.in-Ok.ensures.items
    ∙ ap (λ (l : List Key). l ++ c.args.keys.now) c.new-own.ensures.items in
    λ k on. holds_changed cf bf c.args.parts.now v c.args.hand.now c.requires.works c.args.leaf slot
    cached c.args.keys.now can (deed.Insert c.args.leaf c.args.keys.now form.Drop)
    (drop_into c.args.leaf c.args.keys.now) refl
    (length v.run.start)
    (ap (λ (r : Run (CorePart g.row.C.Denot g.row.B.Denot)). length r.start) c.requires.works.run) k
    (subst (λ (l : List Key). changes (length v.run.start)
    (by v.first (deed.Insert c.args.leaf l form.Drop)) k ≡ true) keys on)

pub commit-requires-clause-may : goal.commit-requires-clause-may
commit-requires-clause-may g c =
    let cf = g.C.Disk.facts in
    let bf = g.B.Disk.facts in
    let v = c.args.seat.now in
    let slot = c.requires.can.0 in
    let cached = c.requires.can.1 in
    let can = c.requires.can.2 in
    let keys = c.from_vec.ensures ∙ c.in-Ok.ensures.items
    ∙ ap (λ (l : List Key). l ++ c.args.keys.now) c.new-own.ensures.items in
    subst (λ (l : List Key). MayDo cf bf v (deed.Insert c.args.leaf l form.Drop)) (sym keys)
    (may_drop cf bf c.args.parts.now v c.args.hand.now c.requires.works
    (ap (λ (r : Run (CorePart g.row.C.Denot g.row.B.Denot)). are_plain cf bf r.start)
    c.requires.works.run ∙ c.requires.cached) c.args.leaf slot cached c.args.keys.now can
    (only_slot c.args.hand.now c.args.leaf c.slot_in-slot.result c.slot_in-slot.ensures
    (length c.args.parts.now.run.start) slot cached c.args.keys.now can)
    (c.next_entry-entry.ensures can.journal can.is_journal).0 c.requires.can.3 c.requires.inside)

pub returns-in-Err-clause-works : goal.returns-in-Err-clause-works
returns-in-Err-clause-works g c = works_waited g.C.Disk.facts g.B.Disk.facts c.args.parts.now
    c.args.seat.now c.commit.new.seat c.args.hand.now c.requires.works
    c.in-Err.ensures.err.seat.seat c.in-Err.ensures.err.is c.commit.ensures.kept.parts

pub put_in-requires : goal.put_in-requires
put_in-requires g c =
    let slot = c.requires.can.0 in
    let cached = c.requires.can.1 in
    let can = c.requires.can.2 in (
      length c.args.parts.now.run.start,
      c.args.leaf,
      cached,
      can_there c.args.hand.now c.args.leaf c.slot_in-slot.result c.slot_in-slot.ensures
          (length c.args.parts.now.run.start) slot cached c.args.keys.now can,
    )

pub returns-clause-works : goal.returns-clause-works
returns-clause-works g c =
    let cf = g.C.Disk.facts in
    let bf = g.B.Disk.facts in
    let v = c.args.seat.now in
    let w = c.commit.new.seat in
    let slot = c.requires.can.0 in
    let cached = c.requires.can.1 in
    let can = c.requires.can.2 in
    let n = length c.args.parts.now.run.start in
    let keys = c.from_vec.ensures ∙ c.in-Ok.ensures.items
    ∙ ap (λ (l : List Key). l ++ c.args.keys.now) c.new-own.ensures.items in
    drop_works cf bf c.args.parts.now v c.args.hand.now c.requires.works
    (ap (λ (r : Run (CorePart g.row.C.Denot g.row.B.Denot)). are_plain cf bf r.start)
    c.requires.works.run ∙ c.requires.cached) c.args.leaf slot cached c.args.keys.now can
    (only_slot c.args.hand.now c.args.leaf c.slot_in-slot.result c.slot_in-slot.ensures n slot
    cached c.args.keys.now can)
    (c.next_entry-entry.ensures can.journal can.is_journal).0 c.requires.can.3 c.requires.inside w
    (subst (λ (l : List Key). Did cf bf (Some (deed.Insert c.args.leaf l form.Drop)) v w) keys
    c.in_default-commit.ensures.ok) c.put_in.new.hand
    (put_here c.args.hand.now c.args.leaf c.slot_in-slot.result c.slot_in-slot.ensures n slot cached
    c.args.keys.now can c.put_in.new.hand (c.put_in.ensures n c.args.leaf cached
    (can_there c.args.hand.now c.args.leaf c.slot_in-slot.result c.slot_in-slot.ensures n slot
    cached c.args.keys.now can)))
    (subst (λ (l : List Key). Kept (m cf bf) v w (changes (length v.run.start)
    (by v.first (deed.Insert c.args.leaf l form.Drop)))) keys c.commit.ensures.kept)

pub returns-clause-ok : goal.returns-clause-ok
returns-clause-ok g c =
    let cf = g.C.Disk.facts in
    let bf = g.B.Disk.facts in
    let keys = c.from_vec.ensures ∙ c.in-Ok.ensures.items
    ∙ ap (λ (l : List Key). l ++ c.args.keys.now) c.new-own.ensures.items in
    subst (λ (l : List Key). Did cf bf (Some (deed.Insert c.args.leaf l form.Drop))
    c.args.seat.now c.commit.new.seat) keys c.in_default-commit.ensures.ok

pub returns-clause-hand : goal.returns-clause-hand
returns-clause-hand g c parts slot cached can =
    put_here c.args.hand.now c.args.leaf c.slot_in-slot.result c.slot_in-slot.ensures parts slot
    cached c.args.keys.now can c.put_in.new.hand (c.put_in.ensures parts c.args.leaf cached
    (can_there c.args.hand.now c.args.leaf c.slot_in-slot.result c.slot_in-slot.ensures parts slot
    cached c.args.keys.now can))
