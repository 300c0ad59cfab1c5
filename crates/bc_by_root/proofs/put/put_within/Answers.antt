use Rattle.std.proofs.Common.{length, refl, subst}
use Rattle.bc_by_root.proofs.Handed.{again_not, some_of}
use Rattle.bc_by_root.proofs.Putting.{again_cut, halted_before, has_cut, has_put, kept_cut, not_begun, to_install, unheard_at}
use Rattle.bc_by_root.proofs.Sealing.{level_is, may_seal, sectors_in}
use Rattle.bc_by_root.specs.Done.{IsWhy}
use Rattle.bc_by_root.specs.Given.{CanPut}
use Rattle.bc_by_root.specs.declared.error.NotBegun.TheVariants as no
use Rattle.bc_install.proofs.Keeping.{keeps_nothing}
use Rattle.bc_install.specs.bc_hand.Seats.{world}
use Rattle.bc_install.specs.bc_machine.World.{cache_among}
use Rattle.bc_by_root.proofs.put.put_within.Goals as goal

pub returns-in-Some-why_not-clause-err : goal.returns-in-Some-why_not-clause-err
returns-in-Some-why_not-clause-err g c =
    let cf = g.C.Disk.facts in
    let bf = g.B.Disk.facts in
    let h = c.args.hand.now in
    let j = some_of h.journal c.requires.hand.journal in
    let d = some_of h.cache c.requires.hand.cache in
    not_begun cf bf c.args.parts.now c.args.seat.now h c.requires.works j.0 j.1 c.args.plan.now
    (cache_among cf bf c.args.parts.now.run.start).sectors c.in-Some-why_not.why
    (subst (λ n. IsWhy n h c.args.plan.now c.in-Some-why_not.why j.0)
    (sectors_in cf bf c.args.parts.now c.args.seat.now h d.0 c.requires.works d.1)
    (c.in-Some-why_not.ensures.some j.0 d.0 j.1 d.1))

pub returns-in-Some-why_not-clause-again : goal.returns-in-Some-why_not-clause-again
returns-in-Some-why_not-clause-again g c = again_not c.in-Some-why_not.why c.args.hand.now
    (length c.args.parts.now.run.start) c.args.seat.now.first c.args.plan.now
    (world g.C.Disk.facts g.B.Disk.facts c.args.seat.now) c.requires.may

pub returns-in-Some-why_not-clause-places : goal.returns-in-Some-why_not-clause-places
returns-in-Some-why_not-clause-places g c = keeps_nothing g.C.Disk.facts g.B.Disk.facts
    c.args.seat.now c.requires.works.seat

pub returns-in-Some-clause-err : goal.returns-in-Some-clause-err
returns-in-Some-clause-err g c = halted_before g.C.Disk.facts g.B.Disk.facts
    c.args.parts.now c.args.seat.now c.args.hand.now c.requires.works
    (some_of c.args.hand.now.journal c.requires.hand.journal).0
    (some_of c.args.hand.now.journal c.requires.hand.journal).1 c.args.plan.now
    c.in-Some.device (c.in-Some.ensures.stopped c.in-Some.device refl)

pub returns-in-Some-clause-places : goal.returns-in-Some-clause-places
returns-in-Some-clause-places g c = keeps_nothing g.C.Disk.facts g.B.Disk.facts
    c.args.seat.now c.requires.works.seat

pub prepare_in-requires-clause-journal : goal.prepare_in-requires-clause-journal
prepare_in-requires-clause-journal g c =
    some_of c.args.hand.now.journal c.requires.hand.journal

pub returns-in_default-prepare_in-clause-err : goal.returns-in_default-prepare_in-clause-err
returns-in_default-prepare_in-clause-err g c =
    let j = some_of c.args.hand.now.journal c.requires.hand.journal in
    not_begun g.C.Disk.facts g.B.Disk.facts c.args.parts.now c.args.seat.now c.args.hand.now
    c.requires.works j.0 j.1 c.args.plan.now
    (cache_among g.C.Disk.facts g.B.Disk.facts c.args.parts.now.run.start).sectors no.Memory tt

pub returns-in_default-prepare_in-clause-again : goal.returns-in_default-prepare_in-clause-again
returns-in_default-prepare_in-clause-again g c = again_not no.Memory c.args.hand.now
    (length c.args.parts.now.run.start) c.args.seat.now.first c.args.plan.now
    (world g.C.Disk.facts g.B.Disk.facts c.args.seat.now) c.requires.may

pub returns-in_default-prepare_in-clause-places : goal.returns-in_default-prepare_in-clause-places
returns-in_default-prepare_in-clause-places g c = keeps_nothing g.C.Disk.facts g.B.Disk.facts
    c.args.seat.now c.requires.works.seat

pub put_root_entry-requires-clause-level : goal.put_root_entry-requires-clause-level
put_root_entry-requires-clause-level g c =
    let may = c.requires.may in
    let j = some_of c.args.hand.now.journal c.requires.hand.journal in
    level_is g.C.Disk.facts g.B.Disk.facts c.args.parts.now c.args.seat.now c.args.hand.now
    c.requires.works c.args.plan.now may j.0 j.1 c.in-Ok.prepared
    (c.in-Ok.ensures may.spine j.0 may.root may.is_spine j.1 may.up.brings)

pub put_root_entry-requires-clause-may : goal.put_root_entry-requires-clause-may
put_root_entry-requires-clause-may g c =
    let cf = g.C.Disk.facts in
    let bf = g.B.Disk.facts in
    let h = c.args.hand.now in
    let may = c.requires.may in
    let j = some_of h.journal c.requires.hand.journal in
    let d = some_of h.cache c.requires.hand.cache in
    may_seal cf bf c.args.parts.now c.args.seat.now h c.requires.works c.args.plan.now may j.0 j.1
    c.in-Ok.prepared (c.in-Ok.ensures may.spine j.0 may.root may.is_spine j.1 may.up.brings)
    (cf d.0).sectors (c.in_default-why_not.ensures.none j.0 d.0 j.1 d.1)

pub put_root_entry-requires-clause-disk : goal.put_root_entry-requires-clause-disk
put_root_entry-requires-clause-disk g c =
    let cf = g.C.Disk.facts in
    let bf = g.B.Disk.facts in
    let h = c.args.hand.now in
    let j = some_of h.journal c.requires.hand.journal in
    let d = some_of h.cache c.requires.hand.cache in
    let can = subst (λ n. CanPut n h c.args.plan.now j.0)
    (sectors_in cf bf c.args.parts.now c.args.seat.now h d.0 c.requires.works d.1)
    (c.in_default-why_not.ensures.none j.0 d.0 j.1 d.1) in
    (j.0, j.1, can.within)

pub returns-in-Ok-put_root_entry-clause-ok : goal.returns-in-Ok-put_root_entry-clause-ok
returns-in-Ok-put_root_entry-clause-ok g c =
    let may = c.requires.may in
    let put = c.in-Ok-put_root_entry.ensures.ok in
    has_put g.C.Disk.facts g.B.Disk.facts c.args.parts.now c.args.seat.now c.args.hand.now
    c.requires.works put.0 put.1 c.args.plan.now may c.in-Ok.prepared
    (c.in-Ok.ensures may.spine put.0 may.root may.is_spine put.1 may.up.brings)
    c.put_root_entry.new.seat put.2

pub returns-in-Ok-put_root_entry-clause-may : goal.returns-in-Ok-put_root_entry-clause-may
returns-in-Ok-put_root_entry-clause-may g c =
    let may = c.requires.may in
    let put = c.in-Ok-put_root_entry.ensures.ok in
    to_install g.C.Disk.facts g.B.Disk.facts c.args.parts.now c.args.seat.now c.args.hand.now
    c.requires.works put.0 put.1 c.args.plan.now may c.in-Ok.prepared
    (c.in-Ok.ensures may.spine put.0 may.root may.is_spine put.1 may.up.brings)
    c.put_root_entry.new.seat put.2

pub returns-in-Ok-put_root_entry-clause-twice : goal.returns-in-Ok-put_root_entry-clause-twice
returns-in-Ok-put_root_entry-clause-twice g c =
    let may = c.requires.may in
    let j = some_of c.args.hand.now.journal c.requires.hand.journal in
    let ready = c.in-Ok.ensures may.spine j.0 may.root may.is_spine j.1 may.up.brings in
    (ready.later.made, ready.later.unmade)

pub returns-in-Err-clause-err : goal.returns-in-Err-clause-err
returns-in-Err-clause-err g c =
    let may = c.requires.may in
    let cut = c.in-Err.ensures.err in
    has_cut g.C.Disk.facts g.B.Disk.facts c.args.parts.now c.args.seat.now c.args.hand.now
    c.requires.works cut.0 cut.1 c.args.plan.now may c.in-Ok.prepared
    (c.in-Ok.ensures may.spine cut.0 may.root may.is_spine cut.1 may.up.brings)
    c.put_root_entry.new.seat (cache_among g.C.Disk.facts g.B.Disk.facts
    c.args.parts.now.run.start).sectors c.in-Err.error c.put_root_entry.new.hand cut.2
    c.in-Err.ensures.cause c.refused.result c.refused.ensures

pub returns-in-Err-clause-again : goal.returns-in-Err-clause-again
returns-in-Err-clause-again g c =
    let may = c.requires.may in
    let cut = c.in-Err.ensures.err in
    again_cut g.C.Disk.facts g.B.Disk.facts c.args.parts.now c.args.seat.now c.args.hand.now
    c.requires.works cut.0 cut.1 c.args.plan.now may c.in-Ok.prepared
    (c.in-Ok.ensures may.spine cut.0 may.root may.is_spine cut.1 may.up.brings)
    c.put_root_entry.new.seat c.in-Err.error c.put_root_entry.new.hand cut.2 c.refused.result
    c.refused.ensures

pub returns-in-Err-clause-kept : goal.returns-in-Err-clause-kept
returns-in-Err-clause-kept g c =
    let may = c.requires.may in
    let cut = c.in-Err.ensures.err in
    kept_cut g.C.Disk.facts g.B.Disk.facts c.args.parts.now c.args.seat.now c.args.hand.now
    c.requires.works cut.0 cut.1 c.args.plan.now may c.in-Ok.prepared
    (c.in-Ok.ensures may.spine cut.0 may.root may.is_spine cut.1 may.up.brings)
    c.put_root_entry.new.seat c.in-Err.error c.put_root_entry.new.hand cut.2 c.refused.result
    c.refused.ensures

pub returns-in-Err-clause-unheard : goal.returns-in-Err-clause-unheard
returns-in-Err-clause-unheard g c = unheard_at c.in-Err.error c.put_root_entry.new.seat.heard
    c.in-Err.ensures.memory c.refused.result c.refused.ensures
