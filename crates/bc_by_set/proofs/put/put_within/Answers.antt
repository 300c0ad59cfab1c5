use Rattle.std.proofs.Common.{length, refl, ◌∙◌, subst}
use Rattle.bc_by_root.proofs.Handed.{some_of}
use Rattle.bc_by_root.proofs.Putting.{none_done}
use Rattle.bc_by_root.proofs.Sealing.{sectors_in}
use Rattle.bc_by_root.proofs.of_bc_install.Keeping.{keeps_nothing}
use Rattle.bc_by_root.proofs.of_bc_install.of_bc_append.of_bc_place.Keeping.{keeps_both, keeps_deed}
use Rattle.bc_by_root.specs.bc_install.bc_hand.Seats.{world}
use Rattle.bc_by_root.specs.bc_install.bc_machine.World.{cache_among}
use Rattle.bc_by_set.proofs.Asked.{may_write}
use Rattle.bc_by_set.proofs.Handed.{again_not, behind_cache, rest_then, tree_to_set}
use Rattle.bc_by_set.proofs.Setting.{has_put, keeps_failed, not_begun, not_firm, not_set, rest_failed, to_install, wrote_rest}
use Rattle.bc_by_set.specs.Done.{IsNoSet}
use Rattle.bc_by_set.specs.declared.error.NoSet.TheVariants as no
use Rattle.bc_events.specs.declared.event.Deed.TheVariants as deed
use Rattle.bc_by_set.proofs.put.put_within.Goals as goal

pub returns-in-Some-clause-err : goal.returns-in-Some-clause-err
returns-in-Some-clause-err g c = (
  refl,
  (
    c.in-Some.ensures.stopped c.in-Some.device refl,
    none_done g.C.Disk.facts g.B.Disk.facts c.args.seat.now c.requires.works.seat,
  ),
)

pub returns-in-Some-clause-places : goal.returns-in-Some-clause-places
returns-in-Some-clause-places g c = keeps_nothing g.C.Disk.facts g.B.Disk.facts
    c.args.seat.now c.requires.works.seat

pub why_not-requires-clause-tree : goal.why_not-requires-clause-tree
why_not-requires-clause-tree g c = tree_to_set c.args.hand.now
    (length c.args.parts.now.run.start) c.args.seat.now.first c.args.plan.now
    (world g.C.Disk.facts g.B.Disk.facts c.args.seat.now) c.requires.may

pub returns-in-Some-why_not-clause-err : goal.returns-in-Some-why_not-clause-err
returns-in-Some-why_not-clause-err g c =
    let cf = g.C.Disk.facts in
    let bf = g.B.Disk.facts in
    let h = c.args.hand.now in
    let j = some_of h.journal c.requires.hand.journal in
    let d = some_of h.cache c.requires.hand.cache in
    not_begun cf bf c.args.parts.now c.args.seat.now h c.requires.works j.0 j.1 c.args.plan.now
    (cache_among cf bf c.args.parts.now.run.start).sectors c.in-Some-why_not.why
    (subst (λ n. IsNoSet n h c.args.plan.now c.in-Some-why_not.why j.0)
    (sectors_in cf bf c.args.parts.now c.args.seat.now h d.0 c.requires.works d.1)
    (c.in-Some-why_not.ensures.some j.0 d.0 j.1 d.1))

pub returns-in-Some-why_not-clause-again : goal.returns-in-Some-why_not-clause-again
returns-in-Some-why_not-clause-again g c = again_not c.in-Some-why_not.why c.args.hand.now
    (length c.args.parts.now.run.start) c.args.seat.now.first c.args.plan.now
    (world g.C.Disk.facts g.B.Disk.facts c.args.seat.now) c.requires.may

pub returns-in-Some-why_not-clause-places : goal.returns-in-Some-why_not-clause-places
returns-in-Some-why_not-clause-places g c = keeps_nothing g.C.Disk.facts g.B.Disk.facts
    c.args.seat.now c.requires.works.seat

pub prepare_in-requires-clause-tree : goal.prepare_in-requires-clause-tree
prepare_in-requires-clause-tree g c = tree_to_set c.args.hand.now
    (length c.args.parts.now.run.start) c.args.seat.now.first c.args.plan.now
    (world g.C.Disk.facts g.B.Disk.facts c.args.seat.now) c.requires.may

pub prepare_in-requires-clause-journal : goal.prepare_in-requires-clause-journal
prepare_in-requires-clause-journal g c =
    some_of c.args.hand.now.journal c.requires.hand.journal

pub returns-in_default-prepare_in-clause-err : goal.returns-in_default-prepare_in-clause-err
returns-in_default-prepare_in-clause-err g c =
    let j = some_of c.args.hand.now.journal c.requires.hand.journal in
    not_begun g.C.Disk.facts g.B.Disk.facts c.args.parts.now c.args.seat.now c.args.hand.now
    c.requires.works j.0 j.1 c.args.plan.now
    (cache_among g.C.Disk.facts g.B.Disk.facts c.args.parts.now.run.start).sectors no.Memory tt

pub returns-in_default-prepare_in-clause-again : goal.returns-in_default-prepare_in-clause-again
returns-in_default-prepare_in-clause-again g c = again_not no.Memory c.args.hand.now
    (length c.args.parts.now.run.start) c.args.seat.now.first c.args.plan.now
    (world g.C.Disk.facts g.B.Disk.facts c.args.seat.now) c.requires.may

pub returns-in_default-prepare_in-clause-places : goal.returns-in_default-prepare_in-clause-places
returns-in_default-prepare_in-clause-places g c = keeps_nothing g.C.Disk.facts g.B.Disk.facts
    c.args.seat.now c.requires.works.seat

pub write_parent_set-requires-clause-may : goal.write_parent_set-requires-clause-may
write_parent_set-requires-clause-may g c =
    let h = c.args.hand.now in
    let may = c.requires.may in
    let j = some_of h.journal c.requires.hand.journal in
    let d = some_of h.cache c.requires.hand.cache in
    may_write g.C.Disk.facts g.B.Disk.facts c.args.parts.now c.args.seat.now h c.requires.works
    c.args.plan.now may j.0 j.1 c.in-Ok.prepared
    (c.in-Ok.ensures may.spine j.0 may.at may.taker may.put may.is_spine j.1 may.by.takes)
    (g.C.Disk.facts d.0).sectors (c.in_default-why_not.ensures.none j.0 d.0 j.1 d.1) d.0 d.1 refl

pub returns-in-Err-clause-rest : goal.returns-in-Err-clause-rest
returns-in-Err-clause-rest g c = rest_failed g.C.Disk.facts g.B.Disk.facts c.in-Err.error
    c.args.plan.now c.in-Ok.prepared.slot c.in-Ok.prepared.change c.args.hand.now
    c.write_parent_set.new.hand c.args.seat.now c.write_parent_set.new.seat c.in-Err.ensures.err

pub returns-in-Err-clause-err : goal.returns-in-Err-clause-err
returns-in-Err-clause-err g c =
    let may = c.requires.may in
    let j = some_of c.args.hand.now.journal c.requires.hand.journal in
    not_set g.C.Disk.facts g.B.Disk.facts c.args.parts.now c.args.seat.now c.args.hand.now
    c.requires.works j.0 j.1 c.args.plan.now may c.in-Ok.prepared
    (c.in-Ok.ensures may.spine j.0 may.at may.taker may.put may.is_spine j.1 may.by.takes)
    c.write_parent_set.new.seat c.write_parent_set.new.hand
    (cache_among g.C.Disk.facts g.B.Disk.facts c.args.parts.now.run.start).sectors c.in-Err.error
    c.in-Err.ensures.err

pub cache_barrier-requires-clause-order : goal.cache_barrier-requires-clause-order
cache_barrier-requires-clause-order g c = behind_cache c.args.hand.now
    c.write_parent_set.new.hand c.write_parent_set.ensures.kinds c.requires.hand.cache

pub returns-in-Ok-cache_barrier-clause-kinds : goal.returns-in-Ok-cache_barrier-clause-kinds
returns-in-Ok-cache_barrier-clause-kinds g c =
    c.cache_barrier.ensures.hand ∙ c.write_parent_set.ensures.kinds

pub returns-in-Ok-cache_barrier-clause-rest : goal.returns-in-Ok-cache_barrier-clause-rest
returns-in-Ok-cache_barrier-clause-rest g c = rest_then c.args.hand.now
    c.write_parent_set.new.hand c.cache_barrier.new.hand
    (wrote_rest g.C.Disk.facts g.B.Disk.facts c.args.plan.now c.in-Ok.prepared.slot
    c.in-Ok.prepared.change c.args.hand.now c.write_parent_set.new.hand c.args.seat.now
    c.write_parent_set.new.seat c.in-Ok-write_parent_set.ensures.ok) c.cache_barrier.ensures.rest

pub returns-in-Ok-cache_barrier-clause-ok : goal.returns-in-Ok-cache_barrier-clause-ok
returns-in-Ok-cache_barrier-clause-ok g c =
    let may = c.requires.may in
    let j = some_of c.args.hand.now.journal c.requires.hand.journal in
    has_put g.C.Disk.facts g.B.Disk.facts c.args.parts.now c.args.seat.now c.args.hand.now
    c.requires.works j.0 j.1 c.args.plan.now may c.in-Ok.prepared
    (c.in-Ok.ensures may.spine j.0 may.at may.taker may.put may.is_spine j.1 may.by.takes)
    c.write_parent_set.new.seat c.write_parent_set.new.hand c.in-Ok-write_parent_set.ensures.ok
    c.write_parent_set.ensures.works c.cache_barrier.new.seat c.cache_barrier.new.hand
    c.cache_barrier.ensures.rest c.in-Ok-cache_barrier.ensures.ok

pub returns-in-Ok-cache_barrier-clause-may : goal.returns-in-Ok-cache_barrier-clause-may
returns-in-Ok-cache_barrier-clause-may g c =
    let may = c.requires.may in
    let j = some_of c.args.hand.now.journal c.requires.hand.journal in
    to_install g.C.Disk.facts g.B.Disk.facts c.args.parts.now c.args.seat.now c.args.hand.now
    c.requires.works j.0 j.1 c.args.plan.now may c.in-Ok.prepared
    (c.in-Ok.ensures may.spine j.0 may.at may.taker may.put may.is_spine j.1 may.by.takes)
    c.write_parent_set.new.seat c.write_parent_set.new.hand c.in-Ok-write_parent_set.ensures.ok
    c.write_parent_set.ensures.works c.cache_barrier.new.seat c.cache_barrier.new.hand
    c.cache_barrier.ensures.rest c.in-Ok-cache_barrier.ensures.ok

pub returns-in-Ok-cache_barrier-clause-twice : goal.returns-in-Ok-cache_barrier-clause-twice
returns-in-Ok-cache_barrier-clause-twice g c =
    let may = c.requires.may in
    let j = some_of c.args.hand.now.journal c.requires.hand.journal in
    let ready = c.in-Ok.ensures may.spine j.0 may.at may.taker may.put may.is_spine j.1
    may.by.takes in
    (ready.later.made, ready.later.unmade)

pub returns-in-Ok-cache_barrier-clause-places : goal.returns-in-Ok-cache_barrier-clause-places
returns-in-Ok-cache_barrier-clause-places g c = keeps_both g.C.Disk.facts g.B.Disk.facts
    c.args.seat.now c.write_parent_set.new.seat c.cache_barrier.new.seat
    c.write_parent_set.ensures.keeps
    (keeps_deed g.C.Disk.facts g.B.Disk.facts c.write_parent_set.new.seat c.cache_barrier.new.seat
    deed.CacheBarrier c.write_parent_set.ensures.works.seat refl c.in-Ok-cache_barrier.ensures.ok)

pub returns-in-Err-cache_barrier-clause-kinds : goal.returns-in-Err-cache_barrier-clause-kinds
returns-in-Err-cache_barrier-clause-kinds g c =
    c.cache_barrier.ensures.hand ∙ c.write_parent_set.ensures.kinds

pub returns-in-Err-cache_barrier-clause-rest : goal.returns-in-Err-cache_barrier-clause-rest
returns-in-Err-cache_barrier-clause-rest g c = rest_then c.args.hand.now
    c.write_parent_set.new.hand c.cache_barrier.new.hand
    (wrote_rest g.C.Disk.facts g.B.Disk.facts c.args.plan.now c.in-Ok.prepared.slot
    c.in-Ok.prepared.change c.args.hand.now c.write_parent_set.new.hand c.args.seat.now
    c.write_parent_set.new.seat c.in-Ok-write_parent_set.ensures.ok) c.cache_barrier.ensures.rest

pub returns-in-Err-cache_barrier-clause-err : goal.returns-in-Err-cache_barrier-clause-err
returns-in-Err-cache_barrier-clause-err g c =
    let may = c.requires.may in
    let j = some_of c.args.hand.now.journal c.requires.hand.journal in
    not_firm g.C.Disk.facts g.B.Disk.facts c.args.parts.now c.args.seat.now c.args.hand.now
    c.requires.works j.0 j.1 c.args.plan.now may c.in-Ok.prepared
    (c.in-Ok.ensures may.spine j.0 may.at may.taker may.put may.is_spine j.1 may.by.takes)
    c.write_parent_set.new.seat c.write_parent_set.new.hand c.in-Ok-write_parent_set.ensures.ok
    c.write_parent_set.ensures.works c.cache_barrier.new.seat c.cache_barrier.new.hand
    c.cache_barrier.ensures.rest
    (cache_among g.C.Disk.facts g.B.Disk.facts c.args.parts.now.run.start).sectors
    c.in-Err-cache_barrier.error c.in-Err-cache_barrier.ensures.err

pub returns-in-Err-cache_barrier-clause-places : goal.returns-in-Err-cache_barrier-clause-places
returns-in-Err-cache_barrier-clause-places g c = keeps_both g.C.Disk.facts g.B.Disk.facts
    c.args.seat.now c.write_parent_set.new.seat c.cache_barrier.new.seat
    c.write_parent_set.ensures.keeps
    (keeps_failed g.C.Disk.facts g.B.Disk.facts c.write_parent_set.new.seat
    c.cache_barrier.new.seat c.write_parent_set.ensures.works.seat c.in-Err-cache_barrier.error
    c.in-Err-cache_barrier.ensures.err)
