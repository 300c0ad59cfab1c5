use Rattle.std.proofs.Common.{◌*◌, ◌-◌, Some, refl, sym, ap, ◌∙◌, subst}
use Rattle.std.specs.Prelude.{is_some}
use Rattle.bc_disk.specs.declared.geometry.Geometry.{Geometry}
use Rattle.bc_held.proofs.Doing.{holds_spine, known_returned, map_on_ok}
use Rattle.bc_held.proofs.Keeping.{held_borrowed, vacant_since}
use Rattle.bc_held.proofs.of_bc_deed.May.{did_nothing}
use Rattle.bc_held.proofs.of_bc_place.Knowing.{before_since}
use Rattle.bc_held.proofs.of_bc_place.Storing.{kept_between}
use Rattle.bc_held.specs.bc_hand.Seats.{world}
use Rattle.bc_held.specs.bc_hand.declared.error.StepError.{StepError}
use Rattle.bc_held.specs.bc_hand.declared.hand.Hand.{Hand}
use Rattle.bc_held.specs.bc_machine.World.{FromEach}
use Rattle.bc_held.specs.bc_machine.declared.part.SpinePart.{SpinePart}
use Rattle.bc_new_node.proofs.Returned.{divided_lent, drafts_between, free_lent, kinds_back, map_if_err, may_lent, numbered_back, same_spine, sectors_of, some_back, spine_some, wrote_between}
use Rattle.bc_new_node.specs.Kind.{IsDividedBy, IsWrittenNew}
use Rattle.bc_new_node.specs.Wrote.{HasFailedToWriteNew, lost_by, write_by}
use Rattle.bc_plan.specs.Write.{HasNodeWritten}
use Rattle.bc_tree.specs.Plan.{Fits}
use Rattle.bc_new_node.proofs.write.write_new_node.Goals as goal

pub returns-in-Some-clause-err : goal.returns-in-Some-clause-err
returns-in-Some-clause-err g c spine is = (
  c.in-Some.ensures.stopped c.in-Some.device refl,
  did_nothing g.C.Disk.facts g.B.Disk.facts c.args.seat.now c.requires.works.seat,
  refl,
)

pub write_in-done-requires-clause-may : goal.write_in-done-requires-clause-may
write_in-done-requires-clause-may g c = may_lent g.C.Disk.facts g.B.Disk.facts c.args.hand.now
    c.borrow_cache-cache.new.hand _ _ c.args.plan.now c.args.node c.args.bucket
    c.geometry_in-g.result c.borrow_cache-cache.ensures.hand
    (sectors_of g.C.Disk.facts g.B.Disk.facts c.args.parts.now c.borrow_cache-cache.new.seat
    c.borrow_cache-cache.ensures.lent.run c.borrow_cache-cache.result.0
    c.borrow_cache-cache.ensures.lent.stand.cache) c.geometry_in-g.ensures c.requires.may

pub write_in-done-requires-clause-whole : goal.write_in-done-requires-clause-whole
write_in-done-requires-clause-whole g c =
    c.requires.room c.requires.may.spine c.requires.may.in_hand
    ∙ ap (λ (x : Geometry). 512 * x.node_sectors)
    (sym (c.geometry_in-g.ensures c.requires.may.spine c.requires.may.in_hand))

pub write_in-done-requires-clause-before : goal.write_in-done-requires-clause-before
write_in-done-requires-clause-before g c = before_since g.C.Disk.facts g.B.Disk.facts
    c.args.seat.now c.args.before c.requires.before
    (world g.C.Disk.facts g.B.Disk.facts c.borrow_cache-cache.new.seat)
    c.borrow_cache-cache.ensures.waited.since

pub write_in-done-requires-clause-divided : goal.write_in-done-requires-clause-divided
write_in-done-requires-clause-divided g c = divided_lent g.C.Disk.facts g.B.Disk.facts
    c.args.seat.now (world g.C.Disk.facts g.B.Disk.facts c.borrow_cache-cache.new.seat)
    c.geometry_in-g.result c.requires.works.seat c.borrow_cache-cache.ensures.waited.since
    (subst (λ (x : Geometry). FromEach (world g.C.Disk.facts g.B.Disk.facts c.args.seat.now)
    (IsDividedBy x)) (sym (c.geometry_in-g.ensures c.requires.may.spine c.requires.may.in_hand))
    (c.requires.divided c.requires.may.spine c.requires.may.in_hand))

pub write_in-done-requires-clause-free : goal.write_in-done-requires-clause-free
write_in-done-requires-clause-free g c = free_lent g.C.Disk.facts g.B.Disk.facts c.args.seat.now
    (world g.C.Disk.facts g.B.Disk.facts c.borrow_cache-cache.new.seat) c.args.plan.now c.args.node
    c.args.slot (c.args.bucket.bucket - c.args.before)
    (holds_spine g.C.Disk.facts g.B.Disk.facts c.args.parts.now c.args.seat.now c.args.hand.now
    c.requires.works (ap is_some c.requires.may.in_hand))
    c.borrow_cache-cache.ensures.waited.since c.requires.free

pub write_in-done-requires-clause-held : goal.write_in-done-requires-clause-held
write_in-done-requires-clause-held g c = held_borrowed g.C.Disk.facts g.B.Disk.facts
    c.args.seat.now c.borrow_cache-cache.new.seat c.requires.works.seat
    c.borrow_cache-cache.ensures.waited c.args.bucket c.requires.held

pub write_in-done-requires-clause-vacant : goal.write_in-done-requires-clause-vacant
write_in-done-requires-clause-vacant g c = vacant_since g.C.Disk.facts g.B.Disk.facts
    c.args.seat.now (world g.C.Disk.facts g.B.Disk.facts c.borrow_cache-cache.new.seat)
    (holds_spine g.C.Disk.facts g.B.Disk.facts c.args.parts.now c.args.seat.now c.args.hand.now
    c.requires.works (ap is_some c.requires.may.in_hand))
    c.borrow_cache-cache.ensures.waited.since c.args.bucket c.requires.vacant

pub returns-clause-kinds : goal.returns-clause-kinds
returns-clause-kinds g c = kinds_back c.args.hand.now c.borrow_cache-cache.new.hand
    c.write_in-done.new.hand c.return_cache.new.hand c.requires.may.spine _
    c.borrow_cache-cache.ensures.hand
    (c.write_in-done.ensures.number c.requires.may.spine
    (ap (λ (h : Hand _ _). h.spine) c.borrow_cache-cache.ensures.hand ∙ c.requires.may.in_hand))
    c.return_cache.ensures.hand c.requires.may.in_hand
    (some_back c.args.hand.now.cache _ c.borrow_cache-cache.result.1
    c.borrow_cache-cache.ensures.taken)

pub returns-clause-number : goal.returns-clause-number
returns-clause-number g c = map_on_ok c.write_in-done.result (λ done spine is.
    numbered_back c.args.hand.now c.borrow_cache-cache.new.hand c.write_in-done.new.hand
    c.return_cache.new.hand spine _ c.borrow_cache-cache.ensures.hand
    (c.write_in-done.ensures.number spine
    (ap (λ (h : Hand _ _). h.spine) c.borrow_cache-cache.ensures.hand ∙ is))
    c.return_cache.ensures.hand) c.write_in-done.ensures.ok

pub returns-clause-ok : goal.returns-clause-ok
returns-clause-ok g c = map_on_ok c.write_in-done.result (λ h spine is.
    wrote_between g.C.Disk.facts g.B.Disk.facts c.args.seat.now c.borrow_cache-cache.new.seat c.write_in-done.new.seat
    c.return_cache.new.seat
    c.borrow_cache-cache.ensures.still c.borrow_cache-cache.ensures.waited
    c.return_cache.ensures.waited c.return_cache.ensures.seen c.return_cache.ensures.heard
    c.return_cache.ensures.works.seat write_by c.args.before c.args.plan.now c.args.node
    c.args.slot c.args.bucket c.geometry_in-g.result spine.spine.geometry
    (c.geometry_in-g.ensures spine is) h) c.write_in-done.ensures.ok

pub returns-clause-err : goal.returns-clause-err
returns-clause-err g c = map_if_err c.write_in-done.result (λ e h spine is.
    subst (λ (x : StepError). HasFailedToWriteNew g.C.Disk.facts g.B.Disk.facts x c.args.before
    c.args.plan.now c.args.node c.args.slot c.args.bucket spine c.args.hand.now
    c.return_cache.new.hand c.args.seat.now c.return_cache.new.seat) (sym h.0) (
      refl,
      wrote_between g.C.Disk.facts g.B.Disk.facts c.args.seat.now c.borrow_cache-cache.new.seat c.write_in-done.new.seat
          c.return_cache.new.seat
          c.borrow_cache-cache.ensures.still c.borrow_cache-cache.ensures.waited
          c.return_cache.ensures.waited c.return_cache.ensures.seen c.return_cache.ensures.heard
          c.return_cache.ensures.works.seat lost_by c.args.before c.args.plan.now c.args.node
          c.args.slot c.args.bucket c.geometry_in-g.result spine.spine.geometry
          (c.geometry_in-g.ensures spine is) h.1,
      numbered_back c.args.hand.now c.borrow_cache-cache.new.hand c.write_in-done.new.hand
          c.return_cache.new.hand spine _ c.borrow_cache-cache.ensures.hand
          (c.write_in-done.ensures.number spine
          (ap (λ (x : Hand _ _). x.spine) c.borrow_cache-cache.ensures.hand ∙ is))
          c.return_cache.ensures.hand,
    )) c.write_in-done.ensures.err

pub returns-clause-plan : goal.returns-clause-plan
returns-clause-plan g c = map_on_ok c.write_in-done.result (λ h spine is. (
  subst (λ (x : Geometry). HasNodeWritten x c.args.node c.args.plan.now c.write_in-done.new.plan)
      (c.geometry_in-g.ensures spine is) h,
  c.write_in-done.ensures.fits spine.spine
      (subst (λ (x : SpinePart). Fits x.spine c.args.plan.now)
      (same_spine c.args.hand.now.spine c.requires.may.spine spine c.requires.may.in_hand is)
      c.requires.may.fits),
)) c.write_in-done.ensures.plan

pub returns-clause-knows : goal.returns-clause-knows
returns-clause-knows g c = map_on_ok c.write_in-done.result (λ h spine is.
    subst (λ (x : Geometry). FromEach (world g.C.Disk.facts g.B.Disk.facts
    c.return_cache.new.seat) (IsWrittenNew x c.args.plan.now c.args.node c.args.slot
    (c.args.bucket.bucket - c.args.before))) (c.geometry_in-g.ensures spine is)
    (known_returned g.C.Disk.facts g.B.Disk.facts c.write_in-done.new.seat
    c.return_cache.new.seat (λ i. IsWrittenNew c.geometry_in-g.result c.args.plan.now c.args.node
    c.args.slot (c.args.bucket.bucket - c.args.before)) c.return_cache.ensures.waited
    c.return_cache.ensures.seen h)) c.write_in-done.ensures.knows

pub returns-clause-drafts : goal.returns-clause-drafts
returns-clause-drafts g c = drafts_between g.C.Disk.facts g.B.Disk.facts c.args.seat.now c.borrow_cache-cache.new.seat c.write_in-done.new.seat
    c.return_cache.new.seat
    c.borrow_cache-cache.ensures.still c.borrow_cache-cache.ensures.waited
    c.return_cache.ensures.waited c.args.slot (c.args.bucket.bucket - c.args.before) c.args.bucket
    c.requires.works.seat
    (holds_spine g.C.Disk.facts g.B.Disk.facts c.args.parts.now c.args.seat.now c.args.hand.now
    c.requires.works (ap is_some c.requires.may.in_hand))
    c.write_in-done.ensures.drafts c.write_in-done.ensures.works.seat
    (holds_spine g.C.Disk.facts g.B.Disk.facts c.args.parts.now c.write_in-done.new.seat
    (record c.write_in-done.new.hand { cache = Some c.write_in-done.new.cache })
    c.write_in-done.ensures.works
    (spine_some c.borrow_cache-cache.new.hand c.write_in-done.new.hand c.requires.may.spine
    (c.write_in-done.ensures.number c.requires.may.spine
    (ap (λ (h : Hand _ _). h.spine) c.borrow_cache-cache.ensures.hand ∙ c.requires.may.in_hand))))

pub returns-clause-places : goal.returns-clause-places
returns-clause-places g c = kept_between g.C.Disk.facts g.B.Disk.facts c.args.seat.now c.borrow_cache-cache.new.seat c.write_in-done.new.seat
    c.return_cache.new.seat
    c.requires.works.seat c.borrow_cache-cache.ensures.waited c.write_in-done.ensures.places
    c.write_in-done.ensures.works.seat c.return_cache.ensures.waited
