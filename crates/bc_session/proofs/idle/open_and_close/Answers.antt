use Rattle.std.proofs.Common.{◌≡◌, ◌*◌, ◌≤◌, List, ap, refl, sym, subst}
use Rattle.std.specs.Bool.{MatchBool}
use Rattle.std.specs.Prelude.{Any}
use Rattle.bc_bucket.specs.declared.bucket.Bucket.{Bucket}
use Rattle.bc_bucket.specs.declared.bucket.Mark.TheVariants as marks
use Rattle.bc_loaded.specs.declared.loading.Loaded.{Loaded}
use Rattle.bc_started.specs.bc_machine.World.{are_plain}
use Rattle.bc_started.specs.bc_machine.declared.part.CorePart.{CorePart}
use Rattle.bc_open.proofs.Exits.{dirty_left, kept_self}
use Rattle.bc_open.proofs.Left.{kept_leaves}
use Rattle.bc_open.proofs.States.{same_leaves}
use Rattle.bc_open.specs.Idle.{MayBeLeft}
use Rattle.bc_recover.specs.Read.{IsReadOf}
use Rattle.bc_session.proofs.Ended.{no_halt}
use Rattle.bc_session.proofs.Final.{final_cause, final_left, final_ok, final_state}
use Rattle.bc_session.proofs.Stops.{held_on, left_back, load_stop, open_stop, stands_kept}
use Rattle.bc_session.proofs.Ready.{stands_still}
use Rattle.bc_session.proofs.Seen.{usable_over}
use Rattle.bc_session.proofs.idle.open_and_close.Goals as goal

-- ---- the parts weren't read

pub returns-in-Err-clause-cause : goal.returns-in-Err-clause-cause
returns-in-Err-clause-cause g c = load_stop g.C.Disk.facts g.B.Disk.facts c.args.s.now
    c.args.superblock.now c.args.cache c.load.new.cache c.args.backing c.in-Err.ensures.kept _ Loaded
    c.in-Err.why refl refl c.in-Err.ensures.refused c.in-Err.ensures.faults

pub returns-in-Err-clause-state : goal.returns-in-Err-clause-state
returns-in-Err-clause-state g c = let d = g.B.Disk.facts c.args.backing in
    same_leaves (MayBeLeft c.args.s.now) c.args.superblock.now d d
    (stands_still d c.requires.rests) (kept_self d)

pub returns-in-Err-clause-left : goal.returns-in-Err-clause-left
returns-in-Err-clause-left g c = let d = g.B.Disk.facts c.args.backing in
    kept_leaves (g.C.Disk.facts c.args.cache) (g.C.Disk.facts c.load.new.cache) d d
    c.in-Err.ensures.kept (kept_self d)

-- ---- they were

pub open-requires-clause-room : goal.open-requires-clause-room
open-requires-clause-room g c = subst (λ n. c.args.s.now.supers.geometry.bucket
    * c.args.s.now.supers.geometry.nbuckets ≤ n) (sym c.in-Ok.ensures.kept.sectors) c.requires.room

pub open-requires-clause-loaded : goal.open-requires-clause-loaded
open-requires-clause-loaded g c = record {
  count = c.args.count;
  some = c.requires.some;
  few = c.requires.few;
  are = c.in-Ok.ensures.loaded;
}

pub open-requires-clause-read : goal.open-requires-clause-read
open-requires-clause-read g c = held_on (g.C.Disk.facts c.args.cache)
    (g.C.Disk.facts c.load.new.cache) c.in-Ok.ensures.kept (g.B.Disk.facts c.args.backing)
    (IsReadOf c.args.s.now) c.requires.read

pub open-requires-clause-still : goal.open-requires-clause-still
open-requires-clause-still g c = stands_kept (g.C.Disk.facts c.args.cache)
    (g.C.Disk.facts c.load.new.cache) c.in-Ok.ensures.kept c.requires.still

-- ---- no run was started

pub returns-in-Err-open-clause-cause : goal.returns-in-Err-open-clause-cause
returns-in-Err-open-clause-cause g c = open_stop g.C.Disk.facts g.B.Disk.facts c.args.s.now
    c.args.superblock.now c.args.cache c.load.new.cache c.args.backing c.in-Ok.ensures.kept _
    c.in-Ok.ensures.faults c.in-Err-open.field-0 refl refl c.in-Err-open.field-0.why
    c.in-Err-open.ensures.cause

pub returns-in-Err-open-clause-state : goal.returns-in-Err-open-clause-state
returns-in-Err-open-clause-state g c = dirty_left c.args.s.now c.args.superblock.now
    (g.B.Disk.facts c.args.backing) (g.B.Disk.facts c.in-Err-open.field-0.backing)
    c.in-Err-open.ensures.state

pub returns-in-Err-open-clause-left : goal.returns-in-Err-open-clause-left
returns-in-Err-open-clause-left g c = left_back (g.C.Disk.facts c.args.cache)
    (g.C.Disk.facts c.load.new.cache) c.in-Ok.ensures.kept
    (g.C.Disk.facts c.in-Err-open.field-0.cache) (g.B.Disk.facts c.args.backing)
    (g.B.Disk.facts c.in-Err-open.field-0.backing) c.in-Err-open.ensures.left

-- ---- a run was

pub close-requires-clause-usable : goal.close-requires-clause-usable
close-requires-clause-usable g c = usable_over g.C.Disk.facts g.B.Disk.facts c.args.s.now
    c.args.superblock.now c.load.new.cache c.args.backing c.in-Ok.loaded c.in-Ok-open.parts
    c.in-Ok-open.seat c.in-Ok-open.ensures.opened c.requires.reads

pub close-requires-clause-cached : goal.close-requires-clause-cached
close-requires-clause-cached g c = ap (λ (ps : List (CorePart g.row.C.Denot g.row.B.Denot)).
    are_plain g.C.Disk.facts g.B.Disk.facts ps) c.in-Ok-open.ensures.opened.started.start

pub answer-requires : goal.answer-requires
answer-requires g c = no_halt g.C.Disk.facts g.B.Disk.facts c.args.s.now c.args.superblock.now
    c.load.new.cache c.args.backing c.in-Ok.loaded c.in-Ok-open.parts c.in-Ok-open.seat
    c.in-Ok-open.ensures.opened c.has_dirty-dirty.result c.close.result c.close.ensures
    (subst (λ (xs : List Bucket). MatchBool c.has_dirty-dirty.result
    (Any (λ b. b.mark ≡ marks.Dirty) xs) (¬ (Any (λ b. b.mark ≡ marks.Dirty) xs)))
    c.records.ensures c.has_dirty-dirty.ensures)

pub returns-in-Ok-open-clause-ok : goal.returns-in-Ok-open-clause-ok
returns-in-Ok-open-clause-ok g c = final_ok g.C.Disk.facts g.B.Disk.facts c.args.s.now
    c.args.superblock.now c.args.cache c.load.new.cache c.args.backing c.in-Ok.ensures.kept
    c.in-Ok.ensures.faults c.in-Ok.loaded c.in-Ok-open.parts c.in-Ok-open.seat
    c.in-Ok-open.ensures.opened c.has_dirty-dirty.result c.close.result c.close.ensures
    (subst (λ (xs : List Bucket). MatchBool c.has_dirty-dirty.result
    (Any (λ b. b.mark ≡ marks.Dirty) xs) (¬ (Any (λ b. b.mark ≡ marks.Dirty) xs)))
    c.records.ensures c.has_dirty-dirty.ensures) c.answer.result c.answer.ensures.cache
    c.answer.ensures.backing c.answer.ensures.outcome

pub returns-in-Ok-open-clause-cause : goal.returns-in-Ok-open-clause-cause
returns-in-Ok-open-clause-cause g c = final_cause g.C.Disk.facts g.B.Disk.facts c.args.s.now
    c.args.superblock.now c.args.cache c.load.new.cache c.args.backing c.in-Ok.ensures.kept
    c.in-Ok.ensures.faults c.in-Ok.loaded c.in-Ok-open.parts c.in-Ok-open.seat
    c.in-Ok-open.ensures.opened c.has_dirty-dirty.result c.close.result c.close.ensures
    (subst (λ (xs : List Bucket). MatchBool c.has_dirty-dirty.result
    (Any (λ b. b.mark ≡ marks.Dirty) xs) (¬ (Any (λ b. b.mark ≡ marks.Dirty) xs)))
    c.records.ensures c.has_dirty-dirty.ensures) c.answer.result c.answer.ensures.cache
    c.answer.ensures.backing c.answer.ensures.outcome

pub returns-in-Ok-open-clause-state : goal.returns-in-Ok-open-clause-state
returns-in-Ok-open-clause-state g c = final_state g.C.Disk.facts g.B.Disk.facts c.args.s.now
    c.args.superblock.now c.args.cache c.load.new.cache c.args.backing c.in-Ok.ensures.kept
    c.in-Ok.ensures.faults c.in-Ok.loaded c.in-Ok-open.parts c.in-Ok-open.seat
    c.in-Ok-open.ensures.opened c.has_dirty-dirty.result c.close.result c.close.ensures
    (subst (λ (xs : List Bucket). MatchBool c.has_dirty-dirty.result
    (Any (λ b. b.mark ≡ marks.Dirty) xs) (¬ (Any (λ b. b.mark ≡ marks.Dirty) xs)))
    c.records.ensures c.has_dirty-dirty.ensures) c.answer.result c.answer.ensures.cache
    c.answer.ensures.backing c.answer.ensures.outcome

pub returns-in-Ok-open-clause-left : goal.returns-in-Ok-open-clause-left
returns-in-Ok-open-clause-left g c = final_left g.C.Disk.facts g.B.Disk.facts c.args.s.now
    c.args.superblock.now c.args.cache c.load.new.cache c.args.backing c.in-Ok.ensures.kept
    c.in-Ok.ensures.faults c.in-Ok.loaded c.in-Ok-open.parts c.in-Ok-open.seat
    c.in-Ok-open.ensures.opened c.has_dirty-dirty.result c.close.result c.close.ensures
    (subst (λ (xs : List Bucket). MatchBool c.has_dirty-dirty.result
    (Any (λ b. b.mark ≡ marks.Dirty) xs) (¬ (Any (λ b. b.mark ≡ marks.Dirty) xs)))
    c.records.ensures c.has_dirty-dirty.ensures) c.answer.result c.answer.ensures.cache
    c.answer.ensures.backing c.answer.ensures.outcome
    (held_on (g.C.Disk.facts c.args.cache) (g.C.Disk.facts c.load.new.cache) c.in-Ok.ensures.kept
    (g.B.Disk.facts c.args.backing) (IsReadOf c.args.s.now) c.requires.read) c.requires.reads
