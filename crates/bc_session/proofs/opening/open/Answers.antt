use Rattle.std.proofs.Common.{◌≡◌, ◌∙◌, refl, subst, sym}
use Rattle.bc_started.specs.bc_cached.declared.run.Ready.{Ready}
use Rattle.bc_open.proofs.Exits.{failed_of, good_of, kept_self, on_err, on_ok}
use Rattle.bc_open.proofs.Left.{kept_leaves}
use Rattle.bc_open.proofs.States.{same_leaves, torn_leaves}
use Rattle.bc_started.specs.Start.{CanStart, HasStarted}
use Rattle.bc_started.specs.Stop.{IsNotStarted}
use Rattle.bc_state.specs.State.{super_in}
use Rattle.bc_super.specs.Writing.{IsBackingStored, IsBackingTorn}
use Rattle.bc_super.specs.declared.state.BackingState.{BackingState}
use Rattle.bc_super.specs.declared.state.BackingState.TheVariants as states
use Rattle.bc_open.proofs.of_bc_entered.Safe.{unmoved}
use Rattle.bc_session.proofs.Left.{both_left}
use Rattle.bc_session.proofs.Ready.{can_start, stands_still, usable_still}
use Rattle.bc_session.proofs.Stopped.{not_for_odd, over, stop_cause, stop_left, stop_state}
use Rattle.bc_session.proofs.opening.open.Goals as goal

pub is_odd-requires : goal.is_odd-requires
is_odd-requires g c = (c.args.s.now.supers.geometry, c.requires.parts.heads.journal.counts)

pub newest_number-requires : goal.newest_number-requires
newest_number-requires g c = (c.args.s.now.supers.geometry, c.requires.parts.heads.journal.counts)

pub returns-then-is_odd-clause-state : goal.returns-then-is_odd-clause-state
returns-then-is_odd-clause-state g c =
    let d = g.B.Disk.facts c.args.backing in
    same_leaves (λ (x : BackingState). x ≡ states.Dirty) c.args.superblock.now d d
    (stands_still d c.requires.rests) (kept_self d)

pub returns-then-is_odd-clause-left : goal.returns-then-is_odd-clause-left
returns-then-is_odd-clause-left g c =
    let cache = g.C.Disk.facts c.args.cache in
    let backing = g.B.Disk.facts c.args.backing in
    kept_leaves cache cache backing backing (kept_self cache) (kept_self backing)

pub returns-then-is_err-clause-cause : goal.returns-then-is_err-clause-cause
returns-then-is_err-clause-cause g c = (
  refl,
  failed_of 2 c.write_state.result (g.B.Disk.facts c.args.backing)
      (g.B.Disk.facts c.write_state.new.disk) (sym c.is_err.ensures.value ∙ c.if-is_err.true)
      c.write_state.ensures.counted,
)

pub returns-then-is_err-clause-state : goal.returns-then-is_err-clause-state
returns-then-is_err-clause-state g c =
    let backing = g.B.Disk.facts c.args.backing in
    let backing' = g.B.Disk.facts c.write_state.new.disk in
    let b = c.args.superblock.now in
    torn_leaves (λ (x : BackingState). x ≡ states.Dirty) b backing backing' states.Dirty refl tt
    (on_err (IsBackingTorn (super_in states.Dirty b) backing backing') c.write_state.result
    (sym c.is_err.ensures.value ∙ c.if-is_err.true) c.write_state.ensures.failed)
    (stands_still backing c.requires.rests)

pub returns-then-is_err-clause-left : goal.returns-then-is_err-clause-left
returns-then-is_err-clause-left g c =
    let s = c.args.s.now in
    let cache = g.C.Disk.facts c.args.cache in
    let backing = g.B.Disk.facts c.args.backing in
    let backing' = g.B.Disk.facts c.write_state.new.disk in
    let b = c.args.superblock.now in
    both_left cache cache backing backing' s b (λ (x : BackingState). x ≡ states.Dirty)
    c.requires.read c.requires.reads (unmoved s.supers.geometry s.journal cache)
    (torn_leaves (λ (x : BackingState). x ≡ states.Dirty) b backing backing' states.Dirty refl tt
    (on_err (IsBackingTorn (super_in states.Dirty b) backing backing') c.write_state.result
    (sym c.is_err.ensures.value ∙ c.if-is_err.true) c.write_state.ensures.failed)
    (stands_still backing c.requires.rests))

pub part_of-backing-requires : goal.part_of-backing-requires
part_of-backing-requires g c =
    let backing = g.B.Disk.facts c.args.backing in
    let backing' = g.B.Disk.facts c.write_state.new.disk in
    let b = c.args.superblock.now in
    record {
      usable = usable_still b backing backing' c.requires.reads
          (on_ok (IsBackingStored (super_in states.Dirty b) backing backing') c.write_state.result
          (sym c.is_err.ensures.value ∙ c.if-is_err.false) c.write_state.ensures.ok);
    }

pub start-requires : goal.start-requires
start-requires g c =
    let cf = g.C.Disk.facts in
    let bf = g.B.Disk.facts in
    let s = c.args.s.now in
    let between = c.write_state.new.disk in
    let part = c.part_of-backing.result in
    record {
      can = subst (λ (r : Ready g.row.C.Denot g.row.B.Denot).
          CanStart cf bf s.supers.geometry s.journal r) (sym c.ready_with-ready.ensures.ready)
          (can_start cf bf s c.args.superblock.now c.args.cache c.args.backing between c.requires.read
          (on_ok (IsBackingStored (super_in states.Dirty c.args.superblock.now) (bf c.args.backing)
          (bf between)) c.write_state.result (sym c.is_err.ensures.value ∙ c.if-is_err.false)
          c.write_state.ensures.ok) c.args.loaded c.requires.loaded part c.part_of-backing.ensures.part
          c.requires.parts c.requires.room c.requires.still c.part_of-backing.ensures.inside);
    }

pub returns-in-Ok-clause-opened : goal.returns-in-Ok-clause-opened
returns-in-Ok-clause-opened g c =
    let cf = g.C.Disk.facts in
    let bf = g.B.Disk.facts in
    let s = c.args.s.now in
    let between = c.write_state.new.disk in
    let fine = sym c.is_err.ensures.value ∙ c.if-is_err.false in
    let good = good_of 2 c.write_state.result (bf c.args.backing) (bf between) fine
    c.write_state.ensures.counted in
    record {
      is_loaded = c.requires.loaded;
      bytes = c.ready_with-ready.ensures.bytes;
      between = between;
      state = on_ok (IsBackingStored (super_in states.Dirty c.args.superblock.now)
          (bf c.args.backing) (bf between)) c.write_state.result fine c.write_state.ensures.ok;
      calls = good.0;
      faults = good.1;
      part = c.part_of-backing.result;
      is_part = c.part_of-backing.ensures.part;
      started = subst (λ (r : Ready g.row.C.Denot g.row.B.Denot).
          HasStarted cf bf s.supers.geometry s.journal r c.in-Ok.run'.0 c.in-Ok.run'.1)
          c.ready_with-ready.ensures.ready c.in-Ok.ensures.ok;
    }

pub not_started-requires : goal.not_started-requires
not_started-requires g c =
    let s = c.args.s.now in
    not_for_odd g.C.Disk.facts g.B.Disk.facts s.supers.geometry s.journal
    c.ready_with-ready.result c.in-Err.stopped c.if-is_odd.ensures c.in-Err.ensures.err

pub returns-in-Err-clause-cause : goal.returns-in-Err-clause-cause
returns-in-Err-clause-cause g c =
    let cf = g.C.Disk.facts in
    let bf = g.B.Disk.facts in
    let s = c.args.s.now in
    let b = c.args.superblock.now in
    let between = c.write_state.new.disk in
    let part = c.part_of-backing.result in
    let fine = sym c.is_err.ensures.value ∙ c.if-is_err.false in
    let good = good_of 2 c.write_state.result (bf c.args.backing) (bf between) fine
    c.write_state.ensures.counted in
    let state = on_ok (IsBackingStored (super_in states.Dirty b) (bf c.args.backing) (bf between))
    c.write_state.result fine c.write_state.ensures.ok in
    let stopped = subst (λ (r : Ready g.row.C.Denot g.row.B.Denot).
    IsNotStarted cf bf s.supers.geometry s.journal r c.in-Err.stopped)
    c.ready_with-ready.ensures.ready c.in-Err.ensures.err in
    let is = over cf bf s b c.args.cache c.args.backing between c.args.loaded part
    c.part_of-backing.ensures.part c.requires.parts.heads.journal.counts c.if-is_odd.ensures
    (stands_still (cf c.args.cache) c.requires.still) state c.in-Err.stopped stopped in
    stop_cause cf bf s b c.args.cache c.args.backing between c.args.loaded part
    c.part_of-backing.ensures.part c.requires.parts.heads.journal.counts c.if-is_odd.ensures
    (stands_still (cf c.args.cache) c.requires.still) state c.in-Err.stopped is
    c.not_started.result c.not_started.ensures.cache c.not_started.ensures.backing
    good.0 good.1 c.not_started.ensures.error

pub returns-in-Err-clause-state : goal.returns-in-Err-clause-state
returns-in-Err-clause-state g c =
    let cf = g.C.Disk.facts in
    let bf = g.B.Disk.facts in
    let s = c.args.s.now in
    let b = c.args.superblock.now in
    let between = c.write_state.new.disk in
    let part = c.part_of-backing.result in
    let state = on_ok (IsBackingStored (super_in states.Dirty b) (bf c.args.backing) (bf between))
    c.write_state.result (sym c.is_err.ensures.value ∙ c.if-is_err.false) c.write_state.ensures.ok in
    let stopped = subst (λ (r : Ready g.row.C.Denot g.row.B.Denot).
    IsNotStarted cf bf s.supers.geometry s.journal r c.in-Err.stopped)
    c.ready_with-ready.ensures.ready c.in-Err.ensures.err in
    let is = over cf bf s b c.args.cache c.args.backing between c.args.loaded part
    c.part_of-backing.ensures.part c.requires.parts.heads.journal.counts c.if-is_odd.ensures
    (stands_still (cf c.args.cache) c.requires.still) state c.in-Err.stopped stopped in
    stop_state cf bf s b c.args.cache c.args.backing between c.args.loaded part
    c.part_of-backing.ensures.part c.requires.parts.heads.journal.counts c.if-is_odd.ensures
    (stands_still (cf c.args.cache) c.requires.still) state c.in-Err.stopped is
    c.not_started.result c.not_started.ensures.cache c.not_started.ensures.backing

pub returns-in-Err-clause-left : goal.returns-in-Err-clause-left
returns-in-Err-clause-left g c =
    let cf = g.C.Disk.facts in
    let bf = g.B.Disk.facts in
    let s = c.args.s.now in
    let b = c.args.superblock.now in
    let between = c.write_state.new.disk in
    let part = c.part_of-backing.result in
    let state = on_ok (IsBackingStored (super_in states.Dirty b) (bf c.args.backing) (bf between))
    c.write_state.result (sym c.is_err.ensures.value ∙ c.if-is_err.false) c.write_state.ensures.ok in
    let stopped = subst (λ (r : Ready g.row.C.Denot g.row.B.Denot).
    IsNotStarted cf bf s.supers.geometry s.journal r c.in-Err.stopped)
    c.ready_with-ready.ensures.ready c.in-Err.ensures.err in
    let is = over cf bf s b c.args.cache c.args.backing between c.args.loaded part
    c.part_of-backing.ensures.part c.requires.parts.heads.journal.counts c.if-is_odd.ensures
    (stands_still (cf c.args.cache) c.requires.still) state c.in-Err.stopped stopped in
    stop_left cf bf s b c.args.cache c.args.backing between c.args.loaded part
    c.part_of-backing.ensures.part c.requires.parts.heads.journal.counts c.if-is_odd.ensures
    (stands_still (cf c.args.cache) c.requires.still) state c.in-Err.stopped is
    c.not_started.result c.not_started.ensures.cache c.not_started.ensures.backing
    c.requires.read c.requires.reads
