use Rattle.std.proofs.Common.{◌≡◌, ◌∙◌, refl, sym}
use Rattle.bc_replay.proofs.Pairs.{passed_on}
use Rattle.bc_state.specs.State.{super_in}
use Rattle.bc_super.specs.Writing.{IsBackingStored, IsBackingTorn}
use Rattle.bc_super.specs.declared.state.BackingState.{BackingState}
use Rattle.bc_super.specs.declared.state.BackingState.TheVariants as states
use Rattle.bc_open.specs.Open.{IsOpenStop}
use Rattle.bc_open.proofs.Exits.{failed_of, good_of, kept_self, on_err, on_ok}
use Rattle.bc_open.proofs.Left.{entered_leaves, kept_leaves, state_leaves}
use Rattle.bc_open.proofs.States.{same_leaves, stored_leaves, torn_leaves}
use Rattle.bc_open.proofs.Stops.{read_stop}
use Rattle.bc_open.proofs.open.open_pair.Goals as goal

pub returns-in_err-parts-clause-cause : goal.returns-in_err-parts-clause-cause
returns-in_err-parts-clause-cause g c =
    let cache = g.C.Disk.facts c.args.cache.now in
    let cache' = g.C.Disk.facts c.read_parts.new.cache in
    let e = c.in_err-parts.field-0.0 in
    passed_on c.from_residual.result e
    (IsOpenStop g.B.Disk.facts c.args.s.now 2 cache cache' c.args.backing.now c.args.backing.now)
    c.from_residual.ensures.1
    (read_stop g.B.Disk.facts c.args.s.now cache cache' c.args.backing.now e c.in_err-parts.ensures.stop)

pub returns-in_err-parts-clause-left : goal.returns-in_err-parts-clause-left
returns-in_err-parts-clause-left g c =
    let backing = g.B.Disk.facts c.args.backing.now in
    kept_leaves (g.C.Disk.facts c.args.cache.now) (g.C.Disk.facts c.read_parts.new.cache) backing backing
    c.in_err-parts.ensures.kept (kept_self backing)

pub returns-in_err-journal-clause-left : goal.returns-in_err-journal-clause-left
returns-in_err-journal-clause-left g c =
    let backing = g.B.Disk.facts c.args.backing.now in
    entered_leaves (g.C.Disk.facts c.args.cache.now) (g.C.Disk.facts c.write_entry.new.cache) backing
    backing c.args.s.now (g.C.Disk.facts c.read_parts.new.cache) c.requires.read
    c.in_ok-parts.ensures.kept c.in_err-journal.ensures.left (kept_self backing)

pub returns-then-is_err-clause-cause : goal.returns-then-is_err-clause-cause
returns-then-is_err-clause-cause g c = (
  c.in_ok-journal.ensures.ok.faults ∙ c.in_ok-parts.ensures.good,
  failed_of 2 c.write_state.result (g.B.Disk.facts c.args.backing.now)
      (g.B.Disk.facts c.write_state.new.disk) (sym c.is_err.ensures.value ∙ c.if-is_err.true)
      c.write_state.ensures.counted,
)

pub returns-then-is_err-clause-left : goal.returns-then-is_err-clause-left
returns-then-is_err-clause-left g c = λ still rests.
    let cache = g.C.Disk.facts c.args.cache.now in
    let backing = g.B.Disk.facts c.args.backing.now in
    let backing' = g.B.Disk.facts c.write_state.new.disk in
    let b = c.args.superblock.now in
    state_leaves cache (g.C.Disk.facts c.write_entry.new.cache) backing backing' c.args.s.now
    (g.C.Disk.facts c.read_parts.new.cache) c.requires.read c.in_ok-parts.ensures.kept
    (λ (state : BackingState). state ≡ states.Dirty) b c.requires.reads c.in_ok-journal.journal
    c.in_ok-journal.ensures.ok
    (torn_leaves (λ (state : BackingState). state ≡ states.Dirty) b backing backing' states.Dirty refl
    tt
    (on_err (IsBackingTorn (super_in states.Dirty b) backing backing') c.write_state.result
    (sym c.is_err.ensures.value ∙ c.if-is_err.true) c.write_state.ensures.failed) rests) still rests

pub returns-clause-opened : goal.returns-clause-opened
returns-clause-opened g c =
    let backing = g.B.Disk.facts c.args.backing.now in
    let backing' = g.B.Disk.facts c.write_state.new.disk in
    let fine = sym c.is_err.ensures.value ∙ c.if-is_err.false in
    let good = good_of 2 c.write_state.result backing backing' fine c.write_state.ensures.counted in
    record {
      parts = c.in_ok-parts.ensures.found;
      between = c.read_parts.new.cache;
      kept = c.in_ok-parts.ensures.kept;
      good = c.in_ok-parts.ensures.good;
      entered = c.in_ok-journal.ensures.ok;
      state = on_ok (IsBackingStored (super_in states.Dirty c.args.superblock.now) backing backing')
          c.write_state.result fine c.write_state.ensures.ok;
      calls = good.0;
      faults = good.1;
    }

pub returns-clause-left : goal.returns-clause-left
returns-clause-left g c =
    let cache = g.C.Disk.facts c.args.cache.now in
    let backing = g.B.Disk.facts c.args.backing.now in
    let backing' = g.B.Disk.facts c.write_state.new.disk in
    let b = c.args.superblock.now in
    state_leaves cache (g.C.Disk.facts c.write_entry.new.cache) backing backing' c.args.s.now
    (g.C.Disk.facts c.read_parts.new.cache) c.requires.read c.in_ok-parts.ensures.kept
    (λ (state : BackingState). state ≡ states.Dirty) b c.requires.reads c.in_ok-journal.journal
    c.in_ok-journal.ensures.ok
    (stored_leaves (λ (state : BackingState). state ≡ states.Dirty) b backing backing' states.Dirty refl
    tt
    (on_ok (IsBackingStored (super_in states.Dirty b) backing backing') c.write_state.result
    (sym c.is_err.ensures.value ∙ c.if-is_err.false) c.write_state.ensures.ok))

pub returns-in_err-parts-clause-state : goal.returns-in_err-parts-clause-state
returns-in_err-parts-clause-state g c = λ rests.
    let backing = g.B.Disk.facts c.args.backing.now in
    same_leaves (λ (state : BackingState). state ≡ states.Dirty) c.args.superblock.now backing backing
    rests (kept_self backing)

pub returns-in_err-journal-clause-state : goal.returns-in_err-journal-clause-state
returns-in_err-journal-clause-state g c = λ rests.
    let backing = g.B.Disk.facts c.args.backing.now in
    same_leaves (λ (state : BackingState). state ≡ states.Dirty) c.args.superblock.now backing backing
    rests (kept_self backing)

pub returns-then-is_err-clause-state : goal.returns-then-is_err-clause-state
returns-then-is_err-clause-state g c = λ rests.
    let backing = g.B.Disk.facts c.args.backing.now in
    let backing' = g.B.Disk.facts c.write_state.new.disk in
    let b = c.args.superblock.now in
    torn_leaves (λ (state : BackingState). state ≡ states.Dirty) b backing backing' states.Dirty refl
    tt
    (on_err (IsBackingTorn (super_in states.Dirty b) backing backing') c.write_state.result
    (sym c.is_err.ensures.value ∙ c.if-is_err.true) c.write_state.ensures.failed) rests

pub returns-clause-state : goal.returns-clause-state
returns-clause-state g c = λ rests.
    let backing = g.B.Disk.facts c.args.backing.now in
    let backing' = g.B.Disk.facts c.write_state.new.disk in
    let b = c.args.superblock.now in
    stored_leaves (λ (state : BackingState). state ≡ states.Dirty) b backing backing' states.Dirty refl
    tt
    (on_ok (IsBackingStored (super_in states.Dirty b) backing backing') c.write_state.result
    (sym c.is_err.ensures.value ∙ c.if-is_err.false) c.write_state.ensures.ok)
