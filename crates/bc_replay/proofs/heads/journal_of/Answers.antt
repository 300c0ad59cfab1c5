use Rattle.std.proofs.Common.{sym, subst}
use Rattle.std.specs.Prelude.{Err}
use Rattle.bc_entries.specs.Journal.{Journal}
use Rattle.bc_replay.specs.declared.error.OpenError.{OpenError}
use Rattle.bc_replay.specs.Behind.{IsBehindCause}
use Rattle.bc_replay.specs.Causes.{RisesWith}
use Rattle.bc_replay.proofs.Stages.{journal_cause, journal_rises}
use Rattle.bc_replay.proofs.heads.journal_of.Goals as goal

pub returns-in-Err-clause-refused : goal.returns-in-Err-clause-refused
returns-in-Err-clause-refused g c =
    let d = g.C.Disk.facts c.args.cache.now in
    subst (IsBehindCause d c.args.g.now c.args.uuid.now) (sym c.open_of.ensures) (journal_cause d c.args.g.now c.args.uuid.now c.in-Err.why c.in-Err.ensures.refused)

pub returns-in-Err-clause-faults : goal.returns-in-Err-clause-faults
returns-in-Err-clause-faults g c =
    let old = (g.C.Disk.facts c.args.cache.now).faults in
    let new = (g.C.Disk.facts c.read_journal.new.disk).faults in
    subst (λ (e : OpenError). RisesWith {T = Journal} (Err e) old new) (sym c.open_of.ensures) (journal_rises Journal c.in-Err.why old new c.in-Err.ensures.faults)

pub returns-in-Ok-clause-part : goal.returns-in-Ok-clause-part
returns-in-Ok-clause-part g c = record { counts = c.in-Ok.ensures.counts; places = c.in-Ok.ensures.places }
