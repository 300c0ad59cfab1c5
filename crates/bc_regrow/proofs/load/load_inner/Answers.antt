use Rattle.std.proofs.Common.{sym, subst}
use Rattle.std.specs.Prelude.{Err}
use Rattle.bc_inner.specs.Inner.{Inner}
use Rattle.bc_replay.specs.Causes.{RisesWith}
use Rattle.bc_replay.specs.declared.error.OpenError.{OpenError}
use Rattle.bc_regrow.specs.Held.{IsInnerCause}
use Rattle.bc_regrow.proofs.Loads.{node_cause, node_rises}
use Rattle.bc_regrow.proofs.load.load_inner.Goals as goal

pub returns-in-Err-clause-refused : goal.returns-in-Err-clause-refused
returns-in-Err-clause-refused g c =
    let old = g.C.Disk.facts c.args.cache.now in
    let new = g.C.Disk.facts c.load.new.disk in
    subst (IsInnerCause c.args.g.now c.args.level c.args.from c.args.key.now old) (sym c.open_node.ensures)
    (node_cause old new c.args.g.now c.args.level c.args.from c.args.key.now c.in-Some.bucket c.in-Err.why c.requires.level c.in-Err.ensures.refused)

pub returns-in-Err-clause-faults : goal.returns-in-Err-clause-faults
returns-in-Err-clause-faults g c =
    let old = g.C.Disk.facts c.args.cache.now in
    let new = g.C.Disk.facts c.load.new.disk in
    subst (λ (e : OpenError). RisesWith {T = Inner} (Err e) old.faults new.faults) (sym c.open_node.ensures)
    (node_rises Inner old new c.args.g.now c.args.level c.args.from c.args.key.now c.in-Some.bucket c.in-Err.why c.in-Err.ensures.refused)
