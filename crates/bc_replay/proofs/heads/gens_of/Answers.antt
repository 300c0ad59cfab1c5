use Rattle.std.proofs.Common.{sym, subst}
use Rattle.std.specs.Prelude.{Err}
use Rattle.bc_disk.specs.Gens.{Gens}
use Rattle.bc_replay.specs.declared.error.OpenError.{OpenError}
use Rattle.bc_replay.specs.Behind.{IsChainCause}
use Rattle.bc_replay.specs.Causes.{RisesWith}
use Rattle.bc_replay.proofs.Stages.{chain_held, chain_cause, chain_rises}
use Rattle.bc_replay.proofs.heads.gens_of.Goals as goal

pub returns-in-Ok-clause-found : goal.returns-in-Ok-clause-found
returns-in-Ok-clause-found g c = chain_held c.args.g.now (g.C.Disk.facts c.args.cache.now) c.args.first c.in-Ok.gens c.in-Ok.ensures.ok

pub returns-in-Err-clause-refused : goal.returns-in-Err-clause-refused
returns-in-Err-clause-refused g c =
    let old = g.C.Disk.facts c.args.cache.now in
    let new = g.C.Disk.facts c.read_chain.new.disk in
    subst (IsChainCause old c.args.g.now c.args.first) (sym c.open_chain.ensures) (chain_cause c.args.g.now old new c.args.first c.in-Err.why c.in-Err.ensures.refused)

pub returns-in-Err-clause-faults : goal.returns-in-Err-clause-faults
returns-in-Err-clause-faults g c =
    let old = g.C.Disk.facts c.args.cache.now in
    let new = g.C.Disk.facts c.read_chain.new.disk in
    subst (λ (e : OpenError). RisesWith {T = Gens} (Err e) old.faults new.faults) (sym c.open_chain.ensures) (chain_rises Gens c.args.g.now old new c.args.first c.in-Err.why c.in-Err.ensures.refused)

pub returns-in-Ok-clause-records : goal.returns-in-Ok-clause-records
returns-in-Ok-clause-records g c = let h = c.in-Ok.ensures.ok in h.records
