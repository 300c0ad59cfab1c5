use Rattle.bc_prio.proofs.Chains.{kept_both}
use Rattle.bc_replay.specs.Causes.{EndsAtSupers, IsOpenCause}
use Rattle.bc_replay.proofs.Ends.{supers_end, behind_end}
use Rattle.bc_replay.proofs.Pairs.{passed_on, supers_cause, behind_cause, heads_held}
use Rattle.bc_replay.proofs.front.read_heads.Goals as goal

pub returns-in_err-supers-clause-refused : goal.returns-in_err-supers-clause-refused
returns-in_err-supers-clause-refused g c =
    let cache = g.C.Disk.facts c.args.cache.now in
    let backing = g.B.Disk.facts c.args.backing.now in
    let e = c.in_err-supers.field-0.0 in
    passed_on c.from_residual.result e (IsOpenCause cache backing) c.from_residual.ensures.1 (supers_cause cache backing cache.calls (g.C.Disk.facts c.read_supers.new.cache).calls e c.in_err-supers.ensures.refused)

pub returns-in_err-journal-clause-refused : goal.returns-in_err-journal-clause-refused
returns-in_err-journal-clause-refused g c =
    let cache = g.C.Disk.facts c.args.cache.now in
    let backing = g.B.Disk.facts c.args.backing.now in
    let mid = g.C.Disk.facts c.read_supers.new.cache in
    let s = c.in_ok-supers.supers in
    let e = c.in_err-journal.field-0.0 in
    passed_on c.from_residual-in_err-journal.result e (IsOpenCause cache backing) c.from_residual-in_err-journal.ensures.1
    (behind_cause cache backing mid s.backing s.cache s.geometry e c.in_ok-supers.ensures.found c.in_ok-supers.ensures.cache_kept c.in_err-journal.ensures.refused)

pub returns-in_err-journal-clause-cache_kept : goal.returns-in_err-journal-clause-cache_kept
returns-in_err-journal-clause-cache_kept g c =
    kept_both (g.C.Disk.facts c.args.cache.now) (g.C.Disk.facts c.read_supers.new.cache) (g.C.Disk.facts c.read_behind.new.cache) c.in_ok-supers.ensures.cache_kept c.in_err-journal.ensures.kept

pub returns-clause-found : goal.returns-clause-found
returns-clause-found g c =
    let s = c.in_ok-supers.supers in
    heads_held (g.C.Disk.facts c.args.cache.now) (g.B.Disk.facts c.args.backing.now) (g.C.Disk.facts c.read_supers.new.cache) s.backing s.cache s.geometry c.in_ok-journal.journal c.in_ok-journal.gens
    c.in_ok-supers.ensures.found c.in_ok-supers.ensures.cache_kept c.in_ok-journal.ensures.found

pub returns-clause-cache_kept : goal.returns-clause-cache_kept
returns-clause-cache_kept g c =
    kept_both (g.C.Disk.facts c.args.cache.now) (g.C.Disk.facts c.read_supers.new.cache) (g.C.Disk.facts c.read_behind.new.cache) c.in_ok-supers.ensures.cache_kept c.in_ok-journal.ensures.kept

pub returns-in_err-supers-clause-supers : goal.returns-in_err-supers-clause-supers
returns-in_err-supers-clause-supers g c =
    let cache = g.C.Disk.facts c.args.cache.now in
    let backing = g.B.Disk.facts c.args.backing.now in
    let new = (g.C.Disk.facts c.read_supers.new.cache).calls in
    let e = c.in_err-supers.field-0.0 in
    passed_on c.from_residual.result e (EndsAtSupers cache backing cache.calls new) c.from_residual.ensures.1 (supers_end cache backing cache.calls new e c.in_err-supers.ensures.refused)

pub returns-in_err-journal-clause-supers : goal.returns-in_err-journal-clause-supers
returns-in_err-journal-clause-supers g c =
    let cache = g.C.Disk.facts c.args.cache.now in
    let backing = g.B.Disk.facts c.args.backing.now in
    let mid = g.C.Disk.facts c.read_supers.new.cache in
    let new = (g.C.Disk.facts c.read_behind.new.cache).calls in
    let s = c.in_ok-supers.supers in
    let e = c.in_err-journal.field-0.0 in
    passed_on c.from_residual-in_err-journal.result e (EndsAtSupers cache backing cache.calls new) c.from_residual-in_err-journal.ensures.1
    (behind_end cache backing cache.calls new mid s.geometry s.backing.uuid e c.in_err-journal.ensures.refused)
