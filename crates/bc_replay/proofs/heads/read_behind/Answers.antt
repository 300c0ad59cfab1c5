use Rattle.std.proofs.Common.{◌≡◌, ◌-◌, Some, subst}
use Rattle.std.specs.Prelude.{slice_get}
use Rattle.bc_prio.proofs.Chains.{kept_both}
use Rattle.bc_replay.specs.Behind.{IsBehindCause}
use Rattle.bc_replay.proofs.Behind.{chain_up, table_up, behind_so}
use Rattle.bc_replay.proofs.Pairs.{passed_on}
use Rattle.bc_replay.proofs.heads.read_behind.Goals as goal

pub returns-in_err-gens-clause-refused : goal.returns-in_err-gens-clause-refused
returns-in_err-gens-clause-refused g c =
    let d = g.C.Disk.facts c.args.cache.now in
    let j = c.in_ok-journal.journal in
    let newest = c.entry-newest.result.now in
    let at = subst (λ n. slice_get j.entries (n - 1) ≡ Some newest) c.len-count.ensures c.entry-newest.ensures in
    let e = c.in_err-gens.field-0.0 in
    passed_on c.from_residual-in_err-gens.result e (IsBehindCause d c.args.g.now c.args.uuid.now) c.from_residual-in_err-gens.ensures.1
    (chain_up c.args.g.now d c.args.uuid.now j newest at c.in_ok-journal.ensures.found (g.C.Disk.facts c.journal_of.new.cache) e c.in_ok-journal.ensures.kept c.in_err-gens.ensures.refused)

pub returns-then-not-branch-clause-refused : goal.returns-then-not-branch-clause-refused
returns-then-not-branch-clause-refused g c =
    let d = g.C.Disk.facts c.args.cache.now in
    let mid = g.C.Disk.facts c.journal_of.new.cache in
    let last = g.C.Disk.facts c.gens_of.new.cache in
    let j = c.in_ok-journal.journal in
    let newest = c.entry-newest.result.now in
    let at = subst (λ n. slice_get j.entries (n - 1) ≡ Some newest) c.len-count.ensures c.entry-newest.ensures in
    let names = rw c.if-not-branch.true at c.in_ok-named.ensures.names in
    table_up c.args.g.now d c.args.uuid.now j newest at c.in_ok-journal.ensures.found mid last c.in_ok-gens.gens c.in_ok-journal.ensures.kept
    (kept_both d mid last c.in_ok-journal.ensures.kept c.in_ok-gens.ensures.kept) c.in_ok-gens.ensures.found names

pub returns-clause-found : goal.returns-clause-found
returns-clause-found g c =
    let d = g.C.Disk.facts c.args.cache.now in
    let mid = g.C.Disk.facts c.journal_of.new.cache in
    let last = g.C.Disk.facts c.gens_of.new.cache in
    let j = c.in_ok-journal.journal in
    let newest = c.entry-newest.result.now in
    let at = subst (λ n. slice_get j.entries (n - 1) ≡ Some newest) c.len-count.ensures c.entry-newest.ensures in
    let names = rw c.if-not-branch.false at c.in_ok-named.ensures.names in
    behind_so c.args.g.now d c.args.uuid.now j newest at c.in_ok-journal.ensures.found mid last c.in_ok-gens.gens c.in_ok-journal.ensures.kept
    (kept_both d mid last c.in_ok-journal.ensures.kept c.in_ok-gens.ensures.kept) c.in_ok-gens.ensures.found names

pub returns-clause-parts : goal.returns-clause-parts
returns-clause-parts g c = record { journal = c.in_ok-journal.ensures.part; records = c.in_ok-gens.ensures.records }

pub returns-then-not-branch-clause-kept : goal.returns-then-not-branch-clause-kept
returns-then-not-branch-clause-kept g c =
    let d = g.C.Disk.facts c.args.cache.now in
    let mid = g.C.Disk.facts c.journal_of.new.cache in
    let last = g.C.Disk.facts c.gens_of.new.cache in
    let all = g.C.Disk.facts c.named.new.cache in
    kept_both d last all (kept_both d mid last c.in_ok-journal.ensures.kept c.in_ok-gens.ensures.kept) c.in_ok-named.ensures.kept

pub returns-clause-kept : goal.returns-clause-kept
returns-clause-kept g c =
    let d = g.C.Disk.facts c.args.cache.now in
    let mid = g.C.Disk.facts c.journal_of.new.cache in
    let last = g.C.Disk.facts c.gens_of.new.cache in
    let all = g.C.Disk.facts c.named.new.cache in
    kept_both d last all (kept_both d mid last c.in_ok-journal.ensures.kept c.in_ok-gens.ensures.kept) c.in_ok-named.ensures.kept
