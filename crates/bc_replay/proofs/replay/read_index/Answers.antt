use Rattle.std.proofs.Common.{◌≡◌, ◌-◌, ◌++◌, Some, subst, sym}
use Rattle.std.specs.Prelude.{slice_get}
use Rattle.bc_walk.specs.Rule.{Rule}
use Rattle.bc_replay.specs.Refused.{KeepsWord}
use Rattle.bc_replay.specs.Replay.{IsIndexCause, entry_keys}
use Rattle.bc_replay.proofs.Pairs.{passed_on}
use Rattle.bc_replay.proofs.Replays.{has_index, index_cause}
use Rattle.bc_replay.proofs.replay.read_index.Goals as goal

pub returns-in_err-visits-clause-refused : goal.returns-in_err-visits-clause-refused
returns-in_err-visits-clause-refused g c =
    let d = g.C.Disk.facts c.args.cache.now in
    let j = c.args.journal.now in
    let newest = c.entry.result.now in
    let at = subst (λ n. slice_get j.entries (n - 1) ≡ Some newest) c.len-count.ensures c.entry.ensures in
    let e = c.in_err-visits.field-0.0 in
    passed_on c.from_residual.result e (IsIndexCause d c.args.g.now j) c.from_residual.ensures.1 (index_cause d c.args.g.now j newest at e c.in_err-visits.ensures.refused)

pub returns-clause-found : goal.returns-clause-found
returns-clause-found g c =
    let d = g.C.Disk.facts c.args.cache.now in
    let j = c.args.journal.now in
    let newest = c.entry.result.now in
    let at = subst (λ n. slice_get j.entries (n - 1) ≡ Some newest) c.len-count.ensures c.entry.ensures in
    has_index d c.args.g.now j newest at c.args.size c.in_ok-visits.visits.items c.in_ok-visits.index.keys.keys c.add_entries.new.map.keys c.in_ok-visits.index.word c.word_with_entries-index.result c.in_ok-visits.ensures.found c.in_ok-add_entries.ensures
    (λ seen kept. subst (λ (r : Rule). KeepsWord r (seen ++ entry_keys j.entries) c.word_with_entries-index.result) c.in_ok-visits.ensures.limits
    (c.word_with_entries-index.ensures seen (subst (λ (r : Rule). KeepsWord r seen c.in_ok-visits.index.word) (sym c.in_ok-visits.ensures.limits) kept)))
