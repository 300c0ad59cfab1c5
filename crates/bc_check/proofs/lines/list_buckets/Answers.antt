use Rattle.std.proofs.Common.{ℕ, List, length, subst}
use Rattle.bc_walk.proofs.Goes.{on_ok}
use Rattle.bc_replay.specs.declared.uses.Use.{Use}
use Rattle.bc_check.specs.Counts.{ListsLines}
use Rattle.bc_check.proofs.Listed.{lines_told}
use Rattle.bc_check.proofs.lines.list_buckets.Goals as goal

pub returns : goal.returns
returns c =
    let s = c.args.s.now in
    let table = s.uses.items in
    let live = c.in_ok-live.live.items in
    let dirty = c.in_ok-dirty.dirty.items in
    on_ok c.lines_of.result _ _
    (λ v lists. λ p h.
    (let one = subst (λ (us : List Use). ListsLines s.gens us c.deref-2.result.now c.deref-3.result.now (length us) v.items) c.deref.ensures.value lists in
    let two = subst (λ (xs : List ℕ). ListsLines s.gens table xs c.deref-3.result.now (length table) v.items) c.deref-2.ensures.value one in
    let all = subst (λ (xs : List ℕ). ListsLines s.gens table live xs (length table) v.items) c.deref-3.ensures.value two in
    lines_told p s.supers.backing s.supers.cache s.supers.geometry s.journal s.gens s.seen.items s.index.keys table h live dirty v.items c.in_ok-live.ensures.counted c.in_ok-dirty.ensures.counted all))
    c.lines_of.ensures
