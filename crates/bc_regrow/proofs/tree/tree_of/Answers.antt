use Rattle.std.proofs.Common.{◌≡◌, ◌-◌, ◌<◌, inl, inr, Some, subst, arith}
use Rattle.std.specs.Prelude.{slice_get}
use Rattle.bc_prio.proofs.Chains.{kept_both}
use Rattle.bc_replay.specs.declared.error.OpenError.TheVariants as errors
use Rattle.bc_replay.proofs.Pairs.{passed_on}
use Rattle.bc_regrow.specs.Tree.{IsTreeCause}
use Rattle.bc_regrow.proofs.Loads.{below_back, under_back}
use Rattle.bc_regrow.proofs.Told.{are_inner, refuse_below, refuse_level, refuse_root, tree_found}
use Rattle.bc_regrow.proofs.tree.tree_of.Goals as goal

pub returns-then-not-is_level-clause-refused : goal.returns-then-not-is_level-clause-refused
returns-then-not-is_level-clause-refused g c =
    let s = c.args.s.now in
    let newest = c.entry.result.now in
    let at = subst (λ n. slice_get s.journal.entries (n - 1) ≡ Some newest) c.len-count.ensures c.entry.ensures in
    refuse_level s (g.C.Disk.facts c.args.cache.now) newest at errors.NoJournal c.if-not-is_level.ensures

pub returns-in_err-root-clause-refused : goal.returns-in_err-root-clause-refused
returns-in_err-root-clause-refused g c =
    let s = c.args.s.now in
    let d = g.C.Disk.facts c.args.cache.now in
    let newest = c.entry.result.now in
    let at = subst (λ n. slice_get s.journal.entries (n - 1) ≡ Some newest) c.len-count.ensures c.entry.ensures in
    let known = c.if-not-is_level.ensures in
    let some : 0 < newest.item.level = elim known [ inl one ↦ omega (arith, one) | inr two ↦ omega (arith, two) ] in
    let e = c.in_err-root.field-0.0 in
    passed_on c.from_residual.result e (IsTreeCause s d) c.from_residual.ensures.1 (refuse_root s d newest at e some c.in_err-root.ensures.refused)

pub returns-in_err-below-clause-refused : goal.returns-in_err-below-clause-refused
returns-in_err-below-clause-refused g c =
    let s = c.args.s.now in
    let d = g.C.Disk.facts c.args.cache.now in
    let mid = g.C.Disk.facts c.load_inner.new.cache in
    let newest = c.entry.result.now in
    let at = subst (λ n. slice_get s.journal.entries (n - 1) ≡ Some newest) c.len-count.ensures c.entry.ensures in
    let root = c.in_ok-root.root in
    let e = c.in_err-below.field-0.0 in
    let why = c.in_err-below.ensures.refused in
    passed_on c.from_residual-in_err-below.result e (IsTreeCause s d) c.from_residual-in_err-below.ensures.1
    (refuse_below s d newest at root c.in_ok-root.ensures.found e why.0 (below_back s.supers.geometry root.from root.children d mid e c.in_ok-root.ensures.kept why.1))

pub new-requires : goal.new-requires
new-requires g c =
    let s = c.args.s.now in
    let d = g.C.Disk.facts c.args.cache.now in
    let mid = g.C.Disk.facts c.load_inner.new.cache in
    let newest = c.entry.result.now in
    let root = c.in_ok-root.root in
    let below = c.in_ok-below.below.items in
    are_inner s.supers.geometry d newest.item.level newest.item.root root below c.in_ok-root.ensures.found
    (under_back s.supers.geometry d mid root below c.in_ok-root.ensures.kept c.in_ok-below.ensures.found) c.if-not-is_level.ensures

pub returns-clause-found : goal.returns-clause-found
returns-clause-found g c =
    let s = c.args.s.now in
    let d = g.C.Disk.facts c.args.cache.now in
    let mid = g.C.Disk.facts c.load_inner.new.cache in
    let newest = c.entry.result.now in
    let at = subst (λ n. slice_get s.journal.entries (n - 1) ≡ Some newest) c.len-count.ensures c.entry.ensures in
    let root = c.in_ok-root.root in
    let below = c.in_ok-below.below.items in
    let tree = c.in_ok-tree.tree in
    tree_found s d newest at root c.in_ok-root.ensures.found below tree tree.root.end
    (under_back s.supers.geometry d mid root below c.in_ok-root.ensures.kept c.in_ok-below.ensures.found) c.in_ok-tree.ensures c.root-top.ensures.spine c.len-leaves.ensures.all.row

pub returns-clause-kept : goal.returns-clause-kept
returns-clause-kept g c =
    kept_both (g.C.Disk.facts c.args.cache.now) (g.C.Disk.facts c.load_inner.new.cache) (g.C.Disk.facts c.below_root.new.cache) c.in_ok-root.ensures.kept c.in_ok-below.ensures.kept
