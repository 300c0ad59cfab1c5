use Rattle.std.proofs.Common.{◌≡◌, suc, ◌+◌, ◌-◌, List, drop, sym, subst, ◌∙◌, arith}
use Rattle.bc_key.specs.declared.key.Key.{Key}
use Rattle.bc_walk.specs.Loading.{AreChildren}
use Rattle.bc_walk.specs.Seen.{Ended}
use Rattle.bc_walk.specs.Walk.{IsSearch, AreSearches}
use Rattle.bc_walk.proofs.Goes.{passed_on, on_ok, on_err, kept_both, passed_went, unread_ended, leaf_went, leaf_ended, inner_went, inner_ended, leads_more, leads_ended, all_went, one_left}
use Rattle.bc_walk.proofs.search.+walk.Goals as goal

pub walk_children-returns-in_err-walk_key-clause-ended : goal.walk_children-returns-in_err-walk_key-clause-ended
walk_children-returns-in_err-walk_key-clause-ended g t c =
    let d = g.D.Disk.facts c.args.disk.now in
    let took = g.T.Gather.took c.args.gather.now in
    let children = c.args.children.now in
    let i = c.loop-child.child-index in
    let e = c.in_err-walk_key.field-0.0 in
    passed_on c.from_residual.result e (Ended d (λ image. AreSearches (IsSearch c.args.g.now image c.args.level) c.args.from children) took c.args.visits.now.items) c.from_residual.ensures.1
    (leads_ended d (λ image. IsSearch c.args.g.now image c.args.level) took c.args.from children c.args.visits.now.items (g.D.Disk.facts c.loop-child.disk) c.loop-child.invariant.kept c.loop-child.low c.child-item.result
    (drop i children) (drop (i + 1) children) (one_left children i c.child-item.result c.loop-child-test.true c.child-item.is) (g.T.Gather.took c.loop-child.gather) c.loop-child.visits.items e c.loop-child.invariant.leads c.in_err-walk_key.ensures.ended)

pub walk_children-returns-in_err-walk_key-clause-kept : goal.walk_children-returns-in_err-walk_key-clause-kept
walk_children-returns-in_err-walk_key-clause-kept g t c =
    kept_both (g.D.Disk.facts c.args.disk.now) (g.D.Disk.facts c.loop-child.disk) (g.D.Disk.facts c.walk_key.new.disk) c.loop-child.invariant.kept c.in_err-walk_key.ensures.kept

pub walk_children-loop-child-preserved : goal.walk_children-loop-child-preserved
walk_children-loop-child-preserved g t c =
    let d = g.D.Disk.facts c.args.disk.now in
    let mid = g.D.Disk.facts c.loop-child.disk in
    let took = g.T.Gather.took c.args.gather.now in
    let children = c.args.children.now in
    let i = c.loop-child.child-index in
    record {
      flags = c.in_ok-walk_key.ensures.flags;
      kept = kept_both d mid (g.D.Disk.facts c.walk_key.new.disk) c.loop-child.invariant.kept c.in_ok-walk_key.ensures.kept;
      rule = c.in_ok-walk_key.ensures.rule ∙ c.loop-child.invariant.rule;
      faults = c.in_ok-walk_key.ensures.faults ∙ c.loop-child.invariant.faults;
      leads =
          leads_more d (λ image. IsSearch c.args.g.now image c.args.level) took c.args.from children c.args.visits.now.items mid c.loop-child.invariant.kept c.loop-child.low c.child-item.result (drop i children) (drop (i + 1) children)
          (one_left children i c.child-item.result c.loop-child-test.true c.child-item.is) (g.T.Gather.took c.loop-child.gather) c.loop-child.visits.items (g.T.Gather.took c.walk_key.new.gather) c.walk_key.new.visits.items
          c.loop-child.invariant.leads c.in_ok-walk_key.ensures.went;
    }

pub walk_children-returns-clause-went : goal.walk_children-returns-clause-went
walk_children-returns-clause-went g t c =
    all_went (g.D.Disk.facts c.args.disk.now) (λ image. IsSearch c.args.g.now image c.args.level) (g.T.Gather.took c.args.gather.now) c.args.from c.args.children.now c.args.visits.now.items (g.T.Gather.took c.loop-child.gather) c.loop-child.low
    c.loop-child.child-index c.loop-child.visits.items c.loop-child-test.false c.loop-child.invariant.leads

pub walk_key-returns-in_default-clause-went : goal.walk_key-returns-in_default-clause-went
walk_key-returns-in_default-clause-went g t c =
    let passed = rw c.in_default.is at c.in_ok-bucket.ensures.noted in
    passed_went c.args.g.now c.args.level c.args.from c.args.key.now (g.D.Disk.facts c.args.disk.now) (g.T.Gather.took c.args.gather.now) c.args.visits.now.items c.note.new.visits.items passed

pub walk_key-returns-then-level-eq0-clause-went : goal.walk_key-returns-then-level-eq0-clause-went
walk_key-returns-then-level-eq0-clause-went g t c =
    let takes = rw c.in-Some.is at c.in_ok-bucket.ensures.noted in
    on_ok c.take_leaf.result _ _
    (λ u leaf. leaf_went c.args.g.now c.args.level c.args.from c.args.key.now (g.D.Disk.facts c.args.disk.now) (g.T.Gather.took c.args.gather.now) (g.T.Gather.took c.take_leaf.new.gather) c.args.visits.now.items c.note.new.visits.items
    c.in-Some.bucket c.if-level-eq0.true takes leaf) c.take_leaf.ensures.taken

pub walk_key-returns-then-level-eq0-clause-ended : goal.walk_key-returns-then-level-eq0-clause-ended
walk_key-returns-then-level-eq0-clause-ended g t c =
    let takes = rw c.in-Some.is at c.in_ok-bucket.ensures.noted in
    on_err c.take_leaf.result _ _
    (λ e unread. leaf_ended c.args.g.now c.args.level c.args.from c.args.key.now (g.D.Disk.facts c.args.disk.now) (g.T.Gather.took c.args.gather.now) c.args.visits.now.items c.note.new.visits.items c.in-Some.bucket e c.if-level-eq0.true takes unread)
    c.take_leaf.ensures.refused

pub walk_key-returns-in_err-inner-clause-ended : goal.walk_key-returns-in_err-inner-clause-ended
walk_key-returns-in_err-inner-clause-ended g t c =
    let takes = rw c.in-Some.is at c.in_ok-bucket.ensures.noted in
    let d = g.D.Disk.facts c.args.disk.now in
    let took = g.T.Gather.took c.args.gather.now in
    let e = c.in_err-inner.field-0.0 in
    passed_on c.from_residual-in_err-inner.result e (Ended d (λ image. IsSearch c.args.g.now image c.args.level c.args.from c.args.key.now) took c.args.visits.now.items) c.from_residual-in_err-inner.ensures.1
    (unread_ended c.args.g.now c.args.level c.args.from c.args.key.now d took c.args.visits.now.items c.note.new.visits.items c.in-Some.bucket e takes c.in_err-inner.ensures.refused)

pub walk_key-returns-clause-went : goal.walk_key-returns-clause-went
walk_key-returns-clause-went g t c =
    let takes = rw c.in-Some.is at c.in_ok-bucket.ensures.noted in
    let d = g.D.Disk.facts c.args.disk.now in
    let other = c.if-level-eq0.false in
    let above : c.args.level ≡ suc (c.args.level - 1) = omega (arith, other) in
    let are = subst (λ (cs : List Key). AreChildren d c.args.g.now c.args.level c.args.from c.args.key.now cs) (sym c.children-children.ensures.children) c.in_ok-inner.ensures.found in
    on_ok c.walk_children.result _ _
    (λ u went. inner_went c.args.g.now c.args.level c.args.from c.args.key.now (c.args.level - 1) above d (g.D.Disk.facts c.read_inner.new.disk) (g.T.Gather.took c.args.gather.now) (g.T.Gather.took c.walk_children.new.gather) c.args.visits.now.items
    c.note.new.visits.items c.walk_children.new.visits.items c.in-Some.bucket c.children-children.result.now takes are c.in_ok-inner.ensures.kept went) c.walk_children.ensures.went

pub walk_key-returns-clause-ended : goal.walk_key-returns-clause-ended
walk_key-returns-clause-ended g t c =
    let takes = rw c.in-Some.is at c.in_ok-bucket.ensures.noted in
    let d = g.D.Disk.facts c.args.disk.now in
    let other = c.if-level-eq0.false in
    let above : c.args.level ≡ suc (c.args.level - 1) = omega (arith, other) in
    let are = subst (λ (cs : List Key). AreChildren d c.args.g.now c.args.level c.args.from c.args.key.now cs) (sym c.children-children.ensures.children) c.in_ok-inner.ensures.found in
    on_err c.walk_children.result _ _
    (λ e ended. inner_ended c.args.g.now c.args.level c.args.from c.args.key.now (c.args.level - 1) above d (g.D.Disk.facts c.read_inner.new.disk) (g.T.Gather.took c.args.gather.now) c.args.visits.now.items c.note.new.visits.items c.in-Some.bucket
    c.children-children.result.now e takes are c.in_ok-inner.ensures.kept ended) c.walk_children.ensures.ended
