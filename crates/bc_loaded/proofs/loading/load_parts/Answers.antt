use Rattle.std.proofs.Common.{Option, subst}
use Rattle.std.specs.Prelude.{IfNone, IfSome}
use Rattle.bc_journal.specs.Journal.{Journal}
use Rattle.bc_prio.proofs.Chains.{kept_both}
use Rattle.bc_regrow.specs.Tree.{IsTreeCause, IsTreeOf}
use Rattle.bc_replay.proofs.Pairs.{passed_on}
use Rattle.bc_resume.specs.Resume.{HasNoLevel, IsResumed}
use Rattle.bc_loaded.proofs.Held.{cause_back, no_level, read_on}
use Rattle.bc_loaded.proofs.loading.load_parts.Goals as goal

pub returns-in_err-tree-clause-refused : goal.returns-in_err-tree-clause-refused
returns-in_err-tree-clause-refused g c =
    passed_on c.from_residual-in_err-tree.result c.in_err-tree.field-0.0
    (IsTreeCause c.args.s.now (g.C.Disk.facts c.args.cache.now)) c.from_residual-in_err-tree.ensures.1
    c.in_err-tree.ensures.refused

pub load_leaves-requires-clause-grown : goal.load_leaves-requires-clause-grown
load_leaves-requires-clause-grown g c =
    read_on c.args.s.now (g.C.Disk.facts c.args.cache.now) (g.C.Disk.facts c.tree_of.new.cache)
    c.in_ok-tree.ensures.kept
    (λ p h. IsTreeOf h.view.geometry h.view.reading.nodes c.in_ok-tree.tree)
    c.in_ok-tree.ensures.found

pub returns-in_err-leaves-clause-refused : goal.returns-in_err-leaves-clause-refused
returns-in_err-leaves-clause-refused g c =
    let d = g.C.Disk.facts c.args.cache.now in
    let e = c.in_err-leaves.field-0.0 in
    passed_on c.from_residual-in_err-leaves.result e (IsTreeCause c.args.s.now d)
    c.from_residual-in_err-leaves.ensures.1
    (cause_back c.args.s.now d (g.C.Disk.facts c.tree_of.new.cache) c.in_ok-tree.ensures.kept e
    c.in_err-leaves.ensures.refused)

pub returns-in_err-leaves-clause-kept : goal.returns-in_err-leaves-clause-kept
returns-in_err-leaves-clause-kept g c = kept_both (g.C.Disk.facts c.args.cache.now)
    (g.C.Disk.facts c.tree_of.new.cache) (g.C.Disk.facts c.load_leaves.new.cache)
    c.in_ok-tree.ensures.kept c.in_err-leaves.ensures.kept

pub returns-clause-loaded : goal.returns-clause-loaded
returns-clause-loaded g c =
    let old = g.C.Disk.facts c.args.cache.now in
    let new = g.C.Disk.facts c.load_leaves.new.cache in
    let both = kept_both old (g.C.Disk.facts c.tree_of.new.cache) new c.in_ok-tree.ensures.kept
    c.in_ok-leaves.ensures.kept in
    record {
      grown = read_on c.args.s.now old new both
          (λ p h. IsTreeOf h.view.geometry h.view.reading.nodes c.in_ok-tree.tree)
          c.in_ok-tree.ensures.found;
      known = c.in_ok-buckets.ensures.known;
      spare = c.in_ok-buckets.ensures.spare;
      fit = c.in_ok-buckets.ensures.fit;
      chain = c.in_ok-buckets.ensures.chain;
      walk = c.in_ok-buckets.ensures.walk;
      journal = subst (λ (o : Option Journal). IfSome o (IsResumed c.args.s.now.supers.geometry c.args.s.now.journal)) c.in-Some.is c.in_ok-journal.ensures.some;
      was = c.tree_of.new.cache;
      kept = c.in_ok-leaves.ensures.kept;
      leaves = c.in_ok-leaves.ensures.found;
    }

pub returns-clause-kept : goal.returns-clause-kept
returns-clause-kept g c = kept_both (g.C.Disk.facts c.args.cache.now)
    (g.C.Disk.facts c.tree_of.new.cache) (g.C.Disk.facts c.load_leaves.new.cache)
    c.in_ok-tree.ensures.kept c.in_ok-leaves.ensures.kept

pub returns-in_default-clause-refused : goal.returns-in_default-clause-refused
returns-in_default-clause-refused g c = no_level c.args.s.now
    (g.C.Disk.facts c.args.cache.now)
    (subst (λ (o : Option Journal). IfNone o (HasNoLevel c.args.s.now.journal)) c.in_default.is
    c.in_ok-journal.ensures.none)

pub returns-in_err-buckets-clause-kept : goal.returns-in_err-buckets-clause-kept
returns-in_err-buckets-clause-kept g c = kept_both (g.C.Disk.facts c.args.cache.now)
    (g.C.Disk.facts c.tree_of.new.cache) (g.C.Disk.facts c.load_leaves.new.cache)
    c.in_ok-tree.ensures.kept c.in_ok-leaves.ensures.kept
