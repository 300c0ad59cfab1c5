use Rattle.std.proofs.Common.{◌≡◌, ◌+◌, ◌*◌, ◌≤◌, ◌++◌, ◌∷◌, [], inr, inl, ℕ, List, sym, subst, ap, ◌∙◌, take}
use Rattle.std.proofs.lemmas.List.{take_all}
use Rattle.bc_inner.specs.Inner.{Inner}
use Rattle.bc_inner.specs.Loading.{IsHeldInner}
use Rattle.bc_key.specs.declared.key.Key.{Key}
use Rattle.bc_node.proofs.KeyLists.{taken_key}
use Rattle.bc_prio.proofs.Chains.{kept_both}
use Rattle.bc_replay.proofs.Pairs.{passed_on}
use Rattle.bc_tree.specs.Spine.{last_end}
use Rattle.bc_regrow.specs.Held.{AreHeldBelow, IsBelowCause, IsChildAt}
use Rattle.bc_regrow.proofs.Loads.{cause_back, child_at, end_behind, held_back, held_more}
use Rattle.bc_regrow.proofs.load.nodes_below.Goals as goal

pub load_inner-requires-clause-room : goal.load_inner-requires-clause-room
load_inner-requires-clause-room g c = subst (λ n. c.args.g.now.bucket * c.args.g.now.nbuckets ≤ n) (sym c.loop-key.invariant.kept.sectors) c.requires.room

pub loop-key-preserved : goal.loop-key-preserved
loop-key-preserved g c =
    let geometry = c.args.g.now in
    let d = g.C.Disk.facts c.args.cache.now in
    let e = g.C.Disk.facts c.loop-key.cache in
    let so = c.loop-key.invariant in
    let from = c.args.root.now.from in
    let i = c.loop-key.key-index in
    let items = c.children-key-items.result.now in
    let key = c.key-item.result in
    let node = c.in_ok-node.node in
    let nodes = c.loop-key.nodes.items in
    let taken = taken_key items i key c.loop-key-test.true c.key-item.is in
    let one = subst (λ n. IsHeldInner geometry key 1 n d node) so.low (held_back geometry d e key 1 c.loop-key.from node so.kept c.in_ok-node.ensures.found) in
    let held = held_more geometry d from (take i items) nodes key node so.held one in
    record {
      held = subst (λ (ns : List Inner). AreHeldBelow geometry d from (take (i + 1) items) ns) (sym c.in_ok-push_node.ensures)
          (subst (λ (ks : List Key). AreHeldBelow geometry d from ks (nodes ++ node ∷ [])) (sym taken) held);
      low = sym (ap (last_end from) taken ∙ end_behind from (take i items) key);
      kept = kept_both d e (g.C.Disk.facts c.load_inner.new.cache) so.kept c.in_ok-node.ensures.kept;
      faults = c.in_ok-node.ensures.faults ∙ so.faults;
    }

pub returns-in_err-node-clause-refused : goal.returns-in_err-node-clause-refused
returns-in_err-node-clause-refused g c =
    let geometry = c.args.g.now in
    let d = g.C.Disk.facts c.args.cache.now in
    let e = g.C.Disk.facts c.loop-key.cache in
    let so = c.loop-key.invariant in
    let from = c.args.root.now.from in
    let i = c.loop-key.key-index in
    let items = c.children-key-items.result.now in
    let key = c.key-item.result in
    let why = c.in_err-node.field-0.0 in
    let child = subst (λ n. IsChildAt from items n key) (sym so.low) (child_at from items i key c.loop-key-test.true c.key-item.is) in
    let here = subst (λ (ks : List Key). IsChildAt from ks c.loop-key.from key) c.children-key-items.ensures.children child in
    passed_on c.from_residual.result why (IsBelowCause geometry from c.args.root.now.children d) c.from_residual.ensures.1
    (inr (c.loop-key.from, key, here, cause_back geometry 1 c.loop-key.from key d e why so.kept c.in_err-node.ensures.refused))

pub returns-in_err-node-clause-kept : goal.returns-in_err-node-clause-kept
returns-in_err-node-clause-kept g c =
    kept_both (g.C.Disk.facts c.args.cache.now) (g.C.Disk.facts c.loop-key.cache) (g.C.Disk.facts c.load_inner.new.cache) c.loop-key.invariant.kept c.in_err-node.ensures.kept

pub returns-in_err-push_node-clause-kept : goal.returns-in_err-push_node-clause-kept
returns-in_err-push_node-clause-kept g c =
    kept_both (g.C.Disk.facts c.args.cache.now) (g.C.Disk.facts c.loop-key.cache) (g.C.Disk.facts c.load_inner.new.cache) c.loop-key.invariant.kept c.in_ok-node.ensures.kept
