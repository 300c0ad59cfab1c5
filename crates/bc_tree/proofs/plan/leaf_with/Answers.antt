use Rattle.std.proofs.Common.{◌∙◌}
use Rattle.bc_node.proofs.Leaves.{last_of}
use Rattle.bc_tree.proofs.Coming.{added_of, pointer_at}
use Rattle.bc_tree.proofs.plan.leaf_with.Goals as goal

pub returns : goal.returns
returns c =
    let made = c.new-leaf.ensures in
    let kept = c.in_ok-reserve.ensures in
    let node = c.add.ensures.node in
    record {
      begins = node.from ∙ kept.node.from ∙ made.begins;
      ends = node.end ∙ kept.node.end ∙ made.ends ∙ c.new-key.ensures.end;
      stands = node.ptr ∙ kept.node.ptr ∙ made.ptr ∙ pointer_at c.new-key.result c.args.to.now c.new-key.ensures.pointer;
      number = node.seq ∙ kept.node.seq ∙ made.number;
      none = node.taken ∙ kept.node.taken ∙ made.taken;
      fresh = node.loaded ∙ kept.node.loaded ∙ made.loaded;
      last = last_of c.args.keys.now c.reserve.new.self.keys c.add.new.self.keys (kept.keys ∙ made.keys) c.add.ensures.keys;
      added = added_of c.args.keys.now c.reserve.new.self.pending c.add.new.self.pending (kept.pending ∙ made.pending.keys) c.add.ensures.pending;
    }
