use Rattle.std.proofs.Common.{subst, sym}
use Rattle.bc_node.specs.Leaf.{Leaf, ArePut, AreAdded, AreWithin}
use Rattle.bc_node.proofs.Leaves.{keeps_more}
use Rattle.bc_node.proofs.leaf.Leaf.add.Goals as goal

pub returns-clause-keys : goal.returns-clause-keys
returns-clause-keys c = subst (λ (l : Leaf). ArePut c.args.keys.now l.keys c.put_within.new.map.keys) c.self.view_is c.put_within.ensures.put

pub returns-clause-pending : goal.returns-clause-pending
returns-clause-pending c = subst (λ (l : Leaf). AreAdded c.args.keys.now l.pending c.add_all.new.map.keys) c.self.view_is c.add_all.ensures.added

pub invariant_of-self : goal.invariant_of-self
invariant_of-self c =
    let l = c.self.inside in
    let within = subst (λ (x : Leaf). AreWithin x.from x.end c.args.keys.now) (sym c.self.view_is) c.requires.within in
    keeps_more l.from l.end l.keys.keys l.pending.keys c.args.keys.now c.put_within.new.map.keys c.add_all.new.map.keys c.self.invariant within c.put_within.ensures.put c.add_all.ensures.added
