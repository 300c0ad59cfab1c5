use Rattle.std.proofs.Common.{subst, ap}
use Rattle.bc_disk.specs.declared.geometry.Geometry.{Geometry}
use Rattle.bc_node.specs.Loading.{IsHeldLeaf}
use Rattle.bc_cache.specs.Slots.{NodeCache}
use Rattle.bc_cache.proofs.cache.NodeCache.read_in.Goals as goal

pub returns-clause-read : goal.returns-clause-read
returns-clause-read g c = record {
  leaf = c.in_ok-leaf.leaf;
  held = subst (λ (k : Geometry). IsHeldLeaf k c.args.key.now c.args.from (g.D.Disk.facts c.args.disk.now) c.in_ok-leaf.leaf) (ap (λ (v : NodeCache). v.geometry) c.self.view_is) c.in_ok-leaf.ensures.found;
  oldest = c.in-Some.ensures;
  after = c.put_over.ensures;
  counted = c.in_ok-leaf.ensures.read;
}
