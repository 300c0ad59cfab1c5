use Rattle.std.proofs.Common.{refl, arith}
use Rattle.bc_spine.specs.declared.leaf.LeafRange.{LeafRange}
use Rattle.bc_spine.proofs.Exchanges.{is_there, move_fits}
use Rattle.bc_spine.proofs.leaves.Leaves.moved.Goals as goal

pub returns-clause-fits : goal.returns-clause-fits
returns-clause-fits c =
    let leaf = c.leaf-leaf.result in
    let new : LeafRange = record { number = c.in_ok-number.number; from = leaf.from; end = leaf.end; ptr = c.args.to } in
    let there = is_there c.args.self.now.leaves c.args.place leaf c.leaf-leaf.ensures.leaf in
    record {
      within = omega (arith, there.0);
      fits = move_fits c.args.self.now.leaves c.args.self.now.end c.args.place leaf new c.leaf-leaf.ensures.all c.leaf-leaf.ensures.leaf refl refl c.in_ok-number.ensures.free;
    }
