use Rattle.std.proofs.Common.{◌≡◌, suc, ◌+◌, refl, ap, ◌∙◌, arith}
use Rattle.std.specs.Prelude.{slice_get, Some}
use Rattle.bc_spine.specs.declared.leaf.LeafRange.{LeafRange}
use Rattle.bc_spine.proofs.Exchanges.{merge_fits}
use Rattle.bc_spine.proofs.leaves.Leaves.merged.Goals as goal

pub returns-clause-merged : goal.returns-clause-merged
returns-clause-merged c =
    let next : suc c.args.place ≡ c.args.place + 1 = omega arith in
    record {
      at = refl;
      gone = refl;
      left = c.leaf-left.result;
      right = c.leaf-right.result;
      there = (c.leaf-left.ensures.leaf, ap (λ n. slice_get c.args.self.now.leaves n) next ∙ c.leaf-right.ensures.leaf);
      merged = record { begins = refl; ends = refl; stands = refl };
      alone = refl;
      numbers = record { first = c.in_ok-number.ensures; second = tt };
    }

pub returns-clause-fits : goal.returns-clause-fits
returns-clause-fits c =
    let leaves = c.args.self.now.leaves in
    let place = c.args.place in
    let left = c.leaf-left.result in
    let right = c.leaf-right.result in
    let new : LeafRange = record { number = c.in_ok-number.number; from = left.from; end = right.end; ptr = c.args.to } in
    let next : suc place ≡ place + 1 = omega arith in
    let other : slice_get leaves (suc place) ≡ Some right = ap (λ n. slice_get leaves n) next ∙ c.leaf-right.ensures.leaf in
    record {
      within = omega (arith, c.requires.within);
      fits = merge_fits leaves c.args.self.now.end place left right new c.leaf-left.ensures.all c.leaf-left.ensures.leaf other refl refl c.in_ok-number.ensures;
    }
